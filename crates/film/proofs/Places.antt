-- Where a byte stands first, one step at a time. Assumes nothing.
use Rattle.std.proofs.Common.{◌≡◌, ℕ, suc, ◌+◌, ◌<◌, ◌≤◌, List, [], ◌∷◌, ◌++◌, length, get_or, take, drop, Some, None, Option, sym, refl, ap, ◌∙◌, arith}
use Rattle.std.specs.List.{AllByRecursion as All, position_or_len}
use Rattle.std.specs.Prelude.{◌==◌, Bool, true, false, cond, nat_lt}
use Rattle.std.specs.List.{position}
use Rattle.std.specs.Option.{option_map, unwrap_or}
use Rattle.std.proofs.lemmas.List.Recursion.{is_position_or_len}
use Rattle.std.proofs.lemmas.List.Sums.{passes_at_first, prefix_len-le-length}
use Rattle.std.proofs.lemmas.Option.{cond_some}
use Rattle.std.proofs.lemmas.List.{take-append-drop, drop_more, take_at, drop_at, length-append, append_assoc}
use Rattle.std.proofs.lemmas.Bool.Decides.{nat_tests}
use Rattle.std.proofs.lemmas.Bool.{ltb-true, eq-eqb, ne_eqb, lt-ltb, eqb-true}
use Rattle.film.specs.Fields.{place, cut_at}

-- the place in the library's words
pub place_is : (b : ℕ) (xs : List ℕ) → place b xs ≡ position_or_len (λ x. x == b) xs
place_is b = is_position_or_len (place b) (λ x. x == b) refl (λ x xs. ap (cond (x == b) 0) (omega arith))

-- what is cut, by the place that the library finds
pub cut_position : (b : ℕ) (xs : List ℕ) → cut_at b xs ≡ option_map (λ i. (take i xs, drop (i + 1) xs)) (position (λ x. x == b) xs)
cut_position b xs = simp place_is (by (nat_lt (position_or_len (λ x. x == b) xs) (length xs)) (position_or_len (λ x. x == b) xs)) where
  by : (t : Bool) (i : ℕ) → cond {A = Option (List ℕ × List ℕ)} t (Some (take i xs, drop (i + 1) xs)) None ≡ option_map (λ i. (take i xs, drop (i + 1) xs)) (cond t (Some i) None)
  by true i = refl
  by false i = refl

pub place_le : (b : ℕ) (xs : List ℕ) → place b xs ≤ length xs
place_le b xs = rw place_is (prefix_len-le-length _ xs)

-- and where nothing is found, all bytes stand before it
pub place_found : (b : ℕ) (xs : List ℕ) → place b xs ≡ unwrap_or (position (λ x. x == b) xs) (length xs)
place_found b xs = grind (arith, place_is, place_le, nat_tests)

get_or_place : (b : ℕ) (xs : List ℕ) → place b xs < length xs → get_or xs (place b xs) 0 ≡ b
get_or_place b xs h = let e = place_is b xs in rw e (eqb-true _ b (passes_at_first (λ x. x == b) xs 0 (rw e at h)))

-- the parts are those before and after the first b
cut_some : (b : ℕ) (xs l r : List ℕ) → cut_at b xs ≡ Some (l, r) → (place b xs < length xs) × (l ≡ take (place b xs) xs) × (r ≡ drop (place b xs + 1) xs)
cut_some b xs l r e = let c = cond_some _ _ _ e in (ltb-true _ _ c.0, ap (λ p. p.0) (sym c.1), ap (λ p. p.1) (sym c.1))

-- what was cut, put together
pub cut_whole : (b : ℕ) (xs l r : List ℕ) → cut_at b xs ≡ Some (l, r) → l ++ (b ∷ r) ≡ xs
cut_whole b xs l r e =
    let p = cut_some b xs l r e in
    let i = place b xs in
    rw (p.1, p.2)
    (ap (λ y. take i xs ++ (y ∷ drop (i + 1) xs)) (sym (get_or_place b xs p.0)) ∙ ap (λ ys. take i xs ++ ys) (sym (drop_more xs i 0 p.0)) ∙ take-append-drop i xs)

-- no b among the bytes
abbrev pub Free : ℕ → List ℕ → Type 0
Free b xs = All (λ x. x ≡ b → ⊥) xs

pub place_free : (b : ℕ) (xs : List ℕ) → Free b xs → place b xs ≡ length xs
place_free b [] h = refl
place_free b (x ∷ xs) h = rw (ne_eqb x b h.0) (ap suc (place_free b xs h.1))

place_append : (b : ℕ) (xs ys : List ℕ) → Free b xs → place b (xs ++ (b ∷ ys)) ≡ length xs
place_append b [] ys h = rw (eq-eqb b b refl) refl
place_append b (x ∷ xs) ys h = rw (ne_eqb x b h.0) (ap suc (place_append b xs ys h.1))

pub cut_append : (b : ℕ) (xs ys : List ℕ) → Free b xs → cut_at b (xs ++ (b ∷ ys)) ≡ Some (xs, ys)
cut_append b xs ys h =
    let p = place_append b xs ys h in
    let l : length xs < length (xs ++ (b ∷ ys)) = omega (arith, length-append xs (b ∷ ys)) in
    rw (p, lt-ltb _ _ l, take_at xs (b ∷ ys) (length xs) refl, sym (append_assoc xs (b ∷ []) ys), drop_at (xs ++ (b ∷ [])) ys (length xs + 1) (length-append xs (b ∷ []))) refl
