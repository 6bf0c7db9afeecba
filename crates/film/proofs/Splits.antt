-- The fields of a line, as they are cut off. Assumes nothing.
use Rattle.std.proofs.Common.{◌≡◌, ℕ, suc, ◌+◌, ◌<◌, ◌≤◌, Bool, true, cond, eqb, List, [], ◌∷◌, ◌++◌, length, take, drop, Err, sym, refl, ap, ◌∙◌, inl, inr, add-one, arith}
use Rattle.std.specs.List.{AllByRecursion as All, position, count_by}
use Rattle.std.proofs.lemmas.List.Sums.{sum_by-cons}
use Rattle.std.specs.Option.{unwrap_or}
use Rattle.std.specs.Prelude.{◌==◌}
use Rattle.std.proofs.lemmas.List.{drop_more, drop_all, take_all, append_assoc, append-nil}
use Rattle.std.proofs.lemmas.Bool.{cases_Bool, cases_lt, ne_eqb, eqb-true}
use Rattle.film.specs.declared.fault.Fault.TheVariants.{BadLine}
use Rattle.film.specs.Fields.{place, onto, at_tabs, begun, fields, tabbed}
use Rattle.film.specs.Leaves.{if_begun}
use Rattle.film.specs.Lines.{by_letter, by_fields, parse}
use Rattle.film.proofs.Places.{Free, place_found, place_free}

-- a first field and more, or one field alone
pub tabs_at : (xs : List ℕ) → place 9 xs < length xs → at_tabs xs ≡ take (place 9 xs) xs ∷ at_tabs (drop (suc (place 9 xs)) xs)
tabs_at [] h = absurd (omega arith)
tabs_at (x ∷ xs) h =
    elim (cases_Bool (eqb x 9)) [
      | inl e ↦ simp e
      | inr e ↦ let k : place 9 xs < length xs = omega (arith, simp e at h) in simp (e, tabs_at xs k)
    ]

pub tabs_last : (xs : List ℕ) → length xs ≤ place 9 xs → at_tabs xs ≡ xs ∷ []
tabs_last [] h = refl
tabs_last (x ∷ xs) h =
    elim (cases_Bool (eqb x 9)) [
      | inl e ↦ absurd (omega (arith, simp e at h))
      | inr e ↦ let k : length xs ≤ place 9 xs = omega (arith, simp e at h) in simp (e, tabs_last xs k)
    ]

-- there is always a first field
pub tabs_first : (xs : List ℕ) → (f : List ℕ) × (fs : List (List ℕ)) × (at_tabs xs ≡ f ∷ fs)
tabs_first xs =
    elim (cases_lt (place 9 xs) (length xs)) [
      | inl k ↦ (_, _, tabs_at xs k)
      | inr k ↦ (_, _, tabs_last xs k)
    ]

-- by what `is_empty` answers
pub nothing_follows : (xs : List ℕ) (r : Bool) → r ≡ eqb (length xs) 0 → r ≡ true → length xs ≡ 0
nothing_follows xs r e f = eqb-true (length xs) 0 (sym e ∙ f)

-- what a line is, by its first byte: a tab there is no letter
long_letter : (line : List ℕ) (x y : ℕ) (fs : List (List ℕ)) → by_fields line (onto x (onto y fs)) ≡ Err BadLine
long_letter line x y [] = refl
long_letter line x y (f ∷ fs) = refl

pub parse_by_letter : (letter : ℕ) (tail : List ℕ) → parse (letter ∷ tail) ≡ if_begun tail (by_letter letter tail (fields tail))
parse_by_letter letter [] =
    elim (cases_Bool (eqb letter 9)) [
      | inl e ↦ rw (eqb-true letter 9 e) refl
      | inr e ↦ simp e
    ]
parse_by_letter letter (x ∷ xs) =
    elim (cases_Bool (eqb letter 9)) [
      | inl e ↦ elim (cases_Bool (eqb x 9)) [
        | inl d ↦ rw (eqb-true letter 9 e, d) refl
        | inr d ↦ rw (eqb-true letter 9 e, d) refl
      ]
      | inr e ↦ elim (cases_Bool (eqb x 9)) [
        | inl d ↦ simp (e, d)
        | inr d ↦ simp (e, d) (long_letter (letter ∷ x ∷ xs) letter x (at_tabs xs))
      ]
    ]

-- one field cut off
pub next_is : (xs : List ℕ) (p : ℕ) → p ≡ place 9 xs → at_tabs xs ≡ take p xs ∷ fields (drop p xs)
next_is xs p e =
    elim (cases_lt p (length xs)) [
      | inl h ↦
          let k : place 9 xs < length xs = omega (arith, e) in
          rw (drop_more xs p 0 h, e, add-one) (tabs_at xs k)
      | inr h ↦
          let k : length xs ≤ place 9 xs = omega (arith, e) in
          rw (drop_all p xs h, take_all p xs h) (tabs_last xs k)
    ]

-- the same of what follows a letter, by the place that the library finds
pub next_fields : (tail rest : List ℕ) (x : ℕ) (p : ℕ) → tail ≡ x ∷ rest → p ≡ unwrap_or (position (λ x. x == 9) rest) (length rest) → fields tail ≡ take p rest ∷ fields (drop p rest)
next_fields tail rest x p e h = ap fields e ∙ next_is rest p (h ∙ sym (place_found 9 rest))

-- how many fields: one more with each tab
length-onto : (x : ℕ) (fs : List (List ℕ)) → 0 < length fs → length (onto x fs) ≡ length fs
length-onto x [] h = absurd (omega arith)
length-onto x (f ∷ fs) h = refl

tabs_many : (xs : List ℕ) → 0 < length (at_tabs xs)
tabs_many xs = let p = tabs_first xs in omega (arith, ap length p.2)

tabs_step : (x : ℕ) (xs : List ℕ) → length (at_tabs (x ∷ xs)) ≡ cond (eqb x 9) 1 0 + length (at_tabs xs)
tabs_step x xs =
    elim (cases_Bool (eqb x 9)) [
      | inl e ↦ rw e (omega arith)
      | inr e ↦ rw e (omega (arith, length-onto x (at_tabs xs) (tabs_many xs)))
    ]

tabs_counted : (xs : List ℕ) → length (at_tabs xs) ≡ 1 + count_by (λ x. x == 9) xs
tabs_counted [] = refl
tabs_counted (x ∷ xs) = omega (arith, tabs_step x xs, tabs_counted xs, sum_by-cons (λ x. cond (x == 9) 1 0) x xs)

pub fields_counted : (tail rest : List ℕ) (x n : ℕ) → tail ≡ x ∷ rest → n ≡ count_by (λ x. x == 9) rest → 1 + n ≡ length (fields tail)
fields_counted tail rest x n e h = rw e (omega (arith, h, tabs_counted rest))

-- no more fields than bytes
tabs_no_longer : (xs : List ℕ) → length (at_tabs xs) ≤ 1 + length xs
tabs_no_longer [] = omega arith
tabs_no_longer (x ∷ xs) =
    elim (cases_Bool (eqb x 9)) [
      | inl e ↦ rw e (omega (arith, tabs_no_longer xs))
      | inr e ↦ rw e (omega (arith, length-onto x (at_tabs xs) (tabs_many xs), tabs_no_longer xs))
    ]

pub fields_no_longer : (tail : List ℕ) → length (fields tail) ≤ length tail
fields_no_longer [] = omega arith
fields_no_longer (x ∷ xs) = omega (arith, tabs_no_longer xs)

-- fields without tabs, put together and cut again
pub tabs_free : (xs : List ℕ) → Free 9 xs → at_tabs xs ≡ xs ∷ []
tabs_free xs h = tabs_last xs (omega (arith, place_free 9 xs h))

pub tabs_append : (xs ys : List ℕ) → Free 9 xs → at_tabs (xs ++ (9 ∷ ys)) ≡ xs ∷ at_tabs ys
tabs_append [] ys h = refl
tabs_append (x ∷ xs) ys h = rw (ne_eqb x 9 h.0) (ap (onto x) (tabs_append xs ys h.1))

pub fields_back : (fs : List (List ℕ)) → All (Free 9) fs → fields (tabbed fs []) ≡ fs
fields_back [] h = refl
fields_back (f ∷ []) h = ap at_tabs (append-nil f) ∙ tabs_free f h.0
fields_back (f ∷ g ∷ fs) h = tabs_append f (g ++ tabbed fs []) h.0 ∙ ap (λ gs. f ∷ gs) (fields_back (g ∷ fs) h.1)

-- fields cut and put together again
pub tabbed_end : (fs : List (List ℕ)) (end : List ℕ) → tabbed fs end ≡ tabbed fs [] ++ end
tabbed_end [] end = refl
tabbed_end (f ∷ fs) end = ap (λ t. 9 ∷ t) (ap (λ t. f ++ t) (tabbed_end fs end) ∙ sym (append_assoc f (tabbed fs []) end))

tabbed_onto : (x : ℕ) (xs : List ℕ) → tabbed (onto x (at_tabs xs)) [] ≡ 9 ∷ x ∷ drop 1 (tabbed (at_tabs xs) [])
tabbed_onto x xs = let p = tabs_first xs in rw p.2 refl

pub tabbed_tabs : (xs : List ℕ) → tabbed (at_tabs xs) [] ≡ 9 ∷ xs
tabbed_tabs [] = refl
tabbed_tabs (x ∷ xs) =
    elim (cases_Bool (eqb x 9)) [
      | inl e ↦ rw e (ap (λ t. 9 ∷ t) (tabbed_tabs xs ∙ ap (λ y. y ∷ xs) (sym (eqb-true x 9 e))))
      | inr e ↦ rw e (tabbed_onto x xs ∙ ap (λ t. 9 ∷ x ∷ drop 1 t) (tabbed_tabs xs))
    ]

pub tabbed_fields : (tail : List ℕ) → begun tail ≡ true → tabbed (fields tail) [] ≡ tail
tabbed_fields [] h = refl
tabbed_fields (x ∷ xs) h = tabbed_tabs xs ∙ ap (λ y. y ∷ xs) (sym (eqb-true x 9 h))

pub begun_tabbed : (fs : List (List ℕ)) → begun (tabbed fs []) ≡ true
begun_tabbed [] = refl
begun_tabbed (f ∷ fs) = refl
