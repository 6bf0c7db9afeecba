-- Pairs of position and level, and the blocks that they write. Assumes nothing.
use Rattle.std.proofs.Common.{◌≡◌, ℕ, zero, suc, ◌+◌, ◌%◌, ◌<◌, ◌≤◌, min, true, ◌&&◌, leb, List, [], ◌∷◌, ◌++◌, length, set, replicate, ℤ, pos, negsuc, Some, None, Ok, Err, decimal, Option, Result, sym, refl, ap, ◌∙◌, subst, inl, inr, add-one, arith}
use lib.Signed.{le_z}
use Rattle.std.specs.List.{AllByRecursion as All}
use Rattle.std.specs.Fmt.{signed_decimal}
use Rattle.std.proofs.lemmas.List.{append_assoc, length_push, set_at}
use Rattle.std.proofs.lemmas.Bool.{cases_Bool, cases_lt, cond-true, cond-false, le-leb, leb-true, and_parts}
use Rattle.transform.specs.Meaning.{shorts}
use Rattle.film.specs.declared.fault.Fault.{Fault}
use Rattle.film.specs.declared.fault.Fault.TheVariants.{BadLine}
use Rattle.film.specs.Fields.{begun, fields}
use Rattle.film.specs.Numbers.{number_below, limit, no_less, position_in, level_in, Level}
use Rattle.film.specs.Leaves.{Pair, with_pair, pair_then, pairs_from, paired, spread, spread_all, unless, levels_in, levels_after, nonzeros, pair_fields, answered, pair_of, read_pair, behind_pair, pair_reads, gathered, IsWithin}
use Rattle.film.proofs.Numerals.{below_is, below_back, level_is, level_back}

-- a position that is read, and one that was written
pub position_is : (from n : ℕ) (f : List ℕ) (p : ℕ) → position_in from n f ≡ Some p → (from ≤ p) × (p < min n limit) × (f ≡ decimal p)
position_is from n f p e = by (number_below (min n limit) f) refl e where
  by : (o : Option ℕ) → number_below (min n limit) f ≡ o → no_less from o ≡ Some p → (from ≤ p) × (p < min n limit) × (f ≡ decimal p)
  by None w h = absurd (let z : ◌≡◌ {A = ℕ} 0 1 = cc in omega arith)
  by (Some q) w h =
      elim (cases_Bool (leb from q)) [
        | inl t ↦
            let s : Some q ≡ Some p = sym (cond-true _ _ _ t) ∙ h in
            let e : q ≡ p = cc in
            let b = below_is (min n limit) f q w in
            (subst (λ m. from ≤ m) e (leb-true from q t), subst (λ m. m < min n limit) e b.0, b.1 ∙ ap decimal e)
        | inr t ↦ let s : ◌≡◌ {A = Option ℕ} None (Some p) = sym (cond-false _ _ _ t) ∙ h in absurd (let z : ◌≡◌ {A = ℕ} 0 1 = cc in omega arith)
      ]

pub position_within : (from n : ℕ) (f : List ℕ) (p : ℕ) → position_in from n f ≡ Some p → p < n
position_within from n f p e = let b = position_is from n f p e in omega (arith, b.1)

position_back : (from n i : ℕ) → n ≤ 65536 → from ≤ i → i < n → position_in from n (decimal i) ≡ Some i
position_back from n i m h k =
    ap (no_less from) (below_back (min n limit) i (omega arith) (omega arith)) ∙ cond-true _ _ _ (le-leb from i h)

-- one pair on
pub pair_step : (from n : ℕ) (f g : List ℕ) (fs : List (List ℕ)) (p : ℕ) (z : ℤ) → position_in from n f ≡ Some p → level_in g ≡ Some z → pairs_from from n (f ∷ g ∷ fs) ≡ with_pair (p, z) (pairs_from (suc p) n fs)
unfolding pairs_from
pair_step from n f g fs p z a b =
    ap (λ o. pair_then o (level_in g) (λ q. pairs_from (suc q) n fs)) a ∙ ap (λ l. pair_then (Some p) l (λ q. pairs_from (suc q) n fs)) b

-- the pairs that whole pairs of fields write are those that are read, up to the first refusal
pub gathered_reads : (from n : ℕ) (fs : List (List ℕ)) → paired fs ≡ None → gathered (pair_reads from n fs) ≡ pairs_from from n fs
unfolding pairs_from
gathered_reads from n [] h = refl
gathered_reads from n (f ∷ []) h = absurd (let z : ◌≡◌ {A = ℕ} 0 1 = cc in omega arith)
gathered_reads from n (f ∷ g ∷ fs) h = by (position_in from n f) (level_in g) (λ k. gathered_reads k n fs h) where
  by : (o : Option ℕ) (l : Option ℤ) → ((k : ℕ) → gathered (pair_reads k n fs) ≡ pairs_from k n fs) → gathered (pair_of o l ∷ pair_reads (behind_pair from (pair_of o l)) n fs) ≡ pair_then o l (λ p. pairs_from (suc p) n fs)
  by None l ih = refl
  by (Some p) None ih = refl
  by (Some p) (Some z) ih = ap (with_pair (p, z)) (ih (suc p))

pub reads_step : (from n : ℕ) (fs gs hs : List (List ℕ)) (f g : List ℕ) → fs ≡ f ∷ gs → gs ≡ g ∷ hs → pair_reads from n fs ≡ read_pair from n f g ∷ pair_reads (behind_pair from (read_pair from n f g)) n hs
reads_step from n fs gs hs f g e h = ap (pair_reads from n) (e ∙ ap (λ xs. f ∷ xs) h)

answered_with : (p : Pair) (r : Result (List Pair) Fault) → answered (with_pair p r) ≡ answered r
answered_with p (Ok ps) = refl
answered_with p (Err e) = refl

spread_with : (zs : List ℤ) (p : Pair) (r : Result (List Pair) Fault) → spread_all zs (with_pair p r) ≡ spread_all (set zs p.0 p.1) r
spread_with zs p (Ok ps) = refl
spread_with zs p (Err e) = refl

-- a pair that a loop has read, and the refusal at which it stops
pub one_placed : (zs : List ℤ) (p : ℕ) (z : ℤ) (rs qs : List (Result Pair Fault)) → rs ≡ Ok (p, z) ∷ qs → spread_all zs (gathered rs) ≡ spread_all (set zs p z) (gathered qs)
one_placed zs p z rs qs e = ap (λ r. spread_all zs (gathered r)) e ∙ spread_with zs (p, z) (gathered qs)

pub bad_placed : (zs : List ℤ) (x : Fault) (rs qs : List (Result Pair Fault)) → rs ≡ Err x ∷ qs → spread_all zs (gathered rs) ≡ Err x
bad_placed zs x rs qs e = ap (λ r. spread_all zs (gathered r)) e

pub one_checked : (p : Pair) (rs qs : List (Result Pair Fault)) → rs ≡ Ok p ∷ qs → answered (gathered rs) ≡ answered (gathered qs)
one_checked p rs qs e = ap (λ r. answered (gathered r)) e ∙ answered_with p (gathered qs)

pub bad_checked : (x : Fault) (rs qs : List (Result Pair Fault)) → rs ≡ Err x ∷ qs → answered (gathered rs) ≡ Err x
bad_checked x rs qs e = ap (λ r. answered (gathered r)) e

pub levels_answered : (zs : List ℤ) (r : Result (List Pair) Fault) → answered (spread_all zs r) ≡ answered r
levels_answered zs (Ok ps) = refl
levels_answered zs (Err e) = refl

pub reads_within : (from n : ℕ) (fs : List (List ℕ)) → All (IsWithin n) (pair_reads from n fs)
reads_within from n [] = tt
reads_within from n (f ∷ []) = tt
reads_within from n (f ∷ g ∷ fs) = (by (position_in from n f) (level_in g) refl, reads_within (behind_pair from (read_pair from n f g)) n fs) where
  by : (o : Option ℕ) (l : Option ℤ) → position_in from n f ≡ o → IsWithin n (pair_of o l)
  by None l e = tt
  by (Some p) None e = tt
  by (Some p) (Some z) e = position_within from n f p e

pub pairs_end : (from n : ℕ) (fs : List (List ℕ)) → length fs ≡ 0 → pairs_from from n fs ≡ Ok []
unfolding pairs_from
pairs_end from n [] h = refl
pairs_end from n (f ∷ fs) h = absurd (omega arith)

-- whole pairs are an even number of fields
pub even_paired : (fs : List (List ℕ)) → length fs % 2 ≡ 0 → paired fs ≡ None
even_paired [] e = refl
even_paired (f ∷ []) e = absurd (omega (arith, e))
even_paired (f ∷ g ∷ fs) e = even_paired fs (omega (arith, e))

odd_paired : (fs : List (List ℕ)) → (length fs % 2 ≡ 0 → ⊥) → paired fs ≡ Some BadLine
odd_paired [] e = absurd (e refl)
odd_paired (f ∷ []) e = refl
odd_paired (f ∷ g ∷ fs) e = odd_paired fs (λ q. e (omega (arith, q)))

odd_levels : (n : ℕ) (fs : List (List ℕ)) → (length fs % 2 ≡ 0 → ⊥) → levels_in n fs ≡ Err BadLine
unfolding levels_in
odd_levels n fs h = ap (λ o. unless o (spread_all (replicate n (pos 0)) (pairs_from 0 n fs))) (odd_paired fs h)

even_levels : (n : ℕ) (fs : List (List ℕ)) → length fs % 2 ≡ 0 → levels_in n fs ≡ spread_all (replicate n (pos 0)) (gathered (pair_reads 0 n fs))
unfolding levels_in
even_levels n fs h =
    ap (λ o. unless o (spread_all (replicate n (pos 0)) (pairs_from 0 n fs))) (even_paired fs h)
    ∙ ap (spread_all (replicate n (pos 0))) (sym (gathered_reads 0 n fs (even_paired fs h)))

-- the same of what follows a letter
pub odd_after : (n : ℕ) (tail : List ℕ) → begun tail ≡ true → (length (fields tail) % 2 ≡ 0 → ⊥) → levels_after n tail ≡ Err BadLine
odd_after n tail b h = cond-true _ _ _ b ∙ odd_levels n (fields tail) h

pub even_after : (n : ℕ) (tail : List ℕ) → begun tail ≡ true → length (fields tail) % 2 ≡ 0 → levels_after n tail ≡ spread_all (replicate n (pos 0)) (gathered (pair_reads 0 n (fields tail)))
even_after n tail b h = cond-true _ _ _ b ∙ even_levels n (fields tail) h

-- ---- what was written is read back
pub short_head : (z : ℤ) (zs : List ℤ) → shorts (z ∷ zs) ≡ true → (le_z (negsuc 32767) z ≡ true) × (le_z z (pos 32767) ≡ true) × (shorts zs ≡ true)
short_head z zs h =
    let p = and_parts (le_z (negsuc 32767) z && le_z z (pos 32767)) (shorts zs) h in
    let q = and_parts (le_z (negsuc 32767) z) (le_z z (pos 32767)) p.0 in
    (q.0, q.1, p.1)

pair_back : (n from i : ℕ) (z : ℤ) (ps : List Pair) → n ≤ 65536 → from ≤ i → i < n → Level z → pairs_from (suc i) n (pair_fields ps) ≡ Ok ps → pairs_from from n (pair_fields ((i, z) ∷ ps)) ≡ Ok ((i, z) ∷ ps)
pair_back n from i z ps m h k l e =
    pair_step from n (decimal i) (signed_decimal z) (pair_fields ps) i z (position_back from n i m h k) (level_back z l) ∙ ap (with_pair (i, z)) e

pairs_back : (n from i : ℕ) (zs : List ℤ) → n ≤ 65536 → from ≤ i → i + length zs ≤ n → shorts zs ≡ true → pairs_from from n (pair_fields (nonzeros i zs)) ≡ Ok (nonzeros i zs)
pairs_back n from i [] m h l s = pairs_end from n [] refl
pairs_back n from i (pos zero ∷ zs) m h l s = pairs_back n from (suc i) zs m (omega arith) (omega arith) (short_head (pos zero) zs s).2
pairs_back n from i (pos (suc k) ∷ zs) m h l s =
    let b = short_head (pos (suc k)) zs s in
    pair_back n from i (pos (suc k)) (nonzeros (suc i) zs) m h (omega arith) (leb-true (suc k) 32767 b.1) (pairs_back n (suc i) (suc i) zs m (omega arith) (omega arith) b.2)
pairs_back n from i (negsuc k ∷ zs) m h l s =
    let b = short_head (negsuc k) zs s in
    pair_back n from i (negsuc k) (nonzeros (suc i) zs) m h (omega arith) (leb-true k 32767 b.0) (pairs_back n (suc i) (suc i) zs m (omega arith) (omega arith) b.2)

-- a level put where the zeros begin
set_here : (xs : List ℤ) (k : ℕ) (z : ℤ) → set (xs ++ (pos 0 ∷ replicate k (pos 0))) (length xs) z ≡ (xs ++ (z ∷ [])) ++ replicate k (pos 0)
set_here xs k z = set_at xs (pos 0) (replicate k (pos 0)) z (length xs) refl ∙ sym (append_assoc xs (z ∷ []) (replicate k (pos 0)))

length_one : (xs : List ℤ) (z : ℤ) → length (xs ++ (z ∷ [])) ≡ suc (length xs)
length_one xs z = length_push xs z ∙ add-one (length xs)

-- a zero in place of the first of the zeros
zero_here : (xs : List ℤ) (k : ℕ) → xs ++ (pos 0 ∷ replicate k (pos 0)) ≡ (xs ++ (pos 0 ∷ [])) ++ replicate k (pos 0)
zero_here xs k = sym (append_assoc xs (pos 0 ∷ []) (replicate k (pos 0)))

-- one level on
spread_on : (xs : List ℤ) (z : ℤ) (ys b : List ℤ) → b ≡ (xs ++ (z ∷ [])) ++ replicate (length ys) (pos 0) → spread ((xs ++ (z ∷ [])) ++ replicate (length ys) (pos 0)) (nonzeros (length (xs ++ (z ∷ []))) ys) ≡ (xs ++ (z ∷ [])) ++ ys → spread b (nonzeros (suc (length xs)) ys) ≡ xs ++ (z ∷ ys)
spread_on xs z ys b e ih =
    ap (λ c. spread c (nonzeros (suc (length xs)) ys)) e
    ∙ ap (λ i. spread ((xs ++ (z ∷ [])) ++ replicate (length ys) (pos 0)) (nonzeros i ys)) (sym (length_one xs z)) ∙ ih ∙ append_assoc xs (z ∷ []) ys

spread_back : (xs ys : List ℤ) → spread (xs ++ replicate (length ys) (pos 0)) (nonzeros (length xs) ys) ≡ xs ++ ys
spread_back xs [] = refl
spread_back xs (pos zero ∷ ys) = spread_on xs (pos 0) ys _ (zero_here xs (length ys)) (spread_back (xs ++ (pos 0 ∷ [])) ys)
spread_back xs (pos (suc k) ∷ ys) = spread_on xs (pos (suc k)) ys _ (set_here xs (length ys) (pos (suc k))) (spread_back (xs ++ (pos (suc k) ∷ [])) ys)
spread_back xs (negsuc k ∷ ys) = spread_on xs (negsuc k) ys _ (set_here xs (length ys) (negsuc k)) (spread_back (xs ++ (negsuc k ∷ [])) ys)

paired_fields : (ps : List Pair) → paired (pair_fields ps) ≡ None
paired_fields [] = refl
paired_fields (p ∷ ps) = paired_fields ps

pub levels_back : (zs : List ℤ) → length zs ≤ 65536 → shorts zs ≡ true → levels_in (length zs) (pair_fields (nonzeros 0 zs)) ≡ Ok zs
unfolding levels_in
levels_back zs l s =
    ap (λ o. unless o (spread_all (replicate (length zs) (pos 0)) (pairs_from 0 (length zs) (pair_fields (nonzeros 0 zs))))) (paired_fields (nonzeros 0 zs))
    ∙ ap (spread_all (replicate (length zs) (pos 0))) (pairs_back (length zs) 0 0 zs l (omega arith) (omega arith) s) ∙ ap Ok (spread_back [] zs)

-- ---- what is read fixes the fields
-- positions rise from one on, below n, and no level is 0
abbrev Rising : ℕ → ℕ → List Pair → Type 0
Rising from n [] = Unit {0}
Rising from n (p ∷ ps) = (from ≤ p.0) × (p.0 < n) × Level p.1 × Rising (suc p.0) n ps

-- the pairs are the fields
abbrev Are : ℕ → ℕ → List (List ℕ) → List Pair → Type 0
Are from n fs ps = (fs ≡ pair_fields ps) × Rising from n ps

with_are : (from n : ℕ) (f g : List ℕ) (fs : List (List ℕ)) (ps : List Pair) (p : ℕ) (z : ℤ) (r : Result (List Pair) Fault) → ((qs : List Pair) → r ≡ Ok qs → Are (suc p) n fs qs) → position_in from n f ≡ Some p → level_in g ≡ Some z → with_pair (p, z) r ≡ Ok ps → Are from n (f ∷ g ∷ fs) ps
with_are from n f g fs ps p z (Err e) ih a b h = absurd (let z : ◌≡◌ {A = ℕ} 0 1 = cc in omega arith)
with_are from n f g fs ps p z (Ok qs) ih a b h =
    let e : (p, z) ∷ qs ≡ ps = cc in
    let i = ih qs refl in
    let c = position_is from n f p a in
    let d = level_is g z b in
    subst (Are from n (f ∷ g ∷ fs)) e
    (ap (λ x. x ∷ g ∷ fs) c.2 ∙ ap (λ x. decimal p ∷ x ∷ fs) d.0 ∙ ap (λ xs. decimal p ∷ signed_decimal z ∷ xs) i.0, (c.0, omega (arith, c.1), d.1, i.1))

pair_are : (from n : ℕ) (f g : List ℕ) (fs : List (List ℕ)) (ps : List Pair) (o : Option ℕ) (l : Option ℤ) → ((p : ℕ) (qs : List Pair) → pairs_from (suc p) n fs ≡ Ok qs → Are (suc p) n fs qs) → position_in from n f ≡ o → level_in g ≡ l → pair_then o l (λ p. pairs_from (suc p) n fs) ≡ Ok ps → Are from n (f ∷ g ∷ fs) ps
pair_are from n f g fs ps None l ih a b h = absurd (let z : ◌≡◌ {A = ℕ} 0 1 = cc in omega arith)
pair_are from n f g fs ps (Some p) None ih a b h = absurd (let z : ◌≡◌ {A = ℕ} 0 1 = cc in omega arith)
pair_are from n f g fs ps (Some p) (Some z) ih a b h = with_are from n f g fs ps p z (pairs_from (suc p) n fs) (ih p) a b h

pairs_are : (from n : ℕ) (fs : List (List ℕ)) (ps : List Pair) → pairs_from from n fs ≡ Ok ps → Are from n fs ps
unfolding pairs_from
pairs_are from n [] ps e = let q : [] ≡ ps = cc in subst (Are from n []) q (refl, tt)
pairs_are from n (f ∷ []) ps e = absurd (let z : ◌≡◌ {A = ℕ} 0 1 = cc in omega arith)
pairs_are from n (f ∷ g ∷ fs) ps e = pair_are from n f g fs ps (position_in from n f) (level_in g) (λ p qs w. pairs_are (suc p) n fs qs w) refl refl e

rising_at : (a b m n : ℕ) (ps : List Pair) → a ≡ b → m ≡ n → Rising a m ps → Rising b n ps
rising_at a b m n ps e f h = subst (λ k. Rising b k ps) f (subst (λ k. Rising k m ps) e h)

zeros_none : (i k : ℕ) → nonzeros i (replicate k (pos 0)) ≡ []
zeros_none i zero = refl
zeros_none i (suc k) = zeros_none (suc i) k

nonzero_head : (i : ℕ) (z : ℤ) (zs : List ℤ) → Level z → nonzeros i (z ∷ zs) ≡ (i, z) ∷ nonzeros (suc i) zs
nonzero_head i (pos zero) zs l = absurd l
nonzero_head i (pos (suc k)) zs l = refl
nonzero_head i (negsuc k) zs l = refl

-- the block that rising pairs write has these pairs
spread_are : (k : ℕ) (xs : List ℤ) (ps : List Pair) → Rising (length xs) (length xs + k) ps → (ys : List ℤ) × (spread (xs ++ replicate k (pos 0)) ps ≡ xs ++ ys) × (nonzeros (length xs) ys ≡ ps)
spread_are k xs [] h = (replicate k (pos 0), refl, zeros_none (length xs) k)
spread_are zero xs (p ∷ ps) h = absurd (omega (arith, h.0, h.1))
spread_are (suc k) xs (p ∷ ps) h =
    elim (cases_lt (length xs) p.0) [
      | inl lt ↦
          let l = length_one xs (pos 0) in
          let i = spread_are k (xs ++ (pos 0 ∷ [])) (p ∷ ps) (omega (arith, l, lt), omega (arith, l, h.1), h.2, rising_at (suc p.0) (suc p.0) (length xs + suc k) (length (xs ++ (pos 0 ∷ [])) + k) ps refl (omega (arith, l)) h.3) in (
            pos 0 ∷ i.0,
            ap (λ b. spread b (p ∷ ps)) (zero_here xs k) ∙ i.1 ∙ append_assoc xs (pos 0 ∷ []) i.0,
            ap (λ n. nonzeros n i.0) (sym l) ∙ i.2,
          )
      | inr le ↦
          let e : p.0 ≡ length xs = omega (arith, le, h.0) in
          let l = length_one xs p.1 in
          let i = spread_are k (xs ++ (p.1 ∷ [])) ps (rising_at (suc p.0) (length (xs ++ (p.1 ∷ []))) (length xs + suc k) (length (xs ++ (p.1 ∷ [])) + k) ps (omega (arith, l, e)) (omega (arith, l)) h.3) in (
            p.1 ∷ i.0,
            ap (λ b. spread b ps) (ap (λ j. set (xs ++ (pos 0 ∷ replicate k (pos 0))) j p.1) e ∙ set_here xs k p.1) ∙ i.1 ∙ append_assoc xs (p.1 ∷ []) i.0,
            nonzero_head (length xs) p.1 i.0 h.2 ∙ ap (λ qs. (length xs, p.1) ∷ qs) (ap (λ n. nonzeros n i.0) (sym l) ∙ i.2) ∙ ap (λ j. (j, p.1) ∷ ps) (sym e),
          )
    ]

pub levels_fields : (n : ℕ) (fs : List (List ℕ)) (zs : List ℤ) → levels_in n fs ≡ Ok zs → fs ≡ pair_fields (nonzeros 0 zs)
unfolding levels_in
levels_fields n fs zs e = by (paired fs) (pairs_from 0 n fs) refl e where
  by : (o : Option Fault) (r : Result (List Pair) Fault) → pairs_from 0 n fs ≡ r → unless o (spread_all (replicate n (pos 0)) r) ≡ Ok zs → fs ≡ pair_fields (nonzeros 0 zs)
  by (Some x) r w h = absurd (let z : ◌≡◌ {A = ℕ} 0 1 = cc in omega arith)
  by None (Err x) w h = absurd (let z : ◌≡◌ {A = ℕ} 0 1 = cc in omega arith)
  by None (Ok ps) w h =
      let q : spread (replicate n (pos 0)) ps ≡ zs = cc in
      let a = pairs_are 0 n fs ps w in
      let i = spread_are n [] ps (rising_at 0 0 n (0 + n) ps refl (omega arith) a.1) in
      a.0 ∙ ap pair_fields (sym i.2 ∙ ap (nonzeros 0) (sym i.1 ∙ q))
