-- Samples one after another. Assumes nothing.
use Rattle.std.proofs.Common.{◌≡◌, ℕ, ◌+◌, ◌<◌, ◌≤◌, true, List, [], ◌∷◌, ◌++◌, map, length, take, set, Some, None, Ok, Err, decimal, Option, Result, sym, refl, ap, ◌∙◌, inl, inr, arith}
use Rattle.std.specs.List.{AllByRecursion as All}
use Rattle.std.proofs.lemmas.List.{append_assoc, append-nil, length-map, take_all, take_more_set}
use Rattle.std.proofs.lemmas.Bool.{cond-true, cond-false, eq-eqb, ne_eqb, cases_eq}
use Rattle.film.specs.declared.fault.Fault.{Fault}
use Rattle.film.specs.declared.fault.Fault.TheVariants.{BadLine}
use Rattle.film.specs.Faults.{or_bad_field}
use Rattle.film.specs.Fields.{begun, fields}
use Rattle.film.specs.Numbers.{number_below}
use Rattle.film.specs.Leaves.{with_sample, samples_of, samples_in, samples_after, answered}
use Rattle.film.proofs.Numerals.{below_is, below_back, err_none, ok_some}

-- another number of fields than samples, and the same
pub samples_many : (n : ℕ) (fs : List (List ℕ)) → (length fs ≡ n → ⊥) → samples_in n fs ≡ Err BadLine
unfolding samples_in
samples_many n fs h = cond-false _ _ _ (ne_eqb (length fs) n h)

pub samples_all : (n : ℕ) (fs : List (List ℕ)) → length fs ≡ n → samples_in n fs ≡ or_bad_field (samples_of fs)
unfolding samples_in
samples_all n fs h = cond-true _ _ _ (eq-eqb (length fs) n h)

-- the same of what follows a letter
pub many_after : (n : ℕ) (tail : List ℕ) → begun tail ≡ true → (length (fields tail) ≡ n → ⊥) → samples_after n tail ≡ Err BadLine
many_after n tail b h = cond-true _ _ _ b ∙ samples_many n (fields tail) h

pub all_after : (n : ℕ) (tail : List ℕ) → begun tail ≡ true → length (fields tail) ≡ n → samples_after n tail ≡ or_bad_field (samples_of (fields tail))
all_after n tail b h = cond-true _ _ _ b ∙ samples_all n (fields tail) h

-- samples behind others
abbrev pub behind : List ℕ → Option (List ℕ) → Option (List ℕ)
behind xs (Some ss) = Some (xs ++ ss)
behind xs None = None

pub behind_none : (o : Option (List ℕ)) → behind [] o ≡ o
behind_none (Some ss) = refl
behind_none None = refl

behind_with : (xs : List ℕ) (s : ℕ) (o : Option (List ℕ)) → behind xs (with_sample (Some s) o) ≡ behind (xs ++ (s ∷ [])) o
behind_with xs s (Some ss) = ap Some (sym (append_assoc xs (s ∷ []) ss))
behind_with xs s None = refl

-- one sample on
sample_step : (f : List ℕ) (fs : List (List ℕ)) → samples_of (f ∷ fs) ≡ with_sample (number_below 256 f) (samples_of fs)
unfolding samples_of
sample_step f fs = refl

some_with : (v : ℕ) (o : Option (List ℕ)) → answered (or_bad_field (with_sample (Some v) o)) ≡ answered (or_bad_field o)
some_with v (Some ss) = refl
some_with v None = refl

samples_end : samples_of [] ≡ Some []
unfolding samples_of
samples_end = refl

-- a field that a loop reads, the last before it, and the one at which it stops
module _ (fs gs : List (List ℕ)) (f : List ℕ) (e : fs ≡ f ∷ gs) where
  pub one_placed : (block : List ℕ) (i v : ℕ) → i < length block → Ok v ≡ or_bad_field (number_below 256 f) → or_bad_field (behind (take i block) (samples_of fs)) ≡ or_bad_field (behind (take (i + 1) (set block i v)) (samples_of gs))
  one_placed block i v h w =
      let s = ok_some (number_below 256 f) v (sym w) in
      ap or_bad_field
      (ap (λ xs. behind (take i block) (samples_of xs)) e ∙ ap (behind (take i block)) (sample_step f gs ∙ ap (λ o. with_sample o (samples_of gs)) s)
      ∙ behind_with (take i block) v (samples_of gs) ∙ ap (λ xs. behind xs (samples_of gs)) (sym (take_more_set block i v h)))

  pub bad_placed : (xs : List ℕ) (x : Fault) → Err x ≡ or_bad_field (number_below 256 f) → or_bad_field (behind xs (samples_of fs)) ≡ Err x
  bad_placed xs x w =
      let n = err_none (number_below 256 f) x w in
      ap (λ ys. or_bad_field (behind xs (samples_of ys))) e ∙ ap (λ o. or_bad_field (behind xs o)) (sample_step f gs ∙ ap (λ o. with_sample o (samples_of gs)) n.1)
      ∙ ap Err (sym n.0)

  pub one_checked : (v : ℕ) → Ok v ≡ or_bad_field (number_below 256 f) → answered (or_bad_field (samples_of fs)) ≡ answered (or_bad_field (samples_of gs))
  one_checked v w =
      let s = ok_some (number_below 256 f) v (sym w) in
      ap (λ xs. answered (or_bad_field (samples_of xs))) e ∙ ap (λ o. answered (or_bad_field o)) (sample_step f gs ∙ ap (λ o. with_sample o (samples_of gs)) s)
      ∙ some_with v (samples_of gs)

  pub bad_checked : (x : Fault) → Err x ≡ or_bad_field (number_below 256 f) → answered (or_bad_field (samples_of fs)) ≡ Err x
  bad_checked x w = ap (λ o. answered (or_bad_field o)) (sym (behind_none (samples_of fs))) ∙ ap answered (bad_placed [] x w)

module _ (fs : List (List ℕ)) (e : fs ≡ []) where
  pub all_placed : (block : List ℕ) (i : ℕ) → length block ≤ i → or_bad_field (behind (take i block) (samples_of fs)) ≡ Ok block
  all_placed block i h = ap (λ o. or_bad_field (behind (take i block) o)) (ap samples_of e ∙ samples_end) ∙ ap Ok (append-nil (take i block) ∙ take_all i block h)

  pub all_checked : answered (or_bad_field (samples_of fs)) ≡ Ok tt
  all_checked = ap (λ o. answered (or_bad_field o)) (ap samples_of e ∙ samples_end)

-- what was written is read back
pub samples_back : (ss : List ℕ) → All (λ s. s ≤ 255) ss → samples_of (map decimal ss) ≡ Some ss
unfolding samples_of
samples_back [] h = refl
samples_back (s ∷ ss) h =
    ap (λ o. with_sample o (samples_of (map decimal ss))) (below_back 256 s (omega (arith, h.0)) (omega arith)) ∙ ap (with_sample (Some s)) (samples_back ss h.1)

pub raw_back : (ss : List ℕ) → All (λ s. s ≤ 255) ss → samples_in (length ss) (map decimal ss) ≡ Ok ss
raw_back ss h = samples_all (length ss) (map decimal ss) (length-map ss decimal) ∙ ap or_bad_field (samples_back ss h)

-- what is read fixes the fields
samples_are : (fs : List (List ℕ)) (ss : List ℕ) → samples_of fs ≡ Some ss → fs ≡ map decimal ss
unfolding samples_of
samples_are [] ss e = let q : [] ≡ ss = cc in ap (map decimal) q
samples_are (f ∷ fs) ss e = by (number_below 256 f) (samples_of fs) refl (λ rs. samples_are fs rs) e where
  by : (o : Option ℕ) (p : Option (List ℕ)) → number_below 256 f ≡ o → ((rs : List ℕ) → p ≡ Some rs → fs ≡ map decimal rs) → with_sample o p ≡ Some ss → f ∷ fs ≡ map decimal ss
  by None p w ih h = absurd (let z : ◌≡◌ {A = ℕ} 0 1 = cc in omega arith)
  by (Some s) None w ih h = absurd (let z : ◌≡◌ {A = ℕ} 0 1 = cc in omega arith)
  by (Some s) (Some rs) w ih h =
      let q : s ∷ rs ≡ ss = cc in
      ap (λ x. x ∷ fs) (below_is 256 f s w).1 ∙ ap (λ xs. decimal s ∷ xs) (ih rs refl) ∙ ap (map decimal) q

pub raw_fields : (n : ℕ) (fs : List (List ℕ)) (ss : List ℕ) → samples_in n fs ≡ Ok ss → fs ≡ map decimal ss
raw_fields n fs ss e =
    elim (cases_eq (length fs) n) [
      | inl h ↦ by (samples_of fs) refl (sym (samples_all n fs h) ∙ e)
      | inr h ↦ let q : ◌≡◌ {A = Result (List ℕ) Fault} (Err BadLine) (Ok ss) = sym (samples_many n fs h) ∙ e in absurd (let z : ◌≡◌ {A = ℕ} 0 1 = cc in omega arith)
    ]
  where
    by : (o : Option (List ℕ)) → samples_of fs ≡ o → or_bad_field o ≡ Ok ss → fs ≡ map decimal ss
    by None w h = absurd (let z : ◌≡◌ {A = ℕ} 0 1 = cc in omega arith)
    by (Some rs) w h = let q : rs ≡ ss = cc in samples_are fs ss (w ∙ ap Some q)
