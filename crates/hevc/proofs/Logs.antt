-- The logarithm of a side. Assumes nothing.
use Rattle.std.proofs.Common.{◌≡◌, ℕ, suc, ◌*◌, ◌^◌, ◌<◌, ◌≤◌, true, inl, inr, refl, arith}
use Rattle.std.proofs.lemmas.Bool.{cases_lt}
use Rattle.std.proofs.Math.Nat.{pow-suc}
use Rattle.std.proofs.Math.Pow.{pow_mono, pow-lt}
use Rattle.transform.specs.Meaning.{sided}
use Rattle.transform.proofs.Sides.{side_cases}
use Rattle.hevc.specs.Scaling.{log2}

only_power : (k r : ℕ) → 2 ^ r ≤ 2 ^ k → 2 ^ k < 2 * 2 ^ r → r ≡ k
only_power k r le lt = elim (cases_lt r k) [
  | inl h ↦ absurd (omega (arith, pow-suc 2 r, pow_mono {i = suc r} {j = k} (omega arith)))
  | inr h ↦ elim (cases_lt k r) [ inl l ↦ absurd (omega (arith, pow-lt l)) | inr l ↦ omega arith ]
]

pub log_is : (n r : ℕ) → sided n ≡ true → 2 ^ r ≤ n → n < 2 * 2 ^ r → r ≡ log2 n
unfolding log2
log_is n r s le lt = elim (side_cases n s) [
  | inl e ↦ rw e (only_power 2 r (rw e at le) (rw e at lt))
  | inr (inl e) ↦ rw e (only_power 3 r (rw e at le) (rw e at lt))
  | inr (inr (inl e)) ↦ rw e (only_power 4 r (rw e at le) (rw e at lt))
  | inr (inr (inr e)) ↦ rw e (only_power 5 r (rw e at le) (rw e at lt))
]

pub log_power : (n r : ℕ) → sided n ≡ true → r ≡ log2 n → (2 ^ r ≡ n) × (2 ≤ r) × (r ≤ 5)
unfolding log2
log_power n r s q = elim (side_cases n s) [
  | inl e ↦ rw (rw e at q, e) (refl, omega arith, omega arith)
  | inr (inl e) ↦ rw (rw e at q, e) (refl, omega arith, omega arith)
  | inr (inr (inl e)) ↦ rw (rw e at q, e) (refl, omega arith, omega arith)
  | inr (inr (inr e)) ↦ rw (rw e at q, e) (refl, omega arith, omega arith)
]
