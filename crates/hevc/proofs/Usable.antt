-- Where a transform of one standard is usable, its rules are that standard's. Assumes nothing.
use Rattle.std.proofs.Common.{◌≡◌, ℕ, true, eqb, inl, inr, refl}
use Rattle.std.proofs.lemmas.Bool.{cases_Bool, false≢true}
use Rattle.transform.specs.Meaning.{Rules, only_at}

pub rules_here : (number : ℕ) (rules : Rules) (standard side step : ℕ) → (only_at number rules standard).usable side step ≡ true → only_at number rules standard ≡ rules
rules_here number rules standard side step u = elim (cases_Bool (eqb standard number)) [ inl e ↦ rw e refl | inr e ↦ absurd (false≢true (rw e at u)) ]
