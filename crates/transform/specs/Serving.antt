-- A transform of one standard is sound where its rules are. Assumes nothing.
use Rattle.std.specs.Prelude.{ℕ, true, false, cond, ◌==◌}
use Rattle.std.proofs.lemmas.Bool.{false≢true}
use Rattle.transform.specs.Meaning.{Rules, Sound, unserved, only_at}

pub unserved_sound : Sound unserved
unserved_sound = record {
  steps = λ side step u. absurd (false≢true u);
  choices = λ side step xs s u. absurd (false≢true u);
  rebuilds = λ side step xs ys s u. absurd (false≢true u);
}

pub only_sound : (number : ℕ) (r : Rules) (standard : ℕ) → Sound r → Sound (only_at number r standard)
only_sound number r standard h = elim (standard == number) as (λ t. Sound (cond t r unserved)) [ true ↦ h | false ↦ unserved_sound ]
