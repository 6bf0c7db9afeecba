-- A block of side 8 that is coded: its levels, and what they rebuild to. Assumes nothing.
use Rattle.std.specs.Prelude.{◌≡◌, ℕ, List, ℤ, Ok}
use Rattle.transform.specs.Meaning.{Rules}
use Rattle.transform.specs.Outcome.{choosing, rebuilding}
use Rattle.tour.specs.declared.steps.Coded.{Coded}

pub record Codes (r : Rules) (step : ℕ) (xs : List ℤ) (c : Coded) : Type 0 where
  pub chosen : choosing r 8 step xs 64 ≡ Ok c.levels
  pub rebuilt : rebuilding r 0 8 step c.levels 64 ≡ Ok c.rebuilt
