-- Rows turned into columns, each entry through a function. Assumes nothing.
use Rattle.std.specs.Prelude.{ℕ, List, ℤ}
use Rattle.exact.specs.Sums.{Matrix}
use Rattle.exact.specs.Blocks.{at}

abbrev pub turned_by : (ℤ → ℤ) → ℕ → List ℤ → Matrix
turned_by f side xs i j = f (at side xs j i)
