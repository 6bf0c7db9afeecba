-- Rebuilding a block from its levels and choosing the levels of a block, by any kernel matrix. Assumes nothing.
use Rattle.std.specs.Prelude.{ℕ, ◌*◌, List, ℤ, pos, ◌+ℤ◌}
use Rattle.exact.specs.Sums.{Matrix, product, transposed}
use Rattle.exact.specs.Blocks.{at, block}
use Rattle.exact.specs.Rounding.{clip16, floor_shift, nearest}
use Rattle.hevc.specs.Scaling.{scale, log2, coefficient}
use Rattle.hevc.specs.Turning.{turned_by}

-- what one pass makes of a block: its product with P, each sum through f, rows turned into columns
abbrev pub passed : (ℤ → ℤ) → Matrix → ℕ → List ℤ → List ℤ
passed f P N xs = block N (turned_by f N (block N (product N P (at N xs))))

-- each level scaled
abbrev pub coefficients : ℕ → ℕ → Matrix → Matrix
coefficients N q levels i j = coefficient (log2 N) (scale q) (levels i j)

-- the first pass: the transposed matrix times each column, plus 64, >> 7, clipped
abbrev pub columns : ℕ → Matrix → Matrix → Matrix
columns N A C i j = clip16 (floor_shift (product N (transposed A) C i j +ℤ pos 64) 7)

-- the last pass: the transposed matrix times each row, plus 2,048, >> 12
abbrev pub rows : ℕ → Matrix → Matrix → Matrix
rows N A T i j = floor_shift (product N (transposed A) (transposed T) j i +ℤ pos 2048) 12

-- the residual block rebuilt from levels
unfoldable pub rebuilt_by : Matrix → ℕ → ℕ → List ℤ → List ℤ
rebuilt_by A N q levels = block N (rows N A (columns N A (coefficients N q (at N levels))))

-- y = A·X·Aᵀ, exact
abbrev pub spectrum : ℕ → Matrix → Matrix → Matrix
spectrum N A X = product N (product N A X) (transposed A)

-- the level of a coefficient y: the nearest whole number to y / (64·N·s)
abbrev pub level_of : ℕ → ℕ → ℤ → ℤ
level_of N q y = nearest y (64 * N * scale q)

-- the levels chosen for a residual block
unfoldable pub chosen_by : Matrix → ℕ → ℕ → List ℤ → List ℤ
chosen_by A N q xs = block N (λ i j. level_of N q (spectrum N A (at N xs) i j))
