-- How large the numbers of the passes can be, in magnitude. Assumes nothing.
use Rattle.std.specs.Prelude.{ℕ, ◌*◌}

-- an entry of a kernel's matrix
abbrev pub entry_limit : ℕ
entry_limit = 90

-- a number given to a product: a residual, or the product of a row of 32 entries with residuals
abbrev pub input_limit : ℕ
input_limit = 32 * (entry_limit * 255)

-- one term of a product
abbrev pub term_limit : ℕ
term_limit = entry_limit * input_limit

-- a sum of 32 terms, which fits 32 bits
abbrev pub sum_limit : ℕ
sum_limit = 32 * term_limit
