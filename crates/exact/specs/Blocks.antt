-- Lists made from a function of the index, and square blocks as lists, row after row. Assumes nothing.
use Rattle.std.specs.Prelude.{◌≡◌, ℕ, ◌+◌, ◌*◌, ◌/◌, ◌%◌, ◌<◌, List, map, ℤ, pos, slice_index_or}
use Rattle.std.specs.List.{range_with_len}
use Rattle.exact.specs.Sums.{Matrix}

-- f 0, f 1, .., f (n - 1)
abbrev pub tabulate : ℕ → (ℕ → ℤ) → List ℤ
tabulate n f = map f (range_with_len 0 n)

-- the entry of a block of side n in row i, column j
abbrev pub at : ℕ → List ℤ → Matrix
at n xs i j = slice_index_or xs (i * n + j) (pos 0)

-- what stands at place p of the block of a matrix
unfoldable pub placed : ℕ → Matrix → ℕ → ℤ
placed n P p = P (p / n) (p % n)

-- the block of side n of a matrix
unfoldable pub block : ℕ → Matrix → List ℤ
block n P = tabulate (n * n) (placed n P)

-- the first n places of a list hold f
abbrev pub Filled : ℕ → (ℕ → ℤ) → List ℤ → Type 0
Filled n f xs = (k : ℕ) → k < n → slice_index_or xs k (pos 0) ≡ f k
