-- Sums of integers over an index, and matrices as functions of row and column. Assumes nothing.
use Rattle.std.specs.Prelude.{ℕ, zero, suc, ◌≤◌, List, ℤ, pos, ◌+ℤ◌, ◌*ℤ◌, slice_index_or, unsigned_abs}

-- f 0 + f 1 + .. + f (n - 1)
unfoldable pub sum_z : ℕ → (ℕ → ℤ) → ℤ
sum_z zero f = pos 0
sum_z (suc n) f = sum_z n f +ℤ f n

-- the entry in a row and a column
abbrev pub Matrix : Type 0
Matrix = ℕ → ℕ → ℤ

-- the product of two matrices of side n
abbrev pub product : ℕ → Matrix → Matrix → Matrix
product n P Q i j = sum_z n (λ k. P i k *ℤ Q k j)

abbrev pub transposed : Matrix → Matrix
transposed P i j = P j i

-- no number of the list is above m in magnitude
abbrev pub Bounded : ℕ → List ℤ → Type 0
Bounded m xs = (k : ℕ) → unsigned_abs (slice_index_or xs k (pos 0)) ≤ m
