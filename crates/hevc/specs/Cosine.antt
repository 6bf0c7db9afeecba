-- The cosine matrices of HEVC. Assumes nothing.
use Rattle.std.specs.Prelude.{ℕ, ◌+◌, ◌-◌, ◌*◌, ◌/◌, ◌%◌, Bool, cond, List, [], ◌∷◌, map, ℤ, pos, neg_ℤ, ◌==◌, nat_lt, slice_index_or}
use Rattle.exact.specs.Sums.{Matrix}

-- the 32 numbers of the first column
abbrev pub first_column : List ℕ
first_column = 64 ∷ 90 ∷ 90 ∷ 90 ∷ 89 ∷ 88 ∷ 87 ∷ 85 ∷ 83 ∷ 82 ∷ 80 ∷ 78 ∷ 75 ∷ 73 ∷ 70 ∷ 67 ∷ 64 ∷ 61 ∷ 57 ∷ 54 ∷ 50 ∷ 46 ∷ 43 ∷ 38 ∷ 36 ∷ 31 ∷ 25 ∷ 22 ∷ 18 ∷ 13 ∷ 9 ∷ 4 ∷ []

-- the number in row t, and 0 past the last
unfoldable pub first : ℕ → ℤ
first t = slice_index_or (map pos first_column) t (pos 0)

-- t of 0 .. 127, replaced by 128 - t above 64
abbrev pub folded : ℕ → ℕ
folded t = cond (nat_lt 64 t) (128 - t) t

-- below 32 it is c(t), above 32 it is -c(64 - t)
abbrev pub at_angle : ℕ → ℤ
at_angle t = cond (nat_lt t 32) (first t) (neg_ℤ (first (64 - t)))

-- row k, column n of the 32-point matrix: row 0 is all 64, any other goes by t = (2n + 1)·k modulo 128
unfoldable pub cosine32 : Matrix
cosine32 k n = cond (k == 0) (pos 64) (at_angle (folded (((2 * n + 1) * k) % 128)))

-- the matrix of a side: the first entries of every (32 / side)-th row
abbrev pub cosine : ℕ → Matrix
cosine side k n = cosine32 (k * (32 / side)) n

-- a matrix, or its transpose
abbrev pub turned_if : Bool → Matrix → Matrix
turned_if t P i j = cond t (P j i) (P i j)
