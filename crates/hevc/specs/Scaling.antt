-- How HEVC scales levels to coefficients. Assumes nothing.
use Rattle.std.specs.Prelude.{ℕ, ◌+◌, ◌*◌, ◌/◌, ◌%◌, ◌^◌, cond, [], ◌∷◌, ℤ, pos, ◌+ℤ◌, ◌*ℤ◌, nat_lt, slice_index}
use Rattle.exact.specs.Rounding.{clip16, floor_shift}

-- the scaling number of a step
unfoldable pub scale : ℕ → ℕ
scale q = slice_index (40 ∷ 45 ∷ 51 ∷ 57 ∷ 64 ∷ 72 ∷ []) (q % 6) * 2 ^ (q / 6)

-- the base-2 logarithm of a side
unfoldable pub log2 : ℕ → ℕ
log2 side = cond (nat_lt side 8) 2 (cond (nat_lt side 16) 3 (cond (nat_lt side 32) 4 5))

-- a level scaled by s, where the side has the logarithm L
unfoldable pub coefficient : ℕ → ℕ → ℤ → ℤ
coefficient L s level = clip16 (floor_shift (level *ℤ pos (16 * s) +ℤ pos (2 ^ (L + 2))) (L + 3))
