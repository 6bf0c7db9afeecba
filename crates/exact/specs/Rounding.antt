-- Clipping to 16 bits, the shift that rounds down, and the nearest whole number. Assumes nothing.
use Rattle.std.specs.Prelude.{◌≡◌, ℕ, suc, ◌+◌, ◌-◌, ◌*◌, ◌/◌, ◌^◌, ◌≤◌, cond, ℤ, pos, negsuc, ◌+ℤ◌, ◌-ℤ◌, ◌*ℤ◌, neg_ℤ, int_lt, unsigned_abs}
use Rattle.std.specs.Int.Signed.{shr_z}

-- the number of -32,768 .. 32,767 that is nearest to z
abbrev pub clip16 : ℤ → ℤ
clip16 z = cond (int_lt (pos 32767) z) (pos 32767) (cond (int_lt z (negsuc 32767)) (negsuc 32767) z)

-- z divided by 2 ^ k, rounded down
abbrev pub floor_shift : ℤ → ℕ → ℤ
floor_shift z k = shr_z z (2 ^ k)

-- half of 2 ^ k is added first
abbrev pub round_shift : ℤ → ℕ → ℤ
round_shift z k = floor_shift (z +ℤ pos (2 ^ (k - 1))) k

-- the whole number nearest to a / d, halves down
abbrev pub halves_down : ℕ → ℕ → ℕ
halves_down a d = (2 * a + (d - 1)) / (2 * d)

-- the whole number nearest to y / d, halves toward zero
unfoldable pub nearest : ℤ → ℕ → ℤ
nearest (pos a) d = pos (halves_down a d)
nearest (negsuc a) d = neg_ℤ (pos (halves_down (suc a) d))

-- z is at most half away from y / d; where it is just half away, it is the one nearer to zero
pub record Closest (y : ℤ) (d : ℕ) (z : ℤ) : Type 0 where
  pub half : 2 * unsigned_abs (pos d *ℤ z -ℤ y) ≤ d
  pub tie : 2 * unsigned_abs (pos d *ℤ z -ℤ y) ≡ d → d * unsigned_abs z ≤ unsigned_abs y
