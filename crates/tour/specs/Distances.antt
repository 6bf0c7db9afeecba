-- The greatest distance between two blocks. Assumes nothing.
use Rattle.std.specs.Prelude.{◌≡◌, ℕ, ◌<◌, ◌≤◌, ◌⊎◌, List, ℤ, pos, ◌-ℤ◌, slice_index_or, unsigned_abs}

-- how far two blocks are apart at a place
abbrev pub apart : List ℤ → List ℤ → ℕ → ℕ
apart xs ys k = unsigned_abs (slice_index_or xs k (pos 0) -ℤ slice_index_or ys k (pos 0))

-- at the first n places they are never farther apart than r, and somewhere so far, or r is 0
pub record Greatest (n : ℕ) (xs ys : List ℤ) (r : ℕ) : Type 0 where
  pub most : (k : ℕ) → k < n → apart xs ys k ≤ r
  pub met : (r ≡ 0) ⊎ ((k : ℕ) × (k < n) × (apart xs ys k ≡ r))
