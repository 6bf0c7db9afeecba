-- What the tests of ranges say of each value, and the loop that makes them. Assumes nothing.
use Rattle.std.specs.Prelude.{◌≡◌, ℕ, zero, suc, ◌+◌, ◌<◌, ◌≤◌, true, false, ◌&&◌, List, [], ◌∷◌, length, get_or, drop, ℤ, pos, negsuc, int_le, int_lt, slice_index_or, unsigned_abs, refl}
use Rattle.std.proofs.Common.{arith}
use Rattle.std.proofs.lemmas.List.{drop_more}
use Rattle.std.proofs.lemmas.Int.{ints}
use Rattle.std.proofs.lemmas.Bool.{and_parts, and_from, and_right}
use Rattle.exact.specs.Sums.{Bounded}
use Rattle.transform.specs.Meaning.{within, residuals, shorts}

-- every value in a range is at most m in magnitude, and the other way round
module _ (low high : ℤ) (m : ℕ) where
  within_bounded : ((x : ℤ) → int_le low x ≡ true → int_le x high ≡ true → unsigned_abs x ≤ m) → (xs : List ℤ) → within low high xs ≡ true → Bounded m xs
  within_bounded f [] h k = omega arith
  within_bounded f (x ∷ xs) h zero =
      let p = and_parts (int_le low x && int_le x high) (within low high xs) h in
      let q = and_parts (int_le low x) (int_le x high) p.0 in
      f x q.0 q.1
  within_bounded f (x ∷ xs) h (suc k) = within_bounded f xs (and_parts (int_le low x && int_le x high) (within low high xs) h).1 k

  bounded_within : ((x : ℤ) → unsigned_abs x ≤ m → (int_le low x && int_le x high) ≡ true) → (xs : List ℤ) → Bounded m xs → within low high xs ≡ true
  bounded_within f [] h = refl
  bounded_within f (x ∷ xs) h = and_from (int_le low x && int_le x high) (within low high xs) (f x (h 0)) (bounded_within f xs (λ k. h (suc k)))

pub residuals_bounded : (xs : List ℤ) → residuals xs ≡ true → Bounded 255 xs
residuals_bounded = within_bounded (negsuc 254) (pos 255) 255 (λ x p q. grind (arith, ints))

pub shorts_bounded : (xs : List ℤ) → shorts xs ≡ true → Bounded 32768 xs
shorts_bounded = within_bounded (negsuc 32767) (pos 32767) 32768 (λ x p q. grind (arith, ints))

pub bounded_shorts : (xs : List ℤ) → Bounded 32767 xs → shorts xs ≡ true
bounded_shorts = bounded_within (negsuc 32767) (pos 32767) 32767 (λ x h. grind (arith, ints))

pub residuals_shorts : (xs : List ℤ) → residuals xs ≡ true → shorts xs ≡ true
residuals_shorts xs h = bounded_shorts xs (λ k. omega (arith, residuals_bounded xs h k))

-- ---- the loop: what is left to test, from place i on
not_below : (a b : ℤ) → int_lt b a ≡ false → int_le a b ≡ true
not_below a b h = grind (arith, ints)

below : (a b : ℤ) → int_lt b a ≡ true → int_le a b ≡ false
below a b h = grind (arith, ints)

module _ (low high : ℤ) (xs : List ℤ) (i : ℕ) (h : i < length xs) where
  pub passes : int_lt (slice_index_or xs i (pos 0)) low ≡ false → int_lt high (slice_index_or xs i (pos 0)) ≡ false → within low high (drop i xs) ≡ within low high (drop (i + 1) xs)
  passes p q = rw (drop_more xs i (pos 0) h, not_below low (slice_index_or xs i (pos 0)) p, not_below (slice_index_or xs i (pos 0)) high q)

  pub too_low : int_lt (slice_index_or xs i (pos 0)) low ≡ true → within low high (drop i xs) ≡ false
  too_low p = rw (drop_more xs i (pos 0) h, below low (slice_index_or xs i (pos 0)) p)

  pub too_high : int_lt high (slice_index_or xs i (pos 0)) ≡ true → within low high (drop i xs) ≡ false
  too_high q =
      let x = get_or xs i (pos 0) in
      rw (drop_more xs i (pos 0) h, and_right (int_le low x) (int_le x high) (below x high q))
