-- Two passes over a block. Assumes nothing.
use Rattle.std.proofs.Common.{◌≡◌, ℕ, ◌+◌, ◌*◌, ◌^◌, ◌≤◌, List, length, map, ℤ, pos, ◌+ℤ◌, ◌*ℤ◌, nat_abs, sym, refl, ap, ◌∙◌, arith}
use Rattle.std.proofs.lemmas.Nat.{mul-le}
use Rattle.exact.specs.Sums.{Matrix, product, transposed, Bounded}
use Rattle.exact.specs.Blocks.{at, block}
use Rattle.exact.specs.Rounding.{clip16, floor_shift, nearest}
use Rattle.exact.proofs.Sums.{product_abs, product_ext, product_transposed}
use Rattle.exact.proofs.Blocks.{at_block, block_at, block_ext, block_bounded}
use Rattle.exact.proofs.Rounding.{clip_abs}
use Rattle.hevc.specs.Scaling.{scale, log2, coefficient}
use Rattle.hevc.specs.Turning.{turned_by}
use Rattle.hevc.specs.Passes.{passed, coefficients, columns, rebuilt_by, spectrum, chosen_by}
use Rattle.transform.proofs.Sides.{shape_parts, side_range}
use Rattle.transform.specs.Ranges.{residuals_bounded, shorts_bounded}
use Rattle.hevc.proofs.Places.{map_block}

-- the two steps of a pass
pub passed_is : (N : ℕ) (f : ℤ → ℤ) (P : Matrix) (xs sums ys : List ℤ) → sums ≡ block N (product N P (at N xs)) → ys ≡ block N (turned_by f N sums) → ys ≡ passed f P N xs
passed_is N f P xs sums ys a b = b ∙ ap (λ zs. block N (turned_by f N zs)) a

-- a pass over the block of Q
pub passed_block : (N : ℕ) (f : ℤ → ℤ) (P Q : Matrix) → passed f P N (block N Q) ≡ block N (λ i j. f (product N P Q j i))
passed_block N f P Q = block_ext N _ _
    (λ i j h l. ap f (at_block N (product N P (at N (block N Q))) j i l h
    ∙ product_ext N P (at N (block N Q)) P Q j i (λ _ _. refl) (λ k lt. at_block N Q k i lt h)))

-- what is done to the sums after the columns and after the rows
abbrev pub after_columns : ℤ → ℤ
after_columns z = clip16 (floor_shift (z +ℤ pos 64) 7)

abbrev pub after_rows : ℤ → ℤ
after_rows z = floor_shift (z +ℤ pos 2048) 12

-- the two passes of rebuilding, over a block of coefficients
pub rebuilt_passes : (A : Matrix) (N q : ℕ) (xs : List ℤ) → passed after_rows (transposed A) N (passed after_columns (transposed A) N (block N (coefficients N q (at N xs)))) ≡ rebuilt_by A N q xs
unfolding rebuilt_by
rebuilt_passes A N q xs =
    let C = coefficients N q (at N xs) in
    ap (passed after_rows (transposed A) N) (passed_block N after_columns (transposed A) C)
    ∙ passed_block N after_rows (transposed A) (transposed (columns N A C))

module _ (A : Matrix) (N q : ℕ) (xs : List ℤ) (many : length xs ≡ N * N) where
  pub scaled_is : map (coefficient (log2 N) (scale q)) xs ≡ block N (coefficients N q (at N xs))
  scaled_is = map_block N (coefficient (log2 N) (scale q)) xs many

  pub rebuilt_is : passed after_rows (transposed A) N (passed after_columns (transposed A) N (map (coefficient (log2 N) (scale q)) xs)) ≡ rebuilt_by A N q xs
  rebuilt_is = ap (λ ys. passed after_rows (transposed A) N (passed after_columns (transposed A) N ys)) scaled_is ∙ rebuilt_passes A N q xs

  pub chosen_is : (divisor : ℕ) → divisor ≡ 64 * N * scale q → passed (λ z. nearest z divisor) A N (passed (λ z. z) A N xs) ≡ chosen_by A N q xs
  unfolding chosen_by
  chosen_is divisor e =
      let X = at N xs in
      ap (λ ys. passed (λ z. nearest z divisor) A N (passed (λ z. z) A N ys)) (block_at N xs many)
      ∙ ap (passed (λ z. nearest z divisor) A N) (passed_block N (λ z. z) A X)
      ∙ passed_block N (λ z. nearest z divisor) A (transposed (product N A X))
      ∙ block_ext N _ _ (λ i j h l. ap (λ z. nearest z divisor) (sym (product_transposed N (product N A X) (transposed A) i j)) ∙ ap (nearest (spectrum N A X i j)) e)

-- ---- bounds, each of the list that an equation names
pub bounded_along : (m n : ℕ) (xs ys : List ℤ) → m ≤ n → ys ≡ xs → Bounded m xs → Bounded n ys
bounded_along m n xs ys le e b = rw e (λ k. omega (arith, b k))

-- the sums of a product, where the entries are at most 90 and the numbers at most m
pub sums_bounded : (N m n : ℕ) (P : Matrix) (xs ys : List ℤ) → N ≤ 32 → 32 * (90 * m) ≤ n → ((i j : ℕ) → nat_abs (P i j) ≤ 90) → Bounded m xs → ys ≡ block N (product N P (at N xs)) → Bounded n ys
sums_bounded N m n P xs ys le lt h b e = bounded_along n n _ ys (omega arith) e (block_bounded N n (product N P (at N xs))
    (λ i j _ _. omega (arith, product_abs N P (at N xs) i j 90 m (λ k _. h i k) (λ k _. b (k * N + j)), mul-le N (90 * m) 32 (90 * m) le (omega arith))))

-- a block turned as it is, and so the sums of a pass that rounds nothing
pub turned_bounded : (N m : ℕ) (xs ys : List ℤ) → Bounded m xs → ys ≡ block N (turned_by (λ z. z) N xs) → Bounded m ys
turned_bounded N m xs ys b e = bounded_along m m _ ys (omega arith) e (block_bounded N m (turned_by (λ z. z) N xs) (λ i j _ _. b (j * N + i)))

pub unrounded_bounded : (N m n : ℕ) (P : Matrix) (xs ys : List ℤ) → N ≤ 32 → 32 * (90 * m) ≤ n → ((i j : ℕ) → nat_abs (P i j) ≤ 90) → Bounded m xs → ys ≡ passed (λ z. z) P N xs → Bounded n ys
unrounded_bounded N m n P xs ys le lt h b e = turned_bounded N n (block N (product N P (at N xs))) ys (sums_bounded N m n P xs _ le lt h b refl) e

-- what is clipped fits 16 bits, after a pass too
pub clipped_bounded : (N : ℕ) (xs ys : List ℤ) → ys ≡ block N (turned_by after_columns N xs) → Bounded 32768 ys
clipped_bounded N xs ys e = bounded_along 32768 32768 _ ys (omega arith) e (block_bounded N 32768 (turned_by after_columns N xs) (λ i j _ _. clip_abs (floor_shift (at N xs j i +ℤ pos 64) 7)))

pub pass_bounded : (N : ℕ) (P : Matrix) (xs ys : List ℤ) → ys ≡ passed after_columns P N xs → Bounded 32768 ys
pass_bounded N P xs ys e = clipped_bounded N (block N (product N P (at N xs))) ys e

-- coefficients too, where the levels of a block are scaled
pub coefficients_bounded : (N q : ℕ) (levels : Matrix) (ys : List ℤ) → ys ≡ block N (coefficients N q levels) → Bounded 32768 ys
unfolding coefficient
coefficients_bounded N q levels ys e = bounded_along 32768 32768 _ ys (omega arith) e (block_bounded N 32768 (coefficients N q levels) (λ i j _ _. clip_abs (floor_shift (levels i j *ℤ pos (16 * scale q) +ℤ pos (2 ^ (log2 N + 2))) (log2 N + 3))))

pub scaled_bounded : (N q : ℕ) (xs ys : List ℤ) → length xs ≡ N * N → ys ≡ map (coefficient (log2 N) (scale q)) xs → Bounded 32768 ys
scaled_bounded N q xs ys many e = coefficients_bounded N q (at N xs) ys (e ∙ map_block N _ xs many)

-- what a way through a block, in two passes, needs
pub ruleset ways = (shape_parts, residuals_bounded, shorts_bounded, bounded_along, pass_bounded, scaled_bounded)
