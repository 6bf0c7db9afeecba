-- What is chosen and what is rebuilt are blocks of 16 bits, for every legal input. Assumes nothing.
use Rattle.std.specs.Prelude.{◌≡◌, ℕ, ◌+◌, ◌*◌, ◌<◌, ◌≤◌, Bool, true, ◌⊎◌, List, ℤ, pos, ◌+ℤ◌, nat_le, unsigned_abs}
use Rattle.std.proofs.Common.{subst, inl, inr, arith}
use Rattle.std.proofs.lemmas.Int.{ints}
use Rattle.std.proofs.lemmas.Bool.{and_parts, leb-true}
use Rattle.std.proofs.lemmas.Nat.{mul-le}
use Rattle.exact.specs.Sums.{Matrix, product, transposed, Bounded}
use Rattle.exact.specs.Blocks.{at}
use Rattle.exact.specs.Rounding.{floor_shift}
use Rattle.exact.proofs.Sums.{product_abs}
use Rattle.exact.proofs.Blocks.{length_block, block_bounded}
use Rattle.exact.proofs.Rounding.{clip_abs, round_near, nearest_within}
use Rattle.transform.specs.Meaning.{Sound, Block, sided}
use Rattle.transform.specs.Ranges.{residuals_bounded, bounded_shorts}
use Rattle.transform.proofs.Sides.{side_cases, side_range}
use Rattle.hevc.specs.Scaling.{scale}
use Rattle.hevc.specs.Passes.{coefficients, columns, rows, rebuilt_by, spectrum, level_of, chosen_by}
use Rattle.hevc.specs.Hevc.{rules_of}
use Rattle.hevc.specs.Scales.{scale_least}

-- no level passes 16 bits, even at the finest step
level_room : (N s y : ℕ) → sided N ≡ true → 40 ≤ s → y ≤ N * ((N * (90 * 255)) * 90) → y ≤ 32767 * (64 * N * s)
level_room N s y side least h = by (side_cases N side)
  where
    by : (N ≡ 4) ⊎ ((N ≡ 8) ⊎ ((N ≡ 16) ⊎ (N ≡ 32))) → y ≤ 32767 * (64 * N * s)
    by (inl e) = rw e (let k = rw e at h in omega arith)
    by (inr (inl e)) = rw e (let k = rw e at h in omega arith)
    by (inr (inr (inl e))) = rw e (let k = rw e at h in omega arith)
    by (inr (inr (inr e))) = rw e (let k = rw e at h in omega arith)

module _ (A : Matrix) (N q : ℕ) (side : sided N ≡ true) (h : (i j : ℕ) → unsigned_abs (A i j) ≤ 90) where
  spectrum_abs : (X : Matrix) → ((i j : ℕ) → unsigned_abs (X i j) ≤ 255) → (i j : ℕ) → unsigned_abs (spectrum N A X i j) ≤ N * ((N * (90 * 255)) * 90)
  spectrum_abs X b i j = product_abs N (product N A X) (transposed A) i j (N * (90 * 255)) 90
      (λ k _. product_abs N A X i k 90 255 (λ l _. h i l) (λ l _. b l k)) (λ k _. h j k)

  pub chosen_block : (xs : List ℤ) → q ≤ 51 → Bounded 255 xs → Block N (chosen_by A N q xs)
  unfolding chosen_by
  chosen_block xs le b =
      let r = side_range N side in
      let s = scale_least q le in
      record {
        many = length_block N _;
        small = bounded_shorts _ (block_bounded N 32767 (λ i j. level_of N q (spectrum N A (at N xs) i j))
            (λ i j _ _. nearest_within (spectrum N A (at N xs) i j) (64 * N * scale q) 32767 (positive r.0 s) (level_room N (scale q) _ side s (spectrum_abs (at N xs) (λ i j. b (i * N + j)) i j))));
      }
    where
      positive : 0 < N → 40 ≤ scale q → 0 < 64 * N * scale q
      positive p s = omega (arith, mul-le 1 1 N (scale q) p (omega arith))

  row_abs : (T : Matrix) → ((i j : ℕ) → unsigned_abs (T i j) ≤ 32768) → (i j : ℕ) → unsigned_abs (rows N A T i j) ≤ 32767
  row_abs T b i j =
      let r = side_range N side in
      let z = product N (transposed A) (transposed T) j i in
      let p : unsigned_abs z ≤ N * (90 * 32768) = product_abs N (transposed A) (transposed T) j i 90 32768 (λ k _. h k j) (λ k _. b i k) in
      let n = round_near z 12 (omega arith) in
      omega (arith, ints)

  pub rebuilt_block : (levels : List ℤ) → Block N (rebuilt_by A N q levels)
  unfolding rebuilt_by
  rebuilt_block levels = record {
    many = length_block N _;
    small = bounded_shorts _ (block_bounded N 32767 (rows N A (columns N A (coefficients N q (at N levels))))
        (λ i j _ _. row_abs (columns N A (coefficients N q (at N levels))) (λ i j. clip_abs (floor_shift (product N (transposed A) (coefficients N q (at N levels)) i j +ℤ pos 64) 7)) i j));
  }

pub rules_sound : (served : ℕ → Bool) (matrix : ℕ → Matrix) → ((side i j : ℕ) → unsigned_abs (matrix side i j) ≤ 90) → Sound (rules_of served matrix)
rules_sound served matrix h = record {
  steps = λ side step u. omega (arith, leb-true step 51 (and_parts (served side) (nat_le step 51) u).1);
  choices = λ side step xs s u l r. chosen_block (matrix side) side step s (h side) xs (leb-true step 51 (and_parts (served side) (nat_le step 51) u).1) (residuals_bounded xs r);
  rebuilds = λ side step xs ys s u b e. let z : rebuilt_by (matrix side) side step xs ≡ ys = cc in subst (Block side) z (rebuilt_block (matrix side) side step s (h side) xs);
}
