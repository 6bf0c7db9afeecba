-- Terms and sums of a product, as they go to 32 bits and back. Assumes nothing.
use Rattle.std.proofs.Common.{◌≡◌, ℕ, ◌+◌, ◌<◌, ◌≤◌, ℤ, pos, ◌+ℤ◌, ◌-ℤ◌, neg_ℤ, ◌*ℤ◌, nat_abs, sym, ap, ◌∙◌, subst, ap₂, arith, w32, w64, SFits, to_z, of_z}
use borrow.Author.Differences.{ints}
use Rattle.std.proofs.lemmas.Int.{to_z-of_z}
use Rattle.std.proofs.lemmas.Bool.Decides.{nat_tests}
use Rattle.exact.specs.Sums.{sum_z}
use Rattle.exact.specs.Rounding.{nearest}
use Rattle.exact.proofs.Rounding.{nearest_abs}
use Rattle.exact.proofs.Sums.{abs_product, sum_none, sum_more}
use Rattle.transform.proofs.Sides.{side_range}
use Rattle.hevc.specs.Cosine.{first}
use Rattle.hevc.specs.Entries.{first_small, first_past, turned_abs}
use Rattle.hevc.specs.Scales.{scaled_is, scaled_small, coefficient_is}
use Rattle.std.proofs.lemmas.List.{get_or_default}
use Rattle.std.proofs.lemmas.List.Edits.{map_over_more}
use Rattle.hevc.specs.Limits.{entry_limit, input_limit, term_limit, sum_limit}

pub back32 : (z : ℤ) → nat_abs z ≤ 2147483647 → to_z w32 (of_z w32 z) ≡ z
back32 z h = to_z-of_z w32 z (omega (arith, ints))

-- an entry r that is e, times a number x
module _ (r e x : ℤ) (q : r ≡ e) (h : nat_abs e ≤ entry_limit) (l : nat_abs x ≤ input_limit) where
  small : nat_abs (e *ℤ x) ≤ term_limit
  small = abs_product e x entry_limit input_limit h l

  operands : to_z w32 (of_z w32 r) *ℤ to_z w32 (of_z w32 x) ≡ e *ℤ x
  operands = ap₂ ◌*ℤ◌ (back32 r (rw q (omega arith)) ∙ q) (back32 x (omega arith))

  pub term_fits : SFits w32 (to_z w32 (of_z w32 r) *ℤ to_z w32 (of_z w32 x))
  term_fits = subst (λ z. SFits w32 z) (sym operands) (omega (arith, ints, small))

  pub term_is : to_z w32 (of_z w32 (to_z w32 (of_z w32 r) *ℤ to_z w32 (of_z w32 x))) ≡ e *ℤ x
  term_is = to_z-of_z w32 _ term_fits ∙ operands

  pub term_small : nat_abs (to_z w32 (of_z w32 (to_z w32 (of_z w32 r) *ℤ to_z w32 (of_z w32 x)))) ≤ term_limit
  term_small = rw term_is small

-- one more summand
pub sum_step : (acc r : ℤ) (n : ℕ) (f : ℕ → ℤ) → acc ≡ sum_z n f → r ≡ f n → nat_abs acc + term_limit ≤ sum_limit → nat_abs r ≤ term_limit → to_z w32 (of_z w32 (acc +ℤ to_z w32 (of_z w32 r))) ≡ sum_z (n + 1) f
sum_step acc r n f a b h k = rw (sum_more n f) (rw (← a, ← b) (omega (arith, ints)))

-- a number r of the first column, negated
module _ (r : ℤ) (t : ℕ) (e : r ≡ first t) where
  pub negated_fits : SFits w32 (pos 0 -ℤ to_z w32 (of_z w32 r))
  negated_fits = omega (arith, ints, first_small t)

  pub negated_is : to_z w32 (of_z w32 (pos 0 -ℤ to_z w32 (of_z w32 r))) ≡ neg_ℤ (first t)
  negated_is = omega (arith, ints, first_small t)

-- what the entries of the 32-point matrix need: tests, numbers that go to 32 bits and back, and the first column
pub ruleset entries = (ints, nat_tests, to_z-of_z, negated_fits, negated_is, first_past)

-- what a term needs
pub ruleset terms = (term_fits, term_is, term_small, turned_abs)

-- what a sum needs
pub ruleset sums = (ints, sum_none, sum_step, side_range)

-- what a coefficient needs
pub ruleset scaled = (to_z-of_z, scaled_is, scaled_small, coefficient_is)

-- what numbers changed in their places need
pub ruleset mapped = (to_z-of_z, map_over_more, get_or_default)

-- a sum y, and the level r that is nearest to y / d
module _ (y r : ℤ) (d : ℕ) (h : nat_abs y ≤ sum_limit) (p : 0 < d) (e : r ≡ nearest (to_z w64 (of_z w64 (to_z w32 (of_z w32 y)))) d) where
  level_is : r ≡ nearest y d
  level_is = e ∙ ap (λ z. nearest z d) (let w : to_z w64 (of_z w64 (to_z w32 (of_z w32 y))) ≡ y = omega (arith, ints) in w)

  level_small : nat_abs r ≤ sum_limit
  level_small = rw level_is (omega (arith, nearest_abs y d p))

  pub level_fits : SFits w32 (to_z w64 (of_z w64 r))
  level_fits = omega (arith, ints, level_small)

  pub level_back : to_z w32 (of_z w32 (to_z w64 (of_z w64 r))) ≡ nearest y d
  level_back = (let t : to_z w32 (of_z w32 (to_z w64 (of_z w64 r))) ≡ r = omega (arith, ints, level_small) in t) ∙ level_is
