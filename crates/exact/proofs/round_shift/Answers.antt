-- The sum fits 32 bits, so the shift of it is the rounded one.
use Rattle.std.proofs.Common.{◌≡◌, ℕ, ◌-◌, ◌*◌, ◌%◌, ◌^◌, ◌≤◌, ℤ, pos, ◌+ℤ◌, ◌-ℤ◌, ◌*ℤ◌, nat_abs, sym, ap, ◌∙◌, subst, ap₂, arith, w32, SFits, to_z, of_z}
use native.Mathlib.Nat.{pow-le-pow_right}
use borrow.Author.Differences.{ints}
use Rattle.std.proofs.lemmas.Int.{to_z-of_z, to_z_pos}
use Rattle.std.proofs.lemmas.Nat.{one_shl}
use Rattle.exact.specs.Rounding.{floor_shift, round_shift}
use Rattle.exact.proofs.Rounding.{round_near}
use Rattle.exact.proofs.round_shift.Goals as goal

abbrev sum : ℤ → ℕ → ℤ
sum v k = to_z w32 (of_z w32 v) +ℤ to_z w32 ((1 * 2 ^ (k - 1)) % 4294967296)

module _ (v : ℤ) (k : ℕ) (f : SFits w32 v) (low : 1 ≤ k) (high : k ≤ 12) (small : nat_abs v ≤ 2147481599) where
  half_small : 2 ^ (k - 1) ≤ 2048
  half_small = pow-le-pow_right {n = 2} (omega arith) {i = k - 1} {j = 11} (omega arith)

  half_is : to_z w32 ((1 * 2 ^ (k - 1)) % 4294967296) ≡ pos (2 ^ (k - 1))
  half_is = ap (λ n. to_z w32 n) (one_shl (k - 1) 32 (omega arith)) ∙ to_z_pos w32 (2 ^ (k - 1)) (omega (arith, half_small))

  sum_is : sum v k ≡ v +ℤ pos (2 ^ (k - 1))
  sum_is = ap₂ ◌+ℤ◌ (to_z-of_z w32 v f) half_is

  exact_fits : SFits w32 (v +ℤ pos (2 ^ (k - 1)))
  exact_fits = omega (arith, ints, half_small)

  sum_fits : SFits w32 (sum v k)
  sum_fits = subst (λ z. SFits w32 z) (sym sum_is) exact_fits

  -- r is the sum shifted
  module _ (r : ℤ) (e : r ≡ floor_shift (to_z w32 (of_z w32 (sum v k))) k) (g : SFits w32 r) where
    shifted_is : to_z w32 (of_z w32 r) ≡ round_shift v k
    shifted_is = to_z-of_z w32 r g ∙ e ∙ ap (λ z. floor_shift z k) (ap (λ z. to_z w32 (of_z w32 z)) sum_is ∙ to_z-of_z w32 _ exact_fits)

    shifted_near : nat_abs (pos (2 ^ k) *ℤ to_z w32 (of_z w32 r) -ℤ v) ≤ 2 ^ (k - 1)
    shifted_near = subst (λ z. nat_abs (pos (2 ^ k) *ℤ z -ℤ v) ≤ 2 ^ (k - 1)) (sym shifted_is) (round_near v k low)

pub overflow_add-v : goal.overflow_add-v
overflow_add-v c = sum_fits c.args.v c.args.k c.ranges.v c.requires.power.0 c.requires.power.1 c.requires.sum

pub returns : goal.returns
returns c = record {
  value = shifted_is c.args.v c.args.k c.ranges.v c.requires.power.0 c.requires.power.1 c.requires.sum _ c.shift_down.ensures (record { sfits = c.shift_down.type_inv });
  half = shifted_near c.args.v c.args.k c.ranges.v c.requires.power.0 c.requires.power.1 c.requires.sum _ c.shift_down.ensures (record { sfits = c.shift_down.type_inv });
}
