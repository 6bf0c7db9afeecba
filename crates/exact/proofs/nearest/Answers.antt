-- The magnitude fits 64 bits, and with its sign it is the nearest whole number.
use Rattle.std.proofs.Common.{◌≡◌, ℕ, ◌^◌, ◌<◌, true, false, ℤ, pos, negsuc, ◌-ℤ◌, neg_ℤ, nat_abs, sym, refl, ap, ◌∙◌, subst, arith, w64, SFits, to_z, of_z}
use lib.Signed.{lt_z}
use borrow.Author.Differences.{ints}
use Rattle.std.proofs.lemmas.Int.{to_z-of_z, to_z_pos}
use Rattle.std.proofs.lemmas.Bool.{true≢false}
use Rattle.exact.specs.Rounding.{halves_down, nearest, Closest}
use Rattle.exact.proofs.Rounding.{nearest_closest, nearest_only, quotient_small}
use Rattle.exact.proofs.nearest.Goals as goal

nearest_up : (y : ℤ) (d : ℕ) → lt_z y (pos 0) ≡ false → pos (halves_down (nat_abs y) d) ≡ nearest y d
unfolding nearest
nearest_up (pos a) d t = refl
nearest_up (negsuc a) d t = absurd (true≢false t)

nearest_down : (y : ℤ) (d : ℕ) → lt_z y (pos 0) ≡ true → neg_ℤ (pos (halves_down (nat_abs y) d)) ≡ nearest y d
unfolding nearest
nearest_down (pos a) d t = absurd (omega (arith, ints, t))
nearest_down (negsuc a) d t = refl

minus : (n : ℕ) → n < 2 ^ 62 → to_z w64 (of_z w64 (pos 0 -ℤ pos n)) ≡ neg_ℤ (pos n)
minus n h = omega (arith, ints)

-- y goes to bits and back, u is its magnitude, and m that of the result
module _ (y : ℤ) (d u m : ℕ) (f : SFits w64 y) (e : u ≡ nat_abs (to_z w64 (of_z w64 y))) (q : m ≡ halves_down u d) (p : 0 < d) (s : nat_abs y < 2 ^ 62) where
  same : m ≡ halves_down (nat_abs y) d
  same = q ∙ ap (λ n. halves_down n d) (e ∙ ap nat_abs (to_z-of_z w64 y f))

  small : m < 2 ^ 62
  small = omega (arith, quotient_small (nat_abs y) d p, same)

  fits : SFits w64 (pos m)
  fits = record { sfits = omega (arith, small) }

  back : to_z w64 m ≡ pos m
  back = to_z_pos w64 m (omega (arith, small))

  up_is : lt_z (to_z w64 (of_z w64 y)) (pos 0) ≡ false → to_z w64 m ≡ nearest y d
  up_is t = back ∙ ap pos same ∙ nearest_up y d (subst (λ z. lt_z z (pos 0) ≡ false) (to_z-of_z w64 y f) t)

  down_is : lt_z (to_z w64 (of_z w64 y)) (pos 0) ≡ true → to_z w64 (of_z w64 (pos 0 -ℤ to_z w64 m)) ≡ nearest y d
  down_is t =
      ap (λ z. to_z w64 (of_z w64 (pos 0 -ℤ z))) back
      ∙ minus m small
      ∙ ap (λ n. neg_ℤ (pos n)) same
      ∙ nearest_down y d (subst (λ z. lt_z z (pos 0) ≡ true) (to_z-of_z w64 y f) t)

-- what holds of the nearest number holds of the result
module _ (y : ℤ) (d : ℕ) (p : 0 < d) (r : ℤ) (e : r ≡ nearest y d) where
  is_closest : Closest y d r
  is_closest = subst (λ z. Closest y d z) (sym e) (nearest_closest y d p)

  is_only : (z : ℤ) → Closest y d z → z ≡ r
  is_only z h = nearest_only y d p z h ∙ sym e

pub returns-then-y-lt0 : goal.returns-then-y-lt0
returns-then-y-lt0 c =
    let e = down_is c.args.y c.args.d _ _ c.ranges.y c.unsigned_abs.ensures.value c.halves_down-magnitude.ensures c.requires.divisor.0 c.requires.dividend c.if-y-lt0.true in
    record { value = e; closest = is_closest c.args.y c.args.d c.requires.divisor.0 _ e; only = is_only c.args.y c.args.d c.requires.divisor.0 _ e }

pub returns-else-y-lt0 : goal.returns-else-y-lt0
returns-else-y-lt0 c =
    let e = up_is c.args.y c.args.d _ _ c.ranges.y c.unsigned_abs.ensures.value c.halves_down-magnitude.ensures c.requires.divisor.0 c.requires.dividend c.if-y-lt0.false in
    record { value = e; closest = is_closest c.args.y c.args.d c.requires.divisor.0 _ e; only = is_only c.args.y c.args.d c.requires.divisor.0 _ e }
