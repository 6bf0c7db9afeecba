-- The scaling number of a step, and a coefficient from it at 32 bits. Assumes nothing.
use Rattle.std.specs.Prelude.{◌≡◌, ℕ, ◌+◌, ◌-◌, ◌*◌, ◌/◌, ◌%◌, ◌^◌, ◌≤◌, [], ◌∷◌, ℤ, pos, ◌+ℤ◌, ◌*ℤ◌, FitsSigned, nat_eq, nat_le, slice_index, unsigned_abs}
use Rattle.std.proofs.Common.{sym, ap, ap₂, subst, ◌∙◌, mul_comm, arith, leb→le, eqb→eq, to_z, of_z}
use Rattle.std.specs.Int.Signed.{shr_z}
use Rattle.std.specs.Int.{w32}
use Rattle.std.proofs.lemmas.Int.{to_z-of_z, to_z_pos, ints}
use Rattle.exact.specs.Rounding.{clip16, round_shift}
use Rattle.exact.proofs.Computed.{upto}
use Rattle.exact.proofs.Rounding.{round_sixteen}
use Rattle.exact.proofs.Sums.{abs_product, mul_assoc}
use Rattle.hevc.specs.Scaling.{scale, coefficient}

-- the scaling number as the code reads it
abbrev coded : ℕ → ℕ
coded q = slice_index (40 ∷ 45 ∷ 51 ∷ 57 ∷ 64 ∷ 72 ∷ []) (q % 6) * ((1 * 2 ^ (q / 6)) % 4294967296)

pub scale_coded : (q : ℕ) → q ≤ 51 → coded q ≡ scale q
unfolding scale
scale_coded q h = eqb→eq (coded q) (scale q) (upto (λ q. nat_eq (coded q) (scale q)) 52 tt q (omega arith))

pub scale_most : (q : ℕ) → q ≤ 51 → scale q ≤ 14592
unfolding scale
scale_most q h = leb→le (scale q) 14592 (upto (λ q. nat_le (scale q) 14592) 52 tt q (omega arith))

pub scale_least : (q : ℕ) → q ≤ 51 → 40 ≤ scale q
unfolding scale
scale_least q h = leb→le 40 (scale q) (upto (λ q. nat_le 40 (scale q)) 52 tt q (omega arith))

sixteen : (x : ℤ) (s : ℕ) → (x *ℤ pos s) *ℤ pos 16 ≡ x *ℤ pos (16 * s)
sixteen x s = mul_assoc x (pos s) (pos 16) ∙ ap (λ n. x *ℤ pos n) (mul_comm s 16)

-- a level x and a scaling number s
module _ (x : ℤ) (s : ℕ) (h : unsigned_abs x ≤ 32768) (l : s ≤ 14592) where
  small : unsigned_abs (x *ℤ pos s) ≤ 478150656
  small = abs_product x (pos s) 32768 14592 h l

  operands : to_z w32 (of_z w32 x) *ℤ to_z w32 s ≡ x *ℤ pos s
  operands = ap₂ ◌*ℤ◌ (to_z-of_z w32 x (omega (arith, ints))) (to_z_pos w32 s (omega arith))

  pub scaled_fits : FitsSigned w32 (to_z w32 (of_z w32 x) *ℤ to_z w32 s)
  scaled_fits = subst (λ z. FitsSigned w32 z) (sym operands) (omega (arith, ints, small))

  pub scaled_is : to_z w32 (of_z w32 (to_z w32 (of_z w32 x) *ℤ to_z w32 s)) ≡ x *ℤ pos s
  scaled_is = to_z-of_z w32 _ scaled_fits ∙ operands

  pub scaled_small : unsigned_abs (to_z w32 (of_z w32 (to_z w32 (of_z w32 x) *ℤ to_z w32 s))) ≤ 2147481599
  scaled_small = rw scaled_is (omega (arith, small))

-- the factor 16 goes out of product and shift
pub coefficient_is : (L s : ℕ) (x : ℤ) → 2 ≤ L → clip16 (round_shift (x *ℤ pos s) (L - 1)) ≡ coefficient L s x
unfolding coefficient
coefficient_is L s x h =
    let a : L - 1 + 3 ≡ L + 2 = omega arith in
    let b : L - 1 + 4 ≡ L + 3 = omega arith in
    ap clip16 (sym (round_sixteen (x *ℤ pos s) (L - 1) (omega arith))
    ∙ ap (λ z. shr_z (z +ℤ pos (2 ^ (L - 1 + 3))) (2 ^ (L - 1 + 4))) (sixteen x s)
    ∙ ap₂ (λ m n. shr_z (x *ℤ pos (16 * s) +ℤ pos (2 ^ m)) (2 ^ n)) a b)
