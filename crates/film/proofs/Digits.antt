-- How many digits a number has, and the minus before them. Assumes nothing.
use Rattle.std.proofs.Common.{◌≡◌, ℕ, ◌+◌, ◌/◌, ◌^◌, ◌<◌, ◌≤◌, ◌∷◌, true, length, decimal, ℤ, pos, negsuc, nat_abs, sym, ap, ◌∙◌, arith, w32, SFits, to_z, of_z}
use Rattle.std.specs.Fmt.{signed_decimal}
use lib.Signed.{lt_z}
use Rattle.std.proofs.lemmas.Bool.{ltb-true}
use Rattle.std.proofs.lemmas.Fmt.{length-decimal-le, decimal_digit, decimal_step}
use Rattle.std.proofs.lemmas.Int.{to_z-of_z}
use Rattle.std.proofs.lemmas.List.{length-append}

pub len_digit : (n : ℕ) → n < 10 → length (decimal n) ≡ 1
len_digit n h = ap length (decimal_digit n h)

pub len_step : (n : ℕ) → 10 ≤ n → n < 2 ^ 64 → length (decimal n) ≡ length (decimal (n / 10)) + 1
len_step n h k = ap length (decimal_step n h k) ∙ length-append (decimal (n / 10)) _

pub digits_few : (n r : ℕ) → n < 2 ^ 32 → r ≡ length (decimal n) → r ≤ 10
digits_few n r h e = omega (arith, e, length-decimal-le 10 n (omega arith) (omega arith) (omega arith))

pub digits_short : (n r : ℕ) → r ≡ length (decimal n) → n < 65536 → r ≤ 5
digits_short n r e h = omega (arith, e, length-decimal-le 5 n (omega arith) (omega arith) (omega arith))

-- a number with a minus, as the checker reads it
minus_is : (z : ℤ) (n : ℕ) → lt_z z (pos 0) ≡ true → n ≡ nat_abs z → 45 ∷ decimal n ≡ signed_decimal z
minus_is (pos k) n h e = absurd (omega (arith, ltb-true k 0 h))
minus_is (negsuc k) n h e = ap (λ m. 45 ∷ decimal m) e

pub signed_minus : (z : ℤ) (n : ℕ) → SFits w32 z → lt_z (to_z w32 (of_z w32 z)) (pos 0) ≡ true → n ≡ nat_abs (to_z w32 (of_z w32 z)) → 45 ∷ decimal n ≡ signed_decimal z
signed_minus z n f h e = let c = to_z-of_z w32 z f in minus_is z n (sym (ap (λ y. lt_z y (pos 0)) c) ∙ h) (e ∙ ap nat_abs c)
