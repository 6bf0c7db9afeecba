-- Numbers as fields write them: each has one decimal form. Assumes nothing.
use Rattle.std.specs.Prelude.{◌≡◌, ℕ, zero, suc, ◌≤◌, min, cond, List, [], ◌∷◌, ℤ, pos, negsuc, Some, None, Ok, decimal, Option, Result, ◌==◌, nat_le}
use Rattle.std.specs.Fmt.{signed_decimal}
use Rattle.std.specs.Str.{bytes_eq}
use Rattle.film.specs.declared.fault.Fault.{Fault}

-- the number below a limit whose decimal form is the field
unfoldable pub number_below : ℕ → List ℕ → Option ℕ
number_below zero field = None
number_below (suc n) field = cond (bytes_eq field (decimal n)) (Some n) (number_below n field)

-- one more than the greatest number of a film
abbrev pub limit : ℕ
limit = 65536

-- the number that a field writes
abbrev pub number_in : List ℕ → Option ℕ
number_in = number_below limit

-- a number that is not 0, with its sign
abbrev pub plus : Option ℕ → Option ℤ
plus None = None
plus (Some zero) = None
plus (Some (suc n)) = Some (pos (suc n))

abbrev pub minus : Option ℕ → Option ℤ
minus None = None
minus (Some zero) = None
minus (Some (suc n)) = Some (negsuc n)

-- the level that a field writes: not 0, of 16 bits, with a minus where it is negative
unfoldable pub level_in : List ℕ → Option ℤ
level_in [] = None
level_in (b ∷ bs) = cond (b == 45) (minus (number_below 32769 bs)) (plus (number_below 32768 (b ∷ bs)))

-- a number that is not below another
abbrev pub no_less : ℕ → Option ℕ → Option ℕ
no_less from None = None
no_less from (Some p) = cond (nat_le from p) (Some p) None

-- the position that a field writes in a block of n places, not below `from`
abbrev pub position_in : ℕ → ℕ → List ℕ → Option ℕ
position_in from n field = no_less from (number_below (min n limit) field)

-- the answer is a number of a film exactly where the field is that number's decimal form
abbrev pub OneForm : Result ℕ Fault → List ℕ → Type 0
OneForm r field = (n : ℕ) → ((field ≡ decimal n) × (n ≤ 65535) → r ≡ Ok n) × (r ≡ Ok n → (field ≡ decimal n) × (n ≤ 65535))

-- not 0, and of 16 bits
abbrev pub Level : ℤ → Type 0
Level (pos zero) = ⊥
Level (pos (suc n)) = suc n ≤ 32767
Level (negsuc n) = n ≤ 32767

-- the answer is a level exactly where the field is that level's decimal form
abbrev pub OneSignedForm : Result ℤ Fault → List ℕ → Type 0
OneSignedForm r field = (z : ℤ) → ((field ≡ signed_decimal z) × Level z → r ≡ Ok z) × (r ≡ Ok z → (field ≡ signed_decimal z) × Level z)
