-- What a transform means: three fixed functions of a standard's number, a side and a step. Assumes nothing.
use Rattle.std.specs.Prelude.{◌≡◌, ℕ, ◌*◌, ◌≤◌, Bool, true, false, cond, ◌&&◌, ◌||◌, List, [], ◌∷◌, length, ℤ, pos, negsuc, Some, None, Option, ◌==◌, int_le}

-- the rules of one standard, by side and step: whether they are usable, the levels chosen for a residual block, and the
-- residual block rebuilt from levels, or none
pub record Rules : Type 0 where
  pub usable : ℕ → ℕ → Bool
  pub chosen : ℕ → ℕ → List ℤ → List ℤ
  pub rebuilt : ℕ → ℕ → List ℤ → Option (List ℤ)

-- the rules at each standard's number
abbrev pub Meaning : Type 0
Meaning = ℕ → Rules

-- nothing is usable
abbrev pub unserved : Rules
unserved = record { usable = λ side step. false; chosen = λ side step xs. []; rebuilt = λ side step xs. None }

-- a transform of one standard: its rules at its own number, and nothing at any other
abbrev pub only_at : ℕ → Rules → Meaning
only_at number rules standard = cond (standard == number) rules unserved

-- a side is 4, 8, 16 or 32
abbrev pub sided : ℕ → Bool
sided n = n == 4 || (n == 8 || (n == 16 || n == 32))

-- low ≤ x ≤ high for each x
abbrev pub within : ℤ → ℤ → List ℤ → Bool
within low high [] = true
within low high (x ∷ xs) = (int_le low x && int_le x high) && within low high xs

-- each value is a residual, -255 .. 255
abbrev pub residuals : List ℤ → Bool
residuals = within (negsuc 254) (pos 255)

-- each value fits 16 bits, -32,768 .. 32,767
abbrev pub shorts : List ℤ → Bool
shorts = within (negsuc 32767) (pos 32767)

-- side · side values of 16 bits
pub record Block (side : ℕ) (xs : List ℤ) : Type 0 where
  pub many : length xs ≡ side * side
  pub small : shorts xs ≡ true

-- what a transform shows of its rules: no step above 65,535 is usable, and what is chosen or rebuilt is a block
pub record Sound (r : Rules) : Type 0 where
  pub steps : (side step : ℕ) → r.usable side step ≡ true → step ≤ 65535
  pub choices : (side step : ℕ) (xs : List ℤ) → sided side ≡ true → r.usable side step ≡ true → length xs ≡ side * side → residuals xs ≡ true → Block side (r.chosen side step xs)
  pub rebuilds : (side step : ℕ) (xs ys : List ℤ) → sided side ≡ true → r.usable side step ≡ true → Block side xs → r.rebuilt side step xs ≡ Some ys → Block side ys
