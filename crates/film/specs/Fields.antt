-- Cutting bytes into lines and fields. Assumes nothing.
use Rattle.std.specs.Prelude.{ℕ, suc, ◌+◌, Bool, true, cond, List, [], ◌∷◌, ◌++◌, length, take, drop, Some, None, Option, ◌==◌, nat_lt}
use Rattle.std.specs.Borrow.{Bor}

-- the letters M, Q, S, T and R
abbrev pub letter_m : ℕ
letter_m = 77

abbrev pub letter_q : ℕ
letter_q = 81

abbrev pub letter_s : ℕ
letter_s = 83

abbrev pub letter_t : ℕ
letter_t = 84

abbrev pub letter_r : ℕ
letter_r = 82

-- how many bytes stand before the first b: all of them where there is none
abbrev pub place : ℕ → List ℕ → ℕ
place b [] = 0
place b (x ∷ xs) = cond (x == b) 0 (suc (place b xs))

-- what stands before the first b, and what after it
abbrev pub cut_at : ℕ → List ℕ → Option (List ℕ × List ℕ)
cut_at b xs = cond (nat_lt (place b xs) (length xs)) (Some (take (place b xs) xs, drop (place b xs + 1) xs)) None

-- what a call cut
abbrev pub cut_seen : Option (Bor (List ℕ) × Bor (List ℕ)) → Option (List ℕ × List ℕ)
cut_seen (Some p) = Some (p.0.now, p.1.now)
cut_seen None = None

-- a byte in front of the first field
abbrev pub onto : ℕ → List (List ℕ) → List (List ℕ)
onto x [] = (x ∷ []) ∷ []
onto x (f ∷ fs) = (x ∷ f) ∷ fs

-- what stands between the tabs: always one field more than tabs
abbrev pub at_tabs : List ℕ → List (List ℕ)
at_tabs [] = [] ∷ []
at_tabs (x ∷ xs) = cond (x == 9) ([] ∷ at_tabs xs) (onto x (at_tabs xs))

-- what follows a letter is nothing, or begins with a tab
abbrev pub begun : List ℕ → Bool
begun [] = true
begun (x ∷ xs) = x == 9

-- the fields of what follows a letter, each with a tab before it
abbrev pub fields : List ℕ → List (List ℕ)
fields [] = []
fields (x ∷ xs) = at_tabs xs

-- the fields put together, each with a tab before it, and then the end
abbrev pub tabbed : List (List ℕ) → List ℕ → List ℕ
tabbed [] end = end
tabbed (f ∷ fs) end = 9 ∷ (f ++ tabbed fs end)
