-- What lines say, and the text of each. Assumes nothing.
use Rattle.std.specs.Prelude.{◌≡◌, ℕ, ◌+◌, List, [], ◌∷◌, ◌++◌, map, length, take, drop, ℤ, decimal}
use Rattle.film.specs.declared.setting.Setting.{Setting}
use Rattle.film.specs.Standards.{name_of}
use Rattle.film.specs.Fields.{letter_m, letter_q, letter_s, letter_t, letter_r, tabbed}
use Rattle.film.specs.Leaves.{nonzeros, pair_fields}

-- a line as what it says: names, numbers and blocks
pub data Entry : Type 0 where
  setting : List ℕ → ℕ → ℕ → Entry
  square : ℕ → ℕ → Entry
  split : Entry
  levels : List ℤ → Entry
  raw : List ℕ → Entry

-- its letter
abbrev pub letter_of : Entry → ℕ
letter_of (setting name step tolerance) = letter_m
letter_of (square column row) = letter_q
letter_of split = letter_s
letter_of (levels zs) = letter_t
letter_of (raw ss) = letter_r

-- its fields
abbrev pub fields_of : Entry → List (List ℕ)
fields_of (setting name step tolerance) = name ∷ decimal step ∷ decimal tolerance ∷ []
fields_of (square column row) = decimal column ∷ decimal row ∷ []
fields_of split = []
fields_of (levels zs) = pair_fields (nonzeros 0 zs)
fields_of (raw ss) = map decimal ss

-- the line of a setting
abbrev pub of_setting : Setting → Entry
of_setting s = setting (name_of s.standard) s.step s.tolerance

-- the fields of one cell of a block of levels: none where the level is 0
abbrev pub cell_text : ℕ → ℤ → List ℕ
cell_text i z = tabbed (pair_fields (nonzeros i (z ∷ []))) []

-- the letter, the fields, each with a tab before it, and byte 10
unfoldable pub text_of : Entry → List ℕ
text_of e = letter_of e ∷ tabbed (fields_of e) (10 ∷ [])

-- xs with a text put over it from a place on
abbrev pub overwritten : ℕ → List ℕ → List ℕ → List ℕ
overwritten at text xs = take at xs ++ (text ++ drop (at + length text) xs)

-- ys is xs after a text was put at a place, and r is the place behind it
pub record Put (at : ℕ) (t xs : List ℕ) (r : ℕ) (ys : List ℕ) : Type 0 where
  pub next : r ≡ at + length t
  pub text : ys ≡ overwritten at t xs
