-- What is written inside a line, field by field, and through a cursor: only inner functions speak of it. Assumes nothing.
use Rattle.std.specs.Prelude.{◌≡◌, ℕ, ◌+◌, ◌≤◌, List, [], ◌∷◌, map, length, decimal}
use Rattle.std.specs.Fmt.{signed_decimal}
use Rattle.film.specs.declared.field.Field.{Field}
use Rattle.film.specs.declared.field.Field.TheVariants.{Name, Number, Level}
use Rattle.film.specs.declared.cursor.Cursor.{Cursor}
use Rattle.film.specs.Standards.{name_of}
use Rattle.film.specs.Fields.{tabbed}
use Rattle.film.specs.Texts.{Put}

-- the text of a field
abbrev pub field_text : Field → List ℕ
field_text (Name standard) = name_of standard
field_text (Number n) = decimal n
field_text (Level z) = signed_decimal z

-- the same with the tab before it
abbrev pub tabbed_text : Field → List ℕ
tabbed_text f = 9 ∷ field_text f

-- no field of its kind is longer, with its tab
abbrev pub widest : Field → ℕ
widest (Name standard) = 5
widest (Number n) = 6
widest (Level z) = 12

-- a letter, the fields, each with a tab before it, and byte 10
abbrev pub line_text : ℕ → List Field → List ℕ
line_text letter fs = letter ∷ tabbed (map field_text fs) (10 ∷ [])

-- the memory from a cursor's place on has room for a text
pub record HasRoom (t : List ℕ) (c : Cursor) : Type 0 where
  pub room : c.at + length t ≤ length c.out.now

-- a text was put into the cursor's memory at its place, and its place is the one behind the text
pub record Puts (t : List ℕ) (before after : Cursor) : Type 0 where
  pub memory : after.out.ghost_name ≡ before.out.ghost_name
  pub put : Put before.at t before.out.now after.at after.out.now
