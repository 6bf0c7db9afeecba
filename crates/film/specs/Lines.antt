-- What a line of film is, over lists of bytes. Assumes nothing.
use Rattle.std.specs.Prelude.{◌≡◌, ℕ, cond, List, [], ◌∷◌, ◌++◌, ◌<◌, length, drop, Some, None, Ok, Err, Option, Result, ◌==◌}
use Rattle.std.specs.Borrow.{Bor}
use Rattle.film.specs.declared.fault.Fault.{Fault}
use Rattle.film.specs.declared.fault.Fault.TheVariants.{Unended, BadLine}
use Rattle.film.specs.declared.line.Line.{Line}
use Rattle.film.specs.declared.line.Line.TheVariants.{Setting, Square, Split, Levels, Raw}
use Rattle.film.specs.Fields.{letter_m, letter_q, letter_s, letter_t, letter_r, cut_at, at_tabs, tabbed}

-- a line by its letter, with its fields as bytes; leaves have all that follows the letter
pub data Parts : Type 0 where
  M : List ℕ → List ℕ → List ℕ → Parts
  Q : List ℕ → List ℕ → Parts
  S : Parts
  T : List ℕ → Parts
  R : List ℕ → Parts

-- the parts of a line that a call read
abbrev pub parts_of : Line → Parts
parts_of (Setting name step tolerance) = M name.now step.now tolerance.now
parts_of (Square column row) = Q column.now row.now
parts_of Split = S
parts_of (Levels pairs) = T pairs.now
parts_of (Raw samples) = R samples.now

-- `M`, by its fields: three
abbrev pub m_line : List (List ℕ) → Result Parts Fault
m_line (a ∷ b ∷ c ∷ []) = Ok (M a b c)
m_line [] = Err BadLine
m_line (a ∷ []) = Err BadLine
m_line (a ∷ b ∷ []) = Err BadLine
m_line (a ∷ b ∷ c ∷ d ∷ ds) = Err BadLine

-- `Q`: two
abbrev pub q_line : List (List ℕ) → Result Parts Fault
q_line (a ∷ b ∷ []) = Ok (Q a b)
q_line [] = Err BadLine
q_line (a ∷ []) = Err BadLine
q_line (a ∷ b ∷ c ∷ cs) = Err BadLine

-- `S`: none
abbrev pub s_line : List (List ℕ) → Result Parts Fault
s_line [] = Ok S
s_line (a ∷ as') = Err BadLine

-- by the letter, all that follows it, and the fields there
abbrev pub by_letter : ℕ → List ℕ → List (List ℕ) → Result Parts Fault
by_letter letter tail fs =
    cond (letter == letter_m) (m_line fs)
    (cond (letter == letter_q) (q_line fs)
    (cond (letter == letter_s) (s_line fs)
    (cond (letter == letter_t) (Ok (T tail)) (cond (letter == letter_r) (Ok (R tail)) (Err BadLine)))))

-- the first field is one letter
abbrev pub by_fields : List ℕ → List (List ℕ) → Result Parts Fault
by_fields line [] = Err BadLine
by_fields line ([] ∷ fs) = Err BadLine
by_fields line ((letter ∷ []) ∷ fs) = by_letter letter (drop 1 line) fs
by_fields line ((x ∷ y ∷ ys) ∷ fs) = Err BadLine

-- a line without its byte 10
abbrev pub parse : List ℕ → Result Parts Fault
parse line = by_fields line (at_tabs line)

-- what a call parsed
abbrev pub parse_seen : Result Line Fault → Result Parts Fault
parse_seen (Ok l) = Ok (parts_of l)
parse_seen (Err e) = Err e

-- the line and the unread rest
abbrev pub with_rest : List ℕ → Result Parts Fault → Result (Parts × List ℕ) Fault
with_rest rest (Ok p) = Ok (p, rest)
with_rest rest (Err e) = Err e

-- a line that was cut off, or 9
abbrev pub cut_line : Option (List ℕ × List ℕ) → Result (Parts × List ℕ) Fault
cut_line (Some p) = with_rest p.1 (parse p.0)
cut_line None = Err Unended

-- the first line of a text: up to the first byte 10
unfoldable pub line_of : List ℕ → Result (Parts × List ℕ) Fault
line_of text = cut_line (cut_at 10 text)

-- what a call read
abbrev pub line_seen : Result (Line × Bor (List ℕ)) Fault → Result (Parts × List ℕ) Fault
line_seen (Ok p) = Ok (parts_of p.0, p.1.now)
line_seen (Err e) = Err e

-- a line's letter and parts, and what follows it, put together
abbrev pub together : Parts → List ℕ → List ℕ
together (M a b c) rest = letter_m ∷ tabbed (a ∷ b ∷ c ∷ []) (10 ∷ rest)
together (Q a b) rest = letter_q ∷ tabbed (a ∷ b ∷ []) (10 ∷ rest)
together S rest = letter_s ∷ 10 ∷ rest
together (T tail) rest = letter_t ∷ (tail ++ (10 ∷ rest))
together (R tail) rest = letter_r ∷ (tail ++ (10 ∷ rest))

-- what was read, put together, is the text
abbrev pub Joins : Result (Parts × List ℕ) Fault → List ℕ → Type 0
Joins (Ok p) text = together p.0 p.1 ≡ text
Joins (Err e) text = Unit {0}

-- a call that reads the next line of a text, with what is left after it; nothing comes after the end
abbrev pub ReadsLine : List ℕ → Option (Result Line Fault) → List ℕ → Type 0
ReadsLine text None rest = text ≡ []
ReadsLine text (Some (Ok l)) rest = (0 < length text) × (line_of text ≡ Ok (parts_of l, rest))
ReadsLine text (Some (Err e)) rest = (0 < length text) × (line_of text ≡ Err e)
