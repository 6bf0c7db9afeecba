-- Texts of many lines, and what reading and writing have to do with each other. Assumes nothing.
use Rattle.std.specs.Prelude.{◌≡◌, ℕ, zero, suc, List, [], ◌∷◌, ◌++◌, length, drop, Some, Ok, Err, Result}
use Rattle.film.specs.declared.fault.Fault.{Fault}
use Rattle.film.specs.Numbers.{number_in}
use Rattle.film.specs.Leaves.{levels_after, samples_after}
use Rattle.film.specs.Lines.{Parts, M, Q, S, T, R, line_of}
use Rattle.film.specs.Texts.{Entry, setting, square, split, levels, raw, text_of}

-- the first line of the text says this, and the rest follows it
abbrev pub Reads : Entry → List ℕ → List ℕ → Type 0
Reads (setting name step tolerance) text rest =
    (a : List ℕ) × (b : List ℕ) × (line_of text ≡ Ok (M name a b, rest)) × (number_in a ≡ Some step) × (number_in b ≡ Some tolerance)
Reads (square column row) text rest =
    (a : List ℕ) × (b : List ℕ) × (line_of text ≡ Ok (Q a b, rest)) × (number_in a ≡ Some column) × (number_in b ≡ Some row)
Reads split text rest = line_of text ≡ Ok (S, rest)
Reads (levels zs) text rest = (tail : List ℕ) × (line_of text ≡ Ok (T tail, rest)) × (levels_after (length zs) tail ≡ Ok zs)
Reads (raw ss) text rest = (tail : List ℕ) × (line_of text ≡ Ok (R tail, rest)) × (samples_after (length ss) tail ≡ Ok ss)

-- the text can be read to its end, and these are its lines
abbrev pub Film : List Entry → List ℕ → Type 0
Film [] text = text ≡ []
Film (e ∷ es) text = (rest : List ℕ) × Reads e text rest × Film es rest

-- no other text has the same lines
abbrev pub Alone : List ℕ → Type 0
Alone text = (es : List Entry) (other : List ℕ) → Film es text → Film es other → other ≡ text

-- the line's text is read back to what the line says, whatever follows it
abbrev pub ReadsBack : Entry → Type 0
ReadsBack e = (rest : List ℕ) → Reads e (text_of e ++ rest) rest

-- the line stands in the memory from one place on, and what follows it from another on
abbrev pub ReadsAt : Entry → ℕ → ℕ → List ℕ → Type 0
ReadsAt e at next memory = Reads e (drop at memory) (drop next memory)

-- the number of lines that a text says is what a call counted
abbrev pub Counts : List ℕ → Result ℕ Fault → Type 0
Counts text r = (es : List Entry) → Film es text → r ≡ Ok (length es)

-- one line more
abbrev pub one_more : Result ℕ Fault → Result ℕ Fault
one_more (Ok n) = Ok (suc n)
one_more (Err e) = Err e

-- one line, and then those of the rest
abbrev pub count_on : (List ℕ → Result ℕ Fault) → Result (Parts × List ℕ) Fault → Result ℕ Fault
count_on more (Ok p) = one_more (more p.1)
count_on more (Err e) = Err e

-- how many lines a text has that can be read to its end; k lines are looked for, and no text has more lines than bytes
unfoldable pub line_count : ℕ → List ℕ → Result ℕ Fault
line_count zero text = Ok 0
line_count (suc k) [] = Ok 0
line_count (suc k) (x ∷ xs) = count_on (λ rest. line_count k rest) (line_of (x ∷ xs))
