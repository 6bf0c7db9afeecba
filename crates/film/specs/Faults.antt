-- The numbers of refusals, and refusals made of missing values. Assumes nothing.
use Rattle.std.specs.Prelude.{ℕ, List, codes, Option, Result}
use Rattle.std.specs.Option.{ok_or}
use Rattle.film.specs.declared.fault.Fault.{Fault}
use Rattle.film.specs.declared.fault.Fault.TheVariants.{Unended, BadLine, BadField}

-- the number of a refusal
abbrev pub number : Fault → ℕ
number Unended = 9
number BadLine = 10
number BadField = 11

-- its text for people
abbrev pub message : Fault → List ℕ
message Unended = codes "the text ends before the line does"
message BadLine = codes "no line has this letter and number of fields"
message BadField = codes "a field is badly written, out of order or out of range"

-- 11 where a field has no value
abbrev pub or_bad_field : {X : Type 0} → Option X → Result X Fault
or_bad_field o = ok_or o BadField
