-- When a transform gives what a case expects. Assumes nothing.
use Rattle.std.specs.Prelude.{◌≡◌, ℕ, ◌*◌, true, ◌⊎◌, List, length, ℤ, Some, None, Ok, Err, vec_items, vec_len, Option, Result}
use Rattle.std.specs.Option.{option_map}
use Rattle.transform.specs.declared.fault.Fault.{Fault}
use Rattle.transform.specs.Meaning.{Rules, sided}
use Rattle.transform.specs.Outcome.{number, rebuilding}
use Rattle.hevc.specs.Hevc.{hevc}
use Rattle.film.specs.declared.standard.Standard.{Standard}
use Rattle.film.specs.declared.standard.Standard.TheVariants.{Hevc, H264, Vc1}
use Rattle.film.specs.Standards.{number_of}
use Rattle.vectors.specs.declared.case.Case.{Case}
use Rattle.vectors.specs.declared.verdict.Verdict.{Verdict}
use Rattle.vectors.specs.declared.verdict.Verdict.TheVariants.{Same, Differs, Unserved, Unreadable}

-- the block that a case expects, if it expects one
abbrev pub values_of : Case → Option (List ℤ)
values_of c = option_map vec_items c.expected

-- an expected block has so many values
abbrev pub Fills : ℕ → Option (List ℤ) → Type 0
Fills area (Some values) = length values ≡ area
Fills area None = Unit {0}

-- a side, with levels and an expected block that are side · side long
abbrev pub Whole : Case → Type 0
Whole c = (sided c.side ≡ true) × (vec_len c.levels ≡ c.side * c.side) × Fills (c.side * c.side) (values_of c)

-- what an answer of `rebuild` says, with the block that it left
abbrev pub outcome : Result (Unit {0}) Fault → List ℤ → Result (List ℤ) Fault
outcome (Ok u) xs = Ok xs
outcome (Err fault) xs = Err fault

-- the expected values are rebuilt, or none are expected and refusal 34 says that there are none
abbrev pub Agrees : Result (List ℤ) Fault → Option (List ℤ) → Type 0
Agrees (Ok xs) (Some values) = xs ≡ values
Agrees (Ok xs) None = ⊥
Agrees (Err fault) (Some values) = ⊥
Agrees (Err fault) None = number fault ≡ 34

-- the verdict on a case whose standard is served
abbrev pub Judged : Result (List ℤ) Fault → Option (List ℤ) → Verdict → Type 0
Judged o expected Same = Agrees o expected
Judged o expected Differs = Agrees o expected → ⊥
Judged o expected Unserved = ⊥
Judged o expected Unreadable = ⊥

-- what rebuilding a case's levels gives under the rules of its standard
abbrev pub rebuilt_case : Rules → Case → Result (List ℤ) Fault
rebuilt_case r c = rebuilding r (number_of c.standard) c.side c.step (vec_items c.levels) (vec_len c.levels)

-- the verdict on a case: by the rules of its standard, or that no transform serves it
abbrev pub DeservedBy : Standard → Case → Verdict → Type 0
DeservedBy Hevc c v = Judged (rebuilt_case hevc c) (values_of c) v
DeservedBy H264 c v = v ≡ Unserved
DeservedBy Vc1 c v = v ≡ Unserved

abbrev pub Deserved : Case → Verdict → Type 0
Deserved c v = DeservedBy c.standard c v

-- the verdict on a line: it is unreadable, or is a case with that verdict
abbrev pub Settled : Verdict → Type 0
Settled v = (v ≡ Unreadable) ⊎ ((c : Case) × Whole c × Deserved c v)
