-- How verdicts are written and counted. Assumes nothing.
use Rattle.std.specs.Prelude.{ℕ, ◌+◌, ◌-◌, ◌^◌, min, List, codes}
use Rattle.vectors.specs.declared.verdict.Tally.{Tally}
use Rattle.vectors.specs.declared.verdict.Verdict.{Verdict}
use Rattle.vectors.specs.declared.verdict.Verdict.TheVariants.{Same, Differs, Unserved, Unreadable}

abbrev pub word : Verdict → List ℕ
word Same = codes "same"
word Differs = codes "differs"
word Unserved = codes "unserved"
word Unreadable = codes "unreadable"

-- one more; the greatest count of 64 bits stays
abbrev pub more : ℕ → ℕ
more n = min (n + 1) (2 ^ 64 - 1)

-- a tally with one more case
abbrev pub counted : Tally → Verdict → Tally
counted t Same = record { cases = more t.cases; same = more t.same; differ = t.differ }
counted t Differs = record { cases = more t.cases; same = t.same; differ = more t.differ }
counted t Unserved = record { cases = more t.cases; same = t.same; differ = t.differ }
counted t Unreadable = record { cases = more t.cases; same = t.same; differ = more t.differ }
