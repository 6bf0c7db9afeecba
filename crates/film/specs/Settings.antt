-- What a setting is made of. Assumes nothing.
use Rattle.std.specs.Prelude.{ℕ, cond, Some, None, Option, nat_le}
use Rattle.film.specs.declared.standard.Standard.{Standard}
use Rattle.film.specs.declared.standard.Standard.TheVariants.{Hevc}
use Rattle.film.specs.declared.setting.Setting.{Setting}

-- standard, step and tolerance
abbrev pub Values : Type 0
Values = Standard × ℕ × ℕ

abbrev pub values_of : Setting → Values
values_of s = (s.standard, s.step, s.tolerance)

-- the values, if they are a setting's
abbrev pub setting : Standard → ℕ → ℕ → Option Values
setting standard step tolerance = cond (nat_le tolerance 255) (Some (standard, step, tolerance)) None

abbrev pub opening : Values
opening = (Hevc, 22, 8)

-- what a call made
abbrev pub seen : Option Setting → Option Values
seen (Some s) = Some (values_of s)
seen None = None
