-- The three standards, by number and by name. Assumes nothing.
use Rattle.std.specs.Prelude.{◌≡◌, ℕ, cond, List, Some, None, codes, Option, ◌==◌}
use Rattle.std.specs.Str.{bytes_eq}
use Rattle.film.specs.declared.standard.Standard.{Standard}
use Rattle.film.specs.declared.standard.Standard.TheVariants.{Hevc, H264, Vc1}

abbrev pub number_of : Standard → ℕ
number_of Hevc = 0
number_of H264 = 1
number_of Vc1 = 2

abbrev pub name_of : Standard → List ℕ
name_of Hevc = codes "HEVC"
name_of H264 = codes "H264"
name_of Vc1 = codes "VC1"

-- the standard of a number
abbrev pub numbered : ℕ → Option Standard
numbered n =
    cond (n == number_of Hevc) (Some Hevc) (cond (n == number_of H264) (Some H264) (cond (n == number_of Vc1) (Some Vc1) None))

-- the standard of a name
abbrev pub named : List ℕ → Option Standard
named bs =
    cond (bytes_eq bs (name_of Hevc)) (Some Hevc)
    (cond (bytes_eq bs (name_of H264)) (Some H264) (cond (bytes_eq bs (name_of Vc1)) (Some Vc1) None))

-- n is the number of a standard, and that standard the one of n
abbrev pub IsNumberOf : Standard → ℕ → Type 0
IsNumberOf standard n = record { is : n ≡ number_of standard; back : numbered n ≡ Some standard }
