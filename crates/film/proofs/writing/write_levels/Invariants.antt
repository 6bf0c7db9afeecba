use Rattle.std.proofs.Common.{take}
use Rattle.std.specs.List.{flat_map, enumerate_from}
use Rattle.film.specs.Writing.{Puts}
use Rattle.film.proofs.Writes.{placed_text}
use Rattle.film.proofs.writing.write_levels.Given as goal

abbrev pub invariant-loop-i : goal.invariant-loop-i
invariant-loop-i l = Puts (flat_map placed_text (take l.i (enumerate_from 0 l.block))) l.initial.cursor l.cursor
