use Rattle.std.proofs.Common.{◌≡◌, ◌+◌, ◌*◌, ◌≤◌, length, take}
use Rattle.std.specs.List.{flat_map, enumerate_from}
use Rattle.film.proofs.Writes.{placed_text}
use Rattle.film.proofs.writing.levels_len.Given as goal

abbrev pub invariant-loop-i : goal.invariant-loop-i
invariant-loop-i l = record { is : l.size ≡ 2 + length (flat_map placed_text (take l.i (enumerate_from 0 l.block))); few : l.size ≤ 2 + 23 * l.i }
