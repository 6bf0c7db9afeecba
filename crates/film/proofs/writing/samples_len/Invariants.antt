use Rattle.std.proofs.Common.{◌≡◌, ◌+◌, ◌*◌, ◌≤◌, length, take}
use Rattle.std.specs.List.{flat_map}
use Rattle.film.proofs.Writes.{sample_text}
use Rattle.film.proofs.writing.samples_len.Given as goal

abbrev pub invariant-loop-sample : goal.invariant-loop-sample
invariant-loop-sample l = record { is : l.size ≡ 2 + length (flat_map sample_text (take l.sample-index l.samples)); few : l.size ≤ 2 + 11 * l.sample-index }
