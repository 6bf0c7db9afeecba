use Rattle.std.proofs.Common.{◌≡◌, ◌≤◌, length, take}
use Rattle.std.specs.List.{flat_map, sum_by}
use Rattle.film.specs.Writing.{tabbed_text, widest}
use Rattle.film.proofs.writing.fields_len.Given as goal

abbrev pub invariant-loop-field : goal.invariant-loop-field
invariant-loop-field l = record { is : l.size ≡ length (flat_map tabbed_text (take l.field-index l.fields)); few : l.size ≤ sum_by widest (take l.field-index l.fields) }
