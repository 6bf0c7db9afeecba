use Rattle.std.proofs.Common.{take}
use Rattle.std.specs.List.{flat_map}
use Rattle.film.specs.Writing.{tabbed_text, Puts}
use Rattle.film.proofs.cursor.Cursor.put_fields.Given as goal

abbrev pub invariant-loop-field : goal.invariant-loop-field
invariant-loop-field l = Puts (flat_map tabbed_text (take l.field-index l.fields)) l.initial.self l.self
