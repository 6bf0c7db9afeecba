use Rattle.film.specs.declared.standard.Standard.TheVariants.{Hevc}
use Rattle.film.specs.declared.field.Field.TheVariants.{Name}
use Rattle.film.specs.Writing.{tabbed_text}
use Rattle.film.proofs.Writes.{parts_room, parts_then}
use Rattle.film.proofs.cursor.Cursor.put_fields.Goals as goal

pub put_field-requires : goal.put_field-requires
put_field-requires c = parts_room tabbed_text c.args.fields.now c.loop-field.field-index (Name Hevc) c.loop-field-test.true c.loop-field.invariant c.requires

pub loop-field-preserved : goal.loop-field-preserved
loop-field-preserved c =
    parts_then tabbed_text c.args.fields.now c.loop-field.field-index (Name Hevc) c.loop-field-test.true c.loop-field.invariant c.put_field.ensures c.requires
