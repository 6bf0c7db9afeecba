use Rattle.film.proofs.Writes.{line_room, line_end, line_whole, text_line}
use Rattle.film.proofs.cursor.Cursor.put_line.Goals as goal

pub put_fields-requires : goal.put_fields-requires
put_fields-requires c = line_room c.put.ensures (text_line c.args.letter c.args.fields.now) c.requires

pub put-requires-2 : goal.put-requires-2
put-requires-2 c = line_end c.put.ensures c.put_fields.ensures (text_line c.args.letter c.args.fields.now) c.requires

pub returns : goal.returns
returns c = line_whole c.put.ensures c.put_fields.ensures c.put-2.ensures (text_line c.args.letter c.args.fields.now) c.requires
