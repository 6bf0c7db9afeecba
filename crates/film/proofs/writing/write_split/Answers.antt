use Rattle.std.proofs.Common.{[], length, ap, arith, rules}
use Rattle.film.specs.Texts.{split}
use Rattle.film.specs.Writing.{line_text, Puts}
use Rattle.film.proofs.Writes.{text_split}
use Rattle.film.proofs.Written.{IsWritten, is_written}
use Rattle.film.proofs.writing.write_split.Goals as goal

pub put_line-requires : goal.put_line-requires
put_line-requires c = record { room = omega (arith, ap length text_split, c.requires) }

pub returns : goal.returns
returns c =
    let p : Puts (line_text 83 []) _ c.put_line.new.self = c.put_line.ensures in
    let w : IsWritten split _ c.put_line.new.self = is_written split p text_split tt (record { room = c.requires }) in
    record { put = let p = w.put in search rules; back = w.back; found = let p = w.found in search rules }
