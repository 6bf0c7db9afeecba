use Rattle.std.proofs.Common.{arith, rules}
use Rattle.film.specs.Texts.{square}
use Rattle.film.proofs.Written.{IsWritten, is_written}
use Rattle.film.proofs.writing.write_square.Goals as goal

pub returns : goal.returns
returns c =
    let w : IsWritten (square c.args.column c.args.row) _ c.put_line.new.self = is_written (square c.args.column c.args.row) c.put_line.ensures c.square_fields.ensures.text (omega arith, omega arith) (record { room = c.requires }) in
    record { put = let p = w.put in search rules; back = w.back; found = let p = w.found in search rules }
