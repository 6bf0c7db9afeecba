use Rattle.std.proofs.Common.{sym}
use Rattle.film.proofs.Digits.{signed_minus}
use Rattle.film.proofs.Writes.{puts_then, puts_as, room_as}
use Rattle.film.proofs.cursor.Cursor.put_level.Goals as goal

pub returns-then-level-lt0 : goal.returns-then-level-lt0
returns-then-level-lt0 c =
    let e = signed_minus c.args.level c.unsigned_abs.result c.ranges.level c.if-level-lt0.true c.unsigned_abs.ensures.value in
    puts_as e (puts_then c.put.ensures c.put_digits.ensures (room_as (sym e) c.requires))
