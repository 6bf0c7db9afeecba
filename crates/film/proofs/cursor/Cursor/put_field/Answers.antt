use Rattle.std.proofs.Common.{◌≡◌, ◌∷◌, w32, to_z, of_z, sym, rules}
use Rattle.std.specs.Fmt.{signed_decimal}
use Rattle.film.specs.Writing.{tabbed_text}
use Rattle.film.proofs.Writes.{puts_then, puts_as, room_as}
use Rattle.film.proofs.cursor.Cursor.put_field.Goals as goal

pub returns-in-Level : goal.returns-in-Level
returns-in-Level c =
    let e : 9 ∷ signed_decimal (to_z w32 (of_z w32 c.in-Level.level)) ≡ tabbed_text c.args.field = search rules in
    puts_as e (puts_then c.put.ensures c.put_level.ensures (room_as (sym e) c.requires))
