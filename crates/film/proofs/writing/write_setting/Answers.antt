use Rattle.std.proofs.Common.{arith, rules}
use Rattle.film.specs.Texts.{of_setting}
use Rattle.film.proofs.Trips.{name_plain}
use Rattle.film.proofs.Written.{IsWritten, is_written}
use Rattle.film.proofs.writing.write_setting.Goals as goal

pub returns : goal.returns
returns c =
    let w : IsWritten (of_setting c.args.setting) _ c.put_line.new.self = is_written (of_setting c.args.setting) c.put_line.ensures c.setting_fields-fields.ensures.text (name_plain c.args.setting.standard, omega arith, omega (arith, c.args.setting.tolerable)) (record { room = c.requires }) in
    record { put = let p = w.put in search rules; back = w.back; found = let p = w.found in search rules }
