use Rattle.std.proofs.Common.{◌≤◌, sym, ap, refl, arith, rules}
use Rattle.std.specs.List.{flat_map}
use Rattle.std.proofs.ByRecursion.{All-from_get_or}
use Rattle.std.proofs.lemmas.List.{take_all}
use Rattle.film.specs.Texts.{raw}
use Rattle.film.proofs.Writes.{sample_text, text_raw, room_as, puts_as, parts_room, parts_then, line_start, line_room, line_end, line_whole}
use Rattle.film.proofs.Written.{IsWritten, is_written}
use Rattle.film.proofs.writing.write_samples.Goals as goal

pub put-requires : goal.put-requires
put-requires c = line_start _ 82 _ (text_raw c.args.samples.now) (record { room = c.requires })

pub put_field-requires : goal.put_field-requires
put_field-requires c =
    let ss = c.args.samples.now in
    let room = line_room c.put.ensures (text_raw ss) (record { room = c.requires }) in
    room_as (ap sample_text (sym c.into.ensures)) (parts_room sample_text ss c.loop-sample.sample-index 0 c.loop-sample-test.true c.loop-sample.invariant room)

pub loop-sample-preserved : goal.loop-sample-preserved
loop-sample-preserved c =
    let ss = c.args.samples.now in
    let room = line_room c.put.ensures (text_raw ss) (record { room = c.requires }) in
    let one = puts_as (ap sample_text c.into.ensures) c.put_field.ensures in
    parts_then sample_text ss c.loop-sample.sample-index 0 c.loop-sample-test.true c.loop-sample.invariant one room

pub put-requires-2 : goal.put-requires-2
put-requires-2 c =
    let ss = c.args.samples.now in
    let all = puts_as (ap (flat_map sample_text) (take_all c.loop-sample.sample-index ss (omega arith))) c.loop-sample.invariant in
    line_end c.put.ensures all (text_raw ss) (record { room = c.requires })

pub returns : goal.returns
returns c =
    let ss = c.args.samples.now in
    let all = puts_as (ap (flat_map sample_text) (take_all c.loop-sample.sample-index ss (omega arith))) c.loop-sample.invariant in
    let legal = All-from_get_or (λ x. x ≤ 255) ss 0 (λ i l. omega (arith, (c.type_inv.samples i).fits)) in
    let line = line_whole c.put.ensures all c.put-2.ensures (text_raw ss) (record { room = c.requires }) in
    let w : IsWritten (raw ss) _ c.put-2.new.self = is_written (raw ss) line refl legal (record { room = c.requires }) in
    record { put = let p = w.put in search rules; back = w.back; found = let p = w.found in search rules }
