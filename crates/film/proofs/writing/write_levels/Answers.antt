use Rattle.std.proofs.Common.{get_or, pos, sym, ap, refl, arith, w32, SFits, rules}
use Rattle.std.specs.List.{flat_map, enumerate_from}
use Rattle.std.proofs.lemmas.List.{take_all}
use Rattle.std.proofs.lemmas.List.FromFn.{length-enumerate_from}
use Rattle.film.specs.Texts.{levels}
use Rattle.film.proofs.Writes.{placed_text, placed_at, placed_length, text_levels, room_as, puts_as, parts_room, parts_then, line_start, line_room, line_end, line_whole}
use Rattle.film.proofs.Trips.{reads_back}
use Rattle.film.proofs.Written.{IsWritten, is_written}
use Rattle.film.proofs.writing.write_levels.Goals as goal

pub put-requires : goal.put-requires
put-requires c = line_start _ 84 _ (text_levels c.args.block.now) (record { room = c.requires.room })

pub put_cell-requires : goal.put_cell-requires
put_cell-requires c =
    let zs = c.args.block.now in
    let i = c.loop-i.i in
    let f : SFits w32 (get_or zs i (pos 0)) = search rules in
    let room = line_room c.put.ensures (text_levels zs) (record { room = c.requires.room }) in
    room_as (placed_at zs i c.loop-i-test.true f) (parts_room placed_text (enumerate_from 0 zs) i (0, pos 0) (placed_length zs i c.loop-i-test.true) c.loop-i.invariant room)

pub loop-i-preserved : goal.loop-i-preserved
loop-i-preserved c =
    let zs = c.args.block.now in
    let i = c.loop-i.i in
    let f : SFits w32 (get_or zs i (pos 0)) = search rules in
    let room = line_room c.put.ensures (text_levels zs) (record { room = c.requires.room }) in
    let one = puts_as (sym (placed_at zs i c.loop-i-test.true f)) c.put_cell.ensures in
    parts_then placed_text (enumerate_from 0 zs) i (0, pos 0) (placed_length zs i c.loop-i-test.true) c.loop-i.invariant one room

pub put-requires-2 : goal.put-requires-2
put-requires-2 c =
    let zs = c.args.block.now in
    let all = puts_as (ap (flat_map placed_text) (take_all c.loop-i.i (enumerate_from 0 zs) (omega (arith, length-enumerate_from 0 zs)))) c.loop-i.invariant in
    line_end c.put.ensures all (text_levels zs) (record { room = c.requires.room })

pub returns : goal.returns
returns c =
    let zs = c.args.block.now in
    let all = puts_as (ap (flat_map placed_text) (take_all c.loop-i.i (enumerate_from 0 zs) (omega (arith, length-enumerate_from 0 zs)))) c.loop-i.invariant in
    let line = line_whole c.put.ensures all c.put-2.ensures (text_levels zs) (record { room = c.requires.room }) in
    record {
      put = let p = line.put in search rules;
      back = λ short. reads_back (levels zs) (c.requires.few, short);
      found = λ short. let w : IsWritten (levels zs) _ c.put-2.new.self = is_written (levels zs) line refl (c.requires.few, short) (record { room = c.requires.room }) in let p = w.found in search rules;
    }
