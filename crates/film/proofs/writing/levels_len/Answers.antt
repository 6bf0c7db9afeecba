use Rattle.std.proofs.Common.{◌+◌, length, get_or, take, pos, ap, ◌∙◌, arith, w32, SFits, rules}
use Rattle.std.specs.List.{flat_map, enumerate_from}
use Rattle.std.proofs.lemmas.List.{take_all, length-append}
use Rattle.std.proofs.lemmas.List.FromFn.{length-enumerate_from}
use Rattle.film.proofs.Writes.{placed_text, placed_at, placed_length, parts_more, length_levels}
use Rattle.film.proofs.writing.levels_len.Goals as goal

pub loop-i-preserved : goal.loop-i-preserved
loop-i-preserved c =
    let zs = c.args.block.now in
    let i = c.loop-i.i in
    let f : SFits w32 (get_or zs i (pos 0)) = search rules in
    let cell = get_or (enumerate_from 0 zs) i (0, pos 0) in
    record {
      is = omega (arith, c.loop-i.invariant.is, c.cell_len-size.ensures.is, ap length (placed_at zs i c.loop-i-test.true f), ap length (parts_more placed_text (enumerate_from 0 zs) i (0, pos 0) (placed_length zs i c.loop-i-test.true)), length-append (flat_map placed_text (take i (enumerate_from 0 zs))) (placed_text cell));
      few = omega (arith, c.loop-i.invariant.few, c.cell_len-size.ensures.few);
    }

pub returns-clause-is : goal.returns-clause-is
returns-clause-is c =
    let zs = c.args.block.now in
    c.loop-i.invariant.is ∙ ap (λ xs. 2 + length (flat_map placed_text xs)) (take_all c.loop-i.i (enumerate_from 0 zs) (omega (arith, length-enumerate_from 0 zs))) ∙ length_levels zs
