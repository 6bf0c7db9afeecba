use Rattle.std.proofs.Common.{length, ap, sym, ◌∙◌, rules, arith}
use Rattle.std.proofs.lemmas.List.{length-set}
use Rattle.std.proofs.lemmas.Result.{err_from_is_err_and}
use Rattle.film.proofs.Samples.{one_placed, bad_placed}
use Rattle.film.proofs.leaf.U8Value.place.Goals as goal

pub returns-in_err-block : goal.returns-in_err-block
returns-in_err-block c =
    let p = err_from_is_err_and c.from_residual-in_err-block.result c.from_residual-in_err-block.ensures.1 in
    let i = c.loop-i.invariant in
    rw (p.1, p.2) (sym (bad_placed _ _ _ c.in-Some.ensures.steps.0 _ _ c.in_err-block.ensures) ∙ i.2 ∙ search rules)

pub loop-i-preserved : goal.loop-i-preserved
loop-i-preserved c =
    let s = c.in-Some.ensures.steps in
    let i = c.loop-i.invariant in
    let v = c.in_ok-block.field-0 in
    let n = c.loop-i.i-iterator.count in
    (search rules, tt, simp (s.1, s.2, length-set) (sym (one_placed _ _ _ s.0 c.loop-i.block n v (omega (arith, ap length s.0, i.3)) c.in_ok-block.ensures) ∙ i.2), omega (arith, ap length s.0, i.3, s.2, length-set c.loop-i.block c.in-Some.i v))
