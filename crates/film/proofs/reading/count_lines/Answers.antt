use Rattle.std.proofs.Common.{Some, Err, sym, ap, ◌∙◌, arith}
use Rattle.std.proofs.lemmas.Result.{err_from_is_err_and}
use Rattle.film.proofs.Wholes.{counted_line, counted_bad, count_stop}
use Rattle.film.proofs.Trips.{alone, film_count}
use Rattle.film.proofs.reading.count_lines.Goals as goal

pub returns-in_err-line : goal.returns-in_err-line
returns-in_err-line c =
    let p = err_from_is_err_and c.from_residual.result c.from_residual.ensures.1 in
    let bad = counted_bad c.loop-line.count _ _ _ c.in-Some.ensures.steps c.in_err-line.field-0.0 (ap Some c.in_err-line.was) in
    let count = p.1 ∙ ap Err p.2 ∙ sym bad ∙ c.loop-line.invariant.0 in
    record { count = count; lines = λ es h. count ∙ film_count c.args.text.now es h; alone = alone c.args.text.now }

pub loop-line-preserved : goal.loop-line-preserved
loop-line-preserved c =
    let more = counted_line c.loop-line.count _ _ _ c.in-Some.ensures.steps c.in_ok-line.field-0 (ap Some c.in_ok-line.was) in
    (sym more.0 ∙ c.loop-line.invariant.0, omega (arith, c.loop-line.invariant.1, more.1))

pub returns : goal.returns
returns c =
    let count = sym (count_stop c.loop-line.count _ c.in-None.ensures.steps) ∙ c.loop-line.invariant.0 in
    record { count = count; lines = λ es h. count ∙ film_count c.args.text.now es h; alone = alone c.args.text.now }
