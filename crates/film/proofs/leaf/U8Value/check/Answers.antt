use Rattle.std.proofs.Common.{sym, ◌∙◌}
use Rattle.std.proofs.lemmas.Result.{err_from_is_err_and}
use Rattle.film.proofs.Samples.{bad_checked}
use Rattle.film.proofs.leaf.U8Value.check.Goals as goal

pub returns-in_err-read_sample : goal.returns-in_err-read_sample
returns-in_err-read_sample c =
    let p = err_from_is_err_and c.from_residual-in_err-read_sample.result c.from_residual-in_err-read_sample.ensures.1 in
    rw (p.1, p.2) (sym (bad_checked _ _ _ c.in-Some.ensures.steps _ c.in_err-read_sample.ensures) ∙ c.loop-sample.invariant)
