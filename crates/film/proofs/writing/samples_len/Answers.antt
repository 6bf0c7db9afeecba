use Rattle.std.proofs.Common.{◌+◌, length, ap, ◌∙◌, arith}
use Rattle.std.specs.List.{flat_map}
use Rattle.std.proofs.lemmas.List.{take_all}
use Rattle.film.proofs.Writes.{sample_text, length_raw}
use Rattle.film.proofs.writing.samples_len.Goals as goal

pub returns-clause-is : goal.returns-clause-is
returns-clause-is c =
    let ss = c.args.samples.now in
    c.loop-sample.invariant.is ∙ ap (λ xs. 2 + length (flat_map sample_text xs)) (take_all c.loop-sample.sample-index ss (omega arith)) ∙ length_raw ss
