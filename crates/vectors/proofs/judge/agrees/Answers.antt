use Rattle.std.proofs.lemmas.Bool.Decides.{Decides-int_eq}
use Rattle.std.proofs.lemmas.Slice.Eq.{slice_eq-Decides}
use Rattle.vectors.proofs.judge.agrees.Goals as goal

pub returns-in-Ok-Some : goal.returns-in-Ok-Some
returns-in-Ok-Some c =
    rw (c.in-Ok-Some.is-0, c.in-Ok-Some.is-1) (slice_eq-Decides Decides-int_eq c.args.rebuilt.now c.in-Ok-Some.values.now c.eq.result c.eq.ensures)
