use Rattle.std.proofs.Common.{length, ap, rules}
use Rattle.film.proofs.Pairs.{reads_step}
use Rattle.film.proofs.leaf.PairsIterator.next.Goals as goal

pub returns-clause-steps : goal.returns-clause-steps
returns-clause-steps c =
    let s = c.args.self.now in
    let r = c.read.ensures in
    simp (r.on, r.same.0, r.same.1, r.is) (reads_step s.from s.count _ _ _ _ _ c.in_ok-position.ensures.steps c.in_ok-level.ensures.steps)

pub returns-clause-goes : goal.returns-clause-goes
returns-clause-goes c = let e = ap length (returns-clause-steps c) in search rules
