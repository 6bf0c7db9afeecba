use Rattle.std.proofs.Common.{◌≡◌}
use Rattle.film.specs.Fields.{fields}
use Rattle.film.specs.Leaves.{levels_after, gathered, pair_reads, answered}
use Rattle.film.proofs.leaf.I32Value.check.Given as goal

abbrev pub invariant-loop-pair : goal.invariant-loop-pair
invariant-loop-pair l =
    let s = l.pair-iterator in
    answered (gathered (pair_reads s.from s.count (fields s.fields.rest.now))) ≡ answered (levels_after l.count l.pairs)
