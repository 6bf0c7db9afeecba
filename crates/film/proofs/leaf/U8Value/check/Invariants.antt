use Rattle.std.proofs.Common.{◌≡◌}
use Rattle.film.specs.Faults.{or_bad_field}
use Rattle.film.specs.Fields.{fields}
use Rattle.film.specs.Leaves.{samples_after, samples_of, answered}
use Rattle.film.proofs.leaf.U8Value.check.Given as goal

abbrev pub invariant-loop-sample : goal.invariant-loop-sample
invariant-loop-sample l = answered (or_bad_field (samples_of (fields l.sample-iterator.rest.now))) ≡ answered (samples_after l.count l.samples)
