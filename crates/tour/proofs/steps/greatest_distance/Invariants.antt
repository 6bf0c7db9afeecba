use Rattle.std.proofs.Common.{length}
use Rattle.tour.specs.Distances.{Greatest}
use Rattle.tour.proofs.steps.greatest_distance.Given as goal

abbrev pub invariant-loop-x : goal.invariant-loop-x
invariant-loop-x l = Greatest (length l.yielded) l.a l.b l.greatest
