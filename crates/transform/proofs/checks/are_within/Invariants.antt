use Rattle.std.proofs.Common.{◌≡◌, drop}
use Rattle.transform.specs.Meaning.{within}
use Rattle.transform.proofs.checks.are_within.Given as goal

abbrev pub invariant-loop-x : goal.invariant-loop-x
invariant-loop-x l = within l.low l.high l.xs ≡ within l.low l.high (drop l.x-index l.xs)
