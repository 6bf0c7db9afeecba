use Rattle.exact.specs.Blocks.{placed, Filled}
use Rattle.hevc.specs.Turning.{turned_by}
use Rattle.hevc.proofs.passes.pass_by.Given as goal

abbrev pub invariant-loop-place : goal.invariant-loop-place
invariant-loop-place g l = Filled l.place (placed (g.F.Factor.len l.factor) (turned_by (g.R.Rounding.rounded l.rounding) (g.F.Factor.len l.factor) l.sums)) l.cells
