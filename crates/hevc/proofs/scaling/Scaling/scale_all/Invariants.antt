use Rattle.std.proofs.Common.{◌≡◌, ◌++◌, map, take, drop}
use Rattle.hevc.specs.Scaling.{scale, log2, coefficient}
use Rattle.hevc.proofs.scaling.Scaling.scale_all.Given as goal

abbrev pub invariant-loop-cell : goal.invariant-loop-cell
invariant-loop-cell l = l.cells ≡ map (coefficient (log2 l.self.side.len) (scale l.self.step)) (take l.cell-index l.initial.cells) ++ drop l.cell-index l.initial.cells
