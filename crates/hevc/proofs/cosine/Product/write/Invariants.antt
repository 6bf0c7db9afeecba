use Rattle.exact.specs.Sums.{product}
use Rattle.exact.specs.Blocks.{at, placed, Filled}
use Rattle.hevc.specs.Cosine.{cosine, turned_if}
use Rattle.hevc.proofs.cosine.Product.write.Given as goal

abbrev pub invariant-loop-place : goal.invariant-loop-place
invariant-loop-place l = Filled l.place (placed l.self.side.len (product l.self.side.len (turned_if l.self.turned (cosine l.self.side.len)) (at l.self.side.len l.self.given.now))) l.out
