use Rattle.std.proofs.Common.{◌≡◌, ◌*◌, ◌≤◌, ◌*ℤ◌, nat_abs}
use Rattle.exact.specs.Sums.{sum_z}
use Rattle.exact.specs.Blocks.{at}
use Rattle.hevc.specs.Limits.{term_limit}
use Rattle.hevc.specs.Cosine.{cosine, turned_if}
use Rattle.hevc.proofs.cosine.Product.sum.Given as goal

abbrev pub invariant-loop-k : goal.invariant-loop-k
invariant-loop-k l = record {
  value : l.sum ≡ sum_z l.k (λ k. turned_if l.self.turned (cosine l.self.side.len) l.i k *ℤ at l.self.side.len l.self.given.now k l.j);
  small : nat_abs l.sum ≤ l.k * term_limit;
}
