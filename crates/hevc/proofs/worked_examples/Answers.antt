use Rattle.std.proofs.Common.{refl, ap, w32, w64, to_z, of_z}
use Rattle.exact.specs.Sums.{sum_z}
use Rattle.exact.specs.Blocks.{placed, block}
use Rattle.exact.specs.Rounding.{nearest}
use Rattle.transform.specs.Outcome.{rebuilding}
use Rattle.hevc.specs.Cosine.{first, cosine32}
use Rattle.hevc.specs.Scaling.{scale, log2, coefficient}
use Rattle.hevc.specs.Passes.{rebuilt_by}
use Rattle.hevc.proofs.worked_examples.Goals as goal

pub returns : goal.returns
unfolding sum_z placed block nearest rebuilding first cosine32 scale log2 coefficient rebuilt_by
returns c = record {
  examples = record { lost = refl; kept = refl; above = refl; below = refl };
  value = (
    ap (λ z. to_z w32 (of_z w32 z)) c.rebuilt_first.ensures,
    ap (λ z. to_z w32 (of_z w32 z)) c.rebuilt_first-2.ensures,
    ap (λ z. to_z w64 (of_z w64 z)) c.nearest.ensures.value,
    ap (λ z. to_z w64 (of_z w64 z)) c.nearest-2.ensures.value,
  );
}
