use Rattle.std.proofs.Common.{◌+◌, ◌*◌, arith}
use Rattle.std.proofs.lemmas.Int.{ints}
use Rattle.transform.proofs.Sides.{side_range}
use Rattle.hevc.specs.Limits.{sum_limit}
use Rattle.hevc.proofs.TwoPasses.{sums_bounded}
use Rattle.hevc.proofs.passes.pass_by.Goals as goal

pub round-requires : goal.round-requires
round-requires g c =
    let s = side_range c.side-side.result.len c.side-side.result.known in
    let f = c.args.factor.now in
    let l = g.met.F.Factor.limited f in
    let b = sums_bounded (g.F.Factor.len f) (g.F.Factor.limit f) sum_limit (g.F.Factor.factor f) c.args.cells.now c.multiply.new.out (omega arith) (omega arith) (g.met.F.Factor.entries f) c.requires.small c.multiply.ensures in
    omega (arith, ints, b (c.row_and_column-i.result.1 * c.side-side.result.len + c.row_and_column-i.result.0))
