use Rattle.std.proofs.Common.{sym, ap, ◌∙◌, arith}
use Rattle.transform.proofs.Sides.{shape_parts, side_range}
use Rattle.transform.specs.Ranges.{residuals_bounded}
use Rattle.exact.specs.Rounding.{nearest}
use Rattle.hevc.specs.Limits.{input_limit}
use Rattle.hevc.specs.Passes.{passed}
use Rattle.hevc.specs.Hevc.{rules_of}
use Rattle.hevc.proofs.TwoPasses.{chosen_is, bounded_along, unrounded_bounded}
use Rattle.hevc.proofs.Usable.{rules_here}
use Rattle.hevc.proofs.HevcTransform.choose_legal.Goals as goal

pub pass-requires-2-clause-small : goal.pass-requires-2-clause-small
pass-requires-2-clause-small g c =
    let n = c.args.mode.side in
    let k = c.args.self.now.kernel in
    let s = side_range n (shape_parts n _ _ c.requires.shape).0 in
    let b = bounded_along 255 255 _ _ (omega arith) c.copy_from_slice.ensures.after (residuals_bounded _ c.requires.range) in
    unrounded_bounded n 255 input_limit (g.K.Kernel.matrix k n) c.copy_from_slice.new.self _ s.1 (omega arith) (g.met.K.Kernel.entries k n) b c.pass.ensures

pub returns : goal.returns
returns g c =
    let k = c.args.self.now.kernel in
    let n = c.args.mode.side in
    let q = c.args.mode.step in
    let xs = c.args.residual.now in
    let d = c.to_levels-rounding.result.divisor in
    let A = g.K.Kernel.matrix k n in
    let p = shape_parts n _ _ c.requires.shape in
    c.pass-2.ensures ∙ ap (passed (λ z. nearest z d) A n) (c.pass.ensures ∙ ap (passed (λ z. z) A n) c.copy_from_slice.ensures.after)
    ∙ chosen_is A n q xs p.1 d c.to_levels-rounding.ensures
    ∙ ap (λ r. r.chosen n q xs) (sym (rules_here 0 (rules_of (g.K.Kernel.served k) (g.K.Kernel.matrix k)) c.args.mode.standard n q c.requires.usable))
