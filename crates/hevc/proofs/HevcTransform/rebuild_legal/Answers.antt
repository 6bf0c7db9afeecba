use Rattle.std.proofs.Common.{sym, ap, ◌∙◌, map}
use Rattle.std.specs.Option.{unwrap_or}
use Rattle.transform.proofs.Sides.{shape_parts}
use Rattle.exact.specs.Sums.{transposed}
use Rattle.hevc.specs.Scaling.{scale, log2, coefficient}
use Rattle.hevc.specs.Passes.{passed}
use Rattle.hevc.specs.Hevc.{rules_of}
use Rattle.hevc.proofs.TwoPasses.{rebuilt_is, after_columns, after_rows}
use Rattle.hevc.proofs.Usable.{rules_here}
use Rattle.hevc.proofs.HevcTransform.rebuild_legal.Goals as goal

pub returns-clause-block : goal.returns-clause-block
returns-clause-block g c =
    let k = c.args.self.now.kernel in
    let n = c.args.mode.side in
    let q = c.args.mode.step in
    let xs = c.args.levels.now in
    let A = g.K.Kernel.matrix k n in
    let p = shape_parts n _ _ c.requires.shape in
    c.pass-2.ensures ∙ ap (passed after_rows (transposed A) n) (c.pass.ensures ∙ ap (passed after_columns (transposed A) n) (c.scale_all.ensures ∙ ap (map (coefficient (log2 n) (scale q))) c.copy_from_slice.ensures.after))
    ∙ rebuilt_is A n q xs p.1
    ∙ ap (λ r. unwrap_or (r.rebuilt n q xs) c.args.residual.now) (sym (rules_here 0 (rules_of (g.K.Kernel.served k) (g.K.Kernel.matrix k)) c.args.mode.standard n q c.requires.usable))
