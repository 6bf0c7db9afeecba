use Rattle.std.proofs.Common.{◌≡◌, get_or, drop, pos, sym, ◌∙◌, w32, SFits, rules}
use Rattle.std.proofs.lemmas.Int.{to_z-of_z}
use Rattle.transform.specs.Meaning.{within}
use Rattle.transform.specs.Ranges.{too_low, too_high}
use Rattle.transform.proofs.checks.are_within.Goals as goal
use Rattle.transform.proofs.checks.are_within.Goals.{then-x-low-via-then-x-low, then-x-low-via-else-x-low+then-x-high}

pub returns-then-x-low : goal.returns-then-x-low
returns-then-x-low c =
    let f : SFits w32 (get_or c.args.xs.now c.loop-x.x-index (pos 0)) = search rules in
    let l = c.ranges.low in
    let h = c.ranges.high in
    let a = to_z-of_z w32 c.args.low l in
    let b = to_z-of_z w32 c.args.high h in
    let i : within c.args.low c.args.high c.args.xs.now ≡ within c.args.low c.args.high (drop c.loop-x.x-index c.args.xs.now) = cc c.loop-x.invariant in
    sym (i ∙ elim c.then-x-low.branch [
      | then-x-low-via-then-x-low w ↦ too_low c.args.low c.args.high c.args.xs.now c.loop-x.x-index c.loop-x-test.true (simp to_z-of_z at w.if-x-low.true)
      | then-x-low-via-else-x-low+then-x-high w ↦ too_high c.args.low c.args.high c.args.xs.now c.loop-x.x-index c.loop-x-test.true (simp to_z-of_z at w.if-x-high.true)
    ])
