use Rattle.std.proofs.Common.{◌≡◌, ◌∙◌, ◌-ℤ◌, nat_abs, length, length-append, pos, ap₂, rules}
use Rattle.std.proofs.lemmas.Int.{to_z-of_z}
use Rattle.std.proofs.lemmas.Slice.Zip.{zip_turn}
use Rattle.tour.specs.Distances.{apart}
use Rattle.tour.proofs.Farther.{one_more}
use Rattle.tour.proofs.steps.greatest_distance.Goals as goal

pub loop-x-preserved : goal.loop-x-preserved
loop-x-preserved c =
    let t = zip_turn c.args.a.now c.args.b.now c.loop-x.yielded c.into_iter-x-iterator.result c.loop-x.x-iterator c.next.new.self c.next.result (cc) (cc) c.loop-x.yielded_by (c.in-Some.x, c.in-Some.y) c.in-Some.is c.next.ensures.steps in
    let d : c.abs_diff.result ≡ nat_abs (c.in-Some.x.now -ℤ c.in-Some.y.now) = search (rules, to_z-of_z, c.abs_diff.ensures) in
    let a : nat_abs (c.in-Some.x.now -ℤ c.in-Some.y.now) ≡ apart c.args.a.now c.args.b.now (length c.loop-x.yielded) = ap₂ (λ x y. nat_abs (x -ℤ y)) (t.2 (pos 0)) (t.3 (pos 0)) in
    rw (length-append c.loop-x.yielded _, c.max-greatest.ensures, d ∙ a) (one_more _ _ _ _ c.loop-x.invariant)
