use Rattle.std.proofs.Common.{◌∷◌, ap, sym, ◌∙◌, w32, SFits, rules}
use Rattle.std.proofs.lemmas.Int.{to_z-of_z}
use Rattle.std.proofs.lemmas.List.{length-set}
use Rattle.film.specs.Fields.{fields}
use Rattle.film.specs.Leaves.{pair_reads}
use Rattle.film.proofs.Pairs.{one_placed}
use Rattle.film.proofs.leaf.I32Value.place.Goals as goal

-- the search finds this alone too, but near its limit
pub loop-pair-preserved : goal.loop-pair-preserved
loop-pair-preserved c =
    let i = c.in_ok-position in
    let t = c.next.new.self in
    let more = pair_reads t.from t.count (fields t.fields.rest.now) in
    let s = c.in-Some.ensures.steps ∙ ap (λ r. r ∷ more) i.was in
    let fits : SFits w32 i.level = search rules in
    simp (to_z-of_z, length-set) (sym (one_placed c.loop-pair.levels i.position i.level _ _ s) ∙ c.loop-pair.invariant.0, (rw s at c.loop-pair.invariant.1).1)
