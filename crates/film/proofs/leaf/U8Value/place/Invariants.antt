use Rattle.std.proofs.Common.{◌≡◌, ◌+◌, length, take}
use Rattle.film.specs.Faults.{or_bad_field}
use Rattle.film.specs.Fields.{fields}
use Rattle.film.specs.Leaves.{samples_after, samples_of}
use Rattle.film.proofs.Samples.{behind}
use Rattle.film.proofs.leaf.U8Value.place.Given as goal

abbrev pub invariant-loop-i : goal.invariant-loop-i
invariant-loop-i l =
    (goal.iterator-loop-i).can_next l.i-iterator × (goal.iterator-loop-i).is_finite l.i-iterator
    × (or_bad_field (behind (take l.i-iterator.count l.block) (samples_of (fields l.i-iterator.iter.rest.now))) ≡ samples_after (length l.block) l.samples)
    × (length (fields l.i-iterator.iter.rest.now) + l.i-iterator.count ≡ length l.block)
