use Rattle.std.proofs.Common.{◌≡◌, length}
use Rattle.std.specs.List.{AllByRecursion as All}
use Rattle.film.specs.Fields.{fields}
use Rattle.film.specs.Leaves.{levels_after, spread_all, gathered, pair_reads, IsWithin}
use Rattle.film.proofs.leaf.I32Value.place.Given as goal

abbrev pub invariant-loop-pair : goal.invariant-loop-pair
invariant-loop-pair l =
    let s = l.pair-iterator in
    let reads = pair_reads s.from s.count (fields s.fields.rest.now) in
    (spread_all l.levels (gathered reads) ≡ levels_after (length l.levels) l.fn.pairs) × All (IsWithin (length l.levels)) reads
