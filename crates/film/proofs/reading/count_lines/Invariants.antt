use Rattle.std.proofs.Common.{◌≡◌, ◌+◌, ◌≤◌, length}
use Rattle.film.specs.Films.{line_count}
use Rattle.film.proofs.Wholes.{count_from}
use Rattle.film.proofs.reading.count_lines.Given as goal

abbrev pub invariant-loop-line : goal.invariant-loop-line
invariant-loop-line l =
    let rest = l.line-iterator.0.now in
    (count_from l.count (line_count (length rest) rest) ≡ line_count (length l.text) l.text) × (l.count + length rest ≤ length l.text)
