use Rattle.std.proofs.Common.{◌≡◌, ◌≤◌, count_by, take}
use Rattle.std.specs.Prelude.{◌==◌}
use Rattle.film.proofs.cutting.count_tabs.Given as goal

abbrev pub invariant-loop-byte : goal.invariant-loop-byte
invariant-loop-byte l = record { is : l.count ≡ count_by (λ x. x == 9) (take l.byte-index l.text); few : l.count ≤ l.byte-index }
