use Rattle.std.proofs.Common.{take}
use Rattle.std.specs.List.{flat_map}
use Rattle.film.specs.Writing.{Puts}
use Rattle.film.proofs.Writes.{sample_text}
use Rattle.film.proofs.writing.write_samples.Given as goal

abbrev pub invariant-loop-sample : goal.invariant-loop-sample
invariant-loop-sample l = Puts (flat_map sample_text (take l.sample-index l.samples)) l.initial.cursor l.cursor
