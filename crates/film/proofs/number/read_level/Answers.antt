use Rattle.std.proofs.Common.{ap, ◌∙◌}
use Rattle.film.specs.Faults.{or_bad_field}
use Rattle.film.proofs.Numerals.{one_signed_form}
use Rattle.film.proofs.number.read_level.Goals as goal

pub returns-clause-form : goal.returns-clause-form
returns-clause-form c = one_signed_form c.args.field.now c.ok_or.result (c.ok_or.ensures.value ∙ ap or_bad_field c.level_in.ensures)
