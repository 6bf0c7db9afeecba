use Rattle.film.proofs.Splits.{fields_counted}
use Rattle.film.proofs.cutting.Fields.len.Goals as goal

pub returns-in-Some : goal.returns-in-Some
returns-in-Some c = fields_counted _ _ _ _ c.in-Some.ensures.cases.0 c.count_tabs.ensures
