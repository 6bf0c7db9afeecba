use Rattle.film.proofs.Wholes.{read_shorter}
use Rattle.film.proofs.reading.read_line.Goals as goal

pub returns-clause-shorter : goal.returns-clause-shorter
returns-clause-shorter c = read_shorter c.first_line.result c.args.text.now c.first_line.ensures
