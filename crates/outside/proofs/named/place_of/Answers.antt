use Rattle.outside.proofs.FileLemmas.{absent_at, there_at}
use Rattle.outside.proofs.named.place_of.Goals as goal

pub returns-clause-absent : goal.returns-clause-absent
returns-clause-absent c = absent_at c.args.files.now c.args.name.now c.first_place.result c.first_place.ensures

pub returns-clause-there : goal.returns-clause-there
returns-clause-there c = there_at c.args.files.now c.args.name.now c.first_place.result c.first_place.ensures
