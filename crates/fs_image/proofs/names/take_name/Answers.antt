use Rattle.fs_image.proofs.Pieces.{has_name-more}
use Rattle.fs_image.proofs.names.take_name.Goals as goal

pub returns-clause-names : goal.returns-clause-names
returns-clause-names c = has_name-more c.args.name.now c.args.names.now c.insert.new.self c.in_ok-insert.ensures.updates
