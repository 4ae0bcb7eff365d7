use Rattle.fs_image.proofs.Pieces.{AreNames-more}
use Rattle.fs_image.proofs.directories.breaks_name.Goals as goal

pub returns-clause-names : goal.returns-clause-names
returns-clause-names c = λ _. AreNames-more c.args.names.now c.take_name.new.names c.args.before.now c.args.name.now c.requires c.in_ok-is_new.ensures.names
