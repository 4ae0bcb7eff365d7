use Rattle.file_system_scripts.proofs.HoldLemmas.{held_at_first}
use Rattle.file_system_scripts.proofs.files.Files.of.Goals as goal

pub invariant_of-result : goal.invariant_of-result
invariant_of-result c = record { held = held_at_first c.in-Ok.vfs c.args.tree c.in-Ok.ensures.loaded }
