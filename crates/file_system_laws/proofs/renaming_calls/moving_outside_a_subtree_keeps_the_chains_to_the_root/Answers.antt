use Rattle.file_system_laws.proofs.Reach.{hangs_after_move}
use Rattle.file_system_laws.proofs.renaming_calls.moving_outside_a_subtree_keeps_the_chains_to_the_root.Goals as goal

pub returns : goal.returns
returns c = hangs_after_move
