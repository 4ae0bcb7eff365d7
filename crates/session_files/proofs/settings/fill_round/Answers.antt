use Rattle.std.proofs.Common.{arith}
use Rattle.std.proofs.lemmas.Grind.{common_steps}
use Rattle.kernel_model.specs.System.{round}
use Rattle.session_files.proofs.Chance.{round_more}
use Rattle.session_files.proofs.settings.fill_round.Goals as goal

pub loop-i-init : goal.loop-i-init
unfolding round
loop-i-init c = grind (arith, common_steps)

pub loop-i-preserved : goal.loop-i-preserved
loop-i-preserved c = grind (arith, common_steps, round_more)
