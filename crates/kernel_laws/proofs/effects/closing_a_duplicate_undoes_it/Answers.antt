use Rattle.kernel_laws.proofs.Undone.{close_undoes}
use Rattle.kernel_laws.proofs.effects.closing_a_duplicate_undoes_it.Goals as goal

pub returns : goal.returns
returns c = close_undoes
