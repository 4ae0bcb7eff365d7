use Rattle.kernel_laws.proofs.Undone.{read_in_order, written_behind}
use Rattle.kernel_laws.proofs.effects.a_pipe_keeps_the_order.Goals as goal

pub returns : goal.returns
returns c = record { read = read_in_order; write = written_behind }
