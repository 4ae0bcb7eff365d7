use Rattle.kernel_model.proofs.PipeKept.{make_pipe_kept}
use Rattle.kernel_model.proofs.laws.descriptions.making_a_pipe_keeps_files.Goals as goal

pub returns : goal.returns
returns c = make_pipe_kept
