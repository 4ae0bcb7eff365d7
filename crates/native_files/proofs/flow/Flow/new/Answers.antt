use Rattle.std.proofs.Common.{length, ap, ◌∙◌}
use Rattle.kernel_model.specs.State.{Pipe}
use Rattle.native_fd.proofs.LinkLemmas.{length-free}
use Rattle.native_files.proofs.flow.Flow.new.Goals as goal

pub invariant_of-result : goal.invariant_of-result
invariant_of-result c = ap (λ l. length l) c.in_ok-no_pipes.ensures ∙ length-free Pipe 1024
