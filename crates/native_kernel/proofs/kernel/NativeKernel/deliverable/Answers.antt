use Rattle.std.proofs.Common.{ap, ◌∙◌}
use Rattle.kernel_model.specs.SignalRows.{is_deliverable}
use Rattle.kernel_model.specs.State.{Kernel}
use Rattle.native_kernel.proofs.Unblocked.{any_unblocked}
use Rattle.native_kernel.proofs.kernel.NativeKernel.deliverable.Goals as goal

pub returns : goal.returns
returns c =
    any_unblocked c.self.inside.signals c.pending.result c.mask.result c.unblocked.result c.has_any.result
    c.pending.ensures c.mask.ensures c.unblocked.ensures c.has_any.ensures
    ∙ ap (λ (k : Kernel). is_deliverable k.signals) c.self.view_is
