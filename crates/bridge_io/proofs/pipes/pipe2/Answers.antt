-- The native call stores for the row.
use Rattle.std.proofs.Common.{ap, sym, ◌∙◌}
use Rattle.guest_space.specs.Memory.{Memory}
use Rattle.o32_model.specs.Descriptors.{pipe2_row}
use Rattle.bridge_io.proofs.PipeMirrors.{pipe2_stores}
use Rattle.bridge_io.specs.inside.Outcomes.{host_place}
use Rattle.bridge_io.proofs.pipes.pipe2.Goals as goal

pub returns-clause-row : goal.returns-clause-row
returns-clause-row g c = λ guest same memory.
    c.store_call.ensures.row guest (pipe2_row c.args.below.now.kernel.now guest c.args.address c.args.flags) same memory
    (λ left. pipe2_stores guest c.args.below.now.kernel.now left _ _ c.args.address c.args.flags c.whole.ensures
    (c.host_place-place.ensures ∙ ap (λ (m : Memory). host_place m c.args.address 8) (sym memory)) c.native_pipe_flags.ensures)

pub returns-clause-kept : goal.returns-clause-kept
returns-clause-kept g c = λ guest same memory.
    c.store_call.ensures.kept guest (pipe2_row c.args.below.now.kernel.now guest c.args.address c.args.flags) same memory
    (λ left. pipe2_stores guest c.args.below.now.kernel.now left _ _ c.args.address c.args.flags c.whole.ensures
    (c.host_place-place.ensures ∙ ap (λ (m : Memory). host_place m c.args.address 8) (sym memory)) c.native_pipe_flags.ensures)
