use Rattle.std.proofs.Common.{◌≡◌, Option, sym, ap, ◌∙◌}
use Rattle.kernel_model.specs.DescriptorRows.{PipeFlags, ends, make_pipe}
use Rattle.kernel_model.specs.State.{Files, Kernel}
use Rattle.kernel_model.specs.Whole.{with_files}
use Rattle.native_calls.specs.Descriptors.{pipe_flags, pipe2_row}
use Rattle.native_kernel.proofs.Pairs.{pair_given}
use Rattle.native_kernel.proofs.kernel.NativeKernel.pipe2.Goals as goal

pub returns-in-Ok-clause-row : goal.returns-in-Ok-clause-row
unfolding pipe2_row
returns-in-Ok-clause-row c = λ left.
    let kernel = c.args.self.now in
    let flags = pipe_flags c.args.flags in
    let files : c.self.inside.files ≡ kernel.files = ap (λ (k : Kernel). k.files) c.self.view_is in
    let made = ap (λ (f : Option PipeFlags). make_pipe c.self.inside.files f) c.pipe_flags.ensures
    ∙ ap (λ (f : Files). make_pipe f flags) files in
    pair_given kernel _ c.give_pair.new.self (make_pipe kernel.files flags) (ends c.in-Ok.ends.read c.in-Ok.ends.write)
    c.args.mem.now c.give_pair.new.mem left c.args.address c.give_pair.result (c.give_pair.ensures.row left)
    (sym (ap (λ d. d.came) made) ∙ c.in-Ok.ensures.row.0)
    (ap (λ (k : Kernel). with_files k c.make_pipe.new.self) c.self.view_is ∙ ap (λ (f : Files). with_files kernel f) (c.in-Ok.ensures.row.1 ∙ ap (λ d. d.state) made))
