use Rattle.std.proofs.Common.{Ok, ap, length, subst, ◌∙◌}
use Rattle.kernel_model.specs.State.{Kernel}
use Rattle.kernel_model.specs.Whole.{with_files}
use Rattle.kernel_model.specs.Transfers.{read}
use Rattle.native_files.specs.Answers.{moved}
use Rattle.native_kernel.specs.inside.Moving.{ReadsInto}
use Rattle.native_kernel.proofs.Taking.{read_is}
use Rattle.native_kernel.proofs.kernel.NativeKernel.read.Goals as goal

pub returns-clause-row : goal.returns-clause-row
returns-clause-row g c = λ left told.
    read_is c.args.self.now _ c.self.inside.files c.read_part-came.new.files c.args.mem.now c.read_part-came.new.memory
    c.args.fd c.args.buffer.address c.args.buffer.count c.accessible-room.result c.part_place-place.result left _ c.settled.result _ _
    (subst (λ m. ReadsInto (read c.self.inside.files left c.args.fd (Ok c.args.buffer.count) c.accessible-room.result) (moved c.read_part-came.result) c.read_part-came.new.files (g.I.Source.left c.args.input.now) (g.I.Source.left c.read_part-came.new.input) m c.part_place-place.result c.accessible-room.result c.read_part-came.new.memory) c.as_mut_slice-memory.ensures.value (c.read_part-came.ensures.row left told))
    (ap (λ (k : Kernel). k.files) c.self.view_is)
    (ap (λ (k : Kernel). with_files k c.read_part-came.new.files) c.self.view_is)
    (c.read_part-came.auto.memory ∙ ap length c.as_mut_slice-memory.ensures.value)
    c.accessible-room.ensures c.part_place-place.ensures.place c.settled.ensures
