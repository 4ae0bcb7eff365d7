use Rattle.std.proofs.Common.{◌≡◌, Ok, to_z, of_z, ap, length, subst, ◌∙◌, arith}
use Rattle.std.proofs.lemmas.Int.{ints}
use mir.Syntax.{w64}
use Rattle.kernel_model.specs.State.{Kernel}
use Rattle.kernel_model.specs.Transfers.{read_at}
use Rattle.native_files.specs.Answers.{came_of}
use Rattle.native_kernel.proofs.Taking.{pread_is}
use Rattle.native_kernel.proofs.kernel.NativeKernel.pread.Goals as goal
use Rattle.native_kernel.specs.inside.Moving.{FillsPart}

pub returns : goal.returns
returns c =
    let given : to_z w64 (of_z w64 c.args.at) ≡ c.args.at = omega (arith, ints) in
    pread_is c.args.self.now c.self.inside.files c.args.mem.now c.read_part_at.new.memory c.args.fd c.args.buffer.address c.args.buffer.count
    c.accessible-room.result c.part_place-place.result (to_z w64 (of_z w64 c.args.at)) c.args.at (came_of c.read_part_at.result) c.counted.result
    c.read_part_at.ensures.came c.read_part_at.ensures.state
    (subst (λ m. FillsPart (read_at c.self.inside.files c.args.fd (to_z w64 (of_z w64 c.args.at)) (Ok c.args.buffer.count) c.accessible-room.result).came m c.part_place-place.result c.accessible-room.result c.read_part_at.new.memory) c.as_mut_slice-memory.ensures.value c.read_part_at.ensures.stored)
    (ap (λ (k : Kernel). k.files) c.self.view_is)
    given
    (c.read_part_at.auto.memory ∙ ap length c.as_mut_slice-memory.ensures.value)
    c.accessible-room.ensures c.part_place-place.ensures.place c.counted.ensures
