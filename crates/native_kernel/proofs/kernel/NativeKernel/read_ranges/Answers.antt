use Rattle.std.proofs.Common.{List, ℕ, ap, length, sym, ◌∙◌}
use Rattle.std.proofs.lemmas.List.{length-replicate}
use Rattle.kernel_model.specs.State.{Kernel}
use Rattle.kernel_model.specs.Whole.{with_files}
use Rattle.native_kernel.proofs.VectorLemmas.{left_whole, ranges_read}
use Rattle.native_kernel.proofs.kernel.NativeKernel.read_ranges.Goals as goal
use Rattle.native_kernel.specs.inside.Vectors.{scattered}

pub returns-clause-row : goal.returns-clause-row
returns-clause-row g c = λ left told.
    ranges_read c.args.self.now _ c.self.inside.files c.read-came.new.self c.args.mem.now c.scatter_read.new.mem c.as_mut_slice.result.now c.read-came.new.buffer
    c.args.ranges.now c.args.fd (length c.as_mut_slice.result.now) left c.args.asked c.read-came.result c.settled.result _ _
    (c.read-came.ensures.row left told)
    (ap (λ (k : Kernel). k.files) c.self.view_is)
    (ap (λ (k : Kernel). with_files k c.read-came.new.self) c.self.view_is)
    (ap length c.as_mut_slice.ensures.value ∙ ap length c.in_ok-buffer.ensures ∙ length-replicate c.all_accessible.result 0 ∙ c.all_accessible.ensures)
    (c.scatter_read.ensures ∙ ap (λ (b : List ℕ). scattered c.read-came.result c.args.mem.now c.args.ranges.now b)
    (c.as_slice.ensures.value ∙ left_whole _ c.in_ok-buffer.buffer.items c.read-came.new.buffer
    (c.read-came.auto.buffer ∙ c.as_mut_slice.ensures.len) (sym (ap length c.as_mut_slice.ensures.value) ∙ c.as_mut_slice.ensures.len)))
    c.settled.ensures
