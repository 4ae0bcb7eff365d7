use Rattle.std.proofs.Common.{◌≡◌, List, Ok, Err, ap, subst, ◌∙◌, rules}
use Rattle.kernel_model.specs.Whole.{kernel_read}
use Rattle.native_calls.specs.HostBytes.{all_accessible, all_written, total, vector}
use Rattle.native_calls.specs.Transfers.{after_read}
use Rattle.native_calls.specs.declared.range.Range.{Range}
use Rattle.native_kernel.proofs.VectorLemmas.{readv_err, readv_ok}
use Rattle.native_kernel.proofs.kernel.NativeKernel.readv.Goals as goal
use Rattle.native_kernel.specs.inside.Moving.{Takes}

pub returns-in-Ok-clause-row : goal.returns-in-Ok-clause-row
returns-in-Ok-clause-row g c = λ left told.
    readv_ok c.args.self.now c.read_ranges.new.self c.args.mem.now c.read_ranges.new.mem left c.in-Ok.ranges c.args.fd c.args.buffers.address c.args.buffers.count c.total-asked.result
    c.read_ranges.result _ _ c.in-Ok.ensures.value (c.total-asked.ensures ∙ ap total c.as_slice.ensures)
    (subst (λ (r : List Range). Takes (after_read (all_written c.args.mem.now r) c.args.mem.now (kernel_read c.args.self.now left c.args.fd (Ok c.total-asked.result) (all_accessible c.args.mem.now r)))
    c.read_ranges.result c.read_ranges.new.self c.read_ranges.new.mem (g.I.Source.left c.args.input.now) (g.I.Source.left c.read_ranges.new.input)) c.as_slice-in-Ok.ensures (c.read_ranges.ensures.row left told))

pub returns-in-Err-Refused-clause-row : goal.returns-in-Err-Refused-clause-row
returns-in-Err-Refused-clause-row g c = λ left told.
    let refused : vector c.args.mem.now c.args.buffers.address c.args.buffers.count ≡ Err c.in-Err-Refused.error = search rules in
    readv_err c.args.self.now c.read_ranges-in-Err-Refused.new.self c.args.mem.now c.read_ranges-in-Err-Refused.new.mem left c.in-Err-Refused.error c.args.fd c.args.buffers.address c.args.buffers.count
    c.read_ranges-in-Err-Refused.result _ _ refused (c.read_ranges-in-Err-Refused.ensures.row left told)
