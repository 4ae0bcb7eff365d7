-- The native call tells the path.
use Rattle.std.proofs.Common.{ℕ, ◌∙◌, ap, replicate, sym}
use Rattle.guest_space.specs.Access.{writable_prefix}
use Rattle.guest_space.specs.Memory.{Memory}
use Rattle.o32_model.specs.NodeCalls.{getcwd_row}
use Rattle.bridge_paths.proofs.Passed.{fails_before}
use Rattle.bridge_file.proofs.TextTells.{getcwd_tells}
use Rattle.bridge_file.proofs.texts.getcwd.Goals as goal

pub returns-in_err-fresh_room-clause-row : goal.returns-in_err-fresh_room-clause-row
returns-in_err-fresh_room-clause-row g c = λ guest same memory left told.
    fails_before (getcwd_row c.args.below.now.kernel.now guest c.args.buffer c.args.size left) c.from_residual.result _ _ _ _ c.from_residual.ensures.0

pub returns-clause-row : goal.returns-clause-row
returns-clause-row g c = λ guest same memory.
    c.tell_call.ensures.row guest (getcwd_row c.args.below.now.kernel.now guest c.args.buffer c.args.size) same memory
    (λ left. getcwd_tells guest c.args.below.now.kernel.now c.args.buffer _ c.args.size c.fresh_room.new.mem left c.from.ensures c.ranges.size.fits
    (c.in_ok-fresh_room.ensures ∙ ap (λ (n : ℕ). replicate n 0) c.writable.ensures.value ∙ ap (λ (m : Memory). replicate (writable_prefix m.pages c.args.buffer c.args.size) 0) (sym memory)))

pub returns-clause-kept : goal.returns-clause-kept
returns-clause-kept g c = λ guest same memory.
    c.tell_call.ensures.kept guest (getcwd_row c.args.below.now.kernel.now guest c.args.buffer c.args.size) same memory
    (λ left. getcwd_tells guest c.args.below.now.kernel.now c.args.buffer _ c.args.size c.fresh_room.new.mem left c.from.ensures c.ranges.size.fits
    (c.in_ok-fresh_room.ensures ∙ ap (λ (n : ℕ). replicate n 0) c.writable.ensures.value ∙ ap (λ (m : Memory). replicate (writable_prefix m.pages c.args.buffer c.args.size) 0) (sym memory)))
