use Rattle.std.proofs.Common.{◌≡◌, true, refl, sym, ap, subst, ◌∙◌}
use Rattle.std.proofs.Math.Facts.{to_z-of_z}
use Rattle.std.specs.Int.{w32}
use Rattle.std.specs.Prelude.{IfOk}
use Rattle.kernel_model.specs.Came.{Did, Given, told_zero, with_given}
use Rattle.kernel_model.specs.SignalRows.{SentInfo, is_id, own_id, queued_info, send_named}
use Rattle.kernel_model.specs.State.{Kernel}
use Rattle.native_calls.specs.SignalBytes.{named_by, sent_at}
use Rattle.native_kernel.proofs.SignalLemmas.{queue_goes_on, queue_refused}
use Rattle.native_kernel.specs.inside.Quiet.{Gives}
use Rattle.native_kernel.specs.inside.Signals.{named}
use Rattle.native_kernel.proofs.kernel.NativeKernel.queue_signal.Goals as goal

pub returns-in-Err-clause-row : goal.returns-in-Err-clause-row
returns-in-Err-clause-row c =
    let kernel = c.args.self.now in
    let pid = to_z-of_z {w = w32} {z = c.args.pid} c.ranges.pid in
    let own : is_id c.args.pid own_id ≡ true = ap (λ z. is_id z own_id) (sym pid) ∙ sym c.if-not-is_own_id.ensures in
    let row = queue_refused kernel c.args.pid (named_by c.args.number) (sent_at c.args.mem.now c.args.info) c.in-Err.error own c.in-Err.ensures in
    subst (λ (did : Did Kernel (Unit {0})). Gives (told_zero did) c.failure-in-Err.result kernel) (sym row)
    (record { answered = c.failure-in-Err.ensures; became = refl })

pub returns-in-Ok-clause-row : goal.returns-in-Ok-clause-row
returns-in-Ok-clause-row c =
    let kernel = c.args.self.now in
    let pid = to_z-of_z {w = w32} {z = c.args.pid} c.ranges.pid in
    let own : is_id c.args.pid own_id ≡ true = ap (λ z. is_id z own_id) (sym pid) ∙ sym c.if-not-is_own_id.ensures in
    let row = queue_goes_on kernel c.args.pid (named_by c.args.number) (sent_at c.args.mem.now c.args.info) c.in-Ok.signal own c.in-Ok.ensures in
    let read = ap (λ (given : Given SentInfo). with_given kernel given (λ sent. send_named kernel (named c.in-Ok.signal) (queued_info sent))) (sym c.sent_at.ensures) in
    subst (λ (did : Did Kernel (Unit {0})). IfOk c.send_queued.result (λ reply. Gives (told_zero did) reply c.send_queued.new.self)) (sym (row ∙ read))
    c.send_queued.ensures.row
