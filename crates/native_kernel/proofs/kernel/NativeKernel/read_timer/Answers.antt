use Rattle.std.proofs.Common.{sym, ap, ◌∙◌}
use Rattle.kernel_model.specs.Came.{Done}
use Rattle.kernel_model.specs.Clock.{read_timer}
use Rattle.native_calls.specs.Clocks.{timer_bytes}
use Rattle.native_kernel.proofs.SignalLemmas.{timer_read, told_done}
use Rattle.native_kernel.proofs.kernel.NativeKernel.read_timer.Goals as goal

pub returns : goal.returns
returns c =
    let kernel = c.args.self.now in
    let row = sym (timer_read kernel c.args.which c.if-which-ne-ITIMER_REAL.false) in
    told_done timer_bytes (read_timer kernel c.args.which) c.timer_value.result c.args.address c.store.result kernel c.args.mem.now c.store.new.mem c.timer_bytes.result
    (ap (λ v. Done v) c.timer_value.ensures ∙ ap (λ d. d.came) row)
    (ap (λ d. d.state) row)
    c.timer_bytes.ensures c.store.ensures.reply c.store.ensures.written
