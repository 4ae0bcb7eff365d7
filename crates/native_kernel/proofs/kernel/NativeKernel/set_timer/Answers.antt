use Rattle.std.proofs.Common.{ap, ◌∙◌}
use Rattle.kernel_model.specs.Clock.{arm_timer}
use Rattle.native_calls.specs.Clocks.{setting_at, timer_bytes}
use Rattle.native_calls.specs.HostBytes.{unless_null}
use Rattle.native_kernel.proofs.SignalLemmas.{told_unless_null_done}
use Rattle.native_kernel.proofs.kernel.NativeKernel.set_timer.Goals as goal

pub returns-in-Ok-clause-row : goal.returns-in-Ok-clause-row
returns-in-Ok-clause-row c =
    let kernel = c.args.self.now in
    let given = c.setting_unless_null.ensures in
    told_unless_null_done timer_bytes (arm_timer kernel c.args.which (unless_null c.args.setting (setting_at c.args.mem.now c.args.setting)))
    c.in-Ok.before c.args.old c.store_unless_null.result c.arm_timer.new.self c.args.mem.now c.store_unless_null.new.mem c.timer_bytes.result
    (c.in-Ok.ensures.row.came ∙ ap (λ s. (arm_timer kernel c.args.which s).came) given)
    (c.in-Ok.ensures.row.state ∙ ap (λ s. (arm_timer kernel c.args.which s).state) given)
    c.timer_bytes.ensures c.store_unless_null.ensures.reply c.store_unless_null.ensures.written
