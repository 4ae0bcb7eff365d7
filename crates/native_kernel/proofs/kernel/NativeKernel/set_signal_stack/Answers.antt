use Rattle.std.proofs.Common.{None, ap, ◌∙◌}
use Rattle.kernel_model.specs.SignalRows.{set_stack}
use Rattle.native_calls.specs.HostBytes.{unless_null}
use Rattle.native_calls.specs.SignalBytes.{stack_at, stack_bytes}
use Rattle.native_kernel.proofs.SignalLemmas.{told_unless_null_done}
use Rattle.native_kernel.proofs.kernel.NativeKernel.set_signal_stack.Goals as goal

pub returns-in-Ok-clause-row : goal.returns-in-Ok-clause-row
returns-in-Ok-clause-row c =
    let kernel = c.args.self.now in
    let given = c.stack_unless_null.ensures in
    told_unless_null_done stack_bytes (set_stack kernel None (unless_null c.args.stack (stack_at c.args.mem.now c.args.stack)))
    c.in-Ok.before c.args.old c.store_unless_null.result c.change_stack.new.self c.args.mem.now c.store_unless_null.new.mem c.stack_bytes.result
    (c.in-Ok.ensures.row.came ∙ ap (λ s. (set_stack kernel None s).came) given)
    (c.in-Ok.ensures.row.state ∙ ap (λ s. (set_stack kernel None s).state) given)
    c.stack_bytes.ensures c.store_unless_null.ensures.reply c.store_unless_null.ensures.written
