use Rattle.std.proofs.Common.{◌≡◌, Some, None, sym, ap, subst, ◌∙◌}
use Rattle.kernel_core.specs.declared.error.Errno.TheVariants.{EAGAIN}
use Rattle.kernel_model.specs.Came.{refused}
use Rattle.kernel_model.specs.Clock.{waits_until}
use Rattle.kernel_model.specs.Shared.{Info}
use Rattle.kernel_model.specs.SignalRows.{first_pending, with_signals}
use Rattle.kernel_model.specs.State.{Kernel, Signals}
use Rattle.native_calls.specs.Signals.{native_order}
use Rattle.native_kernel.proofs.SignalTaking.{accepted, not_accepted, wait_leaves}
use Rattle.native_kernel.specs.inside.Signals.{Takes}
use Rattle.native_kernel.proofs.kernel.NativeKernel.accept_from.Goals as goal

pub returns-in-Some : goal.returns-in-Some
returns-in-Some c =
    let kernel = c.args.self.now in
    let set = c.args.set.now in
    let new = c.take_first.new.signals in
    let signals : c.self.inside.signals ≡ c.args.self.now.signals = ap (λ (k : Kernel). k.signals) c.self.view_is in
    let takes = subst (λ (s : Signals). Takes s (first_pending s native_order set) (Some c.in-Some.info) new) signals c.in-Some.ensures in
    let row = accepted kernel (first_pending kernel.signals native_order set) c.in-Some.info new (waits_until kernel c.args.until (refused kernel EAGAIN)) takes in
    record {
      came = ap (λ d. d.came) (sym row);
      state = ap (λ (k : Kernel). with_signals k new) c.self.view_is ∙ ap (λ d. d.state) (sym row);
      clock = ap (λ (k : Kernel). k.clock) c.self.view_is;
    }

pub returns-in-None : goal.returns-in-None
returns-in-None c =
    let kernel = c.args.self.now in
    let set = c.args.set.now in
    let new = c.take_first.new.signals in
    let until = c.args.until in
    let signals : c.self.inside.signals ≡ c.args.self.now.signals = ap (λ (k : Kernel). k.signals) c.self.view_is in
    let takes = subst (λ (s : Signals). Takes s (first_pending s native_order set) None new) signals c.in-None.ensures in
    let row = not_accepted kernel (first_pending kernel.signals native_order set) new (waits_until kernel until (refused kernel EAGAIN)) takes in
    let back = ap (λ (k : Kernel). with_signals k new) c.self.view_is ∙ ap (λ (s : Signals). with_signals kernel s) row.1 in
    record {
      came = c.wait.ensures ∙ ap (λ (k : Kernel). (waits_until k until (refused {V = Info} k EAGAIN)).came) back ∙ ap (λ d. d.came) (sym row.0);
      state = back ∙ sym (wait_leaves kernel until) ∙ ap (λ d. d.state) (sym row.0);
      clock = ap (λ (k : Kernel). k.clock) c.self.view_is;
    }
