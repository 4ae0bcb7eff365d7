-- What pends and what is blocked say which signal is next.
use Rattle.std.proofs.Common.{◌≡◌, ◌∙◌, ◌&&◌, not, ap}
use Rattle.std.specs.Prelude.{find}
use Rattle.kernel_core.specs.declared.signal.Sig.{Sig}
use Rattle.kernel_model.specs.SignalRows.{pending_set}
use Rattle.kernel_model.specs.SignalSets.{SignalSet, has}
use Rattle.kernel_model.specs.State.{Kernel}
use Rattle.o32_model.specs.Suspending.{all_signals}
use Rattle.outside.specs.Streams.{Contents}
use Rattle.bridge_delivery.proofs.Nothing.{chosen}
use Rattle.bridge_delivery.proofs.Keeping.{keeps_look, keeps_then, told_then}
use Rattle.bridge_delivery.proofs.delivering.next.Goals as goal

pub returns-clause-looks : goal.returns-clause-looks
returns-clause-looks g c = λ left told.
    let signals = c.args.below.now.kernel.now.signals in
    let first = c.in_ok-pending.ensures.looks left told in
    let second = c.in_ok-blocked.ensures.looks left (ap (λ (at : Contents). at.left) first.1.rest ∙ told) in
    let mask : c.in_ok-blocked.blocked ≡ signals.mask = second.0 ∙ ap (λ (k : Kernel). k.signals.mask) first.1.same in (
      second.1.rest ∙ first.1.rest,
      second.1.same ∙ first.1.same,
      c.choose.ensures
          ∙ ap (λ (set : SignalSet). find (λ (signal : Sig). has set signal && not (has c.in_ok-blocked.blocked signal)) all_signals) first.0
          ∙ ap (λ (set : SignalSet). find (λ (signal : Sig). has (pending_set signals) signal && not (has set signal)) all_signals) mask
          ∙ chosen signals,
    )

pub returns-clause-kept : goal.returns-clause-kept
returns-clause-kept g c = λ pages left told.
    let first = c.in_ok-pending.ensures.looks left told in
    let second = c.in_ok-blocked.ensures.looks left (told_then first.1.rest told) in
    keeps_then (keeps_look pages first.1) (keeps_look pages second.1)
