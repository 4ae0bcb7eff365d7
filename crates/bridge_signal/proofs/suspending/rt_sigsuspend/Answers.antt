-- An error, or the wait with the set.
use Rattle.std.proofs.Common.{◌≡◌, ◌∙◌, ap, sym}
use Rattle.guest_space.specs.Memory.{Memory}
use Rattle.kernel_model.specs.SignalRows.{with_mask}
use Rattle.o32_model.specs.Masks.{set_at}
use Rattle.o32_model.specs.Step.{failure}
use Rattle.o32_model.specs.Suspending.{rt_sigsuspend_row}
use Rattle.o32_model.specs.declared.call_words.CallWords.{CallWords}
use Rattle.o32_model.specs.declared.outcome.Outcome.{Outcome}
use Rattle.outside.specs.Streams.{contents}
use Rattle.bridge_signal_state.proofs.Moving.{moves_none}
use Rattle.bridge_signal.proofs.Ends.{acts_keeps, acts_row, ends_called, ends_quietly}
use Rattle.bridge_signal.proofs.Waits.{suspend_ended, suspend_fails}
use Rattle.bridge_signal.specs.inside.Asked.{if_sized}
use Rattle.bridge_signal_state.specs.Passed.{ended, ending, fails}
use Rattle.bridge_signal.specs.inside.Waiting.{asleep, masked}
use Rattle.bridge_signal.proofs.suspending.rt_sigsuspend.Goals as goal

pub returns-in-Err-clause-row : goal.returns-in-Err-clause-row
returns-in-Err-clause-row g c = λ guest words memory left told.
    let asked = c.in-Err.ensures ∙ ap (λ (m : Memory). if_sized c.args.size (set_at m c.args.address)) (sym memory) in
    ends_called (failure c.in-Err.error) c.args.space.now guest.processor (fails guest.memory c.in-Err.error) (rt_sigsuspend_row c.args.below.now.kernel.now guest c.args.address c.args.size left)
    (moves_none c.args.below.now.kernel.now (contents g.I.Source.left g.O.Sink.written g.E.Sink.written c.args.dev.now) left c.args.below.now.log.now) told (suspend_fails c.args.below.now.kernel.now guest c.args.address c.args.size left c.in-Err.error asked) (ap (λ (m : Memory). fails m c.in-Err.error) memory)

pub returns-in-Err-clause-kept : goal.returns-in-Err-clause-kept
returns-in-Err-clause-kept g c = λ guest words memory left told.
    let asked = c.in-Err.ensures ∙ ap (λ (m : Memory). if_sized c.args.size (set_at m c.args.address)) (sym memory) in
    ends_quietly guest (failure c.in-Err.error) guest.processor (rt_sigsuspend_row c.args.below.now.kernel.now guest c.args.address c.args.size left)
    (moves_none c.args.below.now.kernel.now (contents g.I.Source.left g.O.Sink.written g.E.Sink.written c.args.dev.now) left c.args.below.now.log.now) (suspend_fails c.args.below.now.kernel.now guest c.args.address c.args.size left c.in-Err.error asked)

pub returns-in-Ok-clause-row : goal.returns-in-Ok-clause-row
returns-in-Ok-clause-row g c = λ guest words memory left told.
    let asked = c.in-Ok.ensures ∙ ap (λ (m : Memory). if_sized c.args.size (set_at m c.args.address)) (sym memory) in
    acts_row (λ outcome became. (outcome ≡ masked (asleep c.args.words.now) c.args.below.now.kernel.now.signals.mask) × (became ≡ with_mask c.args.below.now.kernel.now c.in-Ok.set)) guest (rt_sigsuspend_row c.args.below.now.kernel.now guest c.args.address c.args.size left) c.suspend.result c.args.below.now.kernel.now c.suspend.new.below.kernel.now c.args.space.now guest.processor (contents g.I.Source.left g.O.Sink.written g.E.Sink.written c.args.dev.now) (contents g.I.Source.left g.O.Sink.written g.E.Sink.written c.suspend.new.dev) left c.args.below.now.log.now c.suspend.new.below.log.now memory told
    (λ outcome does. suspend_ended c.args.below.now.kernel.now c.suspend.new.below.kernel.now guest c.args.address c.args.size left c.in-Ok.set asked does.1
    ∙ ap (λ (o : Outcome). ended c.suspend.new.below.kernel.now guest.processor left (ending o guest.memory)) (ap (λ (w : CallWords). masked (asleep w) c.args.below.now.kernel.now.signals.mask) words ∙ sym does.0))
    (c.suspend.ensures.acts left told)

pub returns-in-Ok-clause-kept : goal.returns-in-Ok-clause-kept
returns-in-Ok-clause-kept g c = λ guest words memory left told.
    let asked = c.in-Ok.ensures ∙ ap (λ (m : Memory). if_sized c.args.size (set_at m c.args.address)) (sym memory) in
    acts_keeps (λ outcome became. (outcome ≡ masked (asleep c.args.words.now) c.args.below.now.kernel.now.signals.mask) × (became ≡ with_mask c.args.below.now.kernel.now c.in-Ok.set)) guest (rt_sigsuspend_row c.args.below.now.kernel.now guest c.args.address c.args.size left) c.suspend.result c.args.below.now.kernel.now c.suspend.new.below.kernel.now guest.processor (contents g.I.Source.left g.O.Sink.written g.E.Sink.written c.args.dev.now) (contents g.I.Source.left g.O.Sink.written g.E.Sink.written c.suspend.new.dev) left c.args.below.now.log.now c.suspend.new.below.log.now
    (λ outcome does. suspend_ended c.args.below.now.kernel.now c.suspend.new.below.kernel.now guest c.args.address c.args.size left c.in-Ok.set asked does.1
    ∙ ap (λ (o : Outcome). ended c.suspend.new.below.kernel.now guest.processor left (ending o guest.memory)) (ap (λ (w : CallWords). masked (asleep w) c.args.below.now.kernel.now.signals.mask) words ∙ sym does.0))
    (c.suspend.ensures.acts left told)
