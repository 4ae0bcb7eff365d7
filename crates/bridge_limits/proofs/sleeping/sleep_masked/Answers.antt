-- A look at the mask, and then the new one.
use Rattle.std.proofs.Common.{◌≡◌, ◌∙◌, Some, ap}
use Rattle.kernel_model.specs.SignalRows.{with_mask}
use Rattle.kernel_model.specs.SignalSets.{SignalSet}
use Rattle.kernel_model.specs.State.{Kernel}
use Rattle.o32_model.specs.declared.outcome.Outcome.{Outcome}
use Rattle.o32_model.specs.declared.outcome.Outcome.TheVariants.{Sleep}
use Rattle.o32_model.specs.declared.wait.Wait.{Wait}
use Rattle.outside.specs.Streams.{contents}
use Rattle.bridge_signal_state.proofs.Passed.{still_told}
use Rattle.bridge_signal_state.proofs.Moving.{acted_stop, moves_look, moves_then}
use Rattle.bridge_limits.specs.inside.Waiting.{sleeping}
use Rattle.bridge_limits.proofs.sleeping.sleep_masked.Goals as goal

pub returns-clause-acts : goal.returns-clause-acts
returns-clause-acts g c = λ left told.
    let seen = c.in_ok-before.ensures.looks left told in
    let done = c.in_ok-set_mask.ensures.acts left (still_told seen.1 told) in
    let wait = ap (λ (w : Wait). Sleep w) c.waiting.ensures ∙ ap (λ (s : SignalSet). sleeping c.args.words.now c.args.until (Some s)) seen.0 in
    ((wait, done.0 ∙ ap (λ (k : Kernel). with_mask k c.args.set) seen.1.same), moves_then (moves_look seen.1) done.1)

pub returns-in_err-before-clause-acts : goal.returns-in_err-before-clause-acts
returns-in_err-before-clause-acts g c = λ left told.
    let before = contents g.I.Source.left g.O.Sink.written g.E.Sink.written c.args.dev.now in
    let after = contents g.I.Source.left g.O.Sink.written g.E.Sink.written c.mask.new.dev in
    acted_stop (λ (outcome : Outcome) (became : Kernel). (outcome ≡ sleeping c.args.words.now c.args.until (Some c.args.below.now.kernel.now.signals.mask)) × (became ≡ with_mask c.args.below.now.kernel.now c.args.set))
    c.from_residual.result c.args.below.now.kernel.now c.mask.new.below.kernel.now before after left c.args.below.now.log.now c.mask.new.below.log.now c.from_residual.ensures.0 (c.in_err-before.ensures.looks left told)

pub returns-in_err-set_mask-clause-acts : goal.returns-in_err-set_mask-clause-acts
returns-in_err-set_mask-clause-acts g c = λ left told.
    let seen = c.in_ok-before.ensures.looks left told in
    let before = contents g.I.Source.left g.O.Sink.written g.E.Sink.written c.args.dev.now in
    let after = contents g.I.Source.left g.O.Sink.written g.E.Sink.written c.set_mask.new.dev in
    acted_stop (λ (outcome : Outcome) (became : Kernel). (outcome ≡ sleeping c.args.words.now c.args.until (Some c.args.below.now.kernel.now.signals.mask)) × (became ≡ with_mask c.args.below.now.kernel.now c.args.set))
    c.from_residual-in_err-set_mask.result c.args.below.now.kernel.now c.set_mask.new.below.kernel.now before after left c.args.below.now.log.now c.set_mask.new.below.log.now c.from_residual-in_err-set_mask.ensures.0
    (c.in_err-set_mask.ensures.acts left (still_told seen.1 told) ∙ seen.1.rest)
