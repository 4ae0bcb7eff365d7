-- A look at what pends, and then the wait or the signal.
use Rattle.std.proofs.Common.{◌≡◌, ◌∙◌, Option, Some, None, true, ap, sym}
use Rattle.kernel_core.specs.declared.signal.Sig.{Sig}
use Rattle.kernel_model.specs.SignalRows.{first_pending, pends}
use Rattle.kernel_model.specs.SignalSets.{blockable}
use Rattle.kernel_model.specs.State.{Kernel}
use Rattle.o32_model.specs.Suspending.{all_signals}
use Rattle.outside.specs.Streams.{contents}
use Rattle.bridge_acceptance.proofs.Naming.{first_is, first_pends}
use Rattle.bridge_acceptance.specs.declared.accepting.Accepted.{Accepted}
use Rattle.bridge_acceptance.specs.inside.Accepting.{acceptance, did, met}
use Rattle.bridge_signal_state.proofs.Passed.{still_told}
use Rattle.bridge_signal_state.proofs.Moving.{acted_after, acted_as, acted_look}
use Rattle.bridge_acceptance.proofs.accepting.accept_asked.Goals as goal

pub returns-in-None-clause-acts : goal.returns-in-None-clause-acts
returns-in-None-clause-acts g c = λ left told.
    let seen = c.in_ok-pending.ensures.looks left told in
    let middle : Kernel = c.pending.new.below.kernel.now in
    let none : first_pending middle.signals all_signals (blockable c.args.asked.set) ≡ None =
    ap (λ (k : Kernel). first_pending k.signals all_signals (blockable c.args.asked.set)) seen.1.same
    ∙ sym (first_is c.args.below.now.kernel.now.signals c.in_ok-pending.pending c.args.asked.set None seen.0 c.in-None.ensures) in
    let before = contents g.I.Source.left g.O.Sink.written g.E.Sink.written c.args.dev.now in
    let between = contents g.I.Source.left g.O.Sink.written g.E.Sink.written c.pending.new.dev in
    let after = contents g.I.Source.left g.O.Sink.written g.E.Sink.written c.wait.new.dev in
    acted_after (λ (kernel : Kernel) (came : Accepted) (became : Kernel). acceptance kernel c.args.asked ≡ did became came) c.wait.result c.args.below.now.kernel.now middle c.wait.new.below.kernel.now before between after left c.args.below.now.log.now c.pending.new.below.log.now c.wait.new.below.log.now seen.1
    (acted_as (λ (came : Accepted) (became : Kernel). (acceptance middle c.args.asked ≡ did middle came) × (became ≡ middle)) (λ (came : Accepted) (became : Kernel). acceptance middle c.args.asked ≡ did became came)
    c.wait.result middle c.wait.new.below.kernel.now between after left c.pending.new.below.log.now c.wait.new.below.log.now
    (λ came does. does.0 ∙ ap (λ (k : Kernel). did k came) (sym does.1))
    (acted_look (λ (came : Accepted). acceptance middle c.args.asked ≡ did middle came) c.wait.result middle c.wait.new.below.kernel.now between after left c.pending.new.below.log.now c.wait.new.below.log.now
    (c.wait.ensures.looks none left (still_told seen.1 told))))

pub returns-in-Some-clause-acts : goal.returns-in-Some-clause-acts
returns-in-Some-clause-acts g c = λ left told.
    let seen = c.in_ok-pending.ensures.looks left told in
    let middle : Kernel = c.pending.new.below.kernel.now in
    let first = first_is c.args.below.now.kernel.now.signals c.in_ok-pending.pending c.args.asked.set (Some c.in-Some.sig) seen.0 c.in-Some.ensures in
    let found : first_pending middle.signals all_signals (blockable c.args.asked.set) ≡ Some c.in-Some.sig =
    ap (λ (k : Kernel). first_pending k.signals all_signals (blockable c.args.asked.set)) seen.1.same ∙ sym first in
    let there : pends middle.signals c.in-Some.sig ≡ true = first_pends middle.signals (blockable c.args.asked.set) c.in-Some.sig found in
    let before = contents g.I.Source.left g.O.Sink.written g.E.Sink.written c.args.dev.now in
    let between = contents g.I.Source.left g.O.Sink.written g.E.Sink.written c.pending.new.dev in
    let after = contents g.I.Source.left g.O.Sink.written g.E.Sink.written c.accept_signal.new.dev in
    acted_after (λ (kernel : Kernel) (came : Accepted) (became : Kernel). acceptance kernel c.args.asked ≡ did became came) c.accept_signal.result c.args.below.now.kernel.now middle c.accept_signal.new.below.kernel.now before between after left c.args.below.now.log.now c.pending.new.below.log.now c.accept_signal.new.below.log.now seen.1
    (acted_as (λ (came : Accepted) (became : Kernel). met middle c.args.asked.time (Some c.in-Some.sig) ≡ did became came) (λ (came : Accepted) (became : Kernel). acceptance middle c.args.asked ≡ did became came)
    c.accept_signal.result middle c.accept_signal.new.below.kernel.now between after left c.pending.new.below.log.now c.accept_signal.new.below.log.now
    (λ came does. ap (λ (f : Option Sig). met middle c.args.asked.time f) found ∙ does)
    (c.accept_signal.ensures.acts there left (still_told seen.1 told)))
