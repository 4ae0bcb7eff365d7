-- An error, or what is asked for.
use Rattle.std.proofs.Common.{◌≡◌, ◌∙◌, ap, sym}
use Rattle.kernel_model.specs.SignalRows.{accept}
use Rattle.kernel_model.specs.SignalSets.{blockable}
use Rattle.kernel_model.specs.State.{Kernel}
use Rattle.o32_model.specs.GuestBytes.{unless_null}
use Rattle.o32_model.specs.Masks.{set_at}
use Rattle.o32_model.specs.Suspending.{all_signals}
use Rattle.o32_model.specs.Times.{spec_at}
use Rattle.outside.specs.Streams.{contents}
use Rattle.bridge_acceptance.proofs.Rows.{accept_law}
use Rattle.bridge_acceptance.specs.declared.accepting.Accepted.{Accepted}
use Rattle.bridge_acceptance.specs.inside.Accepting.{accept_by, acceptance, did}
use Rattle.bridge_signal_state.proofs.Moving.{acted_as, moves_none}
use Rattle.bridge_acceptance.proofs.accepting.accept.Goals as goal

pub returns-in-Err-clause-acts : goal.returns-in-Err-clause-acts
returns-in-Err-clause-acts g c = λ left told.
    let law = accept_law c.args.below.now.kernel.now (set_at c.args.space.now c.args.set) (unless_null c.args.time (spec_at c.args.space.now c.args.time)) c.args.size in
    (law ∙ ap (accept_by c.args.below.now.kernel.now) (sym c.in-Err.ensures), moves_none c.args.below.now.kernel.now (contents g.I.Source.left g.O.Sink.written g.E.Sink.written c.args.dev.now) left c.args.below.now.log.now)

pub returns-in-Ok-clause-acts : goal.returns-in-Ok-clause-acts
returns-in-Ok-clause-acts g c = λ left told.
    let law = accept_law c.args.below.now.kernel.now (set_at c.args.space.now c.args.set) (unless_null c.args.time (spec_at c.args.space.now c.args.time)) c.args.size in
    let before = contents g.I.Source.left g.O.Sink.written g.E.Sink.written c.args.dev.now in
    let after = contents g.I.Source.left g.O.Sink.written g.E.Sink.written c.accept_asked.new.dev in
    acted_as (λ (came : Accepted) (became : Kernel). acceptance c.args.below.now.kernel.now c.in-Ok.asked ≡ did became came)
    (λ (came : Accepted) (became : Kernel). accept c.args.below.now.kernel.now all_signals blockable (set_at c.args.space.now c.args.set) (unless_null c.args.time (spec_at c.args.space.now c.args.time)) c.args.size ≡ did became came)
    c.accept_asked.result c.args.below.now.kernel.now c.accept_asked.new.below.kernel.now before after left c.args.below.now.log.now c.accept_asked.new.below.log.now
    (λ came does. law ∙ ap (accept_by c.args.below.now.kernel.now) (sym c.in-Ok.ensures) ∙ does)
    (c.accept_asked.ensures.acts left told)
