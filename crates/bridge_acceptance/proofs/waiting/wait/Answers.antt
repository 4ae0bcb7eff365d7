-- The native call changes nothing where none pends.
use Rattle.std.proofs.Common.{◌≡◌, ◌∙◌, ℕ, List, ap, refl, sym}
use Rattle.kernel_core.specs.declared.reply.Reply.{Reply}
use Rattle.outside.specs.Streams.{contents}
use Rattle.bridge_acceptance.proofs.Rows.{wait_looks, wait_reply, waited}
use Rattle.bridge_acceptance.specs.declared.accepting.Accepted.{Accepted}
use Rattle.bridge_acceptance.specs.inside.Accepting.{acceptance, came_of, did}
use Rattle.bridge_signal_state.proofs.Passed.{looked_stop}
use Rattle.bridge_acceptance.proofs.waiting.wait.Goals as goal

pub returns-clause-looks : goal.returns-clause-looks
returns-clause-looks g c = λ none left told.
    let look = λ (left : List ℕ). wait_looks c.args.below.now.kernel.now c.put_asked.new.mem left c.in_ok-time.time c.args.asked c.in_ok-time.ensures.set c.in_ok-time.ensures.time none in
    let seen = c.in_ok-reply.ensures.looks (wait_reply c.put_asked.new.mem c.args.below.now.kernel.now c.args.asked.time) c.put_asked.new.mem look left told in (
      waited c.args.below.now.kernel.now c.put_asked.new.mem c.args.asked none ∙ ap (λ (r : Reply). did c.args.below.now.kernel.now (came_of r)) (sym seen.0.answered) ∙ ap (did c.args.below.now.kernel.now) (sym c.came_of.ensures),
      seen.1,
    )

pub returns-in_err-time-clause-looks : goal.returns-in_err-time-clause-looks
returns-in_err-time-clause-looks g c = λ none left told.
    let at = contents g.I.Source.left g.O.Sink.written g.E.Sink.written c.args.dev.now in
    looked_stop (λ (came : Accepted). acceptance c.args.below.now.kernel.now c.args.asked ≡ did c.args.below.now.kernel.now came) c.from_residual.result c.args.below.now.kernel.now c.args.below.now.kernel.now at at left c.args.below.now.log.now c.args.below.now.log.now c.from_residual.ensures.0 refl

pub returns-in_err-reply-clause-looks : goal.returns-in_err-reply-clause-looks
returns-in_err-reply-clause-looks g c = λ none left told.
    let look = λ (left : List ℕ). wait_looks c.args.below.now.kernel.now c.put_asked.new.mem left c.in_ok-time.time c.args.asked c.in_ok-time.ensures.set c.in_ok-time.ensures.time none in
    let before = contents g.I.Source.left g.O.Sink.written g.E.Sink.written c.args.dev.now in
    let after = contents g.I.Source.left g.O.Sink.written g.E.Sink.written c.look.new.dev in
    looked_stop (λ (came : Accepted). acceptance c.args.below.now.kernel.now c.args.asked ≡ did c.args.below.now.kernel.now came) c.from_residual-in_err-reply.result c.args.below.now.kernel.now c.look.new.self.kernel.now before after left c.args.below.now.log.now c.look.new.self.log.now c.from_residual-in_err-reply.ensures.0
    (c.in_err-reply.ensures.looks (wait_reply c.put_asked.new.mem c.args.below.now.kernel.now c.args.asked.time) c.put_asked.new.mem look left told)
