-- By the number of the call
use Rattle.std.proofs.Common.{◌≡◌, ◌∙◌, refl, rules, subst, sym}
use Rattle.std.specs.Prelude.{IfOk}
use Rattle.o32_model.specs.WaitEnds.{WaitEnd, ends_with}
use Rattle.outside.specs.Streams.{contents}
use Rattle.bridge_poll.proofs.Ending.{ended_poll, ended_ppoll}
use Rattle.bridge_poll.proofs.ends.poll_end.Goals as goal

pub returns-in_ok-close-in-4188-clause-ends : goal.returns-in_ok-close-in-4188-clause-ends
returns-in_ok-close-in-4188-clause-ends g c = λ left told.
    (refl, ended_poll c.args.wait.now c.args.cause c.args.clock c.args.below.now.kernel.now c.args.space.now c.in-4188.is ∙ c.in_ok-close-in-4188.ensures.ends c.args.below.now.kernel.now)

pub returns-in_default-clause-ends : goal.returns-in_default-clause-ends
returns-in_default-clause-ends g c = λ left told.
    let is : c.args.wait.now.nr ≡ 4302 = search rules in
    subst (λ (e : WaitEnd). (contents g.I.Source.left g.O.Sink.written g.E.Sink.written c.ppoll_end.new.dev ≡ contents g.I.Source.left g.O.Sink.written g.E.Sink.written c.args.dev.now)
    × IfOk c.ppoll_end.result (λ closed. e ≡ ends_with closed c.ppoll_end.new.below.kernel.now c.ppoll_end.new.space))
    (sym (ended_ppoll c.args.wait.now c.args.cause c.args.clock c.args.below.now.kernel.now c.args.space.now is)) (c.ppoll_end.ensures.ends left told)
