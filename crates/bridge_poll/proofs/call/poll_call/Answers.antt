-- Each arm makes the row of its number.
use Rattle.std.proofs.Common.{refl, subst, ◌∙◌, ap, rules}
use Rattle.std.specs.Prelude.{OnOk}
use Rattle.o32_model.specs.Answered.{Answers}
use Rattle.o32_model.specs.Step.{O32Step}
use Rattle.outside.specs.Streams.{contents}
use Rattle.bridge_limits.specs.Passed.{Keeps}
use Rattle.bridge_poll.proofs.Calls.{called_poll, called_ppoll}
use Rattle.bridge_poll.specs.Found.{found}
use Rattle.o32_calls.specs.Numbers.{poll_number}
use Rattle.bridge_poll.proofs.call.poll_call.Goals as goal

pub returns-in-Poll-clause-row : goal.returns-in-Poll-clause-row
returns-in-Poll-clause-row g c = λ left told.
    let guest = found c.args.args.now c.args.cpu.now c.args.space.now in
    let row = subst (λ (s : O32Step). Answers s c.poll.result c.poll.new.below.kernel.now c.poll.new.space c.args.cpu.now (contents g.I.Source.left g.O.Sink.written g.E.Sink.written c.args.dev.now) (contents g.I.Source.left g.O.Sink.written g.E.Sink.written c.poll.new.dev))
    (called_poll c.args.seen.now c.args.k.now guest left (c.requires ∙ ap poll_number c.in-Poll.is)) (c.poll.ensures.row guest refl refl left told) in
    search rules

pub returns-in-Poll-clause-kept : goal.returns-in-Poll-clause-kept
returns-in-Poll-clause-kept g c = λ left told.
    let guest = found c.args.args.now c.args.cpu.now c.args.space.now in
    let row = subst (λ (s : O32Step). OnOk c.poll.result (Keeps s c.args.k.now left guest c.args.log.now c.poll.new.below.log.now))
    (called_poll c.args.seen.now c.args.k.now guest left (c.requires ∙ ap poll_number c.in-Poll.is)) (c.poll.ensures.kept guest refl refl left told) in
    search rules

pub returns-in-Ppoll-clause-row : goal.returns-in-Ppoll-clause-row
returns-in-Ppoll-clause-row g c = λ left told.
    let guest = found c.args.args.now c.args.cpu.now c.args.space.now in
    let row = subst (λ (s : O32Step). Answers s c.ppoll.result c.ppoll.new.below.kernel.now c.ppoll.new.space c.args.cpu.now (contents g.I.Source.left g.O.Sink.written g.E.Sink.written c.args.dev.now) (contents g.I.Source.left g.O.Sink.written g.E.Sink.written c.ppoll.new.dev))
    (called_ppoll c.args.seen.now c.args.k.now guest left (c.requires ∙ ap poll_number c.in-Ppoll.is)) (c.ppoll.ensures.row guest refl refl left told) in
    search rules

pub returns-in-Ppoll-clause-kept : goal.returns-in-Ppoll-clause-kept
returns-in-Ppoll-clause-kept g c = λ left told.
    let guest = found c.args.args.now c.args.cpu.now c.args.space.now in
    let row = subst (λ (s : O32Step). OnOk c.ppoll.result (Keeps s c.args.k.now left guest c.args.log.now c.ppoll.new.below.log.now))
    (called_ppoll c.args.seen.now c.args.k.now guest left (c.requires ∙ ap poll_number c.in-Ppoll.is)) (c.ppoll.ensures.kept guest refl refl left told) in
    search rules
