-- Milliseconds, and no mask
use Rattle.std.proofs.Common.{subst}
use Rattle.o32_model.specs.Answered.{Answers}
use Rattle.o32_model.specs.Step.{O32Step}
use Rattle.o32_model.specs.Words.{argument, signed_argument}
use Rattle.std.specs.Prelude.{OnOk}
use Rattle.outside.specs.Streams.{contents}
use Rattle.bridge_limits.specs.Passed.{Keeps}
use Rattle.bridge_poll.proofs.Calls.{poll_limited}
use Rattle.bridge_poll.proofs.call.poll.Goals as goal

pub returns-clause-row : goal.returns-clause-row
returns-clause-row g c = λ guest called same left told.
    let words = c.args.words.now in
    subst (λ (s : O32Step). Answers s c.limited.result c.limited.new.below.kernel.now c.limited.new.space guest.processor (contents g.I.Source.left g.O.Sink.written g.E.Sink.written c.args.dev.now) (contents g.I.Source.left g.O.Sink.written g.E.Sink.written c.limited.new.dev))
    (poll_limited c.args.below.now.kernel.now guest (argument words 0) (argument words 1) (signed_argument words 2) c.poll_wait.result left c.poll_wait.ensures)
    (c.limited.ensures.row guest called same left told)

pub returns-clause-kept : goal.returns-clause-kept
returns-clause-kept g c = λ guest called same left told.
    let words = c.args.words.now in
    subst (λ (s : O32Step). OnOk c.limited.result (Keeps s c.args.below.now.kernel.now left guest c.args.below.now.log.now c.limited.new.below.log.now))
    (poll_limited c.args.below.now.kernel.now guest (argument words 0) (argument words 1) (signed_argument words 2) c.poll_wait.result left c.poll_wait.ensures)
    (c.limited.ensures.kept guest called same left told)
