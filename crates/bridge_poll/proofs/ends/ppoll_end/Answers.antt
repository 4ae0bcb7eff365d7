-- What is told, and then the mask and the time
use Rattle.std.proofs.Common.{◌≡◌, subst, sym}
use Rattle.std.specs.Prelude.{IfOk}
use Rattle.o32_model.specs.WaitEnds.{WaitEnd, ends_with, wait_word}
use Rattle.outside.specs.Streams.{contents}
use Rattle.bridge_limits.specs.Limits.{left_form}
use Rattle.bridge_poll.proofs.Calls.{time_place}
use Rattle.bridge_poll.proofs.Ending.{kept_told, left_alike, limited_is}
use Rattle.bridge_poll.proofs.ends.ppoll_end.Goals as goal

pub returns-clause-ends : goal.returns-clause-ends
returns-clause-ends g c = λ left told.
    let wait = c.args.wait.now in
    let kernel = c.args.below.now.kernel.now in
    let before = c.args.space.now in
    let after = c.end.new.space in
    let form = left_form (time_place (wait_word wait 2)) in
    let stopped = c.again_or_interrupted-stopped.result in
    let close = c.in_ok-close.close in
    subst (λ (e : WaitEnd). (contents g.I.Source.left g.O.Sink.written g.E.Sink.written c.end_limited.new.dev ≡ contents g.I.Source.left g.O.Sink.written g.E.Sink.written c.args.dev.now)
    × IfOk c.end_limited.result (λ closed. e ≡ ends_with closed c.end_limited.new.below.kernel.now c.end_limited.new.space))
    (sym (limited_is form wait c.args.cause c.args.clock kernel before after stopped close c.again_or_interrupted-stopped.ensures c.in_ok-close.ensures.ends))
    (c.end_limited.ensures.ends before (left_alike wait c.args.cause stopped close kernel before after (c.in_ok-close.ensures.ends kernel)) left told)

pub returns-clause-kept : goal.returns-clause-kept
returns-clause-kept g c = λ left told.
    kept_told c.args.below.now.kernel.now c.end_limited.new.below.kernel.now c.args.space.now.pages c.end.new.space.pages c.end_limited.new.space.pages left c.args.below.now.log.now c.end.new.log c.end_limited.new.below.log.now
    c.end_limited.result c.end.ensures.native c.in_ok-close.ensures.effects (c.end_limited.ensures.kept left told)
