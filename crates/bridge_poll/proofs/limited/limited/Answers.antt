-- The native call, and then the end or the wait
use Rattle.std.proofs.Common.{◌≡◌, sym, subst}
use Rattle.guest_space.specs.Memory.{Memory}
use Rattle.kernel_model.specs.State.{Kernel}
use Rattle.o32_model.specs.Answered.{Answers}
use Rattle.o32_model.specs.Effects.{Effected}
use Rattle.o32_model.specs.Step.{wait_of}
use Rattle.o32_model.specs.declared.outcome.Outcome.{Outcome}
use Rattle.outside.specs.Streams.{contents}
use Rattle.bridge_limits.proofs.Endings.{acts_keeps, acts_row, ends_called, ends_keeps}
use Rattle.bridge_limits.specs.Limits.{asleep, given_mask, masked_kernel}
use Rattle.bridge_limits.proofs.Passed.{still_told, stopped_row}
use Rattle.bridge_limits.specs.Passed.{reached}
use Rattle.bridge_limits.proofs.Moving.{acted_after, moves_look}
use Rattle.bridge_poll.proofs.Limiting.{ended_row, ends_so, waiting_row, waits_so}
use Rattle.bridge_poll.specs.inside.Asking.{polling}
use Rattle.bridge_poll.specs.inside.Limited.{limited_row}
use Rattle.bridge_poll.specs.inside.Telling.{told_bytes}
use Rattle.bridge_poll.proofs.limited.limited.Goals as goal

pub returns-in_err-outcome-in-Ended-clause-row : goal.returns-in_err-outcome-in-Ended-clause-row
returns-in_err-outcome-in-Ended-clause-row g c = λ guest called same left told.
    let seen = c.in_ok-answer.ensures.looks left told in
    stopped_row (limited_row c.args.below.now.kernel.now guest c.args.entries c.args.limits left) c.from_residual-in_err-outcome-in-Ended.result c.ask.new.below.kernel.now c.end.new.space guest.processor
    (contents g.I.Source.left g.O.Sink.written g.E.Sink.written c.args.dev.now) (contents g.I.Source.left g.O.Sink.written g.E.Sink.written c.ask.new.dev)
    c.from_residual-in_err-outcome-in-Ended.ensures.0 seen.1.rest

pub returns-in_ok-outcome-in-Ended-clause-row : goal.returns-in_ok-outcome-in-Ended-clause-row
returns-in_ok-outcome-in-Ended-clause-row g c = λ guest called same left told.
    let kernel = c.args.below.now.kernel.now in
    let answer = c.in_ok-answer.answer in
    let seen = c.in_ok-answer.ensures.looks left told in
    let found = ends_so kernel c.args.limits.wait (polling kernel c.args.space.now c.args.entries c.args.limits) c.args.entries.count answer.came answer.entries answer.time c.ask.new.below.memory.now c.in-Ended.ended c.in-Ended.is seen.0 in
    ends_called guest c.in_ok-outcome-in-Ended.outcome c.end.new.space (limited_row kernel guest c.args.entries c.args.limits left) (moves_look seen.1) told
    (ended_row kernel c.ask.new.below.kernel.now guest c.args.entries c.args.limits left c.args.space.now c.end.new.space c.in-Ended.ended (told_bytes c.ask.new.below.memory.now answer.entries c.args.entries.count) c.in_ok-outcome-in-Ended.outcome
    same seen.1.same found.0 (c.in_ok-outcome-in-Ended.ensures.stored _ found.1) c.in_ok-outcome-in-Ended.ensures.answer)

pub returns-in_ok-outcome-in-Ended-clause-kept : goal.returns-in_ok-outcome-in-Ended-clause-kept
returns-in_ok-outcome-in-Ended-clause-kept g c = λ guest called same left told.
    let kernel = c.args.below.now.kernel.now in
    let answer = c.in_ok-answer.answer in
    let seen = c.in_ok-answer.ensures.looks left told in
    let found = ends_so kernel c.args.limits.wait (polling kernel c.args.space.now c.args.entries c.args.limits) c.args.entries.count answer.came answer.entries answer.time c.ask.new.below.memory.now c.in-Ended.ended c.in-Ended.is seen.0 in
    ends_keeps guest c.in_ok-outcome-in-Ended.outcome c.end.new.space (limited_row kernel guest c.args.entries c.args.limits left) c.end.new.log (moves_look seen.1)
    (ended_row kernel c.ask.new.below.kernel.now guest c.args.entries c.args.limits left c.args.space.now c.end.new.space c.in-Ended.ended (told_bytes c.ask.new.below.memory.now answer.entries c.args.entries.count) c.in_ok-outcome-in-Ended.outcome
    same seen.1.same found.0 (c.in_ok-outcome-in-Ended.ensures.stored _ found.1) c.in_ok-outcome-in-Ended.ensures.answer)
    c.end.ensures.native
    (λ processor sent. subst (λ (m : Memory). Effected c.ask.new.below.log.now.effects c.end.new.log.effects (reached processor m.pages sent) (reached processor c.end.new.space.pages sent)) (sym same)
    (c.in_ok-outcome-in-Ended.ensures.effects processor sent))

pub returns-in-Waits-clause-row : goal.returns-in-Waits-clause-row
returns-in-Waits-clause-row g c = λ guest called same left told.
    let kernel = c.args.below.now.kernel.now in
    let answer = c.in_ok-answer.answer in
    let seen = c.in_ok-answer.ensures.looks left told in
    let row = waits_so kernel c.args.limits.wait (polling kernel c.args.space.now c.args.entries c.args.limits) c.args.entries.count answer.came answer.entries answer.time c.ask.new.below.memory.now c.in-Waits.until c.in-Waits.is seen.0 in
    let before = contents g.I.Source.left g.O.Sink.written g.E.Sink.written c.args.dev.now in
    let between = contents g.I.Source.left g.O.Sink.written g.E.Sink.written c.ask.new.dev in
    let after = contents g.I.Source.left g.O.Sink.written g.E.Sink.written c.sleep.new.dev in
    let does = λ (kernel : Kernel) (outcome : Outcome) (became : Kernel).
    (outcome ≡ asleep kernel (wait_of c.args.words.now (record { done = 0; until = c.in-Waits.until })) (given_mask c.args.limits.own)) × (became ≡ masked_kernel kernel (given_mask c.args.limits.own)) in
    subst (λ (m : Memory). Answers (limited_row kernel guest c.args.entries c.args.limits left) c.sleep.result c.sleep.new.below.kernel.now m guest.processor before after) same
    (acts_row (does kernel) guest (limited_row kernel guest c.args.entries c.args.limits left) c.sleep.result kernel c.sleep.new.below.kernel.now before after left c.args.below.now.log.now c.sleep.new.below.log.now told
    (λ outcome done. waiting_row kernel c.sleep.new.below.kernel.now guest c.args.entries c.args.limits left c.args.words.now c.args.space.now c.in-Waits.until outcome called same row done.0 done.1)
    (acted_after does c.sleep.result kernel c.ask.new.below.kernel.now c.sleep.new.below.kernel.now before between after left c.args.below.now.log.now c.ask.new.below.log.now c.sleep.new.below.log.now seen.1 (c.sleep.ensures.acts left (still_told seen.1 told))))

pub returns-in-Waits-clause-kept : goal.returns-in-Waits-clause-kept
returns-in-Waits-clause-kept g c = λ guest called same left told.
    let kernel = c.args.below.now.kernel.now in
    let answer = c.in_ok-answer.answer in
    let seen = c.in_ok-answer.ensures.looks left told in
    let row = waits_so kernel c.args.limits.wait (polling kernel c.args.space.now c.args.entries c.args.limits) c.args.entries.count answer.came answer.entries answer.time c.ask.new.below.memory.now c.in-Waits.until c.in-Waits.is seen.0 in
    let before = contents g.I.Source.left g.O.Sink.written g.E.Sink.written c.args.dev.now in
    let between = contents g.I.Source.left g.O.Sink.written g.E.Sink.written c.ask.new.dev in
    let after = contents g.I.Source.left g.O.Sink.written g.E.Sink.written c.sleep.new.dev in
    let does = λ (kernel : Kernel) (outcome : Outcome) (became : Kernel).
    (outcome ≡ asleep kernel (wait_of c.args.words.now (record { done = 0; until = c.in-Waits.until })) (given_mask c.args.limits.own)) × (became ≡ masked_kernel kernel (given_mask c.args.limits.own)) in
    acts_keeps (does kernel) guest (limited_row kernel guest c.args.entries c.args.limits left) c.sleep.result kernel c.sleep.new.below.kernel.now before after left c.args.below.now.log.now c.sleep.new.below.log.now
    (λ outcome done. waiting_row kernel c.sleep.new.below.kernel.now guest c.args.entries c.args.limits left c.args.words.now c.args.space.now c.in-Waits.until outcome called same row done.0 done.1)
    (acted_after does c.sleep.result kernel c.ask.new.below.kernel.now c.sleep.new.below.kernel.now before between after left c.args.below.now.log.now c.ask.new.below.log.now c.sleep.new.below.log.now seen.1 (c.sleep.ensures.acts left (still_told seen.1 told)))
