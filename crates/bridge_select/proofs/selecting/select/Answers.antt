-- A call that is answered, and told of, or that waits.
use Rattle.kernel_model.specs.Clock.{left_of_wait}
use Rattle.o32_model.specs.declared.outcome.Outcome.{Outcome}
use Rattle.outside.specs.Streams.{contents}
use Rattle.bridge_limits.proofs.Endings.{acts_keeps, acts_row, ends_called, ends_keeps}
use Rattle.bridge_limits.proofs.Passed.{still_told, stopped_row}
use Rattle.bridge_limits.proofs.Moving.{acted_after, moves_look}
use Rattle.bridge_select.specs.Found.{found}
use Rattle.bridge_select.specs.inside.Requests.{requested, selects}
use Rattle.bridge_select.specs.inside.Telling.{selecting}
use Rattle.bridge_select.proofs.Asking.{tells_of, waits_of}
use Rattle.bridge_select.proofs.Selected.{Sleeps, told_row, wait_row}
use Rattle.bridge_select.proofs.selecting.select.Goals as goal

pub returns-in_err-answer-clause-row : goal.returns-in_err-answer-clause-row
returns-in_err-answer-clause-row g c = λ processor left told.
    let guest = found c.args.words.now processor c.args.space.now in
    stopped_row (selects c.args.below.now.kernel.now guest (requested c.args.request.now) left) c.from_residual.result c.ask.new.below.kernel.now c.args.space.now processor
    (contents g.I.Source.left g.O.Sink.written g.E.Sink.written c.args.dev.now) (contents g.I.Source.left g.O.Sink.written g.E.Sink.written c.ask.new.dev) c.from_residual.ensures.0
    (c.in_err-answer.ensures.looks left told)

pub returns-in_err-outcome-in-Done-clause-row : goal.returns-in_err-outcome-in-Done-clause-row
returns-in_err-outcome-in-Done-clause-row g c = λ processor left told.
    let guest = found c.args.words.now processor c.args.space.now in
    let seen = c.in_ok-answer.ensures.looks left told in
    stopped_row (selects c.args.below.now.kernel.now guest (requested c.args.request.now) left) c.from_residual-in_err-outcome-in-Done.result c.ask.new.below.kernel.now c.tell.new.space processor
    (contents g.I.Source.left g.O.Sink.written g.E.Sink.written c.args.dev.now) (contents g.I.Source.left g.O.Sink.written g.E.Sink.written c.ask.new.dev)
    c.from_residual-in_err-outcome-in-Done.ensures.0 seen.1.rest

pub returns-in-Sleep-clause-row : goal.returns-in-Sleep-clause-row
returns-in-Sleep-clause-row g c = λ processor left told.
    let kernel = c.args.below.now.kernel.now in
    let guest = found c.args.words.now processor c.args.space.now in
    let asked = requested c.args.request.now in
    let seen = c.in_ok-answer.ensures.looks left told in
    let until = c.in-Sleep.wake.until in
    let before = contents g.I.Source.left g.O.Sink.written g.E.Sink.written c.args.dev.now in
    let between = contents g.I.Source.left g.O.Sink.written g.E.Sink.written c.ask.new.dev in
    let after = contents g.I.Source.left g.O.Sink.written g.E.Sink.written c.sleep.new.dev in
    let waits = waits_of asked.asked (left_of_wait kernel kernel.clock asked.wait) (selecting kernel guest.memory asked).came c.in_ok-answer.answer c.ask.new.below.memory.now c.in-Sleep.wake seen.0.is c.in-Sleep.is in
    acts_row (Sleeps guest asked until kernel) guest (selects kernel guest asked left) c.sleep.result kernel c.sleep.new.below.kernel.now before after left c.args.below.now.log.now c.sleep.new.below.log.now told
    (λ (outcome : Outcome) slept. wait_row kernel c.sleep.new.below.kernel.now guest asked left until outcome seen.0.stays waits.is slept)
    (acted_after (Sleeps guest asked until) c.sleep.result kernel c.ask.new.below.kernel.now c.sleep.new.below.kernel.now before between after left c.args.below.now.log.now c.ask.new.below.log.now c.sleep.new.below.log.now seen.1 (c.sleep.ensures.acts left (still_told seen.1 told)))

pub returns-in-Sleep-clause-kept : goal.returns-in-Sleep-clause-kept
returns-in-Sleep-clause-kept g c = λ processor left told.
    let kernel = c.args.below.now.kernel.now in
    let guest = found c.args.words.now processor c.args.space.now in
    let asked = requested c.args.request.now in
    let seen = c.in_ok-answer.ensures.looks left told in
    let until = c.in-Sleep.wake.until in
    let before = contents g.I.Source.left g.O.Sink.written g.E.Sink.written c.args.dev.now in
    let between = contents g.I.Source.left g.O.Sink.written g.E.Sink.written c.ask.new.dev in
    let after = contents g.I.Source.left g.O.Sink.written g.E.Sink.written c.sleep.new.dev in
    let waits = waits_of asked.asked (left_of_wait kernel kernel.clock asked.wait) (selecting kernel guest.memory asked).came c.in_ok-answer.answer c.ask.new.below.memory.now c.in-Sleep.wake seen.0.is c.in-Sleep.is in
    acts_keeps (Sleeps guest asked until kernel) guest (selects kernel guest asked left) c.sleep.result kernel c.sleep.new.below.kernel.now before after left c.args.below.now.log.now c.sleep.new.below.log.now
    (λ (outcome : Outcome) slept. wait_row kernel c.sleep.new.below.kernel.now guest asked left until outcome seen.0.stays waits.is slept)
    (acted_after (Sleeps guest asked until) c.sleep.result kernel c.ask.new.below.kernel.now c.sleep.new.below.kernel.now before between after left c.args.below.now.log.now c.ask.new.below.log.now c.sleep.new.below.log.now seen.1 (c.sleep.ensures.acts left (still_told seen.1 told)))

pub returns-in_ok-outcome-in-Done-clause-row : goal.returns-in_ok-outcome-in-Done-clause-row
returns-in_ok-outcome-in-Done-clause-row g c = λ processor left told.
    let kernel = c.args.below.now.kernel.now in
    let guest = found c.args.words.now processor c.args.space.now in
    let asked = requested c.args.request.now in
    let seen = c.in_ok-answer.ensures.looks left told in
    let remaining = left_of_wait kernel kernel.clock asked.wait in
    let came = (selecting kernel guest.memory asked).came in
    let outcome = c.in_ok-outcome-in-Done.outcome in
    let tells = tells_of asked.asked remaining came c.in_ok-answer.answer c.ask.new.below.memory.now c.in-Done.field-0 seen.0.is c.in-Done.is in
    let ends = c.in_ok-outcome-in-Done.ensures.ends came remaining tells in
    ends_called guest outcome c.tell.new.space (selects kernel guest asked left) (moves_look seen.1) told
    (told_row kernel c.ask.new.below.kernel.now guest asked left c.in_ok-answer.answer.places c.ask.new.below.memory.now outcome c.tell.new.space seen.0.stays seen.1.same tells.shows ends.0 ends.1)

pub returns-in_ok-outcome-in-Done-clause-kept : goal.returns-in_ok-outcome-in-Done-clause-kept
returns-in_ok-outcome-in-Done-clause-kept g c = λ processor left told.
    let kernel = c.args.below.now.kernel.now in
    let guest = found c.args.words.now processor c.args.space.now in
    let asked = requested c.args.request.now in
    let seen = c.in_ok-answer.ensures.looks left told in
    let remaining = left_of_wait kernel kernel.clock asked.wait in
    let came = (selecting kernel guest.memory asked).came in
    let outcome = c.in_ok-outcome-in-Done.outcome in
    let tells = tells_of asked.asked remaining came c.in_ok-answer.answer c.ask.new.below.memory.now c.in-Done.field-0 seen.0.is c.in-Done.is in
    let ends = c.in_ok-outcome-in-Done.ensures.ends came remaining tells in
    ends_keeps guest outcome c.tell.new.space (selects kernel guest asked left) c.tell.new.log (moves_look seen.1)
    (told_row kernel c.ask.new.below.kernel.now guest asked left c.in_ok-answer.answer.places c.ask.new.below.memory.now outcome c.tell.new.space seen.0.stays seen.1.same tells.shows ends.0 ends.1)
    c.tell.ensures.native c.in_ok-outcome-in-Done.ensures.effects
