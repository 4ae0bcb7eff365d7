-- A call that is answered at once, and one whose number no call has.
use Rattle.o32_machine.proofs.Turning.{fails_before}
use Rattle.o32_machine.specs.inside.Plainly.{called_of}
use Rattle.outside.specs.Streams.{contents}
use Rattle.o32_machine.proofs.process.Process.call.Goals as goal

pub returns-in_ok-plain-in-Some-Plain-clause-turn : goal.returns-in_ok-plain-in-Some-Plain-clause-turn
returns-in_ok-plain-in-Some-Plain-clause-turn g c = λ left told.
    c.in_ok-plain-in-Some-Plain.ensures.turn left (contents g.I.Source.left g.O.Sink.written g.E.Sink.written c.args.dev.now) told

pub returns-in_err-plain-in-Some-Plain-clause-turn : goal.returns-in_err-plain-in-Some-Plain-clause-turn
returns-in_err-plain-in-Some-Plain-clause-turn g c = λ left told.
    fails_before (called_of c.args.self.now left) c.from_residual.result _ _ (contents g.I.Source.left g.O.Sink.written g.E.Sink.written c.args.dev.now) c.from_residual.ensures.0

pub returns-in_ok-plain-in-Some-Plain-clause-native : goal.returns-in_ok-plain-in-Some-Plain-clause-native
returns-in_ok-plain-in-Some-Plain-clause-native g c = λ left told ready. c.in_ok-plain-in-Some-Plain.ensures.native left

pub returns-in_ok-plain-in-Some-Plain-clause-records : goal.returns-in_ok-plain-in-Some-Plain-clause-records
returns-in_ok-plain-in-Some-Plain-clause-records g c = λ left told. c.in_ok-plain-in-Some-Plain.ensures.records left

pub returns-in_ok-refused-in-None-clause-turn : goal.returns-in_ok-refused-in-None-clause-turn
returns-in_ok-refused-in-None-clause-turn g c = λ left told.
    c.in_ok-refused-in-None.ensures.turn left (contents g.I.Source.left g.O.Sink.written g.E.Sink.written c.args.dev.now) told

pub returns-in_err-refused-in-None-clause-turn : goal.returns-in_err-refused-in-None-clause-turn
returns-in_err-refused-in-None-clause-turn g c = λ left told.
    fails_before (called_of c.args.self.now left) c.from_residual-in_err-refused-in-None.result _ _ (contents g.I.Source.left g.O.Sink.written g.E.Sink.written c.args.dev.now) c.from_residual-in_err-refused-in-None.ensures.0

pub returns-in_ok-refused-in-None-clause-records : goal.returns-in_ok-refused-in-None-clause-records
returns-in_ok-refused-in-None-clause-records g c = λ left told. c.in_ok-refused-in-None.ensures.records left
