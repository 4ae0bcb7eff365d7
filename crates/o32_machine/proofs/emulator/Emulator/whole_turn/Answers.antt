-- A turn in all its steps.
use Rattle.outside.specs.Streams.{contents}
use Rattle.o32_machine.proofs.WholeTurns.{last_fails, last_is, last_turns, settle_fails, told_between}
use Rattle.o32_machine.specs.Emulator.{machine_at, machine_of}
use Rattle.o32_machine.specs.inside.Logging.{LastLogged}
use Rattle.o32_turns.specs.Machine.{Turn}
use Rattle.o32_turns.specs.Turn.{turn_of}
use Rattle.std.proofs.Common.{arith, subst}
use Rattle.o32_machine.proofs.Logging.{turn_logged}
use Rattle.kernel_model.specs.Pipes.{nothing}
use Rattle.o32_machine.proofs.Recording.{whole_recorded}
use Rattle.o32_machine.proofs.emulator.Emulator.whole_turn.Goals as goal

pub returns-in_err-settle-clause-turn : goal.returns-in_err-settle-clause-turn
returns-in_err-settle-clause-turn g c = λ left told.
    settle_fails c.args.self.now c.self.inside.clock c.self.inside.quantum c.self.inside.turns c.self.inside.over c.self.inside.kept.native c.self.inside.kept.records c.self.inside.process c.self.view_is
    c.from_residual.result _ _ (contents g.I.Source.left g.O.Sink.written g.E.Sink.written c.args.dev.now) (contents g.I.Source.left g.O.Sink.written g.E.Sink.written c.settle.new.dev) left
    (c.in_err-settle.ensures.settled left told).0 c.from_residual.ensures.0

pub returns-in_err-last-clause-turn : goal.returns-in_err-last-clause-turn
returns-in_err-last-clause-turn g c = λ left told.
    let before = contents g.I.Source.left g.O.Sink.written g.E.Sink.written c.args.dev.now in
    let between = contents g.I.Source.left g.O.Sink.written g.E.Sink.written c.settle.new.dev in
    let after = contents g.I.Source.left g.O.Sink.written g.E.Sink.written c.last_steps.new.dev in
    last_fails c.args.self.now c.self.inside.clock c.self.inside.quantum c.self.inside.turns c.self.inside.over c.self.inside.kept.native c.self.inside.kept.records c.self.inside.process c.self.view_is
    c.settle.new.self before between c.in_ok-settle.ensures.settled left told c.from_residual-in_err-last.result _ _ after c.from_residual-in_err-last.ensures.0
    (c.in_err-last.ensures.last left
    (told_between c.args.self.now c.self.inside.clock c.self.inside.quantum c.self.inside.turns c.self.inside.over c.self.inside.kept.native c.self.inside.kept.records c.self.inside.process c.self.view_is
    c.settle.new.self before between c.in_ok-settle.ensures.settled left told))

pub returns-clause-turn : goal.returns-clause-turn
returns-clause-turn g c = λ left told.
    let before = contents g.I.Source.left g.O.Sink.written g.E.Sink.written c.args.dev.now in
    let between = contents g.I.Source.left g.O.Sink.written g.E.Sink.written c.settle.new.dev in
    let after = contents g.I.Source.left g.O.Sink.written g.E.Sink.written c.last_steps.new.dev in
    last_turns c.args.self.now c.self.inside.clock c.self.inside.quantum c.self.inside.turns c.self.inside.over c.self.inside.kept.native c.self.inside.kept.records c.self.inside.process c.self.view_is
    c.settle.new.self before between c.in_ok-settle.ensures.settled left told c.in_ok-last.last.turn (machine_at c.in_ok-last.last.clock (machine_of c.last_steps.new.self)) c.last_steps.new.self.going.events after
    (c.in_ok-last.ensures.last left
    (told_between c.args.self.now c.self.inside.clock c.self.inside.quantum c.self.inside.turns c.self.inside.over c.self.inside.kept.native c.self.inside.kept.records c.self.inside.process c.self.view_is
    c.settle.new.self before between c.in_ok-settle.ensures.settled left told))

pub returns-clause-native : goal.returns-clause-native
returns-clause-native g c = λ left told.
    let before = contents g.I.Source.left g.O.Sink.written g.E.Sink.written c.args.dev.now in
    let between = contents g.I.Source.left g.O.Sink.written g.E.Sink.written c.settle.new.dev in
    let settled = c.in_ok-settle.ensures.native left told in
    turn_logged c.args.self.now c.self.inside.clock c.self.inside.quantum c.self.inside.turns c.self.inside.over c.self.inside.kept.native c.self.inside.kept.records c.self.inside.process c.self.view_is
    c.clear.new.self.native c.settle.new.kept.native c.last_steps.new.kept.native c.settle.new.self.kernel c.last_steps.new.self.kernel c.in_ok-last.last.clock left (turn_of c.args.self.now.quantum c.args.self.now.machine left)
    c.clear.ensures.entries c.clear.ensures.told (settled.leads nothing)
    (subst (λ (t : Turn). LastLogged c.settle.new.self.kernel c.last_steps.new.self.kernel left t c.settle.new.kept.native c.last_steps.new.kept.native)
    (last_is c.args.self.now c.self.inside.clock c.self.inside.quantum c.self.inside.turns c.self.inside.over c.self.inside.kept.native c.self.inside.kept.records c.self.inside.process c.self.view_is
    c.settle.new.self before between c.in_ok-settle.ensures.settled left told)
    (c.in_ok-last.ensures.native left
    (told_between c.args.self.now c.self.inside.clock c.self.inside.quantum c.self.inside.turns c.self.inside.over c.self.inside.kept.native c.self.inside.kept.records c.self.inside.process c.self.view_is
    c.settle.new.self before between c.in_ok-settle.ensures.settled left told) settled.ready)) (omega (arith, c.last_steps.ensures.told, c.in_ok-last.ensures.later))

pub returns-clause-records : goal.returns-clause-records
returns-clause-records g c = λ left told.
    let before = contents g.I.Source.left g.O.Sink.written g.E.Sink.written c.args.dev.now in
    let between = contents g.I.Source.left g.O.Sink.written g.E.Sink.written c.settle.new.dev in
    let after = contents g.I.Source.left g.O.Sink.written g.E.Sink.written c.last_steps.new.dev in
    let there = told_between c.args.self.now c.self.inside.clock c.self.inside.quantum c.self.inside.turns c.self.inside.over c.self.inside.kept.native c.self.inside.kept.records c.self.inside.process c.self.view_is
    c.settle.new.self before between c.in_ok-settle.ensures.settled left told in
    let turned = last_turns c.args.self.now c.self.inside.clock c.self.inside.quantum c.self.inside.turns c.self.inside.over c.self.inside.kept.native c.self.inside.kept.records c.self.inside.process c.self.view_is
    c.settle.new.self before between c.in_ok-settle.ensures.settled left told c.in_ok-last.last.turn (machine_at c.in_ok-last.last.clock (machine_of c.last_steps.new.self)) c.last_steps.new.self.going.events after
    (c.in_ok-last.ensures.last left there) in
    whole_recorded c.args.self.now c.self.inside.clock c.self.inside.quantum c.self.inside.turns c.self.inside.over c.self.inside.kept.native c.self.inside.kept.records c.self.inside.process c.self.view_is
    left c.settle.new.self c.in_ok-last.last.turn c.clear.new.self.records c.settle.new.kept.records c.last_steps.new.kept.records c.end_records.new.records c.clear.ensures.records (c.in_ok-settle.ensures.settled left told).1 turned.came
    (c.in_ok-settle.ensures.records left told) (c.in_ok-last.ensures.records left there) c.end_records.ensures
