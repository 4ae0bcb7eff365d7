-- Quiet turns, and the last one at the machine's time.
use Rattle.std.proofs.Common.{◌+◌, arith, ◌≡◌, ◌∙◌, None, ap, sym}
use Rattle.outside.specs.Streams.{contents}
use Rattle.o32_machine.proofs.Quieting.{quick_lacks, quick_lacks_clock, quick_later, quick_stopped, quick_timer, quick_went}
use Rattle.o32_machine.specs.Emulator.{machine_of, ProcessState, at_clock}
use Rattle.kernel_model.specs.Clock.{gone_off}
use Rattle.kernel_model.specs.State.{Kernel}
use Rattle.o32_machine.proofs.Logging.{clocked_logged, clocked_ready}
use Rattle.std.proofs.Common.{refl}
use Rattle.o32_machine.proofs.Quieting.{quick_logged, quick_recorded}
use Rattle.o32_machine.proofs.emulator.Emulator.quick_turns.Goals as goal

pub set_clock-requires-clause-later : goal.set_clock-requires-clause-later
set_clock-requires-clause-later g c =
    quick_later c.args.self.now c.self.inside.clock c.self.inside.quantum c.self.inside.turns c.self.inside.over c.self.inside.kept.native c.self.inside.kept.records c.self.inside.process c.self.view_is
    c.args.limit c.args.most c.run-ran.result.quiet c.requires.quiet c.run-ran.ensures.few c.requires.some c.begin.new.self c.run-ran.new.self c.begin.ensures c.run-ran.ensures.others
    c.later-self-inside.result c.later-self-inside.ensures.time (omega arith)

pub set_clock-requires-clause-timer : goal.set_clock-requires-clause-timer
set_clock-requires-clause-timer g c =
    quick_timer c.args.self.now c.self.inside.clock c.self.inside.quantum c.self.inside.turns c.self.inside.over c.self.inside.kept.native c.self.inside.kept.records c.self.inside.process c.self.view_is
    c.args.limit c.args.most c.run-ran.result.quiet c.requires.quiet c.run-ran.ensures.few c.requires.some c.begin.new.self c.run-ran.new.self c.begin.ensures c.run-ran.ensures.others
    c.later-self-inside.result c.later-self-inside.ensures.time

pub returns-in_err-came-clause-turns : goal.returns-in_err-came-clause-turns
returns-in_err-came-clause-turns g c =
    quick_lacks c.args.self.now c.self.inside.clock c.self.inside.quantum c.self.inside.turns c.self.inside.over c.self.inside.kept.native c.self.inside.kept.records c.self.inside.process c.self.view_is
    c.args.limit c.args.most c.run-ran.result.quiet c.requires.quiet c.run-ran.ensures.few c.requires.some c.begin.new.self c.run-ran.new.self c.begin.ensures c.run-ran.ensures.others
    c.in_err-came.field-0.0 c.run-ran.result.came c.from_residual.result _ (c.self.inside.turns + c.run-ran.result.quiet) _ (contents g.I.Source.left g.O.Sink.written g.E.Sink.written c.args.dev.now) c.in_err-came.was c.run-ran.ensures.last c.from_residual.ensures.0 (omega arith)

pub returns-in_err-set_clock-clause-turns : goal.returns-in_err-set_clock-clause-turns
returns-in_err-set_clock-clause-turns g c =
    quick_lacks_clock c.args.self.now c.self.inside.clock c.self.inside.quantum c.self.inside.turns c.self.inside.over c.self.inside.kept.native c.self.inside.kept.records c.self.inside.process c.self.view_is
    c.args.limit c.args.most c.run-ran.result.quiet c.requires.quiet c.run-ran.ensures.few c.requires.some c.begin.new.self c.run-ran.new.self c.begin.ensures c.run-ran.ensures.others
    c.later-self-inside.result c.later-self-inside.ensures.time c.in_ok-came.came c.run-ran.result.came c.in_ok-came.was c.run-ran.ensures.last
    c.from_residual-in_err-set_clock.result _ (c.self.inside.turns + c.run-ran.result.quiet) _ (contents g.I.Source.left g.O.Sink.written g.E.Sink.written c.args.dev.now) c.from_residual-in_err-set_clock.ensures.0 (omega arith)

pub returns-in_err-turn-clause-turns : goal.returns-in_err-turn-clause-turns
returns-in_err-turn-clause-turns g c =
    quick_stopped c.args.self.now c.self.inside.clock c.self.inside.quantum c.self.inside.turns c.self.inside.over c.self.inside.kept.native c.self.inside.kept.records c.self.inside.process c.self.view_is
    c.args.limit c.args.most c.run-ran.result.quiet c.requires.quiet c.run-ran.ensures.few c.requires.some c.begin.new.self c.run-ran.new.self c.begin.ensures c.run-ran.ensures.others
    c.later-self-inside.result c.later-self-inside.ensures.time c.in_ok-came.came c.run-ran.result.came c.in_ok-came.was c.run-ran.ensures.last c.set_clock.new.self c.in_ok-set_clock.ensures.moved
    c.from_residual-in_err-turn.result _ (c.self.inside.turns + c.run-ran.result.quiet) _ (contents g.I.Source.left g.O.Sink.written g.E.Sink.written c.args.dev.now)
    (contents g.I.Source.left g.O.Sink.written g.E.Sink.written c.end_turn.new.dev) (λ left told. c.in_err-turn.ensures.turn left told) c.from_residual-in_err-turn.ensures.0 (omega arith)

pub returns-clause-turns : goal.returns-clause-turns
returns-clause-turns g c =
    quick_went c.args.self.now c.self.inside.clock c.self.inside.quantum c.self.inside.turns c.self.inside.over c.self.inside.kept.native c.self.inside.kept.records c.self.inside.process c.self.view_is
    c.args.limit c.args.most c.run-ran.result.quiet c.requires.quiet c.run-ran.ensures.few c.requires.some c.begin.new.self c.run-ran.new.self c.begin.ensures c.run-ran.ensures.others
    c.later-self-inside.result c.later-self-inside.ensures.time c.in_ok-came.came c.run-ran.result.came c.in_ok-came.was c.run-ran.ensures.last c.set_clock.new.self c.in_ok-set_clock.ensures.moved
    c.in_ok-turn.turn (machine_of c.end_turn.new.self) (c.self.inside.turns + c.run-ran.result.quiet + 1) c.end_turn.new.self.going.events (contents g.I.Source.left g.O.Sink.written g.E.Sink.written c.args.dev.now)
    (contents g.I.Source.left g.O.Sink.written g.E.Sink.written c.end_turn.new.dev) (λ left told. c.in_ok-turn.ensures.turn left told) c.in_ok-turn.ensures.counted (omega arith)

pub returns-clause-native : goal.returns-clause-native
returns-clause-native g c = λ left told.
    let clock = c.later-self-inside.result in
    let process = c.self.inside.process in
    let ran : c.run-ran.new.self.kernel ≡ process.kernel = ap (λ (p : ProcessState). p.kernel) c.run-ran.ensures.others ∙ ap (λ (p : ProcessState). p.kernel) c.begin.ensures in
    let moved : c.set_clock.new.self.kernel ≡ at_clock clock process.kernel = ap (λ (p : ProcessState). p.kernel) c.in_ok-set_clock.ensures.moved ∙ ap (at_clock clock) ran in
    let none = quick_timer c.args.self.now c.self.inside.clock c.self.inside.quantum c.self.inside.turns c.self.inside.over c.self.inside.kept.native c.self.inside.kept.records process c.self.view_is
    c.args.limit c.args.most c.run-ran.result.quiet c.requires.quiet c.run-ran.ensures.few c.requires.some c.begin.new.self c.run-ran.new.self c.begin.ensures c.run-ran.ensures.others
    clock c.later-self-inside.ensures.time in
    let waits : gone_off clock process.kernel.timer ≡ None = ap (λ (k : Kernel). gone_off clock k.timer) (sym ran) ∙ none in
    quick_logged c.args.self.now c.self.inside.clock c.self.inside.quantum c.self.inside.turns c.self.inside.over c.self.inside.kept.native c.self.inside.kept.records process c.self.view_is
    c.args.limit c.args.most c.run-ran.result.quiet c.requires.quiet c.run-ran.ensures.few c.requires.some c.begin.new.self c.run-ran.new.self c.begin.ensures c.run-ran.ensures.others
    clock c.later-self-inside.ensures.time c.in_ok-came.came c.run-ran.result.came c.in_ok-came.was c.run-ran.ensures.last c.set_clock.new.self c.in_ok-set_clock.ensures.moved
    c.in_ok-turn.turn (c.self.inside.turns + c.run-ran.result.quiet + 1) c.clear.new.self.native c.end_turn.new.kept.native c.end_turn.new.self.kernel left refl c.in_ok-turn.ensures.counted c.clear.ensures.entries c.clear.ensures.told
    (clocked_logged c.clear.new.self.native process.kernel c.set_clock.new.self.kernel clock left moved)
    (c.in_ok-turn.ensures.native left told (clocked_ready c.clear.new.self.native process.kernel c.set_clock.new.self.kernel clock moved waits)) (omega (arith, c.end_turn.ensures.told))

pub returns-clause-records : goal.returns-clause-records
returns-clause-records g c = λ left told.
    quick_recorded c.args.self.now c.self.inside.clock c.self.inside.quantum c.self.inside.turns c.self.inside.over c.self.inside.kept.native c.self.inside.kept.records c.self.inside.process c.self.view_is
    c.args.limit c.args.most c.run-ran.result.quiet c.requires.quiet c.run-ran.ensures.few c.requires.some c.begin.new.self c.run-ran.new.self c.begin.ensures c.run-ran.ensures.others
    c.later-self-inside.result c.later-self-inside.ensures.time c.in_ok-came.came c.run-ran.result.came c.in_ok-came.was c.run-ran.ensures.last c.set_clock.new.self c.in_ok-set_clock.ensures.moved
    c.in_ok-turn.turn (c.self.inside.turns + c.run-ran.result.quiet + 1) c.clear.new.self.records c.end_turn.new.kept.records left c.clear.ensures.records refl c.in_ok-turn.ensures.counted
    (c.in_ok-turn.ensures.turn left told).came (c.in_ok-turn.ensures.records left told)
