-- The call at the machine's time.
use Rattle.std.proofs.Common.{◌≡◌, ◌∙◌, Ok, ap, arith, None, subst}
use Rattle.outside.specs.Streams.{contents}
use Rattle.o32_machine.proofs.Turning.{call_is, call_stopped_here, call_went, fails_before}
use Rattle.kernel_model.specs.Clock.{gone_off}
use Rattle.o32_machine.specs.Emulator.{Emulated, ProcessState, at_clock, machine_of}
use Rattle.o32_machine.specs.inside.Logging.{LastLogged}
use Rattle.o32_machine.specs.inside.Steps.{begun}
use Rattle.o32_turns.specs.Machine.{Turn}
use Rattle.o32_turns.specs.Turn.{whole}
use Rattle.o32_turns.specs.Instruction.{at_time, called}
use Rattle.o32_machine.proofs.Logging.{clocked_logged, clocked_ready, turn_logged}
use Rattle.o32_machine.proofs.Recording.{alone_recorded}
use Rattle.o32_machine.proofs.emulator.Emulator.call.Goals as goal

pub returns-in_err-set_clock-clause-turn : goal.returns-in_err-set_clock-clause-turn
returns-in_err-set_clock-clause-turn g c = λ left told.
    fails_before (at_time c.args.self.now.machine.kernel.clock (called whole c.args.self.now.machine left)) c.from_residual.result _ _
    (contents g.I.Source.left g.O.Sink.written g.E.Sink.written c.args.dev.now) c.from_residual.ensures.0

pub returns-in_err-turn-clause-turn : goal.returns-in_err-turn-clause-turn
returns-in_err-turn-clause-turn g c = λ left told.
    let clock = c.self.inside.clock in
    let before : c.set_clock.new.self ≡ record c.self.inside.process { kernel = at_clock clock c.self.inside.process.kernel; going = begun c.self.inside.process.going } =
    c.in_ok-set_clock.ensures.moved ∙ ap (λ (p : ProcessState). record p { kernel = at_clock clock p.kernel }) c.begin.ensures in
    call_stopped_here c.args.self.now clock c.self.inside.quantum c.self.inside.turns c.self.inside.over c.self.inside.kept.native c.self.inside.kept.records c.self.inside.process c.set_clock.new.self c.self.view_is before left
    c.from_residual-in_err-turn.result _ _ _ _ c.from_residual-in_err-turn.ensures.0 (c.in_err-turn.ensures.turn left told)

pub returns-clause-turn : goal.returns-clause-turn
returns-clause-turn g c = λ left told.
    let clock = c.self.inside.clock in
    let before : c.set_clock.new.self ≡ record c.self.inside.process { kernel = at_clock clock c.self.inside.process.kernel; going = begun c.self.inside.process.going } =
    c.in_ok-set_clock.ensures.moved ∙ ap (λ (p : ProcessState). record p { kernel = at_clock clock p.kernel }) c.begin.ensures in
    call_went c.args.self.now clock c.self.inside.quantum c.self.inside.turns c.self.inside.over c.self.inside.kept.native c.self.inside.kept.records c.self.inside.process c.set_clock.new.self c.self.view_is before left
    c.in_ok-turn.turn (machine_of c.call.new.self) c.call.new.self.going.events _ _ (c.in_ok-turn.ensures.turn left told)

pub set_clock-requires-clause-timer : goal.set_clock-requires-clause-timer
set_clock-requires-clause-timer g c =
    ap (λ (p : ProcessState). gone_off c.self.inside.clock p.kernel.timer) c.begin.ensures
    ∙ ap (λ (e : Emulated). gone_off e.machine.kernel.clock e.machine.kernel.timer) c.self.view_is
    ∙ c.requires.timer

pub returns-clause-native : goal.returns-clause-native
returns-clause-native g c = λ left told.
    let clock = c.self.inside.clock in
    let process = c.self.inside.process in
    let before : c.set_clock.new.self ≡ record process { kernel = at_clock clock process.kernel; going = begun process.going } =
    c.in_ok-set_clock.ensures.moved ∙ ap (λ (p : ProcessState). record p { kernel = at_clock clock p.kernel }) c.begin.ensures in
    let moved : c.set_clock.new.self.kernel ≡ at_clock clock process.kernel =
    ap (λ (p : ProcessState). p.kernel) c.in_ok-set_clock.ensures.moved ∙ ap (λ (p : ProcessState). at_clock clock p.kernel) c.begin.ensures in
    let waits : gone_off clock process.kernel.timer ≡ None = ap (λ (e : Emulated). gone_off e.machine.kernel.clock e.machine.kernel.timer) c.self.view_is ∙ c.requires.timer in
    turn_logged c.args.self.now clock c.self.inside.quantum c.self.inside.turns c.self.inside.over c.self.inside.kept.native c.self.inside.kept.records process c.self.view_is
    c.clear.new.self.native c.clear.new.self.native c.call.new.kept.native c.set_clock.new.self.kernel c.call.new.self.kernel clock left (at_time c.args.self.now.machine.kernel.clock (called whole c.args.self.now.machine left))
    c.clear.ensures.entries c.clear.ensures.told
    (clocked_logged c.clear.new.self.native process.kernel c.set_clock.new.self.kernel clock left moved)
    (subst (λ (t : Turn). LastLogged c.set_clock.new.self.kernel c.call.new.self.kernel left t c.clear.new.self.native c.call.new.kept.native)
    (call_is c.args.self.now clock c.self.inside.quantum c.self.inside.turns c.self.inside.over c.self.inside.kept.native c.self.inside.kept.records process c.set_clock.new.self c.self.view_is before left)
    (c.in_ok-turn.ensures.native left told (clocked_ready c.clear.new.self.native process.kernel c.set_clock.new.self.kernel clock moved waits))) (omega (arith, c.call.ensures.told))

pub returns-clause-records : goal.returns-clause-records
returns-clause-records g c =
    let clock = c.self.inside.clock in
    let before : c.set_clock.new.self ≡ record c.self.inside.process { kernel = at_clock clock c.self.inside.process.kernel; going = begun c.self.inside.process.going } =
    c.in_ok-set_clock.ensures.moved ∙ ap (λ (p : ProcessState). record p { kernel = at_clock clock p.kernel }) c.begin.ensures in
    alone_recorded c.args.self.now clock c.self.inside.quantum c.self.inside.turns c.self.inside.over c.self.inside.kept.native c.self.inside.kept.records c.self.inside.process c.self.view_is
    (Ok c.in_ok-turn.turn) c.set_clock.new.self c.clear.new.self.records c.call.new.kept.records (contents g.I.Source.left g.O.Sink.written g.E.Sink.written c.args.dev.now) before c.clear.ensures.records c.in_ok-turn.ensures.records
