-- The turn of a SYSCALL is that of its call.
use Rattle.std.proofs.Common.{[], ◌+◌, ◌%◌, ◌^◌, subst, sym, refl, OnOk}
use Rattle.std.specs.Prelude.{◌-◌}
use Rattle.o32_machine.proofs.Recording.{gains_none}
use Rattle.o32_machine.specs.inside.Logging.{LastLogged}
use Rattle.o32_machine.specs.inside.Recording.{RecordsStep}
use Rattle.turn_records.specs.Turn.{IsStepRecorded}
use Rattle.outside.specs.Streams.{contents}
use Rattle.mips_exec.specs.declared.execution.Stepped.{Stepped}
use Rattle.o32_machine.specs.Answered.{Answers}
use Rattle.o32_machine.specs.Emulator.{machine_of}
use Rattle.o32_turns.specs.Instruction.{after_step}
use Rattle.o32_turns.specs.Turn.{after_events, whole}
use Rattle.o32_machine.proofs.Logging.{nothing_logged}
use Rattle.o32_machine.proofs.process.Process.end_turn.Goals as goal

pub returns-in-Syscall-clause-turn : goal.returns-in-Syscall-clause-turn
returns-in-Syscall-clause-turn g c = λ left told.
    subst (λ (s : Stepped). Answers (after_events c.args.self.now.going.events (after_step whole (machine_of c.args.self.now) s left)) c.call.result (machine_of c.call.new.self) c.call.new.self.going.events
    (contents g.I.Source.left g.O.Sink.written g.E.Sink.written c.args.dev.now) (contents g.I.Source.left g.O.Sink.written g.E.Sink.written c.call.new.dev))
    (sym c.in-Syscall.is) (c.call.ensures.turn left told)

pub returns-in-Next-clause-native : goal.returns-in-Next-clause-native
returns-in-Next-clause-native g c = λ left told ready.
    subst (λ (s : Stepped). LastLogged c.args.self.now.kernel c.args.self.now.kernel left (after_events c.args.self.now.going.events (after_step whole (machine_of c.args.self.now) s left)) c.args.kept.now.native c.args.kept.now.native)
    (sym c.in-Next.is) (nothing_logged c.args.self.now.kernel c.args.self.now.kernel left c.args.kept.now.native refl)

pub returns-in-Syscall-clause-native : goal.returns-in-Syscall-clause-native
returns-in-Syscall-clause-native g c = λ left told ready.
    subst (λ (s : Stepped). OnOk c.call.result (LastLogged c.args.self.now.kernel c.call.new.self.kernel left (after_events c.args.self.now.going.events (after_step whole (machine_of c.args.self.now) s left)) c.args.kept.now.native c.call.new.kept.native))
    (sym c.in-Syscall.is) (c.call.ensures.native left told ready)

pub returns-in_ok-keep_fault-in-Fault-clause-native : goal.returns-in_ok-keep_fault-in-Fault-clause-native
returns-in_ok-keep_fault-in-Fault-clause-native g c = λ left told ready.
    subst (λ (s : Stepped). LastLogged c.args.self.now.kernel c.keep_fault.new.self.kernel left (after_events c.args.self.now.going.events (after_step whole (machine_of c.args.self.now) s left)) c.args.kept.now.native c.args.kept.now.native)
    (sym c.in-Fault.is) (nothing_logged c.args.self.now.kernel c.keep_fault.new.self.kernel left c.args.kept.now.native c.keep_fault.ensures.kernel)

pub returns-in-Syscall-clause-records : goal.returns-in-Syscall-clause-records
returns-in-Syscall-clause-records g c =
    subst (λ (s : Stepped). RecordsStep c.call.result (g.I.Source.left c.args.dev.now.input) c.args.turn ((c.args.self.now.processor.pc + (2 ^ 32 - 4)) % 2 ^ 32) (machine_of c.args.self.now) s
    c.args.kept.now.records c.call.new.kept.records) (sym c.in-Syscall.is) c.call.ensures.records

pub returns-in-Next-clause-records : goal.returns-in-Next-clause-records
returns-in-Next-clause-records g c = λ left told.
    gains_none c.args.kept.now.records (IsStepRecorded c.args.turn ((c.args.self.now.processor.pc + (2 ^ 32 - 4)) % 2 ^ 32) (machine_of c.args.self.now) c.args.came left)
    (subst (λ (s : Stepped). IsStepRecorded c.args.turn ((c.args.self.now.processor.pc + (2 ^ 32 - 4)) % 2 ^ 32) (machine_of c.args.self.now) s left []) (sym c.in-Next.is) refl)

pub returns-in_ok-keep_fault-in-Fault-clause-records : goal.returns-in_ok-keep_fault-in-Fault-clause-records
returns-in_ok-keep_fault-in-Fault-clause-records g c = λ left told.
    gains_none c.args.kept.now.records (IsStepRecorded c.args.turn ((c.args.self.now.processor.pc + (2 ^ 32 - 4)) % 2 ^ 32) (machine_of c.args.self.now) c.args.came left)
    (subst (λ (s : Stepped). IsStepRecorded c.args.turn ((c.args.self.now.processor.pc + (2 ^ 32 - 4)) % 2 ^ 32) (machine_of c.args.self.now) s left []) (sym c.in-Fault.is) refl)
