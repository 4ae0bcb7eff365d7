-- The process has ended, or the clock jumps, or an instruction is carried out.
use Rattle.std.proofs.Common.{sym, ◌∙◌, refl, ap, subst, true, false, List, []}
use Rattle.kernel_core.specs.declared.record.Record.{Record}
use Rattle.outside.specs.Streams.{contents}
use Rattle.o32_machine.proofs.WholeTurns.{execute_last, jump_last, lacks_first, over_is, over_last, rests_is}
use Rattle.o32_machine.proofs.Logging.{last_so, nothing_logged}
use Rattle.o32_machine.proofs.Recording.{behind_over, behind_rests, gains_none, gains_so}
use Rattle.o32_machine.specs.Emulator.{ProcessState, machine_of, within_now}
use Rattle.o32_machine.specs.inside.Logging.{LastLogged}
use Rattle.o32_machine.specs.inside.Steps.{last_steps}
use Rattle.o32_turns.specs.Machine.{Turn}
use Rattle.o32_turns.specs.Turn.{sixth_step, whole}
use Rattle.turn_records.specs.Turn.{IsBehind}
use Rattle.o32_machine.proofs.process.Process.last_steps.Goals as goal

pub returns-in-Some-clause-last : goal.returns-in-Some-clause-last
returns-in-Some-clause-last g c = λ left told.
    over_last c.args.quantum c.args.clock c.args.self.now c.requires.clock left c.in-Some.finish _ (sym c.over.ensures ∙ c.in-Some.is) told

pub returns-then-rests-clause-last : goal.returns-then-rests-clause-last
returns-then-rests-clause-last g c = λ left told.
    jump_last c.args.quantum c.args.clock c.args.self.now c.requires.clock left (sym c.over.ensures ∙ c.in_default.is) c.jump.result c.jump.new.self _ (sym c.rests.ensures ∙ c.if-rests.true) told
    c.jump.ensures.over c.jump.ensures.machine c.jump.ensures.events

pub returns-clause-last : goal.returns-clause-last
returns-clause-last g c = λ left told.
    execute_last c.args.quantum c.args.clock c.args.self.now c.requires.clock left (sym c.over.ensures ∙ c.in_default.is) c.execute.result c.execute.new.self _ _ (sym c.rests.ensures ∙ c.if-rests.false)
    (c.execute.ensures.last left told)

pub returns-in-Some-clause-native : goal.returns-in-Some-clause-native
returns-in-Some-clause-native g c = λ left told ready.
    subst (λ (t : Turn). LastLogged c.args.self.now.kernel c.args.self.now.kernel left t c.args.kept.now.native c.args.kept.now.native)
    (sym (over_is c.args.quantum c.args.clock c.args.self.now c.requires.clock left c.in-Some.finish (sym c.over.ensures ∙ c.in-Some.is)))
    (nothing_logged c.args.self.now.kernel c.args.self.now.kernel left c.args.kept.now.native refl)

pub returns-then-rests-clause-native : goal.returns-then-rests-clause-native
returns-then-rests-clause-native g c = λ left told ready.
    subst (λ (t : Turn). LastLogged c.args.self.now.kernel c.jump.new.self.kernel left t c.args.kept.now.native c.args.kept.now.native)
    (sym (rests_is c.args.quantum c.args.clock c.args.self.now c.requires.clock left (sym c.over.ensures ∙ c.in_default.is) true (sym c.rests.ensures ∙ c.if-rests.true)))
    (nothing_logged c.args.self.now.kernel c.jump.new.self.kernel left c.args.kept.now.native c.jump.ensures.kernel)

pub returns-clause-native : goal.returns-clause-native
returns-clause-native g c =
    last_so c.execute.result c.args.clock (sixth_step whole c.args.quantum (within_now c.args.self.now)) (last_steps c.args.quantum (within_now c.args.self.now))
    c.args.self.now.kernel c.execute.new.self.kernel c.args.kept.now.native c.execute.new.kept.native (contents g.I.Source.left g.O.Sink.written g.E.Sink.written c.args.dev.now)
    (λ left. sym (rests_is c.args.quantum c.args.clock c.args.self.now c.requires.clock left (sym c.over.ensures ∙ c.in_default.is) false (sym c.rests.ensures ∙ c.if-rests.false)))
    c.execute.ensures.native

pub returns-in_err-add_idle-clause-last : goal.returns-in_err-add_idle-clause-last
returns-in_err-add_idle-clause-last g c = λ left told.
    lacks_first (last_steps c.args.quantum (within_now c.args.self.now) left) c.from_residual.result _ _ c.from_residual.ensures.0

pub returns-in-Some-clause-records : goal.returns-in-Some-clause-records
returns-in-Some-clause-records g c = λ left told.
    gains_none c.args.kept.now.records (IsBehind c.args.turn (within_now c.args.self.now) left)
    (behind_over c.args.turn (within_now c.args.self.now) left [] c.in-Some.finish (sym c.over.ensures ∙ c.in-Some.is) refl)

pub returns-then-rests-clause-records : goal.returns-then-rests-clause-records
returns-then-rests-clause-records g c = λ left told.
    gains_so c.args.kept.now.records c.add_idle.new.self _ (IsBehind c.args.turn (within_now c.args.self.now) left)
    (λ (more : List Record). behind_rests c.args.turn (within_now c.args.self.now) left more (sym c.over.ensures ∙ c.in_default.is) (sym c.rests.ensures ∙ c.if-rests.true))
    (c.in_ok-add_idle.ensures (machine_of c.args.self.now) (ap (λ (p : ProcessState). p.processor) (sym c.self.view_is)))

pub returns-clause-records : goal.returns-clause-records
returns-clause-records g c = c.execute.ensures.records (sym c.rests.ensures ∙ c.if-rests.false) (sym c.over.ensures ∙ c.in_default.is)
