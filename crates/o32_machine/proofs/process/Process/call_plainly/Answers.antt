-- The row of the call is that of the whole table, and it takes nothing from the stack.
use Rattle.std.proofs.Common.{◌≡◌, ◌∙◌, ◌++◌, Some, None, ap, refl, subst, sym}
use Rattle.std.specs.Prelude.{option_map}
use Rattle.bridge_system.proofs.PlainCalls.{plain_called, plain_keeps}
use Rattle.bridge_system.specs.Found.{found}
use Rattle.mips_exec.specs.Processor.{register}
use Rattle.o32_machine.proofs.Plainly.{plain_logged, plain_words}
use Rattle.o32_machine.proofs.Recording.{call_recorded, looked}
use Rattle.o32_machine.proofs.Stackless.{answered_same, finished_same}
use Rattle.o32_machine.proofs.Turning.{call_goes}
use Rattle.o32_machine.specs.Emulator.{ProcessState, coming_of, machine_of}
use Rattle.o32_machine.specs.inside.Finishing.{finished}
use Rattle.o32_machine.specs.inside.Plainly.{IsPlainly}
use Rattle.o32_model.specs.Table.{machine_call}
use Rattle.o32_model.specs.Words.{call_words, v0}
use Rattle.o32_model.specs.declared.call_words.CallWords.{CallWords}
use Rattle.o32_turns.specs.Instruction.{seen_of}
use Rattle.o32_turns.specs.Machine.{Within}
use Rattle.outside.specs.Streams.{Contents}
use Rattle.o32_machine.proofs.process.Process.call_plainly.Goals as goal

pub answer-outcome-requires : goal.answer-outcome-requires
answer-outcome-requires c =
    plain_words c.args.call c.register_words-words.result (call_words c.self.inside.core.cpu c.self.inside.core.space).stack c.self.inside.core.cpu c.self.inside.core.space (c.register_words-words.ensures.registers c.self.inside.core.space)
    (subst (λ (p : ProcessState). IsPlainly c.args.call (register p.processor v0)) (sym c.self.view_is) c.requires)

pub returns-clause-turn : goal.returns-clause-turn
returns-clause-turn c = λ left at told.
    let process : ProcessState = record { processor = c.self.inside.core.cpu; memory = c.self.inside.core.space; kernel = c.self.inside.core.kernel; going = c.self.inside.going; coming = coming_of c.self.inside.schedule; idle = c.self.inside.idle } in
    let words = call_words process.processor process.memory in
    let is = c.register_words-words.ensures.registers process.memory in
    let there = plain_words c.args.call c.register_words-words.result words.stack process.processor process.memory is
    (subst (λ (p : ProcessState). IsPlainly c.args.call (register p.processor v0)) (sym c.self.view_is) c.requires) in
    let guest = found words process.processor process.memory in
    let step = ap (λ (w : CallWords). machine_call (seen_of (machine_of process)) process.kernel (found w process.processor process.memory) left) is
    ∙ answered_same c.register_words-words.result words.stack process.processor process.memory process.kernel left (seen_of (machine_of process)) c.args.call there
    ∙ c.answer-outcome.ensures (seen_of (machine_of process)) process.memory process.kernel left in
    let left_by : ProcessState = record process { processor = c.answer-outcome.new.cpu } in
    let ends = sym (finished_same c.register_words-words.result words.stack (machine_of left_by) c.answer-outcome.result) ∙ ap (λ (w : CallWords). finished w (machine_of left_by) c.answer-outcome.result) (sym is) in
    call_goes c.args.self.now process (seen_of (machine_of process)) words left c.self.view_is refl refl left_by c.answer-outcome.result at at refl
    (plain_called process.kernel left c.answer-outcome.result process.memory c.answer-outcome.new.cpu (machine_call (seen_of (machine_of process)) process.kernel guest left) step at told)
    c.in_ok-ended.ended (machine_of c.finish.new.self) c.finish.new.self.going.events (c.in_ok-ended.ensures.over ∙ ap (λ (f : Within). f.over) ends)
    (c.in_ok-ended.ensures.machine ∙ ap (λ (f : Within). f.machine) ends) (c.in_ok-ended.ensures.events ∙ ap (λ (f : Within). process.going.events ++ f.events) ends)

pub returns-clause-native : goal.returns-clause-native
returns-clause-native c = λ left.
    let process : ProcessState = record { processor = c.self.inside.core.cpu; memory = c.self.inside.core.space; kernel = c.self.inside.core.kernel; going = c.self.inside.going; coming = coming_of c.self.inside.schedule; idle = c.self.inside.idle } in
    let words = call_words process.processor process.memory in
    let is = c.register_words-words.ensures.registers process.memory in
    let there = plain_words c.args.call c.register_words-words.result words.stack process.processor process.memory is
    (subst (λ (p : ProcessState). IsPlainly c.args.call (register p.processor v0)) (sym c.self.view_is) c.requires) in
    let guest = found words process.processor process.memory in
    let step = ap (λ (w : CallWords). machine_call (seen_of (machine_of process)) process.kernel (found w process.processor process.memory) left) is
    ∙ answered_same c.register_words-words.result words.stack process.processor process.memory process.kernel left (seen_of (machine_of process)) c.args.call there
    ∙ c.answer-outcome.ensures (seen_of (machine_of process)) process.memory process.kernel left in
    plain_logged c.args.self.now process words left c.self.view_is refl c.answer-outcome.result c.answer-outcome.new.cpu step c.finish.new.self.kernel c.args.kept.now.native
    (c.finish.ensures.kernel ∙ ap (λ (p : ProcessState). p.kernel) c.self.view_is)

pub returns-clause-records : goal.returns-clause-records
returns-clause-records c = λ left.
    let process : ProcessState = record { processor = c.self.inside.core.cpu; memory = c.self.inside.core.space; kernel = c.self.inside.core.kernel; going = c.self.inside.going; coming = coming_of c.self.inside.schedule; idle = c.self.inside.idle } in
    let words = call_words process.processor process.memory in
    let is = c.register_words-words.ensures.registers process.memory in
    let there = plain_words c.args.call c.register_words-words.result words.stack process.processor process.memory is
    (subst (λ (p : ProcessState). IsPlainly c.args.call (register p.processor v0)) (sym c.self.view_is) c.requires) in
    let guest = found words process.processor process.memory in
    let step = ap (λ (w : CallWords). machine_call (seen_of (machine_of process)) process.kernel (found w process.processor process.memory) left) is
    ∙ answered_same c.register_words-words.result words.stack process.processor process.memory process.kernel left (seen_of (machine_of process)) c.args.call there
    ∙ c.answer-outcome.ensures (seen_of (machine_of process)) process.memory process.kernel left in
    let left_by : ProcessState = record process { processor = c.answer-outcome.new.cpu } in
    let ends = sym (finished_same c.register_words-words.result words.stack (machine_of left_by) c.answer-outcome.result) ∙ ap (λ (w : CallWords). finished w (machine_of left_by) c.answer-outcome.result) (sym is) in
    let at : Contents = record { left = Some left; out = None; err = None } in
    let turned =
    call_goes c.args.self.now process (seen_of (machine_of process)) words left c.self.view_is refl refl left_by c.answer-outcome.result at at refl
    (plain_called process.kernel left c.answer-outcome.result process.memory c.answer-outcome.new.cpu (machine_call (seen_of (machine_of process)) process.kernel guest left) step at refl)
    c.in_ok-ended.ended (machine_of c.finish.new.self) c.finish.new.self.going.events (c.in_ok-ended.ensures.over ∙ ap (λ (f : Within). f.over) ends)
    (c.in_ok-ended.ensures.machine ∙ ap (λ (f : Within). f.machine) ends) (c.in_ok-ended.ensures.events ∙ ap (λ (f : Within). process.going.events ++ f.events) ends) in
    let effects = option_map (λ v. v.items) c.part-effects.result in
    call_recorded c.args.turn c.args.self.now process (seen_of (machine_of process)) words left c.self.view_is refl refl c.args.kept.now.records c.add_call.new.self c.look.new.was _
    effects effects effects (machine_of c.finish.new.self) (looked c.args.kept.now.records c.look.new.was _ _ c.look.ensures refl) (ap (λ (p : ProcessState). p.processor) c.self-2.view_is) turned.became
    c.part-effects.ensures refl
    (plain_keeps process.kernel left c.answer-outcome.result process.memory c.answer-outcome.new.cpu (machine_call (seen_of (machine_of process)) process.kernel guest left) step guest (record { native = None; effects = effects }) refl).effects
    c.in_ok-add_call.ensures
