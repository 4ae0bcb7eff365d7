-- A call that stops, and one that is carried out.
use Rattle.std.proofs.Common.{◌≡◌, ◌∙◌, List, Option, Vec, Global, ap, refl, subst, sym}
use Rattle.std.specs.Prelude.{option_map}
use Rattle.bridge_log.specs.Keeping.{Logged}
use Rattle.kernel_core.specs.declared.log_entry.LogEntry.{LogEntry}
use Rattle.native_calls.specs.History.{moment, opening}
use Rattle.mips_exec.specs.Processor.{register}
use Rattle.o32_machine.proofs.Plainly.{bridged_words}
use Rattle.o32_machine.proofs.Recording.{call_recorded, looked}
use Rattle.o32_machine.proofs.Turning.{call_goes, call_lacks, call_stops, fails_before, its_turn}
use Rattle.o32_machine.specs.Emulator.{ProcessState, coming_of, machine_of}
use Rattle.o32_machine.specs.inside.Logging.{LastLogged}
use Rattle.o32_turns.specs.Instruction.{seen_of}
use Rattle.o32_turns.specs.Machine.{Turn}
use Rattle.o32_machine.proofs.Logging.{call_logged}
use Rattle.o32_model.specs.Logs.{Kept as KeptCalls}
use Rattle.o32_model.specs.Table.{machine_call}
use Rattle.o32_model.specs.Words.{v0}
use Rattle.bridge_system.specs.Found.{found}
use Rattle.outside.specs.Streams.{contents}
use Rattle.o32_machine.proofs.process.Process.call_bridged.Goals as goal

pub make_call-requires : goal.make_call-requires
make_call-requires g c =
    bridged_words c.args.call c.args-words.result c.self.inside.core.cpu c.self.inside.core.space c.args-words.ensures
    (ap (λ (p : ProcessState). register p.processor v0) c.self.view_is ∙ c.requires.named)

pub returns-in_err-outcome-clause-turn : goal.returns-in_err-outcome-clause-turn
returns-in_err-outcome-clause-turn g c = λ left told.
    let process : ProcessState = record { processor = c.self.inside.core.cpu; memory = c.self.inside.core.space; kernel = c.self.inside.core.kernel; going = c.self.inside.going; coming = coming_of c.self.inside.schedule; idle = c.self.inside.idle } in
    let sees : c.seen-seen.result ≡ seen_of (machine_of process) = c.seen-seen.ensures ∙ ap (λ (p : ProcessState). seen_of (machine_of p)) (sym c.self.view_is) in
    call_stops c.args.self.now process c.seen-seen.result c.args-words.result left c.self.view_is sees c.args-words.ensures c.from_residual.result _ _ _ _ c.from_residual.ensures.0 (c.in_err-outcome.ensures.row left told)

pub returns-in_err-ended-clause-turn : goal.returns-in_err-ended-clause-turn
returns-in_err-ended-clause-turn g c = λ left told.
    let process : ProcessState = record { processor = c.self.inside.core.cpu; memory = c.self.inside.core.space; kernel = c.self.inside.core.kernel; going = c.self.inside.going; coming = coming_of c.self.inside.schedule; idle = c.self.inside.idle } in
    let sees : c.seen-seen.result ≡ seen_of (machine_of process) = c.seen-seen.ensures ∙ ap (λ (p : ProcessState). seen_of (machine_of p)) (sym c.self.view_is) in
    let left_by : ProcessState = record process { processor = c.make_call.new.core.cpu; memory = c.make_call.new.core.space; kernel = c.make_call.new.core.kernel } in
    call_lacks c.args.self.now process c.seen-seen.result c.args-words.result left c.self.view_is sees c.args-words.ensures left_by c.in_ok-outcome.outcome _ _ refl (c.in_ok-outcome.ensures.row left told) c.from_residual-in_err-ended.result _ _ c.from_residual-in_err-ended.ensures.0

pub returns-clause-turn : goal.returns-clause-turn
returns-clause-turn g c = λ left told.
    let process : ProcessState = record { processor = c.self.inside.core.cpu; memory = c.self.inside.core.space; kernel = c.self.inside.core.kernel; going = c.self.inside.going; coming = coming_of c.self.inside.schedule; idle = c.self.inside.idle } in
    let sees : c.seen-seen.result ≡ seen_of (machine_of process) = c.seen-seen.ensures ∙ ap (λ (p : ProcessState). seen_of (machine_of p)) (sym c.self.view_is) in
    let left_by : ProcessState = record process { processor = c.make_call.new.core.cpu; memory = c.make_call.new.core.space; kernel = c.make_call.new.core.kernel } in
    call_goes c.args.self.now process c.seen-seen.result c.args-words.result left c.self.view_is sees c.args-words.ensures left_by c.in_ok-outcome.outcome _ _ refl (c.in_ok-outcome.ensures.row left told) c.in_ok-ended.ended (machine_of c.finish.new.self) c.finish.new.self.going.events c.in_ok-ended.ensures.over c.in_ok-ended.ensures.machine c.in_ok-ended.ensures.events

pub returns-in_err-add-clause-turn : goal.returns-in_err-add-clause-turn
returns-in_err-add-clause-turn g c = λ left told.
    let process : ProcessState = record { processor = c.self.inside.core.cpu; memory = c.self.inside.core.space; kernel = c.self.inside.core.kernel; going = c.self.inside.going; coming = coming_of c.self.inside.schedule; idle = c.self.inside.idle } in
    let sees : c.seen-seen.result ≡ seen_of (machine_of process) = c.seen-seen.ensures ∙ ap (λ (p : ProcessState). seen_of (machine_of p)) (sym c.self.view_is) in
    let left_by : ProcessState = record process { processor = c.make_call.new.core.cpu; memory = c.make_call.new.core.space; kernel = c.make_call.new.core.kernel } in
    call_lacks c.args.self.now process c.seen-seen.result c.args-words.result left c.self.view_is sees c.args-words.ensures left_by c.in_ok-outcome.outcome _ _ refl (c.in_ok-outcome.ensures.row left told) c.from_residual-in_err-add.result _ _ c.from_residual-in_err-add.ensures.0

pub returns-in_err-add_call-clause-turn : goal.returns-in_err-add_call-clause-turn
returns-in_err-add_call-clause-turn g c = λ left told.
    let process : ProcessState = record { processor = c.self.inside.core.cpu; memory = c.self.inside.core.space; kernel = c.self.inside.core.kernel; going = c.self.inside.going; coming = coming_of c.self.inside.schedule; idle = c.self.inside.idle } in
    let sees : c.seen-seen.result ≡ seen_of (machine_of process) = c.seen-seen.ensures ∙ ap (λ (p : ProcessState). seen_of (machine_of p)) (sym c.self.view_is) in
    let left_by : ProcessState = record process { processor = c.make_call.new.core.cpu; memory = c.make_call.new.core.space; kernel = c.make_call.new.core.kernel } in
    call_lacks c.args.self.now process c.seen-seen.result c.args-words.result left c.self.view_is sees c.args-words.ensures left_by c.in_ok-outcome.outcome _ _ refl (c.in_ok-outcome.ensures.row left told) c.from_residual-in_err-add_call.result _ _ c.from_residual-in_err-add_call.ensures.0

pub returns-clause-records : goal.returns-clause-records
returns-clause-records g c = λ left told.
    let process : ProcessState = record { processor = c.self.inside.core.cpu; memory = c.self.inside.core.space; kernel = c.self.inside.core.kernel; going = c.self.inside.going; coming = coming_of c.self.inside.schedule; idle = c.self.inside.idle } in
    let sees : c.seen-seen.result ≡ seen_of (machine_of process) = c.seen-seen.ensures ∙ ap (λ (p : ProcessState). seen_of (machine_of p)) (sym c.self.view_is) in
    let left_by : ProcessState = record process { processor = c.make_call.new.core.cpu; memory = c.make_call.new.core.space; kernel = c.make_call.new.core.kernel } in
    let turned = call_goes c.args.self.now process c.seen-seen.result c.args-words.result left c.self.view_is sees c.args-words.ensures left_by c.in_ok-outcome.outcome _ _ refl (c.in_ok-outcome.ensures.row left told) c.in_ok-ended.ended (machine_of c.finish.new.self) c.finish.new.self.going.events c.in_ok-ended.ensures.over c.in_ok-ended.ensures.machine c.in_ok-ended.ensures.events in
    call_recorded c.args.turn c.args.self.now process c.seen-seen.result c.args-words.result left c.self.view_is sees c.args-words.ensures c.args.kept.now.records c.add_call.new.self c.look.new.was _
    c.part-log.result.effects c.make_call.new.log.effects _ (machine_of c.finish.new.self) (looked c.args.kept.now.records c.look.new.was _ _ c.look.ensures refl) (ap (λ (p : ProcessState). p.processor) c.self-2.view_is) turned.became
    c.part-log.ensures.effects (ap (λ (k : KeptCalls). k.effects) c.log.view_is) (c.in_ok-outcome.ensures.kept left told).effects c.in_ok-add_call.ensures

pub returns-clause-native : goal.returns-clause-native
returns-clause-native g c = λ left told ready.
    let row = c.in_ok-outcome.ensures.row left told in
    let made = machine_call c.seen-seen.result c.self.inside.core.kernel (found c.args-words.result c.self.inside.core.cpu c.self.inside.core.space) left in
    let process : ProcessState = record { processor = c.self.inside.core.cpu; memory = c.self.inside.core.space; kernel = c.self.inside.core.kernel; going = c.self.inside.going; coming = coming_of c.self.inside.schedule; idle = c.self.inside.idle } in
    let sees : c.seen-seen.result ≡ seen_of (machine_of process) = c.seen-seen.ensures ∙ ap (λ (p : ProcessState). seen_of (machine_of p)) (sym c.self.view_is) in
    subst (λ (t : Turn). LastLogged c.args.self.now.kernel c.finish.new.self.kernel left t c.args.kept.now.native c.add.new.self)
    (its_turn c.args.self.now process c.seen-seen.result c.args-words.result left c.self.view_is sees c.args-words.ensures)
    (call_logged c.args.clock c.args.self.now.kernel c.self.inside.core.kernel c.make_call.new.core.kernel c.finish.new.self.kernel left c.args.kept.now.native c.add.new.self
    made c.part-log.result.native (option_map (λ (v : Vec LogEntry Global). v.items) c.log.inside.native) (ap (λ (p : ProcessState). p.kernel) c.self.view_is) c.finish.ensures.kernel row.became c.part-log.ensures.native
    (subst (λ (n : Option (List LogEntry)). Logged c.part-log.result.native n (opening c.self.inside.core.kernel left) (moment made.kernel made.left made.sent)) (sym (ap (λ (k : KeptCalls). k.native) c.log.view_is))
    (c.in_ok-outcome.ensures.kept left told).native) ready
    (λ first logged. c.in_ok-add.ensures.leads c.self.inside.core.kernel c.make_call.new.core.kernel left _ _ _ (ap (λ (p : ProcessState). p.kernel.clock) c.self.view_is ∙ c.requires.clock)
    (c.make_call.ensures.clock ∙ ap (λ (p : ProcessState). p.kernel.clock) c.self.view_is ∙ c.requires.clock) first logged))
