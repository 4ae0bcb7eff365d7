-- What a session answers: where nothing is run, and where there is a run.
use Rattle.std.proofs.Common.{◌≡◌, ℕ, ◌≤◌, ◌<◌, Bool, cond, List, Option, Some, None, Result, Ok, Err, ◌⊎◌, inl, inr, refl, sym, ap, ◌∙◌, subst, option_map}
use Rattle.std.proofs.lemmas.Bool.{le-ltb}
use Rattle.outside.specs.Count.{Rose}
use Rattle.outside.specs.Files.{Files}
use Rattle.outside.specs.Streams.{Contents}
use Rattle.outside.specs.declared.devices.Devices.{Devices}
use Rattle.kernel_core.specs.declared.core_error.Stop.{Stop}
use Rattle.kernel_core.specs.declared.core_error.Stop.TheVariants as stops
use Rattle.journal.specs.Form.{IsFinish}
use Rattle.kernel_core.specs.declared.finish.Finish.{Finish}
use Rattle.kernel_core.specs.declared.finish.Finish.TheVariants as finishes
use Rattle.kernel_core.specs.declared.tree.Tree.{Tree}
use Rattle.o32_runner.specs.Traced.{StopsOnlyIfAnyRose}
use Rattle.fs_image.specs.Meaning as images
use Rattle.fs_image.specs.declared.refusal.ImageRefusal.{ImageRefusal}
use Rattle.elf_image.specs.Loading.{plan_of}
use Rattle.elf_image.specs.declared.load_plan.Plan.{Plan}
use Rattle.schedule.specs.declared.Schedule.{Schedule}
use Rattle.start_stack.specs.Stack.{start_size, start_limit}
use Rattle.o32_runner.specs.Emulators.{Emulated}
use Rattle.o32_turns.specs.Machine.{Machine}
use Rattle.session_files.specs.Answers.{IsRefusal}
use Rattle.o32_session.specs.Asked.{Asked, Refuse, Run, AsksOf, AsksOfPlan, AsksUnless, AsksFor, arguments_of, asked_of_schedule, asked_of_tree, first_machine, journal_front}
use Rattle.session_files.specs.Inputs.{Names, names_of, Found, Bytes, found_at, IsOpened, IsOpenedBy, IsScheduled, empty_tree, image_limit, schedule_of_found}
use Rattle.session_files.specs.Saved.{SavesTree, SavesTreeInPart}
use Rattle.stored_files.specs.Stored.{Stored}
use Rattle.o32_session.specs.Session.{KeepsNamed, Answers, final_tree, once_loaded, Finishes, IsRun, IsPartOfRun, StopsAtSave, AnswersReading, AsksForRun, EndsAsRun, HasImage, HasSchedule, IsRunEnd}
use Rattle.session_files.specs.Seen.{Seen, contents_of}
use Rattle.session_files.specs.Unrun.{StopsAtStage}
use Rattle.o32_session.specs.Words.{Line, Reading, Asks, WrongAt, read_words, word_at}
use Rattle.session_files.specs.Ends.{end_of, end_of_stop}
use Rattle.session_files.specs.Steps.{EndsRefused, EndsWithoutRun, LineFailsOnlyIfRose, LoadsReading, ReasonOnlyIfRose}
use Rattle.o32_session.specs.inside.Prepared.{IsPrepared}
use Rattle.o32_runner.specs.Making.{IsByStore}
use Rattle.o32_runner.specs.Runs.{RunsAs, no_turn_follows}
use Rattle.o32_runner.specs.Texts.{WritesTexts}
use Rattle.o32_session.specs.inside.Runs.{AnswersRun}
use Rattle.o32_session.specs.declared.answer.Answer.{Answer}
use Rattle.session_files.specs.declared.end.End.{End}
use Rattle.session_files.specs.declared.end.End.TheVariants.{Exited, Killed, Budget, Blocked, Soaked, Replayed, Refused, Diverged, ReadFault, WriteFault, NoMemory}
use Rattle.session_files.specs.declared.refusal.Refusal.{Refusal}
use Rattle.session_files.specs.declared.refusal.Refusal.TheVariants.{Usage, Start}
use Rattle.session_files.specs.declared.not_run.NotRun.{NotRun}
use Rattle.session_files.specs.declared.not_run.NotRun.TheVariants as reasons
use Rattle.o32_session.specs.declared.prepare.Ready.{Ready}
use Rattle.session_files.proofs.Unrun.{beside, no_fault, nothing_done, refused, stopped}

-- Nothing is run

-- Nothing is run, and the answer says so.
pub unrun : (words : List (List ℕ)) (reading : Reading) (reason : NotRun) (end : End) (old : Seen)
    (err : Option (List ℕ)) (faults loads : ℕ) (store : Stored) (host : Option Emulated) → IsPrepared words reading old.store.files (Err reason) →
    EndsWithoutRun reason end old.err err → LineFailsOnlyIfRose end old.err_faults faults →
    LoadsReading {T = Ready} words reading (Err reason) old.store store → ReasonOnlyIfRose {T = Ready} (Err reason) old.load_faults loads →
    AnswersReading words reading old (beside old err faults loads store) 0 end host
unrun words (WrongAt word) (reasons.Refused refusal) end old err faults loads store host is so cause loaded rose =
    inr (refused (Usage word) end old err faults loads store (subst (λ r. EndsRefused r end old.err err) is so) cause loaded)
unrun words (WrongAt word) reasons.ReadFault end old err faults loads store host is so cause loaded rose = absurd is
unrun words (WrongAt word) reasons.NoMemory end old err faults loads store host is so cause loaded rose =
    inl (so.0, nothing_done old err faults loads store so.1 loaded)
unrun words (Asks line) (reasons.Refused refusal) end old err faults loads store host is so cause loaded rose =
    inr (Refuse refusal, is, refused refusal end (once_loaded (Refuse refusal) (names_of words line) old) err faults loads store so cause loaded)
unrun words (Asks line) reasons.ReadFault end old err faults loads store host is so cause loaded rose =
    inl (stopped (names_of words line) end old err faults loads store (inl (so.0, loaded)) (λ fault. rose) so.1)
unrun words (Asks line) reasons.NoMemory end old err faults loads store host is so cause loaded rose =
    inl (stopped (names_of words line) end old err faults loads store (inr (so.0, loaded)) (λ fault. no_fault end so.0 fault) so.1)

-- There is a run

run_told : (quantum : ℕ) (machine : Machine) (budget turns : ℕ) (finish : Finish) (old new : Seen) (final : Machine) → RunsAs quantum machine budget turns (Ok finish) (contents_of old) (contents_of new) final
    → (left : List ℕ) → old.left ≡ Some left → IsRun quantum machine left budget old new turns finish final
run_told quantum machine budget turns finish old new final runs left told =
    let so = runs left told in
    record { over = so.over; wrote = record { to_out = so.to_out; to_err = so.to_err }; rest = so.rest; leaves = so.leaves }

cut_told : (quantum : ℕ) (machine : Machine) (budget turns : ℕ) (stop : Stop) (old new : Seen) (final : Machine) → RunsAs quantum machine budget turns (Err stop) (contents_of old) (contents_of new) final
    → (left : List ℕ) → old.left ≡ Some left → IsPartOfRun quantum machine left budget old new turns
cut_told quantum machine budget turns stop old new final runs left told =
    let so = runs left told in record { alive = so.alive; first = so.first; to_out = so.to_out; to_err = so.to_err; rest = so.rest }

-- the texts of a run by other names of the same files
pub texts_named : (front : List ℕ) (quantum : ℕ) (machine : Machine) (budget turns : ℕ) (end : Result Finish Stop) (before after : Contents) (old new : Stored) (trace other_trace native other_native journal other_journal : Option (List ℕ))
    → trace ≡ other_trace → native ≡ other_native → journal ≡ other_journal
    → WritesTexts trace native journal front quantum machine budget turns end before after old new → WritesTexts other_trace other_native other_journal front quantum machine budget turns end before after old new
texts_named front quantum machine budget turns end before after old new trace other_trace native other_native journal other_journal traced logged kept texts =
    subst (λ (n : Option (List ℕ)). WritesTexts n other_native other_journal front quantum machine budget turns end before after old new) traced
    (subst (λ (n : Option (List ℕ)). WritesTexts trace n other_journal front quantum machine budget turns end before after old new) logged
    (subst (λ (n : Option (List ℕ)). WritesTexts trace native n front quantum machine budget turns end before after old new) kept texts))

-- the run stopped early
pub cut_answer : (quantum : ℕ) (machine : Machine) (budget turns : ℕ) (front : List ℕ) (names : Names) (stop : Stop) (old new : Seen) (final : Machine) (host : Option Emulated) → turns ≤ budget → (names.trace ≡ None → names.journal ≡ None → turns < budget)
    → (turns ≡ budget → IsByStore stop old.store.write_faults new.store.write_faults)
    → WritesTexts names.trace names.native names.journal front quantum machine budget turns (Err stop) (contents_of old) (contents_of new) old.store new.store
    → RunsAs quantum machine budget turns (Err stop) (contents_of old) (contents_of new) final
    → (stop ≡ stops.ReadFault → Rose old.read_faults new.read_faults) → (stop ≡ stops.WriteFault → Rose old.out_faults new.out_faults ⊎ (Rose old.err_faults new.err_faults ⊎ Rose old.store.write_faults new.store.write_faults))
    → Answers (Run quantum machine budget front) names old new turns (end_of_stop stop) host
cut_answer quantum machine budget turns front names stops.ReadFault old new final host within early behind texts runs read write =
    (record { within = within; early = early; behind = behind; texts = texts; told = cut_told quantum machine budget turns stops.ReadFault old new final runs }, read refl)
cut_answer quantum machine budget turns front names stops.WriteFault old new final host within early behind texts runs read write =
    inl (record { within = within; early = early; behind = behind; texts = texts; told = cut_told quantum machine budget turns stops.WriteFault old new final runs }, write refl)
cut_answer quantum machine budget turns front names stops.NoMemory old new final host within early behind texts runs read write =
    inl (record { within = within; early = early; behind = behind; texts = texts; told = cut_told quantum machine budget turns stops.NoMemory old new final runs })

finish_answers : (quantum : ℕ) (machine : Machine) (budget turns : ℕ) (front : List ℕ) (names : Names) (finish : Finish) (old new : Seen) (host : Option Emulated) → Finishes quantum machine budget front names old new turns finish host
    → Answers (Run quantum machine budget front) names old new turns (end_of finish) host
finish_answers quantum machine budget turns front names (finishes.Exited status) old new host so = so
finish_answers quantum machine budget turns front names (finishes.Killed signal) old new host so = so
finish_answers quantum machine budget turns front names finishes.Budget old new host so = so
finish_answers quantum machine budget turns front names finishes.Blocked old new host so = so

-- the run is over, and what follows it says the answer
pub run_answer : (quantum : ℕ) (machine : Machine) (budget turns : ℕ) (front : List ℕ) (names : Names) (name : Option (List ℕ)) (finish : Finish) (emulated : Emulated) (answer : Answer) (old new : Seen) (middle : Stored) → names.save ≡ name → middle.write_faults ≡ old.store.write_faults → turns ≤ budget → IsFinish finish
    → WritesTexts names.trace names.native names.journal front quantum machine budget turns (Ok finish) (contents_of old) (contents_of new) old.store middle → emulated.turns ≡ turns
    → RunsAs quantum machine budget turns (Ok finish) (contents_of old) (contents_of new) emulated.machine → emulated.quantum ≡ quantum → ((left : List ℕ) → old.left ≡ Some left → KeepsNamed names emulated)
    → ((left : List ℕ) → old.left ≡ Some left → emulated.over ≡ no_turn_follows finish)
    → AnswersRun name emulated finish answer middle new.store
    → Answers (Run quantum machine budget front) names old new answer.turns answer.end answer.host
run_answer quantum machine budget turns front names name finish emulated answer old new middle named unfaulty within small texts counted runs stays keeps last (inl done) =
    let same : answer.turns ≡ turns = done.turns ∙ counted in
    let so : Finishes quantum machine budget front names old new turns finish answer.host = record {
      within = within;
      small = small;
      emulated = emulated;
      hosted = done.host;
      turned = counted;
      quantum_stays = stays;
      keeps = keeps;
      last = last;
      middle = middle;
      texts = texts;
      saves = subst (λ (n : Option (List ℕ)). SavesTree n (final_tree emulated.machine) middle new.store) (sym named) done.saves;
      told = run_told quantum machine budget turns finish old new emulated.machine runs;
    } in
    subst (λ (n : ℕ). Answers (Run quantum machine budget front) names old new n answer.end answer.host) (sym same)
    (subst (λ (e : End). Answers (Run quantum machine budget front) names old new turns e answer.host) (sym done.end) (finish_answers quantum machine budget turns front names finish old new answer.host so))
run_answer quantum machine budget turns front names name finish emulated answer old new middle named unfaulty within small texts counted runs stays keeps last (inr failed) =
    let same : answer.turns ≡ turns = failed.turns ∙ counted in
    let so : StopsAtSave quantum machine budget front names old new turns = record {
      within = within;
      finish = finish;
      final = emulated.machine;
      middle = middle;
      texts = texts;
      saves = subst (λ (n : Option (List ℕ)). SavesTreeInPart n (final_tree emulated.machine) middle new.store) (sym named) failed.saves;
      told = run_told quantum machine budget turns finish old new emulated.machine runs;
    } in
    subst (λ (n : ℕ). Answers (Run quantum machine budget front) names old new n answer.end answer.host) (sym same)
    (elim failed.end as (λ _. Answers (Run quantum machine budget front) names old new turns answer.end answer.host) [
      | inl fault ↦ subst (λ (e : End). Answers (Run quantum machine budget front) names old new turns e answer.host) (sym fault.0) (inr (so, subst (λ (n : ℕ). Rose n new.store.write_faults) unfaulty fault.1))
      | inr memory ↦ subst (λ (e : End). Answers (Run quantum machine budget front) names old new turns e answer.host) (sym memory.0) (inr so)
    ])

-- a device that stopped the run

pub read_cause : {I O E : Type 0} (input : I → ℕ) (out : O → ℕ) (err : E → ℕ) (stop : Stop) (writes writes_then : ℕ) (old new : Devices I O E) → StopsOnlyIfAnyRose {T = Finish} input out err (Err stop) writes writes_then old new → stop ≡ stops.ReadFault
    → Rose (input old.input) (input new.input)
read_cause input out err stop writes writes_then old new cause is = (subst (λ (s : Stop). StopsOnlyIfAnyRose {T = Finish} input out err (Err s) writes writes_then old new) is cause).0

pub write_cause : {I O E : Type 0} (input : I → ℕ) (out : O → ℕ) (err : E → ℕ) (stop : Stop) (writes writes_then : ℕ) (old new : Devices I O E) → StopsOnlyIfAnyRose {T = Finish} input out err (Err stop) writes writes_then old new → stop ≡ stops.WriteFault
    → Rose (out old.out) (out new.out) ⊎ (Rose (err old.err) (err new.err) ⊎ Rose writes writes_then)
write_cause input out err stop writes writes_then old new cause is = subst (λ (s : Stop). StopsOnlyIfAnyRose {T = Finish} input out err (Err s) writes writes_then old new) is cause

-- There is a run, and the answer is what it came to.
pub run_answers : (words : List (List ℕ)) (reading : Reading) (ready : Ready) (old new : Seen) (turns : ℕ) (end : End) (host : Option Emulated) (faults : ℕ) (middle : Stored) → IsPrepared words reading old.store.files (Ok ready)
    → ((names : Names) → names.save ≡ option_map (word_at words) ready.save → names.trace ≡ option_map (word_at words) ready.trace → names.native ≡ option_map (word_at words) ready.native → names.journal ≡ option_map (word_at words) ready.journal → Answers (Run ready.emulator.quantum ready.emulator.machine ready.budget ready.front.items) names (record old { load_faults = faults; store = middle }) new turns end host)
    → LoadsReading {T = Ready} words reading (Ok ready) old.store middle → faults ≡ old.load_faults → AnswersReading words reading old new turns end host
run_answers words (WrongAt word) ready old new turns end host faults middle is runs loads same = absurd is
run_answers words (Asks line) ready old new turns end host faults middle is runs loads same = inr (
  Run ready.emulator.quantum ready.emulator.machine ready.budget ready.front.items,
  is.0,
  subst (λ (s : Stored). Answers (Run ready.emulator.quantum ready.emulator.machine ready.budget ready.front.items) (names_of words line) (record old { store = s }) new turns end host) loads
      (subst (λ (n : ℕ). Answers (Run ready.emulator.quantum ready.emulator.machine ready.budget ready.front.items) (names_of words line) (record old { load_faults = n; store = middle }) new turns end host) same
      (runs (names_of words line) (ap (λ (n : Option ℕ). option_map (word_at words) n) (sym is.1.0)) (ap (λ (n : Option ℕ). option_map (word_at words) n) (sym is.1.1.0))
      (ap (λ (n : Option ℕ). option_map (word_at words) n) (sym is.1.1.1.0)) (ap (λ (n : Option ℕ). option_map (word_at words) n) (sym is.1.1.1.1)))),
)

-- a run is not refused
pub ran_on : (quantum : ℕ) (machine : Machine) (budget : ℕ) (front : List ℕ) (names : Names) (old new : Seen) (turns : ℕ) (end : End) (host : Option Emulated) → Answers (Run quantum machine budget front) names old new turns end host → IsRefusal end → ⊥
ran_on quantum machine budget front names old new turns (Exited status) host answer refused = refused
ran_on quantum machine budget front names old new turns (Killed signal) host answer refused = refused
ran_on quantum machine budget front names old new turns Budget host answer refused = refused
ran_on quantum machine budget front names old new turns Blocked host answer refused = refused
ran_on quantum machine budget front names old new turns (Soaked over) host answer refused = refused
ran_on quantum machine budget front names old new turns (Replayed over) host answer refused = refused
ran_on quantum machine budget front names old new turns (Diverged turn wanted found) host answer refused = refused
ran_on quantum machine budget front names old new turns (Refused given) host answer refused = answer
ran_on quantum machine budget front names old new turns ReadFault host answer refused = refused
ran_on quantum machine budget front names old new turns WriteFault host answer refused = refused
ran_on quantum machine budget front names old new turns NoMemory host answer refused = refused

-- A run is asked for

-- where the image is in its form it is no cause of a refusal
no_refusal : (bytes : List ℕ) (broken : ImageRefusal) → images.first_failure bytes ≡ None → images.first_failure bytes ≡ Some broken → ⊥
no_refusal bytes broken none some = cc

opens_by : (files : Files) (name : List ℕ) (found : Found) (opened : Result Tree Refusal) → found ≡ found_at image_limit (files name) →
    HasImage files (Some name) → IsOpenedBy found opened → (tree : Tree) × (opened ≡ Ok tree)
opens_by files name found (Ok tree) is has opened = (tree, refl)
opens_by files name found (Err refusal) is has opened =
    let read : IsOpenedBy (Bytes has.0) (Err refusal) = subst (λ f. IsOpenedBy f (Err refusal)) (is ∙ has.1) opened in
    absurd (no_refusal has.0 read.0 has.2 read.2)

opens : (files : Files) (image : Option (List ℕ)) (opened : Result Tree Refusal) → HasImage files image →
    IsOpened (Some files) image opened → (tree : Tree) × (opened ≡ Ok tree)
opens files None opened has is = (empty_tree, is)
opens files (Some name) opened has is = opens_by files name is.0 opened is.1 has is.2

-- where the answer is that of this run
run_end_of : (quantum : ℕ) (machine : Machine) (budget : ℕ) (front : List ℕ) (names : Names) (old new : Seen) (turns : ℕ) (end : End) (host : Option Emulated) (left : List ℕ) → old.left ≡ Some left →
    Answers (Run quantum machine budget front) names old new turns end host → (end ≡ ReadFault → ⊥) → (Rose old.store.write_faults new.store.write_faults → ⊥) →
    (Rose old.out_faults new.out_faults → ⊥) → (Rose old.err_faults new.err_faults → ⊥) → (end ≡ NoMemory) ⊎ IsRunEnd quantum machine left budget turns end
run_end_of quantum machine budget front names old new turns (Exited status) host left told answer read file out err = inr (answer.told left told).over
run_end_of quantum machine budget front names old new turns (Killed signal) host left told answer read file out err = inr (answer.told left told).over
run_end_of quantum machine budget front names old new turns Budget host left told answer read file out err = inr (answer.told left told).over
run_end_of quantum machine budget front names old new turns Blocked host left told answer read file out err = inr (answer.told left told).over
run_end_of quantum machine budget front names old new turns (Soaked over) host left told answer read file out err = absurd answer
run_end_of quantum machine budget front names old new turns (Replayed over) host left told answer read file out err = absurd answer
run_end_of quantum machine budget front names old new turns (Diverged turn wanted found) host left told answer read file out err = absurd answer
run_end_of quantum machine budget front names old new turns (Refused given) host left told answer read file out err = absurd answer
run_end_of quantum machine budget front names old new turns ReadFault host left told answer read file out err = absurd (read refl)
run_end_of quantum machine budget front names old new turns WriteFault host left told answer read file out err =
    elim answer as (λ _. (WriteFault ≡ NoMemory) ⊎ IsRunEnd quantum machine left budget turns WriteFault) [
      | inl in_run ↦ absurd (elim in_run.1 [ inl rose ↦ out rose | inr more ↦ elim more [ inl rose ↦ err rose | inr rose ↦ file rose ] ])
      | inr at_save ↦ absurd (file at_save.1)
    ]
run_end_of quantum machine budget front names old new turns NoMemory host left told answer read file out err = inl refl

early_end : (P : Type 0) (names : Names) (end : End) (old new : Stored) → StopsAtStage names end old new → (end ≡ ReadFault → ⊥) → (end ≡ NoMemory) ⊎ P
early_end P names end old new at_stage read =
    elim at_stage as (λ _. (end ≡ NoMemory) ⊎ P) [
      | inl fault ↦ absurd (read fault.0)
      | inr memory ↦ inl memory.0
    ]

-- the arguments fit
fits_run : (args : List (List ℕ)) (line : Line) (plan : Plan) (tree : Tree) (schedule : Schedule) → start_size args line.environment ≤ start_limit →
    asked_of_schedule args line plan tree schedule ≡ Run schedule.quantum (first_machine plan args line.environment tree schedule) line.budget (journal_front args line.environment schedule)
fits_run args line plan tree schedule fits =
    ap (λ (b : Bool). cond b (Refuse Start) (Run schedule.quantum (first_machine plan args line.environment tree schedule) line.budget (journal_front args line.environment schedule)))
    (le-ltb start_limit (start_size args line.environment) fits)

-- the schedule that is there is the one that is read
scheduled : (files : Files) (name : Option (List ℕ)) (schedule : Schedule) (read : Result Schedule Refusal) → HasSchedule files name schedule
    → IsScheduled (Some files) name read → read ≡ Ok schedule
scheduled files None schedule read has is = is ∙ ap (λ (s : Schedule). let r : Result Schedule Refusal = Ok s in r) (sym has)
scheduled files (Some name) schedule read has is = is.2 ∙ (ap schedule_of_found (is.1 ∙ has.1) ∙ has.2)

-- what is asked for beside a tree is the run under that schedule
runs_so : (args : List (List ℕ)) (line : Line) (names : Names) (files : Files) (plan : Plan) (tree : Tree) (schedule : Schedule) (asked : Asked)
    → HasSchedule files names.schedule schedule → start_size args line.environment ≤ start_limit → AsksOfPlan args line names (Some files) plan (Ok tree) asked
    → asked ≡ Run schedule.quantum (first_machine plan args line.environment tree schedule) line.budget (journal_front args line.environment schedule)
runs_so args line names files plan tree schedule asked has fits asks =
    asks.2 ∙ (ap (λ (r : Result Schedule Refusal). asked_of_tree args line plan tree r) (scheduled files names.schedule schedule asks.0 has asks.1) ∙ fits_run args line plan tree schedule fits)

-- what is asked for is the run beside the tree that was opened
pub asks_run : (words : List (List ℕ)) (told : Option Files) (run : AsksForRun words told) (asked : Asked) → AsksFor words run.line (Some run.files) asked
    → (tree : Tree) × IsOpened (Some run.files) (names_of words run.line).image (Ok tree)
    × (asked ≡ Run run.schedule.quantum (first_machine (plan_of run.bytes) (arguments_of words run.line) run.line.environment tree run.schedule) run.line.budget (journal_front (arguments_of words run.line) run.line.environment run.schedule))
asks_run words told run asked asks =
    let args = arguments_of words run.line in
    let names = names_of words run.line in
    let plan = plan_of run.bytes in
    let of : AsksUnless args run.line names (Some run.files) run.bytes None asked =
    subst (λ f. AsksUnless args run.line names (Some run.files) run.bytes f asked) run.formed
    (subst (λ f. AsksOf args run.line names (Some run.files) f asked) (asks.1 ∙ run.found) asks.2) in
    let open_tree = opens run.files names.image of.0 run.image of.1 in (
      open_tree.0,
      subst (λ (o : Result Tree Refusal). IsOpened (Some run.files) names.image o) open_tree.1 of.1,
      runs_so args run.line names run.files plan open_tree.0 run.schedule asked run.scheduled run.fits
          (subst (λ (o : Result Tree Refusal). AsksOfPlan args run.line names (Some run.files) plan o asked) open_tree.1 of.2),
    )

-- Where a run is asked for and no count rose, the answer is the run's end, unless memory ran out.
pub complete : (words : List (List ℕ)) (old new : Seen) (turns : ℕ) (end : End) (host : Option Emulated) (run : AsksForRun words old.store.files) (left : List ℕ)
    → AnswersReading words (read_words words) old new turns end host → old.left ≡ Some left → (end ≡ ReadFault → ⊥) → (Rose old.store.write_faults new.store.write_faults → ⊥)
    → (Rose old.out_faults new.out_faults → ⊥) → (Rose old.err_faults new.err_faults → ⊥) → (end ≡ NoMemory) ⊎ EndsAsRun words old.store.files run left turns end
complete words old new turns end host run left answer told read file out err =
    let known : AnswersReading words (Asks run.line) old new turns end host =
    subst (λ r. AnswersReading words r old new turns end host) run.in_order answer in
    elim known as (λ _. (end ≡ NoMemory) ⊎ EndsAsRun words old.store.files run left turns end) [
      | inl early ↦ early_end (EndsAsRun words old.store.files run left turns end) (names_of words run.line) end old.store new.store early.at_stage read
      | inr asked ↦
          let asks = asks_run words old.store.files run asked.0 (subst (λ f. AsksFor words run.line f asked.0) run.is_told asked.1) in
          let names = names_of words run.line in
          let front = journal_front (arguments_of words run.line) run.line.environment run.schedule in
          let this : Asked = Run run.schedule.quantum (first_machine (plan_of run.bytes) (arguments_of words run.line) run.line.environment asks.0 run.schedule) run.line.budget front in
          elim (run_end_of run.schedule.quantum (first_machine (plan_of run.bytes) (arguments_of words run.line) run.line.environment asks.0 run.schedule) run.line.budget front names (once_loaded this names old) new turns end host left told
          (subst (λ a. Answers a names (once_loaded a names old) new turns end host) asks.2 asked.2) read file out err)
          as (λ _. (end ≡ NoMemory) ⊎ EndsAsRun words old.store.files run left turns end) [
            | inl memory ↦ inl memory
            | inr is ↦ inr (asks.0, asks.1, is)
          ]
    ]
