-- What the steps of a turn keep for the journal.
use Rattle.std.proofs.Common.{◌≡◌, ℕ, ◌+◌, ◌%◌, ◌^◌, ◌<◌, Bool, true, false, List, [], ◌∷◌, ◌++◌, Option, Some, None, Result, Ok, Err, OnOk, refl, sym, ap, subst, ◌∙◌, arith}
use Rattle.std.specs.Prelude.{◌-◌, ◌||◌, if◌then◌else◌, IfSome, is_none, is_some, unwrap_or}
use Rattle.bridge_delivery.specs.Ended.{KeepsEnd}
use Rattle.bridge_log.proofs.Journals.{effected_none, effected_then}
use Rattle.bridge_log.specs.Keeping.{reached}
use Rattle.bridge_log.specs.Looks.{LooksFor}
use Rattle.bridge_system.specs.Found.{found}
use Rattle.guest_space.specs.Memory.{Memory, Pages}
use Rattle.kernel_core.specs.declared.core_error.Stop.{Stop}
use Rattle.kernel_core.specs.declared.event.Event.{Event}
use Rattle.kernel_core.specs.declared.finish.Finish.{Finish}
use Rattle.kernel_core.specs.declared.record.Effect.{Effect}
use Rattle.kernel_core.specs.declared.record.Record.{Record}
use Rattle.kernel_model.specs.Pipes.{Sent, nothing}
use Rattle.kernel_model.specs.State.{Kernel}
use Rattle.mips_exec.specs.Going.{Steps}
use Rattle.mips_exec.specs.Processor.{Processor}
use Rattle.mips_exec.specs.Step.{Step}
use Rattle.mips_exec.specs.declared.execution.Stepped.{Stepped}
use Rattle.mips_exec.specs.declared.execution.Stepped.TheVariants.{Next, Syscall, Fault}
use Rattle.native_log.specs.NativeLog.{NativeLog}
use Rattle.o32_machine.proofs.Turning.{called_is}
use Rattle.o32_machine.specs.Answered.{over_of, turns_done}
use Rattle.o32_machine.specs.Emulator.{Emulated, ProcessState, at_clock, machine_at, machine_of, within_now}
use Rattle.o32_machine.specs.Records.{RecordsCall, RecordsTurn, RecordsTurns}
use Rattle.o32_machine.specs.declared.turn.Turn as code
use Rattle.o32_machine.specs.inside.Recording.{KeepsEffects}
use Rattle.o32_machine.specs.inside.Steps.{begun}
use Rattle.o32_model.specs.Effects.{Effected}
use Rattle.o32_model.specs.Logs.{Kept}
use Rattle.o32_model.specs.Step.{O32Step}
use Rattle.o32_model.specs.Table.{machine_call}
use Rattle.o32_model.specs.Words.{call_words}
use Rattle.o32_model.specs.declared.call_words.CallWords.{CallWords}
use Rattle.o32_model.specs.declared.outcome.Outcome.{Outcome}
use Rattle.o32_model.specs.declared.outcome.Outcome.TheVariants as outcomes
use Rattle.o32_model.specs.declared.wait.Seen.{Seen}
use Rattle.o32_turns.specs.Instruction.{after_call, after_outcome, behind, called, seen_of}
use Rattle.o32_turns.specs.Machine.{Machine, Turn, Within}
use Rattle.o32_turns.specs.Runs.{is_block}
use Rattle.o32_turns.specs.Runs as runs
use Rattle.o32_turns.specs.Turn.{turn_of, whole}
use Rattle.outside.specs.Streams.{Contents}
use Rattle.journal.specs.Form.{call_kind}
use Rattle.turn_records.proofs.Syscalls.{syscall_step}
use Rattle.turn_records.proofs.Untouched.{untouched}
use Rattle.turn_records.specs.Entry.{IsEntry, IsOne, registers_of, target_of, words_at}
use Rattle.turn_records.specs.Keeping.{AreKept, Gains, Records, emptied, no_effects}
use Rattle.turn_records.specs.Turn.{AreRecordsOf, IsBefore, IsCallEntry, IsBehind, IsIdleEntry, IsInstructionRecorded, IsLast, IsStepRecorded, IsTurnRecorded, before_instruction, is_touched, unless_none}

on_ok : {A : Type 0} (result : Result A Stop) (P Q : Type 0) → (P → Q) → OnOk result P → OnOk result Q
on_ok (Ok value) P Q so p = so p
on_ok (Err stop) P Q so p = p

-- Effects of the parts of a turn

-- the end of a wait, and a delivery
pub keeps_effects : {A : Type 0} (result : Result A Stop) (told : Option (List ℕ)) (kernel became : Kernel) (before after : Pages) (old new : Kept)
    → KeepsEnd result told kernel became before after old new → KeepsEffects result told before after old.effects new.effects
keeps_effects (Ok done) told kernel became before after old new keeps = λ left is. (keeps left is).effects
keeps_effects (Err stop) told kernel became before after old new keeps = λ left is. tt

-- a look
pub looks_effects : {A : Type 0} (IsThere : A → Type 0) (result : Result A Stop) (kernel became : Kernel) (before after : Contents) (old new : Kept) (pages : Pages)
    → LooksFor IsThere result kernel became before after old new → KeepsEffects result before.left pages pages old.effects new.effects
looks_effects IsThere (Ok found) kernel became before after old new pages looks = λ left is processor sent.
    subst (λ (e : Option (List Effect)). Effected old.effects e (reached processor pages sent) (reached processor pages sent)) (sym (looks left is).1.effects)
    (effected_none old.effects (reached processor pages sent))
looks_effects IsThere (Err stop) kernel became before after old new pages looks = λ left is. tt

-- a part, and the rest behind it
pub effects_then : {A : Type 0} (result : Result A Stop) (pages between became : Pages) (told : Option (List ℕ)) (old middle new : Option (List Effect)) (left : List ℕ)
    → ((processor : Processor) (sent : Sent) → Effected old middle (reached processor pages sent) (reached processor between sent)) → told ≡ Some left
    → KeepsEffects result told between became middle new
    → OnOk result ((processor : Processor) (sent : Sent) → Effected old new (reached processor pages sent) (reached processor became sent))
effects_then result pages between became told old middle new left done is rest =
    on_ok result _ _
    (λ (later : (processor : Processor) (sent : Sent) → Effected middle new (reached processor between sent) (reached processor became sent)) (processor : Processor) (sent : Sent).
    effected_then (done processor sent) (later processor sent))
    (rest left is)

-- Records that came

-- none has come
pub gains_none : (records : Records) (AreMore : List Record → Type 0) → AreMore [] → Gains records records AreMore
gains_none records AreMore are = record {
  kept = λ list is. record { more = []; whole = is ∙ ap Some (sym (append_none list)); are = are };
  absent = λ is. is;
}
  where
    append_none : (list : List Record) → list ++ [] ≡ list
    append_none [] = refl
    append_none (entry ∷ list) = ap (λ (l : List Record). entry ∷ l) (append_none list)

-- the same, said in other words
pub gains_so : (old new : Records) (AreMore AreSo : List Record → Type 0) → ((records : List Record) → AreMore records → AreSo records) → Gains old new AreMore → Gains old new AreSo
gains_so old new AreMore AreSo so gains = record {
  kept = λ list is. record { more = (gains.kept list is).more; whole = (gains.kept list is).whole; are = so (gains.kept list is).more (gains.kept list is).are };
  absent = gains.absent;
}

-- one behind the other
pub gains_both : (old middle new : Records) (AreFirst AreLast AreBoth : List Record → Type 0)
    → ((first last : List Record) → AreFirst first → AreLast last → AreBoth (first ++ last))
    → Gains old middle AreFirst → Gains middle new AreLast → Gains old new AreBoth
gains_both old middle new AreFirst AreLast AreBoth both first last = record {
  kept = λ list is.
      let one = first.kept list is in
      let two = last.kept (list ++ one.more) one.whole in
      record {
        more = one.more ++ two.more;
        whole = two.whole ∙ ap Some (append_twice list one.more two.more);
        are = both one.more two.more one.are two.are;
      };
  absent = λ is. last.absent (first.absent is);
}
  where
    append_twice : (list one two : List Record) → (list ++ one) ++ two ≡ list ++ (one ++ two)
    append_twice [] one two = refl
    append_twice (entry ∷ list) one two = ap (λ (l : List Record). entry ∷ l) (append_twice list one two)

-- and taken back, where the turn is none
pub gains_no : (old middle new cleared : Records) (AreMore : List Record → Type 0) → old ≡ emptied cleared → new ≡ emptied middle → Gains old middle AreMore → Gains old new (λ more. more ≡ [])
gains_no old middle new cleared AreMore is gone gains = record {
  kept = λ list was.
      let none : list ≡ [] = emptied_list cleared list (sym is ∙ was) in
      record { more = []; whole = gone ∙ ap emptied (gains.kept list was).whole ∙ sym (ap (λ (l : List Record). Some (l ++ [])) none); are = refl };
  absent = λ was. gone ∙ ap emptied (gains.absent was);
}
  where
    emptied_list : (records : Records) (list : List Record) → emptied records ≡ Some list → list ≡ []
    emptied_list None list so = absurd cc
    emptied_list (Some records) list so = sym (ap (λ (r : Records). unwrap_or r []) so)

-- An instruction

-- a SYSCALL stands 4 bytes before the program counter that it leaves
pub step_at : (turn : ℕ) (p next : Processor) (m stored : Memory) (came : Stepped) → Steps p m came next stored → (machine : Machine) (left : List ℕ) (records : List Record)
    → IsStepRecorded turn ((next.pc + (2 ^ 32 - 4)) % 2 ^ 32) machine came left records → IsStepRecorded turn p.pc machine came left records
step_at turn p next m stored Next step machine left records so = so
step_at turn p next m stored (Fault signal code address) step machine left records so = so
step_at turn p next m stored Syscall step machine left records so =
    let found = syscall_step p next m stored step in
    let below : p.pc < 2 ^ 32 = found.0 in
    let past : next.pc ≡ (p.pc + 4) % 2 ^ 32 = ap (λ (q : Processor). q.pc) found.2 in
    let back : (next.pc + (2 ^ 32 - 4)) % 2 ^ 32 ≡ p.pc = omega (arith, past, below) in
    subst (λ (at : ℕ). IsStepRecorded turn at machine Syscall left records) back so

-- The last steps

module _ (turn : ℕ) (within : Within) (left : List ℕ) (records : List Record) where
  abbrev if_over : Option Finish → Type 0
  if_over over = unless_none (is_some over) records (IsLast (within.machine.stopped || is_some within.machine.wait) turn within.machine left records)

  pub behind_over : (finish : Finish) → within.over ≡ Some finish → records ≡ [] → IsBehind turn within left records
  behind_over finish over none = subst if_over (sym over) none

  pub behind_rests : within.over ≡ None → (within.machine.stopped || is_some within.machine.wait) ≡ true → IsOne (IsIdleEntry turn within.machine) records → IsBehind turn within left records
  behind_rests over rests one = subst if_over (sym over) (subst (λ (b : Bool). IsLast b turn within.machine left records) (sym rests) one)

  pub behind_step : within.over ≡ None → (within.machine.stopped || is_some within.machine.wait) ≡ false → IsInstructionRecorded turn within.machine left records → IsBehind turn within left records
  behind_step over rests so = subst if_over (sym over) (subst (λ (b : Bool). IsLast b turn within.machine left records) (sym rests) so)

pub instruction_recorded : (turn : ℕ) (process ran : ProcessState) (came : Stepped) (left : List ℕ) (records : List Record) → ran ≡ record process { processor = ran.processor; memory = ran.memory }
    → Steps process.processor process.memory came ran.processor ran.memory
    → IsStepRecorded turn ((ran.processor.pc + (2 ^ 32 - 4)) % 2 ^ 32) (machine_of ran) came left records → IsInstructionRecorded turn (machine_of process) left records
instruction_recorded turn process ran came left records others step so =
    let there : IsStepRecorded turn process.processor.pc (machine_of ran) came left records = step_at turn process.processor ran.processor process.memory ran.memory came step (machine_of ran) left records so in
    let here : IsStepRecorded turn process.processor.pc (record (machine_of process) { processor = ran.processor; memory = ran.memory }) came left records =
    subst (λ (m : Machine). IsStepRecorded turn process.processor.pc m came left records) (ap machine_of others) there in
    subst (λ (s : Step). IsStepRecorded turn process.processor.pc (record (machine_of process) { processor = s.processor; memory = s.memory }) s.came left records) (sym step) here

-- A whole turn

pub turn_recorded : (turn : ℕ) (machine : Machine) (left : List ℕ) (within : Within) → within ≡ before_instruction machine → (first last : List Record)
    → IsBefore turn machine (before_instruction machine) first → IsBehind turn within left last → IsTurnRecorded turn machine left (first ++ last)
turn_recorded turn machine left within is first last before behind = record {
  first = first;
  last = last;
  whole = refl;
  before = before;
  behind = subst (λ (w : Within). IsBehind turn w left last) is behind;
}

-- The registers before a part of a turn, which are known where a journal is kept
pub looked : (records : Records) (was from to : Processor) → IfSome records (λ (list : List Record). was ≡ from) → from ≡ to → IfSome records (λ (list : List Record). to ≡ was)
looked None was from to is same = tt
looked (Some list) was from to is same = sym (is ∙ same)

-- A call

outcome_memory : (words : CallWords) (machine : Machine) (outcome : Outcome) → (after_outcome words machine outcome).machine.memory ≡ machine.memory
outcome_memory words machine (outcomes.Value value) = refl
outcome_memory words machine (outcomes.Pair first second) = refl
outcome_memory words machine (outcomes.Error error) = refl
outcome_memory words machine (outcomes.Sleep wait) = refl
outcome_memory words machine outcomes.Frame = refl
outcome_memory words machine outcomes.BadFrame = refl
outcome_memory words machine (outcomes.Exit status) = refl

module _ (turn : ℕ) (now process : ProcessState) (seen : Seen) (words : CallWords) (left : List ℕ) (is : process ≡ now) (sees : seen ≡ seen_of (machine_of process))
    (read : words ≡ call_words process.processor process.memory) (records new : Records) (was cpu : Processor) (part kept effects : Option (List Effect)) where
  abbrev made : O32Step
  made = machine_call seen process.kernel (found words process.processor process.memory) left

  abbrev came : Turn
  came = called whole (machine_of process) left

  came_is : came ≡ after_call (machine_of process) words made
  came_is = called_is (machine_of process) seen words left sees read

  came_memory : came.machine.memory ≡ made.memory
  came_memory = ap (λ (t : Turn). t.machine.memory) came_is ∙ outcome_memory words (behind (machine_of process) words made) made.outcome

  came_sent : came.sent ≡ made.sent
  came_sent = ap (λ (t : Turn). t.sent) came_is

  abbrev Entered : Processor → Memory → Sent → Type 0
  Entered after memory sent =
      Gains records new (IsOne (IsEntry turn call_kind (words_at ((process.processor.pc + (2 ^ 32 - 4)) % 2 ^ 32) process.processor) (target_of process.processor process.memory nothing) (target_of after memory sent)))

  pub call_recorded : (final : Machine) → IfSome records (λ (list : List Record). registers_of process.processor ≡ was) → cpu ≡ final.processor → final ≡ (called whole (machine_of now) left).machine
      → part ≡ no_effects records → effects ≡ kept
      → Effected part kept (reached process.processor process.memory.pages nothing) (reached process.processor made.memory.pages made.sent)
      → ((p processor : Processor) (memory became : Memory) (sent : Sent) → IfSome records (λ (list : List Record). registers_of processor ≡ was) → AreKept records effects p memory became sent
      → Gains records new (IsOne (IsEntry turn call_kind (words_at ((processor.pc + (2 ^ 32 - 4)) % 2 ^ 32) processor) (target_of processor memory nothing) (target_of cpu became sent))))
      → Gains records new (IsOne (IsCallEntry turn ((now.processor.pc + (2 ^ 32 - 4)) % 2 ^ 32) (machine_of now) (called whole (machine_of now) left)))
  call_recorded final was_is cpu_is final_is part_is effects_is effected adds =
      let are_kept : AreKept records effects process.processor process.memory made.memory made.sent =
      subst (λ (o : Option (List Effect)). Effected o effects (reached process.processor process.memory.pages nothing) (reached process.processor made.memory.pages made.sent)) part_is
      (subst (λ (o : Option (List Effect)). Effected part o (reached process.processor process.memory.pages nothing) (reached process.processor made.memory.pages made.sent)) (sym effects_is) effected) in
      let cpu_so : cpu ≡ came.machine.processor =
      cpu_is ∙ ap (λ (m : Machine). m.processor) (final_is ∙ ap (λ (p : ProcessState). (called whole (machine_of p) left).machine) (sym is)) in
      let base : Entered cpu made.memory made.sent = adds process.processor process.processor process.memory made.memory made.sent was_is are_kept in
      let by_cpu : Entered came.machine.processor made.memory made.sent = subst (λ (q : Processor). Entered q made.memory made.sent) cpu_so base in
      let by_memory : Entered came.machine.processor came.machine.memory made.sent =
      subst (λ (m : Memory). Entered came.machine.processor m made.sent) (sym came_memory) by_cpu in
      let by_sent : Entered came.machine.processor came.machine.memory came.sent =
      subst (λ (s : Sent). Entered came.machine.processor came.machine.memory s) (sym came_sent) by_memory in
      subst (λ (p : ProcessState). Gains records new (IsOne (IsCallEntry turn ((p.processor.pc + (2 ^ 32 - 4)) % 2 ^ 32) (machine_of p) (called whole (machine_of p) left)))) is by_sent

-- What stands before an instruction

module _ (turn clock : ℕ) (self posted woken : ProcessState) (records new : Records) (was cpu : Processor) (events : List Event) (alive : Bool) (part kept effects : Option (List Effect)) where
  abbrev begins_at : Machine
  begins_at = machine_at clock (machine_of self)

  pub before_recorded : IfSome records (λ (list : List Record). registers_of self.processor ≡ was) → cpu ≡ woken.processor → events ≡ woken.going.events → alive ≡ is_none woken.going.over → part ≡ no_effects records → effects ≡ kept
      → posted.memory ≡ self.memory → within_now woken ≡ before_instruction begins_at
      → ((processor : Processor) (sent : Sent) → Effected part kept (reached processor posted.memory.pages sent) (reached processor woken.memory.pages sent))
      → ((machine : Machine) (within : Within) (p : Processor) → IfSome records (λ (list : List Record). registers_of machine.processor ≡ was) → within.machine.processor ≡ cpu → within.events ≡ events → is_none within.over ≡ alive
      → AreKept records effects p machine.memory within.machine.memory nothing
      → (is_touched within ≡ false → target_of machine.processor machine.memory nothing ≡ target_of within.machine.processor within.machine.memory nothing)
      → Gains records new (IsBefore turn machine within))
      → Gains records new (IsBefore turn begins_at (before_instruction begins_at))
  before_recorded was_is cpu_is events_is alive_is part_is effects_is posted_is is effected adds =
      let within = before_instruction begins_at in
      let p = self.processor in
      let by_self : Effected part kept (reached p self.memory.pages nothing) (reached p woken.memory.pages nothing) =
      subst (λ (m : Memory). Effected part kept (reached p m.pages nothing) (reached p woken.memory.pages nothing)) posted_is (effected p nothing) in
      let by_within : Effected part kept (reached p self.memory.pages nothing) (reached p within.machine.memory.pages nothing) =
      subst (λ (w : Within). Effected part kept (reached p self.memory.pages nothing) (reached p w.machine.memory.pages nothing)) is by_self in
      let by_part : Effected (no_effects records) kept (reached p self.memory.pages nothing) (reached p within.machine.memory.pages nothing) =
      subst (λ (o : Option (List Effect)). Effected o kept (reached p self.memory.pages nothing) (reached p within.machine.memory.pages nothing)) part_is by_within in
      let are_kept : AreKept records effects p begins_at.memory within.machine.memory nothing =
      subst (λ (o : Option (List Effect)). Effected (no_effects records) o (reached p self.memory.pages nothing) (reached p within.machine.memory.pages nothing)) (sym effects_is) by_part in
      adds begins_at within p was_is (ap (λ (w : Within). w.machine.processor) (sym is) ∙ sym cpu_is) (ap (λ (w : Within). w.events) (sym is) ∙ sym events_is)
      (ap (λ (w : Within). is_none w.over) (sym is) ∙ sym alive_is) are_kept
      (λ untouched_so.
      let same = untouched begins_at untouched_so in
      ap (λ (q : Processor). target_of q begins_at.memory nothing) same.0 ∙ ap (λ (m : Memory). target_of within.machine.processor m nothing) same.1)

-- A whole turn of an emulator

module _ (emulated : Emulated) (clock quantum turns : ℕ) (over : Bool) (native : NativeLog) (records : Records) (process : ProcessState)
    (is : record { machine = machine_at clock (machine_of process); quantum = quantum; turns = turns; over = over; events = process.going.events; native = native; records = records } ≡ emulated) where
  abbrev at_clock_now : Machine
  at_clock_now = machine_at clock (machine_of process)

  -- `ended` is whether the records were taken back
  pub whole_recorded : (left : List ℕ) (middle : ProcessState) (turn : code.Turn) (cleared settled_by last_by final : Records) → cleared ≡ emptied records
      → within_now middle ≡ before_instruction at_clock_now → over_of turn ≡ (turn_of emulated.quantum emulated.machine left).over
      → Gains cleared settled_by (IsBefore (turns + 1) at_clock_now (before_instruction at_clock_now))
      → Gains settled_by last_by (IsBehind (turns + 1) (within_now middle) left)
      → final ≡ (if is_block (over_of turn) then emptied last_by else last_by)
      → Gains (emptied emulated.records) final (AreRecordsOf emulated.quantum (emulated.turns + 1) emulated.machine left)
  whole_recorded left middle turn cleared settled_by last_by final empty settled over_so before behind final_is =
      let both : Gains cleared last_by (IsTurnRecorded (turns + 1) at_clock_now left) =
      gains_both cleared settled_by last_by (IsBefore (turns + 1) at_clock_now (before_instruction at_clock_now)) (IsBehind (turns + 1) (within_now middle) left) (IsTurnRecorded (turns + 1) at_clock_now left)
      (turn_recorded (turns + 1) at_clock_now left (within_now middle) settled) before behind in
      subst (λ (e : Emulated). Gains (emptied e.records) final (AreRecordsOf e.quantum (e.turns + 1) e.machine left)) is
      (subst (λ (r : Records). Gains r final (AreRecordsOf quantum (turns + 1) at_clock_now left)) empty
      (by_block (is_block (over_of turn)) refl both))
    where
      over_is : over_of turn ≡ (turn_of quantum at_clock_now left).over
      over_is = over_so ∙ sym (ap (λ (e : Emulated). (turn_of e.quantum e.machine left).over) is)

      by_block : (blocked : Bool) → is_block (over_of turn) ≡ blocked → Gains cleared last_by (IsTurnRecorded (turns + 1) at_clock_now left)
          → Gains cleared final (AreRecordsOf quantum (turns + 1) at_clock_now left)
      by_block true so both =
          gains_so cleared final (λ more. more ≡ []) _
          (λ (more : List Record) (none : more ≡ []).
          subst (λ (b : Bool). unless_none b more (IsTurnRecorded (turns + 1) at_clock_now left more)) (sym (ap is_block (sym over_is) ∙ so)) none)
          (gains_no cleared last_by final records (IsTurnRecorded (turns + 1) at_clock_now left) empty
          (final_is ∙ ap (λ (b : Bool). if b then emptied last_by else last_by) so) both)
      by_block false so both =
          subst (λ (r : Records). Gains cleared r (AreRecordsOf quantum (turns + 1) at_clock_now left))
          (sym (final_is ∙ ap (λ (b : Bool). if b then emptied last_by else last_by) so))
          (gains_so cleared last_by (IsTurnRecorded (turns + 1) at_clock_now left) _
          (λ (more : List Record) (are : IsTurnRecorded (turns + 1) at_clock_now left more).
          subst (λ (b : Bool). unless_none b more (IsTurnRecorded (turns + 1) at_clock_now left more)) (sym (ap is_block (sym over_is) ∙ so)) are)
          both)

  -- a call alone
  pub alone_recorded : (result : Result code.Turn Stop) (moved : ProcessState) (cleared new : Records) (before : Contents)
      → moved ≡ record process { kernel = at_clock clock process.kernel; going = begun process.going } → cleared ≡ emptied records
      → RecordsCall result (turns + 1) (machine_of moved) cleared new before
      → RecordsCall result (emulated.turns + 1) emulated.machine (emptied emulated.records) new before
  alone_recorded result moved cleared new before moved_is empty so =
      subst (λ (e : Emulated). RecordsCall result (e.turns + 1) e.machine (emptied e.records) new before) is
      (subst (λ (r : Records). RecordsCall result (turns + 1) at_clock_now r new before) empty
      (subst (λ (p : ProcessState). RecordsCall result (turns + 1) (machine_of p) cleared new before) moved_is so))

-- one turn alone, of those that are taken at once
pub one_recorded : (result : Result code.Turn Stop) (quantum : ℕ) (machine : Machine) (turns turns_then : ℕ) (old new : Records) (before : Contents) → turns_then ≡ turns + turns_done result
    → RecordsTurn result quantum machine turns old new before → RecordsTurns result quantum machine turns turns_then old new before
unfolding runs.reached
one_recorded (Ok turn) quantum machine turns turns_then old new before counted one = λ left told. record {
  quiet = 0;
  counted = omega (arith, counted);
  gains = subst (λ (n : ℕ). Gains (emptied old) new (AreRecordsOf quantum (n + 1) machine left)) (sym (none_more turns)) (one left told);
}
  where
    none_more : (n : ℕ) → n + 0 ≡ n
    none_more n = omega arith
one_recorded (Err stop) quantum machine turns turns_then old new before counted one = λ left told. tt
