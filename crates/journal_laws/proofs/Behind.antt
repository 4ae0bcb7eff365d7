-- The last steps of a turn, repeated from their record.
use Rattle.std.proofs.Common.{◌≡◌, ℕ, ◌+◌, ◌==◌, Bool, true, false, List, [], ◌∷◌, ◌++◌, Option, Some, None, refl, sym, ap, subst, ◌∙◌}
use Rattle.std.specs.Prelude.{is_some, if◌then◌else◌}
use Rattle.guest_space.specs.Memory.{Memory}
use Rattle.kernel_core.specs.declared.finish.Finish.{Finish}
use Rattle.kernel_core.specs.declared.record.Record.{Record}
use Rattle.kernel_model.specs.Pipes.{Sent, nothing}
use Rattle.mips_exec.specs.Processor.{Processor}
use Rattle.mips_exec.specs.Step.{Step, step_of}
use Rattle.mips_exec.specs.declared.execution.Stepped.{Stepped}
use Rattle.mips_exec.specs.declared.execution.Stepped.TheVariants.{Next, Syscall, Fault}
use Rattle.o32_model.specs.Effects.{Difference, Target}
use Rattle.o32_turns.specs.Instruction.{after_step as turn_after_step, at_time, called, stepped}
use Rattle.o32_turns.specs.Machine.{Machine, Turn, Within, turn}
use Rattle.o32_turns.specs.Turn.{after_events, fifth_step, jumped, next_for, sixth_step, whole}
use Rattle.replay_core.specs.Replay.{after_step, call_kind, comes, differs, end_kind, ends_killed, idle, idle_kind, instruction, instruction_or_none, is_excused, is_killing, meets, taken, words_of}
use Rattle.turn_records.specs.Entry.{IsOne, words_at}
use Rattle.turn_records.specs.Turn as records
use Rattle.journal_laws.proofs.Entering.{Faulted}
use Rattle.journal_laws.proofs.Going.{KillsAtMost}
use Rattle.journal_laws.proofs.Records.{bare, comes_here, equal_words, none_comes, not_killed, nothing_sent, other_kind, standing, taken_so}
use Rattle.journal_laws.proofs.Steps.{CameSo, came_so, same_step}
use Rattle.journal_laws.proofs.Turning.{Follows, TurnSo, called_keeps, processor_from}

-- What follows the records of a turn, by how it ends the process

pub follows_for : (number : ℕ) (one other : Turn) (rest : List Record) → one ≡ other → Follows number one rest → Follows number other rest
follows_for number one other rest same follows = subst (λ (t : Turn). Follows number t rest) same follows

none_killed : (number : ℕ) (came : Turn) (rest : List Record) → Follows number came rest → is_killing came.over ≡ false → ends_killed number rest ≡ false
none_killed number came rest follows lives = follows.killed ∙ lives

-- A process that was killed has no last step.

pub killing_by : (over : Option Finish) → is_some over ≡ true → KillsAtMost over → is_killing over ≡ true
killing_by None is kill = absurd cc
killing_by (Some finish) is kill = kill

module _ (within : Within) (left : List ℕ) (number turns : ℕ) (processor : Processor) (memory : Memory) (sent : Sent) (rest : List Record) where
  pub killed_so : is_some within.over ≡ true → KillsAtMost within.over → Follows number (turn within left nothing) rest
      → TurnSo (turn within left nothing) sent rest turns (instruction_or_none number (standing processor memory sent rest turns))
  killed_so over kill follows =
      let start = standing processor memory sent rest turns in
      let kills : ends_killed number rest ≡ true = follows.killed ∙ killing_by within.over over kill in
      record {
        processor = processor;
        memory = memory;
        same =
            ap (λ (b : Bool). if b then start else (if comes number idle_kind rest then idle (words_of processor) rest start else instruction number start)) kills
            ∙ ap (λ (s : Sent). standing processor memory s rest turns) (sym (nothing_sent sent));
        alive = λ alive. absurd (let wrong : true ≡ false = sym over ∙ ap (λ (o : Option Finish). is_some o) alive in cc);
      }

-- A turn without an instruction

jumped_alike : (time : Option ℕ) (within : Within)
    → ((jumped time within).machine.processor ≡ within.machine.processor) × ((jumped time within).machine.memory ≡ within.machine.memory)
jumped_alike None within = (refl, refl)
jumped_alike (Some time) within = (refl, refl)

not_idle_end : (number : ℕ) (entry : Record) (left : List Record) (kind : ℕ) → entry.kind ≡ kind → (kind == end_kind) ≡ false → ends_killed number (entry ∷ left) ≡ false
not_idle_end number entry left kind is other = not_killed number (entry ∷ left) (other_kind number end_kind kind entry left is other)

module _ (within : Within) (left : List ℕ) (number turns : ℕ) (memory : Memory) (sent : Sent) (rest : List Record) (same : memory.pages ≡ within.machine.memory.pages) where
  pub idle_so : (last : List Record) → IsOne (records.IsIdleEntry number within.machine) last
      → TurnSo (fifth_step within left) sent rest turns (instruction_or_none number (standing within.machine.processor memory sent (last ++ rest) turns))
  idle_so [] is = absurd is
  idle_so (entry ∷ []) is =
      let processor = within.machine.processor in
      let start = standing processor memory sent (entry ∷ rest) turns in
      let recorded = is.recorded in
      let alike = jumped_alike (next_for within.machine) within in
      record {
        processor = processor;
        memory = memory;
        same =
            ap (λ (b : Bool). if b then start else (if comes number idle_kind (entry ∷ rest) then idle (words_of processor) (entry ∷ rest) start else instruction number start))
            (not_idle_end number entry rest idle_kind recorded.kind refl)
            ∙ ap (λ (b : Bool). if b then idle (words_of processor) (entry ∷ rest) start else instruction number start) (comes_here number idle_kind entry rest recorded.turn recorded.kind)
            ∙ ap (λ (d : Option Difference). meets (standing processor memory sent rest turns) d) (equal_words entry.words (words_of processor) recorded.words)
            ∙ ap (λ (s : Sent). standing processor memory s rest turns) (sym (nothing_sent sent));
        alive = λ alive. (sym alike.0, same ∙ sym (ap (λ (m : Memory). m.pages) alike.1));
      }
  idle_so (entry ∷ other ∷ more) is = absurd is

-- A turn with one

abbrev pub machine_after : Machine → Step → Machine
machine_after machine step = stepped machine step.processor step.memory

-- what the step came to, with the events and the time of the turn
abbrev pub came_turn : ℕ → Within → Machine → Stepped → List ℕ → Turn
came_turn quantum within machine came left = after_events within.events (at_time (within.machine.kernel.clock + quantum) (turn_after_step whole machine came left))

module _ (quantum : ℕ) (within : Within) (left : List ℕ) (number turns : ℕ) (sent : Sent) (rest : List Record)
    (going : within.machine.stopped ≡ false) (before : Processor) (step : Step) where
  abbrev after : Machine
  after = machine_after within.machine step

  stepped_so : (came : Stepped) (memory : Memory) (last : List Record) → CameSo before step came → memory.pages ≡ step.memory.pages
      → records.IsStepRecorded number before.pc after came left last
      → Follows number (came_turn quantum within after came left) rest
      → TurnSo (came_turn quantum within after came left) sent rest turns (after_step number (words_of before) came (standing step.processor memory sent (last ++ rest) turns))
  stepped_so Next memory last so same none follows =
      let start = standing step.processor memory sent rest turns in
      subst (λ (l : List Record). TurnSo (came_turn quantum within after Next left) sent rest turns (after_step number (words_of before) Next (standing step.processor memory sent (l ++ rest) turns))) (sym none)
      (record {
        processor = step.processor;
        memory = memory;
        same =
            ap (λ (b : Bool). if b then differs 1 0 start else start) (none_comes number call_kind rest follows.later refl)
            ∙ ap (λ (s : Sent). standing step.processor memory s rest turns) (sym (nothing_sent sent));
        alive = λ alive. (refl, same);
      })
  stepped_so Syscall memory [] so same is follows = absurd is
  stepped_so Syscall memory (entry ∷ []) so same is follows =
      let start = standing step.processor memory sent (entry ∷ rest) turns in
      let came = called whole after left in
      let to : Target = record { processor = bare came.machine.processor; pages = came.machine.memory.pages; sent = came.sent } in
      let keeps = called_keeps after left in
      let words : entry.words ≡ words_of before = is.words ∙ ap (λ (p : Processor). words_at before.pc p) so.1 in
      let unlinked : step.processor.link ≡ None = ap (λ (p : Processor). p.link) so.1 in
      record {
        processor = record came.machine.processor { slot = step.processor.slot; link = None };
        memory = record memory { pages = came.machine.memory.pages };
        same =
            ap (λ (b : Bool). if b then taken (words_of before) (entry ∷ rest) start else differs 0 1 start) (comes_here number call_kind entry rest is.turn is.kind)
            ∙ taken_so step.processor memory sent step.memory.pages same (words_of before) entry rest turns to words is.leads;
        alive = λ alive. (
          processor_from (record came.machine.processor { slot = step.processor.slot; link = None }) came.machine.processor refl (sym keeps.0) (sym (keeps.1 ∙ unlinked)),
          refl,
        );
      }
  stepped_so Syscall memory (entry ∷ other ∷ more) so same is follows = absurd is
  stepped_so (Fault signal code address) memory last so same none follows =
      let start = standing step.processor memory sent rest turns in
      let faulted : Faulted (came_turn quantum within after (Fault signal code address) left).machine = record { info = _; is = refl; free = so; going = going } in
      subst (λ (l : List Record). TurnSo (came_turn quantum within after (Fault signal code address) left) sent rest turns (after_step number (words_of before) (Fault signal code address) (standing step.processor memory sent (l ++ rest) turns))) (sym none)
      (record {
        processor = step.processor;
        memory = memory;
        same =
            ap (λ (b : Bool). if b then differs 1 0 start else (if is_excused number rest then start else differs 0 2 start)) (none_comes number call_kind rest follows.later refl)
            ∙ ap (λ (b : Bool). if b then start else differs 0 2 start) (follows.excused faulted refl)
            ∙ ap (λ (s : Sent). standing step.processor memory s rest turns) (sym (nothing_sent sent));
        alive = λ alive. (refl, same);
      })

  -- no other record comes
  none_before : (came : Stepped) (last : List Record) → records.IsStepRecorded number before.pc after came left last
      → Follows number (came_turn quantum within after came left) rest
      → (ends_killed number (last ++ rest) ≡ false) × (comes number idle_kind (last ++ rest) ≡ false)
  none_before Next last none follows =
      subst (λ (l : List Record). (ends_killed number (l ++ rest) ≡ false) × (comes number idle_kind (l ++ rest) ≡ false)) (sym none)
      (follows.killed, none_comes number idle_kind rest follows.later refl)
  none_before Syscall [] is follows = absurd is
  none_before Syscall (entry ∷ []) is follows =
      (not_idle_end number entry rest call_kind is.kind refl, other_kind number idle_kind call_kind entry rest is.kind refl)
  none_before Syscall (entry ∷ other ∷ more) is follows = absurd is
  none_before (Fault signal code address) last none follows =
      subst (λ (l : List Record). (ends_killed number (l ++ rest) ≡ false) × (comes number idle_kind (l ++ rest) ≡ false)) (sym none)
      (follows.killed, none_comes number idle_kind rest follows.later refl)

module _ (quantum : ℕ) (within : Within) (left : List ℕ) (number turns : ℕ) (memory : Memory) (sent : Sent) (rest : List Record)
    (going : within.machine.stopped ≡ false) (same : memory.pages ≡ within.machine.memory.pages) where
  abbrev before : Processor
  before = within.machine.processor

  abbrev run_step : Step
  run_step = step_of before within.machine.memory

  pub instruction_so : (last : List Record) → records.IsInstructionRecorded number within.machine left last → Follows number (sixth_step whole quantum within left) rest
      → TurnSo (sixth_step whole quantum within left) sent rest turns (instruction_or_none number (standing before memory sent (last ++ rest) turns))
  instruction_so last is follows =
      let start = standing before memory sent (last ++ rest) turns in
      let own = step_of before memory in
      let alike = same_step before memory within.machine.memory same in
      let none = none_before quantum within left number turns sent rest going before run_step run_step.came last is follows in
      let stands = stepped_so quantum within left number turns sent rest going before run_step run_step.came own.memory last (came_so before within.machine.memory) alike.pages is follows in
      record {
        processor = stands.processor;
        memory = stands.memory;
        same =
            ap (λ (b : Bool). if b then start else (if comes number idle_kind (last ++ rest) then idle (words_of before) (last ++ rest) start else instruction number start)) none.0
            ∙ ap (λ (b : Bool). if b then idle (words_of before) (last ++ rest) start else instruction number start) none.1
            ∙ ap (λ (p : Processor). after_step number (words_of before) own.came (standing p own.memory sent (last ++ rest) turns)) alike.processor
            ∙ ap (λ (c : Stepped). after_step number (words_of before) c (standing run_step.processor own.memory sent (last ++ rest) turns)) alike.came
            ∙ stands.same;
        alive = stands.alive;
      }
