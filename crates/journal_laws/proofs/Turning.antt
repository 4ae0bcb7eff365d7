-- One turn of a run, repeated from its records.
use Rattle.std.proofs.Common.{◌≡◌, inl, inr, ℕ, Bool, true, false, List, [], ◌∷◌, ◌++◌, Option, Some, None, refl, sym, ap, ◌∙◌}
use Rattle.std.specs.Prelude.{◌&&◌, is_none, is_some, if◌then◌else◌}
use Rattle.guest_space.specs.Memory.{Memory}
use Rattle.kernel_core.specs.declared.finish.Finish.{Finish}
use Rattle.kernel_core.specs.declared.record.Record.{Record}
use Rattle.kernel_model.specs.Pipes.{Sent, nothing}
use Rattle.mips_exec.specs.Processor.{Processor}
use Rattle.mips_exec.specs.declared.cpu.Slot.{Slot}
use Rattle.o32_model.specs.Effects.{Target}
use Rattle.o32_model.specs.Table.{machine_call}
use Rattle.o32_model.specs.declared.call_words.CallWords.{CallWords}
use Rattle.o32_model.specs.declared.outcome.Outcome.{Outcome}
use Rattle.o32_model.specs.declared.outcome.Outcome.TheVariants as outcomes
use Rattle.o32_turns.specs.Instruction.{after_outcome, behind as machine_behind, called, guest_of, seen_of}
use Rattle.o32_turns.specs.Machine.{Machine, Turn, Within, begin, turn}
use Rattle.o32_turns.specs.Runs.{more_sent}
use Rattle.o32_turns.specs.Turn.{fifth_or_sixth, first_step, fourth_step, second_step, third_step, turn_of, whole}
use Rattle.replay_core.specs.Replay.{Replay, before_instruction, before_kind, comes, ends_killed, is_excused, is_killing, taken, words_of}
use Rattle.turn_records.specs.Turn as records
use Rattle.journal_laws.proofs.Calls.{machine_keeps}
use Rattle.journal_laws.proofs.Entering.{Faulted, Settled, fourth_plain, settled_third, unlinked_before}
use Rattle.journal_laws.proofs.Going.{Goes, fourth_goes, goes_then, handler_began, not_both, third_goes, two_go}
use Rattle.journal_laws.proofs.Pending.{Few}
use Rattle.journal_laws.proofs.Records.{ComesLater, bare, comes_here, nothing_sent, standing, taken_so}

-- Parts of a turn

-- the last steps of a turn, behind what stands before its instruction
abbrev pub rest_of : ℕ → Within → List ℕ → Turn
rest_of quantum within left = if is_some within.over then turn within left nothing else fifth_or_sixth whole quantum within left

abbrev pub third : Machine → Within
third machine = third_step whole (second_step whole (first_step whole machine))

pub none_of : {A : Type 0} (some : Option A) → is_some some ≡ false → some ≡ None
none_of None is = refl
none_of (Some value) is = absurd cc

pub turn_is : (quantum : ℕ) (machine : Machine) (left : List ℕ) → turn_of quantum machine left ≡ rest_of quantum (records.before_instruction machine) left
unfolding turn_of
turn_is quantum machine left = by (is_some (third machine).over) refl where
  by : (over : Bool) → is_some (third machine).over ≡ over
      → (if over then turn (third machine) left nothing else fifth_or_sixth whole quantum (fourth_step whole (third machine)) left)
      ≡ rest_of quantum (if over then third machine else fourth_step whole (third machine)) left
  by true is =
      sym (ap (λ (b : Bool). if b then turn (third machine) left nothing else fifth_or_sixth whole quantum (third machine) left) is)
  by false is =
      let fourth = fourth_step whole (third machine) in
      let alive : is_some fourth.over ≡ false = ap (λ (o : Option Finish). is_some o) (fourth_plain (third machine)).over ∙ is in
      sym (ap (λ (b : Bool). if b then turn fourth left nothing else fifth_or_sixth whole quantum fourth left) alive)

-- What is known of what stands before the instruction

pub record Known (machine : Machine) (within : Within) : Type 0 where
  pub goes : Goes (begin machine) within
  pub unlinked : handler_began within ≡ true → within.over ≡ None → within.machine.processor.link ≡ None
  pub settled : Faulted machine → Settled within

three_go : (machine : Machine) → Goes (begin machine) (third machine)
three_go machine = goes_then (begin machine) (second_step whole (first_step whole machine)) (third machine) (two_go machine) (third_goes (second_step whole (first_step whole machine)))

fourth_settled : (within : Within) → Settled within → Settled (fourth_step whole within)
fourth_settled within (inl began) = inl ((fourth_goes within).grows records.begins_handler began)
fourth_settled within (inr kills) = inr (ap is_killing (fourth_plain within).over ∙ kills)

some_over : {A B : Type 0} (over : Option A) → is_some over ≡ true → over ≡ None → B
some_over None is none = absurd cc
some_over (Some finish) is none = absurd cc

pub known : (machine : Machine) → Few machine.kernel → Known machine (records.before_instruction machine)
known machine few = by (is_some (third machine).over) refl where
  by : (over : Bool) → is_some (third machine).over ≡ over → Known machine (if over then third machine else fourth_step whole (third machine))
  by true is = record {
    goes = three_go machine;
    unlinked = λ began alive. some_over (third machine).over is alive;
    settled = λ faulted. settled_third machine faulted;
  }
  by false is = record {
    goes = goes_then (begin machine) (third machine) (fourth_step whole (third machine)) (three_go machine) (fourth_goes (third machine));
    unlinked = unlinked_before machine few;
    settled = λ faulted. fourth_settled (third machine) (settled_third machine faulted);
  }

-- a call that waits has nothing linked
abbrev pub Sound : Machine → Type 0
Sound machine = is_some machine.wait ≡ true → machine.processor.link ≡ None

-- Processors that differ in nothing

pub processor_from : (p q : Processor) → bare p ≡ bare q → p.slot ≡ q.slot → p.link ≡ q.link → p ≡ q
processor_from p q same slot link =
    ap (λ (r : Processor). record r { slot = p.slot; link = p.link }) same
    ∙ ap (λ (s : Option Slot). record q { slot = s; link = p.link }) slot
    ∙ ap (λ (l : Option ℕ). record q { link = l }) link

-- Before the instruction

pub record BeforeSo (within : Within) (sent : Sent) (left : List Record) (turns : ℕ) (replay : Replay) : Type 0 where
  pub processor : Processor
  pub memory : Memory
  pub same : replay ≡ standing processor memory sent left turns
  pub alive : within.over ≡ None → processor ≡ within.machine.processor
  pub pages : memory.pages ≡ within.machine.memory.pages

alive_quiet : (within : Within) → records.is_entered within ≡ false → within.over ≡ None → handler_began within ≡ false
alive_quiet within quiet alive = by (handler_began within) refl where
  by : (began : Bool) → handler_began within ≡ began → handler_began within ≡ false
  by true is =
      let now : records.is_entered within ≡ true =
      ap (λ (o : Option Finish). handler_began within && is_none o) alive ∙ ap (λ (b : Bool). b && true) is in
      not_both (records.is_entered within) now quiet
  by false is = is

module _ (machine : Machine) (within : Within) (facts : Known machine within) (sound : Sound machine) where
  -- what was linked before a record
  touched_link : records.is_touched within ≡ true → within.over ≡ None → within.machine.processor.link ≡ None
  touched_link touched alive = by (handler_began within) refl (is_some machine.wait) refl where
    by : (began : Bool) → handler_began within ≡ began → (waits : Bool) → is_some machine.wait ≡ waits → within.machine.processor.link ≡ None
    by true is waits asleep = facts.unlinked is alive
    by false is true asleep = facts.goes.link is ∙ sound asleep
    by false is false asleep = not_both (records.is_touched within) touched (facts.goes.quiet (none_of machine.wait asleep) is refl)

  module _ (turn turns : ℕ) (memory : Memory) (sent : Sent) (more : List Record) (same : memory.pages ≡ machine.memory.pages) where
    pub before_so : (first : List Record) → records.IsBefore turn machine within first → comes turn before_kind more ≡ false
        → BeforeSo within sent more turns (before_instruction turn (standing machine.processor memory sent (first ++ more) turns))
    before_so [] untouched none =
        let start = standing machine.processor memory sent more turns in
        record {
          processor = machine.processor;
          memory = memory;
          same = ap (λ (b : Bool). if b then taken (words_of machine.processor) more start else start) none;
          alive = λ alive.
              processor_from machine.processor within.machine.processor (ap (λ (t : Target). t.processor) untouched.same) (sym facts.goes.slot)
              (sym (facts.goes.link (alive_quiet within untouched.none alive)));
          pages = same ∙ ap (λ (t : Target). t.pages) untouched.same;
        }
    before_so (entry ∷ []) touched none =
        let start = standing machine.processor memory sent (entry ∷ more) turns in
        let recorded = touched.recorded in
        let to : Target = record { processor = bare within.machine.processor; pages = within.machine.memory.pages; sent = nothing } in
        record {
          processor = record within.machine.processor { slot = machine.processor.slot; link = None };
          memory = record memory { pages = within.machine.memory.pages };
          same =
              ap (λ (b : Bool). if b then taken (words_of machine.processor) (entry ∷ more) start else start) (comes_here turn before_kind entry more recorded.turn recorded.kind)
              ∙ taken_so machine.processor memory sent machine.memory.pages same (words_of machine.processor) entry more turns to recorded.words recorded.leads
              ∙ ap (λ (s : Sent). standing (record within.machine.processor { slot = machine.processor.slot; link = None }) (record memory { pages = within.machine.memory.pages }) s more turns) (nothing_sent sent);
          alive = λ alive.
              processor_from (record within.machine.processor { slot = machine.processor.slot; link = None }) within.machine.processor refl (sym facts.goes.slot)
              (sym (touched_link touched.touched alive));
          pages = refl;
        }
    before_so (entry ∷ other ∷ others) is none = absurd is

-- Behind it

-- What follows the records of a turn: the records of later turns, or the end
pub record Follows (number : ℕ) (came : Turn) (rest : List Record) : Type 0 where
  pub later : ComesLater number rest
  pub killed : ends_killed number rest ≡ is_killing came.over
  pub excused : Faulted came.machine → came.over ≡ None → is_excused number rest ≡ true

pub record TurnSo (came : Turn) (sent : Sent) (rest : List Record) (turns : ℕ) (replay : Replay) : Type 0 where
  pub processor : Processor
  pub memory : Memory
  pub same : replay ≡ standing processor memory (more_sent sent came.sent) rest turns
  pub alive : came.over ≡ None → (processor ≡ came.machine.processor) × (memory.pages ≡ came.machine.memory.pages)

-- a call leaves the slot and what is linked
called_by : (words : CallWords) (machine : Machine) (outcome : Outcome)
    → ((after_outcome words machine outcome).machine.processor.slot ≡ machine.processor.slot) × ((after_outcome words machine outcome).machine.processor.link ≡ machine.processor.link)
called_by words machine (outcomes.Value value) = (refl, refl)
called_by words machine (outcomes.Pair first second) = (refl, refl)
called_by words machine (outcomes.Error error) = (refl, refl)
called_by words machine (outcomes.Sleep wait) = (refl, refl)
called_by words machine outcomes.Frame = (refl, refl)
called_by words machine outcomes.BadFrame = (refl, refl)
called_by words machine (outcomes.Exit status) = (refl, refl)

pub called_keeps : (machine : Machine) (left : List ℕ)
    → ((called whole machine left).machine.processor.slot ≡ machine.processor.slot) × ((called whole machine left).machine.processor.link ≡ machine.processor.link)
called_keeps machine left =
    let guest = guest_of machine.processor machine.memory in
    let step = machine_call (seen_of machine) machine.kernel guest left in
    let keeps = machine_keeps (seen_of machine) machine.kernel guest left in
    let by = called_by guest.words (machine_behind machine guest.words step) step.outcome in
    (by.0 ∙ keeps.slot, by.1 ∙ keeps.link)
