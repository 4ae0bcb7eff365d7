-- A whole turn, repeated from its records; and what its records are for the turn before it.
use Rattle.std.proofs.Common.{◌≡◌, ◌⊎◌, inl, inr, ℕ, suc, ◌≤◌, ◌+◌, ◌==◌, Bool, true, false, List, [], ◌∷◌, ◌++◌, Option, Some, None, refl, sym, ap, subst, ◌∙◌, add-one, append_assoc, arith}
use Rattle.std.specs.Prelude.{⊤, ◌&&◌, ◌||◌, is_none, is_some, if◌then◌else◌}
use Rattle.guest_space.specs.Memory.{Memory}
use Rattle.kernel_core.specs.declared.finish.Finish.{Finish}
use Rattle.kernel_core.specs.declared.record.Record.{Record}
use Rattle.kernel_model.specs.Pipes.{Sent, nothing}
use Rattle.mips_exec.specs.Processor.{Processor}
use Rattle.mips_exec.specs.Step.{Step, step_of}
use Rattle.mips_exec.specs.declared.execution.Stepped.{Stepped}
use Rattle.mips_exec.specs.declared.execution.Stepped.TheVariants.{Next, Syscall, Fault}
use Rattle.o32_model.specs.declared.wait.Wait.{Wait}
use Rattle.o32_turns.specs.Instruction.{called, stepped}
use Rattle.o32_turns.specs.Machine.{Machine, Turn, Within, turn}
use Rattle.o32_turns.specs.Runs.{more_sent}
use Rattle.o32_turns.specs.Turn.{fifth_or_sixth, fifth_step, jumped, next_for, sixth_step, turn_of, whole}
use Rattle.replay_core.specs.Replay.{Replay, before_instruction, before_kind, comes, counted, end_kind, instruction_or_none, is_excused, is_killing, turn_after, unless_met}
use Rattle.turn_records.specs.Entry.{IsOne}
use Rattle.turn_records.specs.Turn as records
use Rattle.journal_laws.proofs.Behind.{came_turn, follows_for, idle_so, instruction_so, killed_so, killing_by, machine_after}
use Rattle.journal_laws.proofs.Entering.{Faulted, Settled}
use Rattle.journal_laws.proofs.Going.{KillsAtMost, handler_began, not_both, or_left, or_right}
use Rattle.journal_laws.proofs.Records.{ComesLater, comes_here, killed_comes, none_comes, not_killed, other_turn, standing}
use Rattle.journal_laws.proofs.Steps.{CameSo, came_so}
use Rattle.journal_laws.proofs.Turning.{BeforeSo, Follows, Known, Sound, TurnSo, before_so, called_keeps, none_of, rest_of, turn_is}

-- The last records of a turn: none, or one of this turn that is not of before its instruction

abbrev pub IsLastPart : ℕ → List Record → Type 0
IsLastPart number [] = ⊤
IsLastPart number (entry ∷ more) = (entry.turn ≡ number) × ((entry.kind == before_kind) ≡ false)

nothing_last : (number : ℕ) (last : List Record) → last ≡ [] → IsLastPart number last
nothing_last number last none = subst (IsLastPart number) (sym none) tt

idle_last : (number : ℕ) (machine : Machine) (last : List Record) → IsOne (records.IsIdleEntry number machine) last → IsLastPart number last
idle_last number machine [] is = absurd is
idle_last number machine (entry ∷ []) is = (is.recorded.turn, ap (λ (n : ℕ). n == before_kind) is.recorded.kind)
idle_last number machine (entry ∷ other ∷ more) is = absurd is

call_last : (number pc : ℕ) (machine : Machine) (came : Turn) (last : List Record) → IsOne (records.IsCallEntry number pc machine came) last → IsLastPart number last
call_last number pc machine came [] is = absurd is
call_last number pc machine came (entry ∷ []) is = (is.turn, ap (λ (n : ℕ). n == before_kind) is.kind)
call_last number pc machine came (entry ∷ other ∷ more) is = absurd is

step_last : (number pc : ℕ) (machine : Machine) (came : Stepped) (left : List ℕ) (last : List Record) → records.IsStepRecorded number pc machine came left last → IsLastPart number last
step_last number pc machine Next left last is = nothing_last number last is
step_last number pc machine Syscall left last is = call_last number pc machine (called whole machine left) last is
step_last number pc machine (Fault signal code address) left last is = nothing_last number last is

part_last : (asleep : Bool) (number : ℕ) (machine : Machine) (left : List ℕ) (last : List Record) → records.IsLast asleep number machine left last → IsLastPart number last
part_last true number machine left last is = idle_last number machine last is
part_last false number machine left last is =
    let step = step_of machine.processor machine.memory in
    step_last number machine.processor.pc (stepped machine step.processor step.memory) step.came left last is

behind_last : (over asleep : Bool) (number : ℕ) (machine : Machine) (left : List ℕ) (last : List Record)
    → records.unless_none over last (records.IsLast asleep number machine left last) → IsLastPart number last
behind_last true asleep number machine left last is = nothing_last number last is
behind_last false asleep number machine left last is = part_last asleep number machine left last is

none_first : (number : ℕ) (last rest : List Record) → IsLastPart number last → ComesLater number rest → comes number before_kind (last ++ rest) ≡ false
none_first number [] rest is later = none_comes number before_kind rest later refl
none_first number (entry ∷ more) rest is later = other_than (entry.turn == number) (entry.kind == before_kind) is.1 where
  other_than : (a b : Bool) → b ≡ false → (a && b) ≡ false
  other_than true b none = none
  other_than false b none = refl

-- A whole turn

rest_so : (quantum : ℕ) (within : Within) (left : List ℕ) (number turns : ℕ) (processor : Processor) (memory : Memory) (sent : Sent) (last rest : List Record)
    → (within.over ≡ None → processor ≡ within.machine.processor) → memory.pages ≡ within.machine.memory.pages → KillsAtMost within.over
    → (over : Bool) → is_some within.over ≡ over → (asleep : Bool) → (within.machine.stopped || is_some within.machine.wait) ≡ asleep
    → records.unless_none over last (records.IsLast asleep number within.machine left last)
    → Follows number (if over then turn within left nothing else (if asleep then fifth_step within left else sixth_step whole quantum within left)) rest
    → TurnSo (if over then turn within left nothing else (if asleep then fifth_step within left else sixth_step whole quantum within left)) sent rest turns
    (instruction_or_none number (standing processor memory sent (last ++ rest) turns))
rest_so quantum within left number turns processor memory sent last rest alive same kill true over asleep sleeps behind follows =
    subst (λ (l : List Record). TurnSo (turn within left nothing) sent rest turns (instruction_or_none number (standing processor memory sent (l ++ rest) turns))) (sym behind)
    (killed_so within left number turns processor memory sent rest over kill follows)
rest_so quantum within left number turns processor memory sent last rest alive same kill false over true sleeps behind follows =
    subst (λ (p : Processor). TurnSo (fifth_step within left) sent rest turns (instruction_or_none number (standing p memory sent (last ++ rest) turns))) (sym (alive (none_of within.over over)))
    (idle_so within left number turns memory sent rest same last behind)
rest_so quantum within left number turns processor memory sent last rest alive same kill false over false sleeps behind follows =
    subst (λ (p : Processor). TurnSo (sixth_step whole quantum within left) sent rest turns (instruction_or_none number (standing p memory sent (last ++ rest) turns))) (sym (alive (none_of within.over over)))
    (instruction_so quantum within left number turns memory sent rest (or_left within.machine.stopped (is_some within.machine.wait) sleeps) same last behind follows)

abbrev turn_from : ℕ → Replay → Replay
turn_from number first = counted (unless_met first.difference first (instruction_or_none number first))

module _ (quantum : ℕ) (machine : Machine) (left : List ℕ) (turns : ℕ) (given rest : List Record) (facts : Known machine (records.before_instruction machine))
    (recorded : records.IsTurnRecorded (suc turns) machine left given) (follows : Follows (suc turns) (turn_of quantum machine left) rest) where
  abbrev within : Within
  within = records.before_instruction machine

  last_part : IsLastPart (suc turns) recorded.last
  last_part = behind_last (is_some within.over) (within.machine.stopped || is_some within.machine.wait) (suc turns) within.machine left recorded.last recorded.behind

  left_is : given ++ rest ≡ recorded.first ++ (recorded.last ++ rest)
  left_is = ap (λ (l : List Record). l ++ rest) recorded.whole ∙ append_assoc recorded.first recorded.last rest

  -- What the records of the turn, and what follows them, are for the turn before it

  abbrev FirstFrom : ℕ → List Record → Type 0
  FirstFrom number [] = ⊤
  FirstFrom number (entry ∷ more) = number ≤ entry.turn

  first_rest : (others : List Record) → ComesLater (suc turns) others → FirstFrom (suc turns) others
  first_rest [] later = tt
  first_rest (entry ∷ more) later = later.0

  first_last : (last : List Record) → IsLastPart (suc turns) last → FirstFrom (suc turns) (last ++ rest)
  first_last [] is = first_rest rest follows.later
  first_last (entry ∷ more) is = omega (arith, is.0)

  first_first : (first : List Record) → records.IsBefore (suc turns) machine within first → FirstFrom (suc turns) (first ++ (recorded.last ++ rest))
  first_first [] is = first_last recorded.last last_part
  first_first (entry ∷ []) is = omega (arith, is.recorded.turn)
  first_first (entry ∷ other ∷ more) is = absurd is

  later_from : (others : List Record) → FirstFrom (suc turns) others → ComesLater turns others
  later_from [] is = tt
  later_from (entry ∷ more) is = (omega (arith, is), λ same. absurd (omega (arith, is, same)))

  none_from : (kind : ℕ) (others : List Record) → FirstFrom (suc turns) others → comes turns kind others ≡ false
  none_from kind [] is = refl
  none_from kind (entry ∷ more) is = other_turn turns kind entry more (λ same. omega (arith, is, same))

  over_killing : Settled within → records.is_entered within ≡ false → is_killing within.over ≡ true
  over_killing (inr kills) none = kills
  over_killing (inl began) none = by (is_some within.over) refl where
    by : (over : Bool) → is_some within.over ≡ over → is_killing within.over ≡ true
    by true is = killing_by within.over is (facts.goes.kills tt)
    by false is =
        let alive : within.over ≡ None = none_of within.over is in
        let now : records.is_entered within ≡ true = ap (λ (o : Option Finish). handler_began within && is_none o) alive ∙ ap (λ (b : Bool). b && true) began in
        not_both (records.is_entered within) now none

  -- the end of a turn that a signal ended
  killed_over : (over : Option Finish) → is_killing over ≡ true → is_some over ≡ true
  killed_over None is = absurd cc
  killed_over (Some finish) is = refl

  killed_last : is_killing within.over ≡ true → (recorded.last ≡ []) × (comes (suc turns) end_kind rest ≡ true)
  killed_last kills =
      let some : is_some within.over ≡ true = killed_over within.over kills in
      let over : (turn_of quantum machine left).over ≡ within.over =
      ap (λ (t : Turn). t.over) (turn_is quantum machine left)
      ∙ ap (λ (b : Bool). (if b then turn within left nothing else fifth_or_sixth whole quantum within left).over) some in (
        subst (λ (b : Bool). records.unless_none b recorded.last (records.IsLast (within.machine.stopped || is_some within.machine.wait) (suc turns) within.machine left recorded.last)) some recorded.behind,
        killed_comes (suc turns) rest (follows.killed ∙ ap is_killing over ∙ kills),
      )

  or_first : (a b : Bool) → a ≡ true → (a || b) ≡ true
  or_first true b is = refl
  or_first false b is = absurd cc

  or_second : (a b : Bool) → b ≡ true → (a || b) ≡ true
  or_second true b is = refl
  or_second false b is = is

  excused_next : (others : List Record) → (comes (suc turns) before_kind others ≡ true) ⊎ (comes (suc turns) end_kind others ≡ true) → is_excused turns others ≡ true
  excused_next others (inl before) =
      or_first (comes (turns + 1) before_kind others) _ (ap (λ (n : ℕ). comes n before_kind others) (add-one turns) ∙ before)
  excused_next others (inr ends) =
      or_second (comes (turns + 1) before_kind others) _
      (or_first (comes (turns + 1) end_kind others) (comes turns end_kind others) (ap (λ (n : ℕ). comes n end_kind others) (add-one turns) ∙ ends))

  excused_by : (first : List Record) → records.IsBefore (suc turns) machine within first → Faulted machine
      → (comes (suc turns) before_kind (first ++ (recorded.last ++ rest)) ≡ true) ⊎ (comes (suc turns) end_kind (first ++ (recorded.last ++ rest)) ≡ true)
  excused_by [] is faulted =
      let killed = killed_last (over_killing (facts.settled faulted) is.none) in
      inr (subst (λ (l : List Record). comes (suc turns) end_kind (l ++ rest) ≡ true) (sym killed.0) killed.1)
  excused_by (entry ∷ []) is faulted = inl (comes_here (suc turns) before_kind entry (recorded.last ++ rest) is.recorded.turn is.recorded.kind)
  excused_by (entry ∷ other ∷ more) is faulted = absurd is

  pub follows_before : (came : Turn) → came.machine ≡ machine → came.over ≡ None → Follows turns came (given ++ rest)
  follows_before came at alive =
      let first = first_first recorded.first recorded.before in
      subst (λ (l : List Record). Follows turns came l) (sym left_is)
      (record {
        later = later_from (recorded.first ++ (recorded.last ++ rest)) first;
        killed = not_killed turns (recorded.first ++ (recorded.last ++ rest)) (none_from end_kind (recorded.first ++ (recorded.last ++ rest)) first) ∙ sym (ap is_killing alive);
        excused = λ faulted ended. excused_next (recorded.first ++ (recorded.last ++ rest)) (excused_by recorded.first recorded.before (subst Faulted at faulted));
      })

  -- The turn itself

  module _ (memory : Memory) (sent : Sent) (sound : Sound machine) (same : memory.pages ≡ machine.memory.pages) where
    abbrev start : Replay
    start = standing machine.processor memory sent (recorded.first ++ (recorded.last ++ rest)) turns

    stands_before : BeforeSo within sent (recorded.last ++ rest) turns (before_instruction (suc turns) start)
    stands_before =
        before_so machine within facts sound (suc turns) turns memory sent (recorded.last ++ rest) same recorded.first recorded.before
        (none_first (suc turns) recorded.last rest last_part follows.later)

    stands_behind : TurnSo (rest_of quantum within left) sent rest turns (instruction_or_none (suc turns) (standing stands_before.processor stands_before.memory sent (recorded.last ++ rest) turns))
    stands_behind =
        rest_so quantum within left (suc turns) turns stands_before.processor stands_before.memory sent recorded.last rest stands_before.alive stands_before.pages (facts.goes.kills tt)
        (is_some within.over) refl (within.machine.stopped || is_some within.machine.wait) refl recorded.behind
        (follows_for (suc turns) (turn_of quantum machine left) (rest_of quantum within left) rest (turn_is quantum machine left) follows)

    pub turn_so : TurnSo (turn_of quantum machine left) sent rest (suc turns) (turn_after (standing machine.processor memory sent (given ++ rest) turns))
    turn_so = record {
      processor = stands_behind.processor;
      memory = stands_behind.memory;
      same =
          ap (λ (l : List Record). turn_after (standing machine.processor memory sent l turns)) left_is
          ∙ ap (λ (n : ℕ). turn_from n (before_instruction n start)) (add-one turns)
          ∙ ap (turn_from (suc turns)) stands_before.same
          ∙ ap counted stands_behind.same
          ∙ ap (standing stands_behind.processor stands_behind.memory (more_sent sent (rest_of quantum within left).sent) rest) (add-one turns)
          ∙ ap (λ (t : Turn). standing stands_behind.processor stands_behind.memory (more_sent sent t.sent) rest (suc turns)) (sym (turn_is quantum machine left));
      alive = λ alive.
          let ended = ap (λ (t : Turn). t.over) (turn_is quantum machine left) in
          let stands = stands_behind.alive (sym ended ∙ alive) in (
            stands.0 ∙ sym (ap (λ (t : Turn). t.machine.processor) (turn_is quantum machine left)),
            stands.1 ∙ sym (ap (λ (t : Turn). t.machine.memory.pages) (turn_is quantum machine left)),
          );
    }

-- A call that waits has nothing linked.

asleep_before : (machine : Machine) (within : Within) → Known machine within → Sound machine → within.over ≡ None → Sound within.machine
asleep_before machine within facts sound alive asleep = by (is_some machine.wait) refl (handler_began within) refl where
  by : (waits : Bool) → is_some machine.wait ≡ waits → (began : Bool) → handler_began within ≡ began → within.machine.processor.link ≡ None
  by waits is true began = facts.unlinked began alive
  by true is false began = facts.goes.link began ∙ sound is
  by false is false began =
      not_both (is_some within.machine.wait) asleep (ap (λ (w : Option Wait). is_some w) (facts.goes.waits (none_of machine.wait is)))

none_waits : {A : Type 0} (wait : Option Wait) → is_some wait ≡ false → is_some wait ≡ true → A
none_waits wait none some = not_both (is_some wait) some none

sound_step : (quantum : ℕ) (within : Within) (left : List ℕ) (before : Processor) (step : Step) → is_some within.machine.wait ≡ false → (came : Stepped) → CameSo before step came
    → Sound (came_turn quantum within (machine_after within.machine step) came left).machine
sound_step quantum within left before step none Next so asleep = none_waits within.machine.wait none asleep
sound_step quantum within left before step none Syscall so asleep =
    (called_keeps (machine_after within.machine step) left).1 ∙ ap (λ (p : Processor). p.link) so.1
sound_step quantum within left before step none (Fault signal code address) so asleep = none_waits within.machine.wait none asleep

sound_jumped : (time : Option ℕ) (within : Within) → Sound within.machine → Sound (jumped time within).machine
sound_jumped None before sound = sound
sound_jumped (Some time) before sound = sound

sound_by : (quantum : ℕ) (machine : Machine) (within : Within) (left : List ℕ) → Known machine within → Sound machine
    → (over : Bool) → is_some within.over ≡ over → (asleep : Bool) → (within.machine.stopped || is_some within.machine.wait) ≡ asleep
    → (if over then turn within left nothing else (if asleep then fifth_step within left else sixth_step whole quantum within left)).over ≡ None
    → Sound (if over then turn within left nothing else (if asleep then fifth_step within left else sixth_step whole quantum within left)).machine
sound_by quantum machine within left facts sound true is asleep sleeps none = not_both (is_some within.over) is (ap (λ (o : Option Finish). is_some o) none)
sound_by quantum machine within left facts sound false is true sleeps none = sound_jumped (next_for within.machine) within (asleep_before machine within facts sound (none_of within.over is))
sound_by quantum machine within left facts sound false is false sleeps none =
    let step = step_of within.machine.processor within.machine.memory in
    sound_step quantum within left within.machine.processor step (or_right within.machine.stopped (is_some within.machine.wait) sleeps) step.came (came_so within.machine.processor within.machine.memory)

pub sound_after : (quantum : ℕ) (machine : Machine) (left : List ℕ) → Known machine (records.before_instruction machine) → Sound machine
    → (turn_of quantum machine left).over ≡ None → Sound (turn_of quantum machine left).machine
sound_after quantum machine left facts sound alive =
    let within = records.before_instruction machine in
    subst (λ (t : Turn). Sound t.machine) (sym (turn_is quantum machine left))
    (sound_by quantum machine within left facts sound (is_some within.over) refl (within.machine.stopped || is_some within.machine.wait) refl
    (sym (ap (λ (t : Turn). t.over) (turn_is quantum machine left)) ∙ alive))
