-- The records of a run have the form and the order that a journal asks for.
use Rattle.std.proofs.Common.{◌≡◌, ℕ, zero, suc, ◌<◌, ◌≤◌, ◌==◌, ◌⊎◌, Bool, true, false, List, [], ◌∷◌, ◌++◌, Option, Some, None, inl, inr, refl, sym, ap, subst, ◌∙◌, arith}
use Rattle.std.proofs.lemmas.Bool.{and_left, and_right, ne_eqb}
use Rattle.std.specs.Prelude.{◌&&◌, ◌||◌, is_some, not, if◌then◌else◌}
use Rattle.journal.specs.Form.{AreRecords, AreSixWords, Follows, IsBody, IsFinish, IsRecord, before_kind, call_kind, end_kind, follows_in_turn, front_of, greatest_turn, has_ended_turn, idle_kind, none_before}
use Rattle.journal.specs.declared.turns.Front.{Front}
use Rattle.kernel_core.specs.declared.finish.Finish.{Finish}
use Rattle.kernel_core.specs.declared.finish.Finish.TheVariants.{Exited, Killed, Budget, Blocked}
use Rattle.kernel_core.specs.declared.record.Record.{Record}
use Rattle.kernel_model.specs.Pipes.{nothing}
use Rattle.mips_exec.specs.Step.{step_of}
use Rattle.mips_exec.specs.declared.execution.Stepped.{Stepped}
use Rattle.mips_exec.specs.declared.execution.Stepped.TheVariants.{Next, Syscall, Fault}
use Rattle.o32_model.specs.Effects.{Target}
use Rattle.o32_model.specs.declared.call_words.CallWords.{CallWords}
use Rattle.o32_model.specs.declared.outcome.Outcome.{Outcome}
use Rattle.o32_model.specs.declared.outcome.Outcome.TheVariants as outcomes
use Rattle.o32_turns.specs.Instruction.{after_outcome, after_step, behind, called, guest_of, seen_of}
use Rattle.o32_turns.specs.Machine.{Change, Machine, Turn, Within, turn, with_change}
use Rattle.o32_turns.specs.Runs.{IsOverAt, IsRunningAt, Reached, after_turn, is_blocked, reached, unless_blocked, unless_over}
use Rattle.o32_turns.specs.Turn.{continued, fifth_or_sixth, fifth_step, first_step, fourth_step, jumped, next_for, second_step, sixth_step, third_step, turn_of, whole}
use Rattle.turn_records.specs.Entry.{IsEntry, IsOne}
use Rattle.turn_records.specs.Run.{AreRecordsOfRun, AreRecordsUpTo, end_of, unless_ended}
use Rattle.turn_records.specs.Turn as records

-- Records that are no end, from what stands before them to what stands before the next

abbrev Chain : Front → List Record → Front → Type 0
Chain before [] after = after ≡ before
Chain before (entry ∷ rest) after = IsRecord entry × Follows before entry × (entry.kind < end_kind) × Chain (front_of entry) rest after

chained : (a b c : Front) (first second : List Record) → Chain a first b → Chain b second c → Chain a (first ++ second) c
chained a b c [] second one two = subst (λ (f : Front). Chain f second c) one two
chained a b c (entry ∷ first) second one two = (one.0, one.1, one.2, chained (front_of entry) b c first second one.3 two)

ends_chain : (a b : Front) (first : List Record) (end : Record) → Chain a first b → IsRecord end → Follows b end → end.kind ≡ end_kind → AreRecords a (first ++ end ∷ [])
ends_chain a b [] end chain form follows last = (form, subst (λ (f : Front). Follows f end) chain follows, last)
ends_chain a b (entry ∷ []) end chain form follows last =
    (chain.0, chain.1, chain.2, ends_chain (front_of entry) b [] end chain.3 form follows last)
ends_chain a b (entry ∷ next ∷ rest) end chain form follows last =
    (chain.0, chain.1, chain.2, ends_chain (front_of entry) b (next ∷ rest) end chain.3 form follows last)

-- One record

form_of : (number kind : ℕ) (words : List ℕ) (from to : Target) (entry : Record) → number ≤ greatest_turn → 0 < number → 1 ≤ kind → kind < end_kind
    → (kind ≡ idle_kind → entry.effects ≡ []) → IsEntry number kind words from to entry → IsRecord entry
form_of number kind words from to entry few some begins before idle is = record {
  turn = omega (arith, is.turn, few);
  zero = λ none. absurd (omega (arith, is.turn, none, some));
  body =
      subst (λ (f : Option Finish). IsBody entry.kind f entry.words entry.effects) (sym is.unfinished)
      (omega (arith, is.kind, begins), omega (arith, is.kind, before), subst (λ (w : List ℕ). AreSixWords w) (sym is.words) is.six, is.few, is.effects, λ same. idle (sym is.kind ∙ same));
}

no_signal : {P : Type 0} (entry : Record) (signal : ℕ) → entry.finish ≡ None → entry.finish ≡ Some (Killed signal) → P
no_signal entry signal none some = absurd (let wrong : None ≡ Some (Killed signal) = sym none ∙ some in cc)

-- it is of a later turn than what stands before it
follows_later : (before : Front) (number : ℕ) (entry : Record) → before.turn < number → entry.turn ≡ number → entry.finish ≡ None → Follows before entry
follows_later before number entry later is none = record {
  turn = omega (arith, later, is);
  kind = λ same. absurd (omega (arith, later, is, same));
  killed = λ signal some. no_signal entry signal none some;
}

-- or of the same one
follows_first : (first entry : Record) → entry.turn ≡ first.turn → first.kind ≡ before_kind → (entry.kind ≡ call_kind) ⊎ (entry.kind ≡ idle_kind) → entry.finish ≡ None → Follows (front_of first) entry
follows_first first entry same before kind none = record {
  turn = omega (arith, same);
  kind = λ there.
      elim kind as (λ _. follows_in_turn first.kind entry.kind ≡ true) [
        | inl call ↦ ap (λ (k : ℕ). follows_in_turn k entry.kind) before ∙ ap (λ (k : ℕ). follows_in_turn before_kind k) call
        | inr idle ↦ ap (λ (k : ℕ). follows_in_turn k entry.kind) before ∙ ap (λ (k : ℕ). follows_in_turn before_kind k) idle
      ];
  killed = λ signal some. no_signal entry signal none some;
}

-- The last steps of a turn kill no process

some_killed : {P : Type 0} (signal : ℕ) (finish : Option Finish) → finish ≡ None → finish ≡ Some (Killed signal) → P
some_killed signal finish none some = absurd (let wrong : None ≡ Some (Killed signal) = sym none ∙ some in cc)

outcome_kills : (words : CallWords) (machine : Machine) (outcome : Outcome) (signal : ℕ) → (after_outcome words machine outcome).over ≡ Some (Killed signal) → ⊥
outcome_kills words machine (outcomes.Value value) signal is = cc
outcome_kills words machine (outcomes.Pair first second) signal is = cc
outcome_kills words machine (outcomes.Error error) signal is = cc
outcome_kills words machine (outcomes.Sleep wait) signal is = cc
outcome_kills words machine outcomes.Frame signal is = cc
outcome_kills words machine outcomes.BadFrame signal is = cc
outcome_kills words machine (outcomes.Exit status) signal is = cc

step_kills : (machine : Machine) (came : Stepped) (left : List ℕ) (signal : ℕ) → (after_step whole machine came left).over ≡ Some (Killed signal) → ⊥
step_kills machine Next left signal is = cc
step_kills machine Syscall left signal is =
    let guest = guest_of machine.processor machine.memory in
    let step = whole.call (seen_of machine) machine.kernel guest left in
    outcome_kills guest.words (behind machine guest.words step) step.outcome signal is
step_kills machine (Fault sig code address) left signal is = cc

jump_kills : (time : Option ℕ) (within : Within) (signal : ℕ) → within.over ≡ None → (jumped time within).over ≡ Some (Killed signal) → ⊥
jump_kills None within signal alive is = cc
jump_kills (Some time) within signal alive is = some_killed signal within.over alive is

last_kills : (quantum : ℕ) (within : Within) (left : List ℕ) (signal : ℕ) (idle : Bool) → within.over ≡ None
    → (if idle then fifth_step within left else sixth_step whole quantum within left).over ≡ Some (Killed signal) → ⊥
last_kills quantum within left signal true alive is = jump_kills (next_for within.machine) within signal alive is
last_kills quantum within left signal false alive is =
    let step = step_of within.machine.processor within.machine.memory in
    step_kills (record within.machine { processor = step.processor; memory = step.memory }) step.came left signal is

-- the last steps of a turn, behind what stands before its instruction
abbrev third : Machine → Within
third machine = third_step whole (second_step whole (first_step whole machine))

changed_over : (test : Bool) (within : Within) (change : Change) → (if test then with_change within change else within).over ≡ within.over
changed_over true within change = refl
changed_over false within change = refl

fourth_over : (within : Within) → (fourth_step whole within).over ≡ within.over
fourth_over within = changed_over (within.machine.interrupted && not within.machine.stopped) within (continued whole within.machine within.machine.wait)

none_of : (over : Option Finish) → is_some over ≡ false → over ≡ None
none_of None is = refl
none_of (Some finish) is = absurd cc

-- where a turn ended with the process killed, that was so before its instruction
killed_before : (quantum : ℕ) (machine : Machine) (left : List ℕ) (signal : ℕ) → (turn_of quantum machine left).over ≡ Some (Killed signal) → is_some (records.before_instruction machine).over ≡ true
unfolding turn_of
killed_before quantum machine left signal is = by (is_some (third machine).over) refl where
  by : (over : Bool) → is_some (third machine).over ≡ over → is_some (if over then third machine else fourth_step whole (third machine)).over ≡ true
  by true some = some
  by false some =
      let fourth = fourth_step whole (third machine) in
      let none : fourth.over ≡ None = fourth_over (third machine) ∙ none_of (third machine).over some in
      let behind : (fifth_or_sixth whole quantum fourth left).over ≡ Some (Killed signal) =
      sym (ap (λ (b : Bool). (if b then turn (third machine) left nothing else fifth_or_sixth whole quantum fourth left).over) some) ∙ is in
      absurd (last_kills quantum fourth left signal (fourth.machine.stopped || is_some fourth.machine.wait) none behind)

-- The records of a turn

-- what stands before the next one, and whether the turn of this number may end with the process killed
record AfterTurn (before : Front) (list : List Record) (number : ℕ) (over : Option Finish) : Type 0 where
  after : Front
  chain : Chain before list after
  turns : after.turn ≤ number
  kinds : after.kind < end_kind
  killed : (signal : ℕ) → over ≡ Some (Killed signal) → has_ended_turn after number ≡ false

module _ (before : Front) (turns : ℕ) (few : suc turns ≤ greatest_turn) (earlier : before.turn ≤ turns) (kinds : before.kind < end_kind) where
  abbrev number : ℕ
  number = suc turns

  ended_before : has_ended_turn before number ≡ false
  ended_before =
      and_left (before.turn == number) ((before.kind == call_kind) || (before.kind == idle_kind)) (ne_eqb before.turn number (λ same. omega (arith, earlier, same)))

  ended_first : (entry : Record) → entry.kind ≡ before_kind → has_ended_turn (front_of entry) number ≡ false
  ended_first entry kind =
      and_right (entry.turn == number) ((entry.kind == call_kind) || (entry.kind == idle_kind)) (ap (λ (k : ℕ). (k == call_kind) || (k == idle_kind)) kind)

  -- before its instruction
  record FirstSo (list : List Record) : Type 0 where
    after : Front
    chain : Chain before list after
    later : after.turn ≤ number
    none : has_ended_turn after number ≡ false
    kind : after.kind < end_kind
    next : (entry : Record) → entry.turn ≡ number → (entry.kind ≡ call_kind) ⊎ (entry.kind ≡ idle_kind) → entry.finish ≡ None → Follows after entry

  first_so : (machine : Machine) (within : Within) (first : List Record) → records.IsBefore number machine within first → FirstSo first
  first_so machine within [] is = record {
    after = before;
    chain = refl;
    later = omega (arith, earlier);
    none = ended_before;
    kind = kinds;
    next = λ entry there kind unfinished. follows_later before number entry (omega (arith, earlier)) there unfinished;
  }
  first_so machine within (entry ∷ []) is =
      let recorded = is.recorded in
      record {
        after = front_of entry;
        chain = (
          form_of number before_kind _ _ _ entry few (omega arith) (omega arith) (omega arith) (λ wrong. absurd cc) recorded,
          follows_later before number entry (omega (arith, earlier)) recorded.turn recorded.unfinished,
          omega (arith, recorded.kind),
          refl,
        );
        later = omega (arith, recorded.turn);
        none = ended_first entry recorded.kind;
        kind = omega (arith, recorded.kind);
        next = λ other there kind unfinished. follows_first entry other (there ∙ sym recorded.turn) recorded.kind kind unfinished;
      }
  first_so machine within (entry ∷ other ∷ more) is = absurd is

  -- with it
  module _ (first : List Record) (so : FirstSo first) (over : Option Finish) where
    none_more : AfterTurn before (first ++ []) number over
    none_more = record {
      after = so.after;
      chain = chained before so.after so.after first [] so.chain refl;
      turns = so.later;
      kinds = so.kind;
      killed = λ signal is. so.none;
    }

    one_more : (entry : Record) → IsRecord entry → entry.turn ≡ number → (entry.kind ≡ call_kind) ⊎ (entry.kind ≡ idle_kind) → entry.finish ≡ None
        → ((signal : ℕ) → over ≡ Some (Killed signal) → ⊥) → AfterTurn before (first ++ entry ∷ []) number over
    one_more entry form there kind unfinished lives =
        let small : entry.kind < end_kind = elim kind as (λ _. entry.kind < end_kind) [ inl call ↦ omega (arith, call) | inr idle ↦ omega (arith, idle) ] in
        record {
          after = front_of entry;
          chain = chained before so.after (front_of entry) first (entry ∷ []) so.chain (form, so.next entry there kind unfinished, small, refl);
          turns = omega (arith, there);
          kinds = small;
          killed = λ signal is. absurd (lives signal is);
        }

    no_last : (last : List Record) → last ≡ [] → AfterTurn before (first ++ last) number over
    no_last last none = subst (λ (l : List Record). AfterTurn before (first ++ l) number over) (sym none) none_more

    idle_so : (machine : Machine) (last : List Record) → IsOne (records.IsIdleEntry number machine) last → ((signal : ℕ) → over ≡ Some (Killed signal) → ⊥) → AfterTurn before (first ++ last) number over
    idle_so machine [] is lives = absurd is
    idle_so machine (entry ∷ []) is lives =
        one_more entry (form_of number idle_kind _ _ _ entry few (omega arith) (omega arith) (omega arith) (λ idle. is.none) is.recorded) is.recorded.turn (inr is.recorded.kind) is.recorded.unfinished lives
    idle_so machine (entry ∷ other ∷ more) is lives = absurd is

    call_so : (at : ℕ) (machine : Machine) (came : Turn) (last : List Record) → IsOne (records.IsCallEntry number at machine came) last → ((signal : ℕ) → over ≡ Some (Killed signal) → ⊥) → AfterTurn before (first ++ last) number over
    call_so at machine came [] is lives = absurd is
    call_so at machine came (entry ∷ []) is lives =
        one_more entry (form_of number call_kind _ _ _ entry few (omega arith) (omega arith) (omega arith) (λ wrong. absurd cc) is) is.turn (inl is.kind) is.unfinished lives
    call_so at machine came (entry ∷ other ∷ more) is lives = absurd is

    step_so : (at : ℕ) (machine : Machine) (came : Stepped) (left : List ℕ) (last : List Record) → records.IsStepRecorded number at machine came left last → ((signal : ℕ) → over ≡ Some (Killed signal) → ⊥)
        → AfterTurn before (first ++ last) number over
    step_so at machine Next left last is lives = no_last last is
    step_so at machine Syscall left last is lives = call_so at machine (called whole machine left) last is lives
    step_so at machine (Fault signal code address) left last is lives = no_last last is

    last_so : (idle : Bool) (machine : Machine) (left : List ℕ) (last : List Record) → records.IsLast idle number machine left last → ((signal : ℕ) → over ≡ Some (Killed signal) → ⊥) → AfterTurn before (first ++ last) number over
    last_so true machine left last is lives = idle_so machine last is lives
    last_so false machine left last is lives =
        let step = step_of machine.processor machine.memory in
        step_so machine.processor.pc (record machine { processor = step.processor; memory = step.memory }) step.came left last is lives

    behind_so : (within : Within) (left : List ℕ) (last : List Record) (ended : Bool) → is_some within.over ≡ ended → ((signal : ℕ) → over ≡ Some (Killed signal) → is_some within.over ≡ true)
        → records.unless_none ended last (records.IsLast (within.machine.stopped || is_some within.machine.wait) number within.machine left last) → AfterTurn before (first ++ last) number over
    behind_so within left last true ends kills is = no_last last is
    behind_so within left last false ends kills is =
        last_so (within.machine.stopped || is_some within.machine.wait) within.machine left last is (λ signal killed. let wrong : false ≡ true = sym ends ∙ kills signal killed in cc)

  turn_so : (quantum : ℕ) (machine : Machine) (left : List ℕ) (list : List Record) → records.IsTurnRecorded number machine left list → AfterTurn before list number (turn_of quantum machine left).over
  turn_so quantum machine left list is =
      let within = records.before_instruction machine in
      let over = (turn_of quantum machine left).over in
      subst (λ (l : List Record). AfterTurn before l number over) (sym is.whole)
      (behind_so is.first (first_so machine within is.first is.before) over within left is.last (is_some within.over) refl (killed_before quantum machine left) is.behind)

-- The records of a run

module _ (quantum : ℕ) (machine : Machine) (input : List ℕ) where
  abbrev at : ℕ → Reached
  at turns = reached quantum machine input turns

  next_over : (turns : ℕ) → IsRunningAt quantum machine input turns → (at (suc turns)).over ≡ (turn_of quantum (at turns).machine (at turns).left).over
  unfolding reached
  next_over turns running =
      let before = at turns in
      let came = turn_of quantum before.machine before.left in
      ap (λ (r : Reached). r.over) (ap (unless_over quantum before) running.alive ∙ ap (unless_blocked before came) running.awake)

  turn_recorded : (turns : ℕ) (last : List Record) → IsRunningAt quantum machine input turns
      → unless_ended (at turns).over last (records.AreRecordsOf quantum (suc turns) (at turns).machine (at turns).left last)
      → records.IsTurnRecorded (suc turns) (at turns).machine (at turns).left last
  turn_recorded turns last running recorded =
      let before = at turns in
      let of_turn = records.IsTurnRecorded (suc turns) before.machine before.left last in
      subst (λ (b : Bool). records.unless_none b last of_turn) running.awake
      (subst (λ (o : Option Finish). unless_ended o last (records.AreRecordsOf quantum (suc turns) before.machine before.left last)) running.alive recorded)

  over_first : (at zero).over ≡ None
  unfolding reached
  over_first = refl

  so_far : (turns : ℕ) (list : List Record) → turns ≤ greatest_turn → ((j : ℕ) → j < turns → IsRunningAt quantum machine input j) → AreRecordsUpTo quantum machine input turns list
      → AfterTurn none_before list turns (at turns).over
  unfolding AreRecordsUpTo
  so_far zero list few runs none = record {
    after = none_before;
    chain = subst (λ (l : List Record). Chain none_before l none_before) (sym none) refl;
    turns = omega arith;
    kinds = omega arith;
    killed = λ signal is. some_killed signal (at zero).over over_first is;
  }
  so_far (suc turns) list few runs recorded =
      let running = runs turns (omega arith) in
      let earlier = so_far turns recorded.before (omega (arith, few)) (λ j below. runs j (omega (arith, below))) recorded.earlier in
      let latest =
      turn_so earlier.after turns few earlier.turns earlier.kinds quantum (at turns).machine (at turns).left recorded.last (turn_recorded turns recorded.last running recorded.latest) in
      record {
        after = latest.after;
        chain = subst (λ (l : List Record). Chain none_before l latest.after) (sym recorded.whole)
            (chained none_before earlier.after latest.after recorded.before recorded.last earlier.chain latest.chain);
        turns = latest.turns;
        kinds = latest.kinds;
        killed = λ signal is. latest.killed signal (sym (next_over turns running) ∙ is);
      }

  runs_before : (budget turns : ℕ) (finish : Finish) → IsOverAt quantum machine input budget turns finish → (j : ℕ) → j < turns → IsRunningAt quantum machine input j
  runs_before budget turns (Exited status) over j below = over.1.first j below
  runs_before budget turns (Killed signal) over j below = over.1.first j below
  runs_before budget turns Budget over j below = over.1 j (omega (arith, below, over.0))
  runs_before budget turns Blocked over j below = over.1.first j below

  -- how the end follows them
  ends_killed : (budget turns : ℕ) (finish : Finish) (signal : ℕ) → IsOverAt quantum machine input budget turns finish → Some finish ≡ Some (Killed signal) → (at turns).over ≡ Some (Killed signal)
  ends_killed budget turns (Exited status) signal over is = absurd cc
  ends_killed budget turns (Killed other) signal over is = over.1.ended ∙ is
  ends_killed budget turns Budget signal over is = absurd cc
  ends_killed budget turns Blocked signal over is = absurd cc

  follows_end : (kind : ℕ) → kind < end_kind → follows_in_turn kind end_kind ≡ true
  follows_end zero small = refl
  follows_end (suc zero) small = refl
  follows_end (suc (suc zero)) small = refl
  follows_end (suc (suc (suc zero))) small = refl
  follows_end (suc (suc (suc (suc more)))) small = absurd (omega (arith, small))

  pub are_records : (budget turns : ℕ) (finish : Finish) (list : List Record) → turns ≤ greatest_turn → IsFinish finish → AreRecordsOfRun quantum machine input budget turns finish list → AreRecords none_before list
  are_records budget turns finish list few small recorded =
      let so = so_far turns recorded.turns few (runs_before budget turns finish recorded.over) recorded.so_far in
      let end = end_of turns finish in
      let form : IsRecord end = record { turn = few; zero = λ none. refl; body = (refl, small, refl, refl) } in
      let follows : Follows so.after end = record {
        turn = so.turns;
        kind = λ same. follows_end so.after.kind so.kinds;
        killed = λ signal is. so.killed signal (ends_killed budget turns finish signal recorded.over is);
      } in
      subst (λ (l : List Record). AreRecords none_before l) (sym recorded.whole)
      (ends_chain none_before so.after recorded.turns end so.chain form follows refl)
