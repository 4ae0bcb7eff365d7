-- The turns of a run one after the other, repeated from its records.
use Rattle.std.proofs.Common.{◌≡◌, ℕ, zero, suc, ◌<◌, ◌+◌, Bool, true, false, List, [], ◌∷◌, ◌++◌, Option, Some, None, refl, sym, ap, subst, ◌∙◌, append_assoc, arith}
use Rattle.std.specs.Prelude.{◌&&◌, ◌||◌, is_some}
use Rattle.elf_image.specs.declared.load_plan.Plan.{Plan}
use Rattle.guest_space.specs.Memory.{Memory}
use Rattle.journal.specs.Text.{Kept}
use Rattle.kernel_core.specs.declared.finish.Finish.{Finish}
use Rattle.kernel_core.specs.declared.finish.Finish.TheVariants.{Exited, Killed, Budget, Blocked}
use Rattle.kernel_core.specs.declared.record.Record.{Record}
use Rattle.kernel_model.specs.Always.{AreSignals}
use Rattle.kernel_model.specs.Pipes.{nothing}
use Rattle.mips_exec.specs.Processor.{Processor}
use Rattle.o32_model.specs.declared.wait.Wait.{Wait}
use Rattle.o32_turns.specs.Machine.{Machine, Turn}
use Rattle.o32_turns.specs.Runs.{IsOverAt, IsRunningAt, Reached, after_turn, reached, unless_blocked, unless_over}
use Rattle.o32_turns.specs.Turn.{turn_of}
use Rattle.replay_core.specs.Answered.{EndsBy}
use Rattle.replay_core.specs.Replay.{Replay, before_kind, comes, end_kind, is_killing, replayed, turn_after, turn_or_none}
use Rattle.replay_core.specs.Whole.{last_behind, last_of, replay_of, start_of}
use Rattle.start_stack.specs.Start.{start_memory, start_processor}
use Rattle.turn_records.specs.Run.{AreRecordsOfRun, IsJournalOfRun, AreRecordsUpTo, end_of, unless_ended}
use Rattle.turn_records.specs.Turn as records
use Rattle.journal_laws.proofs.FewTurns.{reached_few}
use Rattle.journal_laws.proofs.Pending.{Few, few_signals}
use Rattle.journal_laws.proofs.Records.{comes_here, standing}
use Rattle.journal_laws.proofs.Turning.{Follows, Known, Sound, TurnSo, known}
use Rattle.journal_laws.proofs.Turns.{follows_before, sound_after, turn_so}
use Rattle.journal_laws.specs.Replaying.{EndsWith, IsRepeated, IsStartOf, replay_from}

-- what was reached, as the turn that led there
abbrev pub as_turn : Reached → Turn
as_turn reached = record { machine = reached.machine; left = reached.left; sent = reached.sent; over = reached.over; events = [] }

-- the replay after so many turns stands where the run does, unless that has ended
pub record ReachedSo (start : Replay) (turns : ℕ) (run : Reached) (rest : List Record) : Type 0 where
  pub processor : Processor
  pub memory : Memory
  pub same : replayed start turns ≡ standing processor memory run.sent rest turns
  pub alive : run.over ≡ None → (processor ≡ run.machine.processor) × (memory.pages ≡ run.machine.memory.pages)
  pub sound : run.over ≡ None → Sound run.machine

module _ (quantum : ℕ) (machine : Machine) (input : List ℕ) where
  abbrev at : ℕ → Reached
  at turns = reached quantum machine input turns

  next_reached : (turns : ℕ) → IsRunningAt quantum machine input turns
      → at (suc turns) ≡ after_turn (at turns).sent (turn_of quantum (at turns).machine (at turns).left)
  unfolding reached
  next_reached turns running =
      let before = at turns in
      let came = turn_of quantum before.machine before.left in
      ap (unless_over quantum before) running.alive ∙ ap (unless_blocked before came) running.awake

  turn_recorded : (turns : ℕ) (last : List Record) → IsRunningAt quantum machine input turns
      → unless_ended (at turns).over last (records.AreRecordsOf quantum (suc turns) (at turns).machine (at turns).left last)
      → records.IsTurnRecorded (suc turns) (at turns).machine (at turns).left last
  turn_recorded turns last running recorded =
      let before = at turns in
      let of_turn = records.IsTurnRecorded (suc turns) before.machine before.left last in
      subst (λ (b : Bool). records.unless_none b last of_turn) running.awake
      (subst (λ (o : Option Finish). unless_ended o last (records.AreRecordsOf quantum (suc turns) before.machine before.left last)) running.alive recorded)

  abbrev Repeats : ℕ → Type 0
  Repeats turns = (given rest : List Record) → AreRecordsUpTo quantum machine input turns given → Follows turns (as_turn (at turns)) rest
      → ReachedSo (replay_from machine (given ++ rest)) turns (at turns) rest

  -- one turn more
  module _ (turns : ℕ) (running : IsRunningAt quantum machine input turns) (few : Few (at turns).machine.kernel) (earlier : Repeats turns) (before last rest : List Record)
      (of_before : AreRecordsUpTo quantum machine input turns before)
      (of_last : records.IsTurnRecorded (suc turns) (at turns).machine (at turns).left last)
      (follows : Follows (suc turns) (as_turn (at (suc turns))) rest) where
    abbrev came : Turn
    came = turn_of quantum (at turns).machine (at turns).left

    next : at (suc turns) ≡ after_turn (at turns).sent came
    next = next_reached turns running

    facts : Known (at turns).machine (records.before_instruction (at turns).machine)
    facts = known (at turns).machine few

    follows_turn : Follows (suc turns) came rest
    follows_turn =
        let there = subst (λ (r : Reached). Follows (suc turns) (as_turn r) rest) next follows in
        record { later = there.later; killed = there.killed; excused = there.excused }

    stands : ReachedSo (replay_from machine (before ++ (last ++ rest))) turns (at turns) (last ++ rest)
    stands =
        earlier before (last ++ rest) of_before
        (follows_before quantum (at turns).machine (at turns).left turns last rest facts of_last follows_turn (as_turn (at turns)) refl running.alive)

    abbrev there : (stands.processor ≡ (at turns).machine.processor) × (stands.memory.pages ≡ (at turns).machine.memory.pages)
    there = stands.alive running.alive

    stands_next : TurnSo came (at turns).sent rest (suc turns) (turn_after (standing (at turns).machine.processor stands.memory (at turns).sent (last ++ rest) turns))
    stands_next = turn_so quantum (at turns).machine (at turns).left turns last rest facts of_last follows_turn stands.memory (at turns).sent (stands.sound running.alive) there.1

    one_more : ReachedSo (replay_from machine (before ++ (last ++ rest))) (suc turns) (at (suc turns)) rest
    unfolding replayed
    one_more = record {
      processor = stands_next.processor;
      memory = stands_next.memory;
      same =
          ap turn_or_none stands.same
          ∙ ap (λ (p : Processor). turn_after (standing p stands.memory (at turns).sent (last ++ rest) turns)) there.0
          ∙ stands_next.same
          ∙ ap (λ (r : Reached). standing stands_next.processor stands_next.memory r.sent rest (suc turns)) (sym next);
      alive = λ alive.
          let stood = stands_next.alive (sym (ap (λ (r : Reached). r.over) next) ∙ alive) in
          (stood.0 ∙ sym (ap (λ (r : Reached). r.machine.processor) next), stood.1 ∙ sym (ap (λ (r : Reached). r.machine.memory.pages) next));
      sound = λ alive.
          subst (λ (r : Reached). Sound r.machine) (sym next)
          (sound_after quantum (at turns).machine (at turns).left facts (stands.sound running.alive) (sym (ap (λ (r : Reached). r.over) next) ∙ alive));
    }

  no_wait : machine.wait ≡ None → Sound machine
  no_wait awake asleep = absurd (let wrong : true ≡ false = sym asleep ∙ ap (λ (w : Option Wait). is_some w) awake in cc)

  pub repeats : (turns : ℕ) → machine.wait ≡ None → ((j : ℕ) → j < turns → IsRunningAt quantum machine input j) → Few machine.kernel → Repeats turns
  unfolding replayed reached AreRecordsUpTo
  repeats zero awake runs few given rest none follows = record {
    processor = machine.processor;
    memory = machine.memory;
    same = ap (λ (l : List Record). replay_from machine (l ++ rest)) none;
    alive = λ alive. (refl, refl);
    sound = λ alive. no_wait awake;
  }
  repeats (suc turns) awake runs few given rest recorded follows =
      let running = runs turns (omega arith) in
      let more = one_more turns running (reached_few quantum machine input turns few) (repeats turns awake (λ j below. runs j (omega (arith, below))) few)
      recorded.before recorded.last rest recorded.earlier (turn_recorded turns recorded.last running recorded.latest) follows in
      let whole : given ++ rest ≡ recorded.before ++ (recorded.last ++ rest) = ap (λ (l : List Record). l ++ rest) recorded.whole ∙ append_assoc recorded.before recorded.last rest in
      subst (λ (l : List Record). ReachedSo (replay_from machine l) (suc turns) (at (suc turns)) rest) (sym whole) more

  -- The end

  runs_before : (budget turns : ℕ) (finish : Finish) → IsOverAt quantum machine input budget turns finish → (j : ℕ) → j < turns → IsRunningAt quantum machine input j
  runs_before budget turns (Exited status) over j below = over.1.first j below
  runs_before budget turns (Killed signal) over j below = over.1.first j below
  runs_before budget turns Budget over j below = over.1 j (omega (arith, below, over.0))
  runs_before budget turns Blocked over j below = over.1.first j below

  ends_so : (budget turns : ℕ) (finish : Finish) → IsOverAt quantum machine input budget turns finish → is_killing (Some finish) ≡ is_killing (at turns).over
  ends_so budget turns (Exited status) over = ap is_killing (sym over.1.ended)
  ends_so budget turns (Killed signal) over = ap is_killing (sym over.1.ended)
  ends_so budget turns Budget over = ap is_killing (sym (ap (λ (n : ℕ). (at n).over) over.0 ∙ over.2))
  ends_so budget turns Blocked over = ap is_killing (sym over.1.alive)

  or_third : (a b c : Bool) → c ≡ true → (a || (b || c)) ≡ true
  or_third true b c is = refl
  or_third false true c is = refl
  or_third false false c is = is

  follows_end : (budget turns : ℕ) (finish : Finish) → IsOverAt quantum machine input budget turns finish → Follows turns (as_turn (at turns)) (end_of turns finish ∷ [])
  follows_end budget turns finish over =
      let here : comes turns end_kind (end_of turns finish ∷ []) ≡ true = comes_here turns end_kind (end_of turns finish) [] refl refl in
      record {
        later = (omega arith, λ same. refl);
        killed = ap (λ (b : Bool). b && is_killing (Some finish)) here ∙ ends_so budget turns finish over;
        excused = λ faulted alive. or_third (comes (turns + 1) before_kind (end_of turns finish ∷ [])) (comes (turns + 1) end_kind (end_of turns finish ∷ [])) _ here;
      }

  pub run_repeated : (budget turns : ℕ) (finish : Finish) (given : List Record) → machine.wait ≡ None → AreSignals machine.kernel.signals
      → AreRecordsOfRun quantum machine input budget turns finish given → IsRepeated (at turns) turns (replayed (replay_from machine given) turns)
  run_repeated budget turns finish given awake signals recorded =
      let stands =
      repeats turns awake (runs_before budget turns finish recorded.over) (few_signals machine.kernel.signals signals) recorded.turns (end_of turns finish ∷ []) recorded.so_far
      (follows_end budget turns finish recorded.over) in
      let same : replayed (replay_from machine given) turns ≡ standing stands.processor stands.memory (at turns).sent (end_of turns finish ∷ []) turns =
      ap (λ (l : List Record). replayed (replay_from machine l) turns) recorded.whole ∙ stands.same in
      record {
        taken = ap (λ (r : Replay). r.turns) same;
        none = ap (λ (r : Replay). r.difference) same;
        sent = ap (λ (r : Replay). r.sent) same;
      }

-- The last record

last_is : (records : List Record) (first : _) (entry : Record) → last_behind first (records ++ entry ∷ []) ≡ record { turn = entry.turn; finish = entry.finish }
last_is [] first entry = refl
last_is (one ∷ records) first entry = last_is records (record { turn = one.turn; finish = one.finish }) entry

pub ends_with : (quantum budget turns : ℕ) (machine : Machine) (input : List ℕ) (finish : Finish) (given : List Record)
    → AreRecordsOfRun quantum machine input budget turns finish given → EndsWith given turns finish
ends_with quantum budget turns machine input finish given recorded =
    let last : last_of given ≡ record { turn = turns; finish = Some finish } =
    ap last_of recorded.whole ∙ last_is recorded.turns (record { turn = 0; finish = None }) (end_of turns finish) in
    record { turns = ap (λ (l : _). l.turn) last; finish = ap (λ (l : _). l.finish) last }

-- A journal

abbrev starting : Plan → List (List ℕ) → List (List ℕ) → List ℕ → List Record → Replay
starting plan args env random records = standing (start_processor plan args env) (start_memory plan args env random) nothing records 0

module _ (quantum budget turns : ℕ) (machine : Machine) (input : List ℕ) (finish : Finish) (plan : Plan) (args env : List (List ℕ)) (random : List ℕ) (journal : Kept)
    (starts : IsStartOf plan args env random machine) (is : IsJournalOfRun quantum machine input budget turns finish args env random journal) where
  ends : EndsWith journal.records turns finish
  ends = ends_with quantum budget turns machine input finish journal.records is.records

  start_is : start_of plan journal ≡ replay_from machine journal.records
  start_is =
      ap (λ (a : List (List ℕ)). starting plan a journal.env journal.random journal.records) is.with_args
      ∙ ap (λ (e : List (List ℕ)). starting plan args e journal.random journal.records) is.with_env
      ∙ ap (λ (r : List ℕ). starting plan args env r journal.records) is.with_random
      ∙ ap (λ (p : Processor). standing p (start_memory plan args env random) nothing journal.records 0) (sym starts.processor)
      ∙ ap (λ (m : Memory). standing machine.processor m nothing journal.records 0) (sym starts.memory)

  whole : IsRepeated (reached quantum machine input turns) turns (replay_of plan journal)
  whole =
      subst (λ (r : Replay). IsRepeated (reached quantum machine input turns) turns r)
      (sym (ap (replayed (start_of plan journal)) ends.turns ∙ ap (λ (r : Replay). replayed r turns) start_is))
      (run_repeated quantum machine input budget turns finish journal.records starts.awake starts.signals is.records)

  pub journal_ends : EndsBy (replay_of plan journal) (last_of journal.records).turn (last_of journal.records).finish turns finish
  journal_ends = record { all = sym ends.turns; taken = whole.taken; none = whole.none; over = ends.finish }

  pub journal_sent : (replay_of plan journal).sent ≡ (reached quantum machine input turns).sent
  journal_sent = whole.sent
