-- Turns that are taken at once.
use Rattle.std.proofs.Common.{◌≡◌, ◌<◌, ◌≤◌, ◌==◌, ◌&&◌, ℕ, zero, suc, ◌+◌, Bool, true, false, List, [], ◌∷◌, Some, None, Result, Ok, Err, refl, sym, ap, subst, ◌∙◌, if◌then◌else◌, arith}
use Rattle.std.proofs.lemmas.Bool.Decides.{nat_tests}
use Rattle.guest_space.specs.Memory.{Memory}
use Rattle.kernel_core.specs.declared.core_error.NoMemory.{NoMemory}
use Rattle.kernel_core.specs.declared.record.Record.{Record}
use Rattle.kernel_model.specs.Pipes.{Sent}
use Rattle.mips_exec.specs.Going.{Goes, GoesThen, Steps}
use Rattle.mips_exec.specs.Processor.{Processor}
use Rattle.mips_exec.specs.Step.{Step}
use Rattle.mips_exec.specs.declared.execution.Stepped.{Stepped}
use Rattle.mips_exec.specs.declared.execution.Stepped.TheVariants.{Next, Syscall, Fault}
use Rattle.replay_core.specs.Answered.{Gains, Written}
use Rattle.replay_core.specs.Replay.{Replay, after_step, before_kind, call_kind, comes, counted, differs, end_kind, ends_killed, idle, idle_kind, instruction, instruction_or_none, is_excused, is_killing, meets, replayed, taken, turn_after, turn_or_none, unless_met, words_of}
use Rattle.replay_core.specs.declared.difference.Halt.{Halt}
use Rattle.replay_core.specs.declared.difference.Halt.TheVariants.{NoMemory as lacks}
use Rattle.replay_core.specs.declared.machine.Machine.{Machine}
use Rattle.replay_core.specs.inside.Parts.{Comes, Does, Meets, replay_at}
use Rattle.replay_core.specs.inside.Stretch.{IsFree, Takes, unrecorded}
use Rattle.replay_core.proofs.Parts.{before_none, instructed, instruction_lacks, meets_so, turn_goes, working}

-- Turns before the next record's

other_turn : (turn next : ℕ) → turn < next → (next == turn) ≡ false
other_turn turn next behind = grind (arith, nat_tests)

pub free_comes : (turn kind : ℕ) (left : List Record) → IsFree turn left → comes turn kind left ≡ false
free_comes turn kind [] free = refl
free_comes turn kind (entry ∷ left) free = ap (λ (b : Bool). b && (entry.kind == kind)) (other_turn turn entry.turn free)

free_lives : (turn : ℕ) (left : List Record) → IsFree turn left → ends_killed turn left ≡ false
free_lives turn [] free = refl
free_lives turn (entry ∷ left) free = ap (λ (b : Bool). b && is_killing entry.finish) (free_comes turn end_kind (entry ∷ left) free)

pub free_before : (turn later : ℕ) (left : List Record) → turn ≤ later → IsFree later left → IsFree turn left
free_before turn later [] less free = tt
free_before turn later (entry ∷ left) less free = let behind : later < entry.turn = free in omega (arith, less, behind)

-- A quiet turn is its instruction.

module _ (machine : Machine) (turns : ℕ) (sent : Sent) (free : IsFree (turns + 1) machine.coming) where
  abbrev here : Replay
  here = replay_at machine turns sent

  free_turn : turn_after here ≡ counted (instruction (turns + 1) here)
  free_turn =
      ap (λ (b : Bool). let first : Replay = if b then taken (words_of machine.cpu) machine.coming here else here in counted (unless_met first.difference first (instruction_or_none (turns + 1) first)))
      (free_comes (turns + 1) before_kind machine.coming free)
      ∙ ap (λ (b : Bool). counted (if b then here else (if comes (turns + 1) idle_kind machine.coming then idle (words_of machine.cpu) machine.coming here else instruction (turns + 1) here)))
      (free_lives (turns + 1) machine.coming free)
      ∙ ap (λ (b : Bool). counted (if b then idle (words_of machine.cpu) machine.coming here else instruction (turns + 1) here)) (free_comes (turns + 1) idle_kind machine.coming free)

  quiet_turn : (next : Processor) (stored : Memory) → Steps machine.cpu machine.space Next next stored
      → turn_after here ≡ replay_at (record machine { cpu = next; space = stored }) (turns + 1) sent
  quiet_turn next stored step =
      let there : Replay = replay_at (record machine { cpu = next; space = stored }) turns sent in
      free_turn
      ∙ ap (λ (s : Step). counted (after_step (turns + 1) (words_of machine.cpu) s.came (record here { processor = s.processor; memory = s.memory }))) step
      ∙ ap (λ (b : Bool). counted (if b then differs 1 0 there else there)) (free_comes (turns + 1) call_kind machine.coming free)

pub goes_quietly : (k : ℕ) (old : Machine) (turns : ℕ) (sent : Sent) (next : Processor) (stored : Memory) → IsFree (turns + k) old.coming → Goes k old.cpu old.space next stored
    → replayed (replay_at old turns sent) k ≡ replay_at (record old { cpu = next; space = stored }) (turns + k) sent
unfolding replayed Goes
goes_quietly zero old turns sent next stored free (same, alike) =
    let e : turns ≡ turns + 0 = omega arith in
    ap (λ (p : Processor). replay_at (record old { cpu = p; space = old.space }) turns sent) same
    ∙ ap (λ (m : Memory). replay_at (record old { cpu = next; space = m }) turns sent) alike
    ∙ ap (λ (n : ℕ). replay_at (record old { cpu = next; space = stored }) n sent) e
goes_quietly (suc k) old turns sent next stored free (middle, kept, goes, step) =
    let less : turns + k ≤ turns + suc k = omega arith in
    let e : turns + k + 1 ≡ turns + suc k = omega arith in
    ap turn_or_none (goes_quietly k old turns sent middle kept (free_before (turns + k) (turns + suc k) old.coming less free) goes)
    ∙ quiet_turn (record old { cpu = middle; space = kept }) (turns + k) sent (subst (λ (n : ℕ). IsFree n old.coming) (sym e) free) next stored step
    ∙ ap (λ (n : ℕ). replay_at (record old { cpu = next; space = stored }) n sent) e

-- What the last instruction came to goes with the records by itself.

by_call : (call : Bool) (first second : Replay) → call ≡ false → (if call then first else second) ≡ second
by_call true first second is = absurd cc
by_call false first second is = refl

by_excuse : (excused : Bool) (machine : Machine) (turns : ℕ) (sent : Sent) →
    (if excused then replay_at machine turns sent else differs 0 2 (replay_at machine turns sent))
    ≡ meets (replay_at machine turns sent) (if excused then None else Some (record { wanted = 0; found = 2 }))
by_excuse true machine turns sent = refl
by_excuse false machine turns sent = refl

unrecorded_by : (machine : Machine) (turns turn : ℕ) (sent : Sent) (words : List ℕ) (came : Stepped) → comes turn call_kind machine.coming ≡ false
    → after_step turn words came (replay_at machine turns sent) ≡ meets (replay_at machine turns sent) (unrecorded turn came machine.coming)
unrecorded_by machine turns turn sent words Next none =
    by_call (comes turn call_kind machine.coming) (differs 1 0 (replay_at machine turns sent)) (replay_at machine turns sent) none
unrecorded_by machine turns turn sent words Syscall none =
    by_call (comes turn call_kind machine.coming) (taken words machine.coming (replay_at machine turns sent)) (differs 0 1 (replay_at machine turns sent)) none
unrecorded_by machine turns turn sent words (Fault signal code address) none =
    by_call (comes turn call_kind machine.coming) (differs 1 0 (replay_at machine turns sent))
    (if is_excused turn machine.coming then replay_at machine turns sent else differs 0 2 (replay_at machine turns sent)) none
    ∙ by_excuse (is_excused turn machine.coming) machine turns sent

-- The last of them

module _ (middle : Machine) (turns : ℕ) (held : Written) (free : IsFree (turns + 1) middle.coming) where
  free_last : (new : Machine) (result : Result Unit Halt) → Does (instruction (turns + 1)) middle new held held result
      → (first : Written) (sent : Sent) → Gains first held sent → Comes (turn_after (replay_at middle turns sent)) new (turns + 1) first sent held result
  free_last new result does =
      turn_goes middle middle new held held held turns result (before_none middle held (turns + 1) (free_comes (turns + 1) before_kind middle.coming free))
      (working middle new held held (turns + 1) result (free_lives (turns + 1) middle.coming free) (free_comes (turns + 1) idle_kind middle.coming free) does)

  free_step : (came : Stepped) (next : Processor) (stored : Memory) (result : Result Unit Halt) → Steps middle.cpu middle.space came next stored
      → Meets (unrecorded (turns + 1) came middle.coming) result → Does (instruction (turns + 1)) middle (record middle { cpu = next; space = stored }) held held result
  free_step came next stored result step is =
      let new : Machine = record middle { cpu = next; space = stored } in
      let ended : Does (after_step (turns + 1) (words_of middle.cpu) came) new new held held result =
      λ n first sent gains.
      subst (λ (r : Replay). Comes r new n first sent held result) (sym (unrecorded_by new n (turns + 1) sent (words_of middle.cpu) came (free_comes (turns + 1) call_kind middle.coming free)))
      (meets_so new n first held sent (unrecorded (turns + 1) came middle.coming) result is gains) in
      instructed middle new held held (turns + 1) (words_of middle.cpu) (record { processor = next; memory = stored; came = came }) result refl step ended

module _ (old : Machine) (turns quiet : ℕ) (held : Written) (free : IsFree (turns + quiet + 1) old.coming) where
  free_till : IsFree (turns + quiet) old.coming
  free_till = free_before (turns + quiet) (turns + quiet + 1) old.coming (omega arith) free

  pub stretch_ends : (came : Stepped) (next : Processor) (stored : Memory) (result : Result Unit Halt) → GoesThen quiet old.cpu old.space (Ok came) next stored
      → Meets (unrecorded (turns + quiet + 1) came old.coming) result → Takes old (record old { cpu = next; space = stored }) turns quiet held held result
  stretch_ends came next stored result (middle, kept, goes, step) is =
      let there : Machine = record old { cpu = middle; space = kept } in
      record {
        middle = there;
        quietly = λ sent. goes_quietly quiet old turns sent middle kept free_till goes;
        last = free_last there (turns + quiet) held free (record old { cpu = next; space = stored }) result (free_step there (turns + quiet) held free came next stored result step is);
      }

  pub stretch_lacks : (error : NoMemory) (next : Processor) (stored : Memory) → GoesThen quiet old.cpu old.space (Err error) next stored
      → Takes old (record old { cpu = next; space = stored }) turns quiet held held (Err lacks)
  stretch_lacks error next stored goes =
      let there : Machine = record old { cpu = next; space = stored } in
      record {
        middle = there;
        quietly = λ sent. goes_quietly quiet old turns sent next stored free_till goes;
        last = free_last there (turns + quiet) held free there (Err lacks) (instruction_lacks there there held (turns + quiet + 1));
      }

-- One turn by itself

pub takes_one : (old new : Machine) (turns : ℕ) (before now : Written) (result : Result Unit Halt)
    → ((first : Written) (sent : Sent) → Gains first before sent → Comes (turn_after (replay_at old turns sent)) new (turns + 1) first sent now result)
    → Takes old new turns 0 before now result
unfolding replayed
takes_one old new turns before now result came =
    let e : turns ≡ turns + 0 = omega arith in
    record {
      middle = old;
      quietly = λ sent. ap (λ (n : ℕ). replay_at old n sent) e;
      last = λ first sent gains. subst (λ (n : ℕ). Comes (turn_after (replay_at old n sent)) new (n + 1) first sent now result) e (came first sent gains);
    }
