-- The replay of a left journal is the run.
use Rattle.std.proofs.Common.{◌≡◌, ℕ, ◌≤◌, ◌<◌, ◌+◌, true, false, List, length, Option, Some, None, ◌⊎◌, inl, inr, refl, sym, ap, ◌∙◌, subst, arith}
use Rattle.std.specs.Prelude.{is_some}
use Rattle.outside.specs.Files.{Files}
use Rattle.outside.specs.Output.{GainsBetween}
use Rattle.elf_image.specs.Loading.{plan_of}
use Rattle.elf_image.specs.declared.load_plan.Plan.{Plan}
use Rattle.journal.specs.Text.{Kept}
use Rattle.kernel_core.specs.declared.finish.Finish.{Finish}
use Rattle.kernel_model.specs.Begin.{first_state}
use Rattle.kernel_model.specs.Pipes.{Sent, nothing}
use Rattle.native_signal.proofs.KeptLaws.{first_kept}
use Rattle.replay_core.specs.Answered.{DivergesBy, EndsBy}
use Rattle.replay_core.specs.Replay.{Replay, replayed}
use Rattle.replay_core.specs.Whole.{last_of, replay_of, start_of}
use Rattle.start_stack.specs.Start.{start_memory, start_processor}
use Rattle.journal_laws.specs.Replaying.{IsStartOf, replay_from}
use Rattle.journal_laws.proofs.Records.{standing}
use Rattle.journal_laws.proofs.Runs.{journal_ends, journal_sent}
use Rattle.o32_session.specs.Asked.{arguments_of, stack_chance}
use Rattle.session_files.specs.Inputs.{journal_limit}
use Rattle.session_replay.specs.Replayed.{AnswersReplay, AnswersReplayReading, AsksForReplay, EndsAsReplay, IsReplayEnd, Repeat, ReplayAsked, StopsInReplay, StopsUnbegun, once_replay_loaded}
use Rattle.o32_session.specs.Session.{Emulated}
use Rattle.session_files.specs.Seen.{Seen, Writes}
use Rattle.o32_session.specs.Soaked.{AnswersCommand, AnswersSession}
use Rattle.o32_session.specs.Words.{AsksReplay, Command, ReplayLine, ReplayReading}
use Rattle.session_files.specs.declared.end.End.{End}
use Rattle.session_files.specs.declared.end.End.TheVariants.{Exited, Killed, Budget, Blocked, Soaked, Replayed, Refused, Diverged, ReadFault, WriteFault, NoMemory}
use Rattle.session_laws.specs.Later.{AreReplayWords, HasBoth, IsPartAgain, LeftRun, RepeatsRun, machine_left, run_at, run_left, text_left}
use Rattle.session_laws.proofs.Asking.{Accepted, asked_is, journal_fits, journal_found, journal_read, program_found}
use Rattle.session_laws.proofs.Prefixes.{turns_repeated}

not_none : {A : Type 0} (value : Option A) (some : A) → value ≡ None → value ≡ Some some → ⊥
not_none value some none is = absurd (let wrong : true ≡ false = sym (ap (λ v. is_some v) is) ∙ ap (λ v. is_some v) none in cc)

one_finish : (value : Option Finish) (a b : Finish) → value ≡ Some a → value ≡ Some b → a ≡ b
one_finish value a b one other = let same : Some a ≡ Some b = sym one ∙ other in cc

module _ (left : LeftRun) where
  abbrev plan : Plan
  plan = plan_of left.run.bytes

  abbrev journal : Kept
  journal = left.leaves.journal

  starts : IsStartOf plan (arguments_of left.words left.run.line) left.run.line.environment (stack_chance left.run.schedule) (machine_left left)
  unfolding first_state
  starts = record { processor = refl; memory = refl; awake = refl; signals = first_kept }

  ends : EndsBy (replay_of plan journal) (last_of journal.records).turn (last_of journal.records).finish left.turns left.finish
  ends =
      journal_ends left.run.schedule.quantum left.run.line.budget left.turns (machine_left left) left.input left.finish plan (arguments_of left.words left.run.line)
      left.run.line.environment (stack_chance left.run.schedule) journal starts left.leaves.of_run

  sends : (replay_of plan journal).sent ≡ (run_left left).sent
  sends =
      journal_sent left.run.schedule.quantum left.run.line.budget left.turns (machine_left left) left.input left.finish plan (arguments_of left.words left.run.line)
      left.run.line.environment (stack_chance left.run.schedule) journal starts left.leaves.of_run

  -- Each turn

  abbrev starting : List (List ℕ) → List (List ℕ) → List ℕ → Replay
  starting args env random = standing (start_processor plan args env) (start_memory plan args env random) nothing journal.records 0

  start_is : start_of plan journal ≡ replay_from (machine_left left) journal.records
  start_is =
      ap (λ (a : List (List ℕ)). starting a journal.env journal.random) left.leaves.of_run.with_args
      ∙ (ap (λ (e : List (List ℕ)). starting (arguments_of left.words left.run.line) e journal.random) left.leaves.of_run.with_env
      ∙ ap (λ (r : List ℕ). starting (arguments_of left.words left.run.line) left.run.line.environment r) left.leaves.of_run.with_random)

  sends_at : (turns : ℕ) → turns ≤ left.turns → (replayed (start_of plan journal) turns).sent ≡ (run_at left turns).sent
  sends_at turns within =
      ap (λ (r : Replay). (replayed r turns).sent) start_is
      ∙ (turns_repeated left.run.schedule.quantum (machine_left left) left.input left.run.line.budget left.turns left.finish journal.records starts.awake starts.signals
      left.leaves.of_run.records turns within).sent

  part_again : (old new : Seen) (turns : ℕ) → StopsInReplay plan journal old new turns → IsPartAgain left old new turns
  part_again old new turns part =
      let more : turns < left.turns = omega (arith, part.stopped.more, ends.all) in
      let here = sends_at turns (omega (arith, more)) in
      let next = sends_at (turns + 1) (omega (arith, more)) in
      record {
        more = more;
        to_out =
            subst (λ (s : Sent). GainsBetween old.out new.out s.out (run_at left (turns + 1)).sent.out) here
            (subst (λ (s : Sent). GainsBetween old.out new.out (replayed (start_of plan journal) turns).sent.out s.out) next part.stopped.part.to_out);
        to_err =
            subst (λ (s : Sent). GainsBetween old.err new.err s.err (run_at left (turns + 1)).sent.err) here
            (subst (λ (s : Sent). GainsBetween old.err new.err (replayed (start_of plan journal) turns).sent.err s.err) next part.stopped.part.to_err);
        rest = part.rest;
      }

  -- The answer

  as_many : (turns : ℕ) (finish : Finish) → EndsBy (replay_of plan journal) (last_of journal.records).turn (last_of journal.records).finish turns finish
      → (turns ≡ left.turns) × (finish ≡ left.finish)
  as_many turns finish over =
      (over.all ∙ sym ends.all, one_finish (last_of journal.records).finish finish left.finish over.over ends.over)

  no_difference : (turns turn wanted found : ℕ) → DivergesBy (replay_of plan journal) turns turn wanted found → ⊥
  no_difference turns turn wanted found met =
      not_none (replay_of plan journal).difference (record { wanted = wanted; found = found }) ends.none met.met

  repeats : (old new : Seen) (turns : ℕ) (end : End) → AnswersReplay (Repeat plan journal) old new turns end → RepeatsRun left old new turns end
  repeats old new turns (Replayed finish) answer =
      let over = as_many turns finish answer.over in
      record {
        as_many = over.0;
        as_over = over.1;
        wrote = subst (λ (s : Sent). Writes old new s.out s.err) sends answer.wrote;
        rest = answer.rest;
      }
  repeats old new turns (Diverged turn wanted found) answer = no_difference turns turn wanted found answer.met
  repeats old new turns WriteFault answer =
      elim answer as (λ _. RepeatsRun left old new turns WriteFault) [
        | inl part ↦ (part_again old new turns part.0, part.1)
        | inr at_line ↦ absurd (no_difference turns at_line.0.turn at_line.0.wanted at_line.0.found at_line.0.met)
      ]
  repeats old new turns NoMemory answer =
      elim answer as (λ _. RepeatsRun left old new turns NoMemory) [
        | inl part ↦ part_again old new turns part
        | inr at_line ↦ absurd (no_difference turns at_line.turn at_line.wanted at_line.found at_line.met)
      ]
  repeats old new turns ReadFault answer = absurd answer
  repeats old new turns (Soaked finish) answer = absurd answer
  repeats old new turns (Refused given) answer = absurd answer
  repeats old new turns (Exited status) answer = absurd answer
  repeats old new turns (Killed signal) answer = absurd answer
  repeats old new turns Budget answer = absurd answer
  repeats old new turns Blocked answer = absurd answer

  ends_so : (turns : ℕ) (end : End) → IsReplayEnd plan journal turns end → (turns ≡ left.turns) × (end ≡ Replayed left.finish)
  ends_so turns (Replayed finish) is =
      let over = as_many turns finish is in (over.0, ap (λ (f : Finish). let as_end : End = Replayed f in as_end) over.1)
  ends_so turns (Diverged turn wanted found) is = absurd (no_difference turns turn wanted found is)
  ends_so turns (Soaked finish) is = absurd is
  ends_so turns (Refused given) is = absurd is
  ends_so turns (Exited status) is = absurd is
  ends_so turns (Killed signal) is = absurd is
  ends_so turns Budget is = absurd is
  ends_so turns Blocked is = absurd is
  ends_so turns ReadFault is = absurd is
  ends_so turns WriteFault is = absurd is
  ends_so turns NoMemory is = absurd is

  -- Whole sessions

  module _ (accepted : Accepted) (words : List (List ℕ)) (line : ReplayLine) (are : AreReplayWords words line) (short : length (text_left left) ≤ journal_limit) where
    pub answers : (old new : Seen) (turns : ℕ) (end : End) (host : Option Emulated) → HasBoth left line old.store.files → AnswersSession words old new turns end host
        → StopsUnbegun line old new turns end ⊎ RepeatsRun left (once_replay_loaded (Repeat plan journal) line old) new turns end
    answers old new turns end host has answer =
        let known : AnswersReplayReading (AsksReplay line) old new turns end =
        subst (λ (r : ReplayReading). AnswersReplayReading r old new turns end) are.in_order
        (subst (λ (c : Command). AnswersCommand c words old new turns end host) are.replays answer) in
        elim known as (λ _. StopsUnbegun line old new turns end ⊎ RepeatsRun left (once_replay_loaded (Repeat plan journal) line old) new turns end) [
          | inl early ↦ inl early
          | inr asked ↦
              inr (repeats (once_replay_loaded (Repeat plan journal) line old) new turns end
              (subst (λ (a : ReplayAsked). AnswersReplay a (once_replay_loaded a line old) new turns end) (asked_is left line old.store.files has accepted asked.0 short asked.1) asked.2))
        ]

    pub completes : (told : Option Files) → HasBoth left line told
        → (asked : AsksForReplay words told) × ((turns : ℕ) (end : End) → EndsAsReplay words told asked turns end → (turns ≡ left.turns) × (end ≡ Replayed left.finish))
    completes told has = (
      record {
        line = line;
        files = has.files;
        bytes = left.run.bytes;
        text = text_left left;
        journal = journal;
        replays = are.replays;
        in_order = are.in_order;
        is_told = has.is_told;
        found = program_found left line told has;
        formed = left.run.formed;
        found_too = journal_found left line told has short;
        read = journal_read left line told has accepted;
        fits = journal_fits left line told has;
      },
      ends_so,
    )
