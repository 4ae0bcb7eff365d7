-- What a replay answers: what was loaded for it, and what its replay came to.
use Rattle.std.proofs.Common.{◌≡◌, ℕ, ◌≤◌, ◌<◌, Bool, true, false, cond, nat_lt, ◌↔◌, List, [], ◌∷◌, Option, Some, None, Result, Ok, Err, Vec, ◌⊎◌, inl, inr, refl, sym, ap, ◌∙◌, subst, arith}
use Rattle.std.proofs.lemmas.Bool.{le-ltb, ltb-false, ltb-true}
use Rattle.outside.specs.Count.{Rose}
use Rattle.outside.specs.Files.{Files}
use Rattle.outside.specs.Output.{GainsText}
use Rattle.outside.specs.Turned.{TurnedLoad}
use Rattle.outside.specs.declared.errors.LoadError.{LoadError}
use Rattle.outside.specs.declared.errors.LoadError.TheVariants as answers
use Rattle.outside.proofs.OutputLemmas.{GainsText-nothing, GainsText-then, GainsBetween-part}
use Rattle.elf_image.specs.Loading.{IsValidPlan, plan_of}
use Rattle.elf_image.specs.declared.load_plan.Plan.{Plan}
use Rattle.start_stack.specs.Stack.{start_size, start_limit}
use Rattle.journal.specs.Text.{Kept}
use Rattle.journal.specs.Reading.{reading_of}
use Rattle.replay_core.specs.Answered.{Written, AnswersBy, CountsStay, DivergesBy, StopsAt, StopsOnlyIfRose}
use Rattle.replay_core.specs.Whole.{last_of, replay_of, start_of}
use Rattle.replay_core.specs.declared.answer.ReplayEnd.{ReplayEnd}
use Rattle.replay_core.specs.declared.answer.ReplayEnd.TheVariants as replays
use Rattle.stored_files.specs.Stored.{Stored}
use Rattle.session_files.specs.Inputs.{Found, Absent, Long, Bytes, HasProgram, IsFound, journal_file, journal_limit}
use Rattle.session_files.specs.Faults.{TellsFaults}
use Rattle.session_files.specs.Saved.{after_loads}
use Rattle.session_files.specs.Seen.{Seen}
use Rattle.session_files.specs.Unrun.{DoesNothing}
use Rattle.session_words.specs.Words.{ReplayLine, ReplayReading, AsksReplay, WrongReplayAt}
use Rattle.session_replay.specs.Replayed.{AnswersReplayWords, EndsAsReplay, ReplayAsked, RefuseReplay, Repeat, ReplayAsksUnless, ReplayAsksOf, ReplayAsksFor, asked_of_found, asked_of_reading, both_names, replay_loaded_by, replay_turned_by, replay_load_of, replay_names_up_to, once_replay_loaded, outputs, RestStands, AnswersReplay, AnswersReplayReading, AtJournal, AtPlan, StopsAtReplayStage, StopsUnbegun, AsksForReplay, IsReplayEnd}
use Rattle.session_files.specs.Steps.{EndsDiverged, EndsRefused, EndsWithoutRun, IsLoaded, IsPlanned, IsPlanOf, IsRefusedFor, is_absent, is_long, is_broken, LineFailsOnlyIfRose, LoadsFile, ReasonOnlyIfRose, turned_at}
use Rattle.session_replay.specs.inside.Repeated.{EndFailsOnlyIfRose, EndsReplay, IsLoadedFor, LoadsBoth, Replays}
use Rattle.session_files.specs.declared.end.End.{End}
use Rattle.session_files.specs.declared.end.End.TheVariants.{Exited, Killed, Budget, Blocked, Soaked, Replayed, Refused, Diverged, ReadFault, WriteFault, NoMemory}
use Rattle.session_files.specs.declared.refusal.Refusal.{Refusal}
use Rattle.session_files.specs.declared.refusal.Refusal.TheVariants.{Usage, Missing, TooLong, Elf, Image, Schedule, Start, Journal}
use Rattle.session_files.specs.declared.load.SessionFile.TheVariants as which
use Rattle.session_files.specs.declared.not_run.NotRun.{NotRun}
use Rattle.session_files.specs.declared.not_run.NotRun.TheVariants as reasons
use Rattle.session_replay.specs.declared.replay.Loaded.{Loaded}
use Rattle.session_files.proofs.Faults.{line_faults}
use Rattle.session_files.proofs.Loading.{program_is, then_loaded}
use Rattle.session_files.proofs.Unrun.{refusal_files, refused, unchanged}

-- What was loaded

-- what is asked for where the program has a plan, by what was found of the journal
planned_asks : (line : ReplayLine) (told : Option Files) (plan : Plan) (found : Found) (asked : ReplayAsked) → IsPlanOf told line.program plan →
    IsFound told journal_limit line.journal found → asked ≡ asked_of_found plan found → ReplayAsksFor line told asked
planned_asks line told plan found asked is file asks = (
  Bytes is.bytes,
  is.found,
  subst (λ f. ReplayAsksUnless line told is.bytes f asked) (sym is.formed) (found, file, subst (λ p. asked ≡ asked_of_found p found) is.same asks),
)

pub both_loaded : (line : ReplayLine) (told : Option Files) (plan : Plan) (text : List ℕ) → IsPlanOf told line.program plan →
    IsFound told journal_limit line.journal (Bytes text) → IsValidPlan plan × HasProgram told line.program × ReplayAsksFor line told (asked_of_reading plan (reading_of text))
both_loaded line told plan text is file =
    (is.valid, program_is told line.program plan is, planned_asks line told plan (Bytes text) (asked_of_reading plan (reading_of text)) is file refl)

-- there is no journal
pub no_journal : (line : ReplayLine) (told : Option Files) (plan : Plan) (reason : NotRun) → IsPlanOf told line.program plan →
    IsLoaded {A = ℕ} told which.Journal line.journal (Err reason) → IsLoadedFor line told (Err reason)
no_journal line told plan (reasons.Refused (Missing file)) is found =
    planned_asks line told plan Absent (RefuseReplay (Missing file)) is found.1 (ap (λ n. let asked : ReplayAsked = RefuseReplay (Missing n) in asked) found.0)
no_journal line told plan (reasons.Refused (TooLong file)) is found =
    planned_asks line told plan Long (RefuseReplay (TooLong file)) is found.1 (ap (λ n. let asked : ReplayAsked = RefuseReplay (TooLong n) in asked) found.0)
no_journal line told plan (reasons.Refused (Usage word)) is found = absurd found
no_journal line told plan (reasons.Refused (Elf rule)) is found = absurd found
no_journal line told plan (reasons.Refused (Image broken)) is found = absurd found
no_journal line told plan (reasons.Refused (Schedule broken)) is found = absurd found
no_journal line told plan (reasons.Refused Start) is found = absurd found
no_journal line told plan (reasons.Refused (Journal at)) is found = absurd found
no_journal line told plan reasons.ReadFault is found = tt
no_journal line told plan reasons.NoMemory is found = tt

-- there is no plan
refused_asks : (line : ReplayLine) (told : Option Files) (refusal : Refusal) → IsRefusedFor told line.program refusal → ReplayAsksFor line told (RefuseReplay refusal)
refused_asks line told _ (is_absent found) = (Absent, found, refl)
refused_asks line told _ (is_long found) = (Long, found, refl)
refused_asks line told _ (is_broken bytes rule found broken) =
    (Bytes bytes, found, subst (λ f. ReplayAsksUnless line told bytes f (RefuseReplay (Elf rule))) (sym broken) refl)

pub no_plan : (line : ReplayLine) (told : Option Files) (reason : NotRun) → IsPlanned told line.program (Err reason) → IsLoadedFor line told (Err reason)
no_plan line told (reasons.Refused refusal) is = refused_asks line told refusal is
no_plan line told reasons.ReadFault is = tt
no_plan line told reasons.NoMemory is = tt

-- The loads

program_refused : (told : Option Files) (line : ReplayLine) (refusal : Refusal) (old new : Stored) → IsRefusedFor told line.program refusal →
    new ≡ after_loads old (line.program ∷ []) (turned_at which.Program line.program refusal) → new ≡ after_loads old (replay_loaded_by line refusal) (replay_turned_by line refusal)
program_refused told line _ old new (is_absent found) is = is
program_refused told line _ old new (is_long found) is = is
program_refused told line _ old new (is_broken bytes rule found broken) is = is

pub plan_loads : (told : Option Files) (line : ReplayLine) (reason : NotRun) (old new : Stored) → IsPlanned told line.program (Err reason) →
    LoadsFile {T = Plan} which.Program (Some line.program) (Err reason) old new → LoadsBoth {T = Loaded} line (Err reason) old new
plan_loads told line (reasons.Refused refusal) old new is loads = program_refused told line refusal old new is loads
plan_loads told line reasons.ReadFault old new is loads = record { stage = AtPlan; in_order = tt; stands = loads.1 }
plan_loads told line reasons.NoMemory old new is loads = record { stage = AtPlan; in_order = tt; stands = loads }

-- behind the load of the program
then_journal : (line : ReplayLine) (old middle new : Stored) (more : List (List ℕ)) (turned : List TurnedLoad) → middle ≡ after_loads old (line.program ∷ []) [] →
    new ≡ after_loads middle more turned → new ≡ after_loads old (line.program ∷ more) turned
then_journal line old middle new more turned before after = then_loaded old middle new (line.program ∷ []) more turned before after

refused_loads : (line : ReplayLine) (file : ℕ) (answer : LoadError) (old new : Stored) → file ≡ journal_file →
    new ≡ after_loads old (both_names line) (record { name = line.journal; limit = journal_limit; answer = answer } ∷ []) →
    new ≡ after_loads old (replay_names_up_to line file) (replay_load_of line file answer ∷ [])
refused_loads line file answer old new is loads =
    subst (λ n. new ≡ after_loads old (replay_names_up_to line n) (replay_load_of line n answer ∷ [])) (sym is) loads

pub journal_loads : (told : Option Files) (line : ReplayLine) (reason : NotRun) (old middle new : Stored) → HasProgram old.files line.program → IsLoaded {A = ℕ} told which.Journal line.journal (Err reason) →
    middle ≡ after_loads old (line.program ∷ []) [] → LoadsFile {T = Vec ℕ ℕ} which.Journal (Some line.journal) (Err reason) middle new → LoadsBoth {T = Loaded} line (Err reason) old new
journal_loads told line (reasons.Refused (Missing file)) old middle new program is before loads =
    refused_loads line file answers.Missing old new is.0 (then_journal line old middle new (line.journal ∷ []) _ before loads)
journal_loads told line (reasons.Refused (TooLong file)) old middle new program is before loads =
    refused_loads line file answers.TooLong old new is.0 (then_journal line old middle new (line.journal ∷ []) _ before loads)
journal_loads told line (reasons.Refused (Usage word)) old middle new program is before loads = absurd is
journal_loads told line (reasons.Refused (Elf rule)) old middle new program is before loads = absurd is
journal_loads told line (reasons.Refused (Image broken)) old middle new program is before loads = absurd is
journal_loads told line (reasons.Refused (Schedule broken)) old middle new program is before loads = absurd is
journal_loads told line (reasons.Refused Start) old middle new program is before loads = absurd is
journal_loads told line (reasons.Refused (Journal at)) old middle new program is before loads = absurd is
journal_loads told line reasons.ReadFault old middle new program is before loads =
    record { stage = AtJournal; in_order = program; stands = then_journal line old middle new [] [] before loads.1 }
journal_loads told line reasons.NoMemory old middle new program is before loads = record {
  stage = AtJournal;
  in_order = program;
  stands = elim loads as (λ _. (new ≡ after_loads old (line.program ∷ []) []) ⊎ (new ≡ after_loads old (both_names line) [])) [
    | inl none ↦ inl (then_journal line old middle new [] [] before none)
    | inr one ↦ inr (then_journal line old middle new (line.journal ∷ []) [] before one)
  ];
}

pub all_loads : (line : ReplayLine) (old middle new : Stored) → middle ≡ after_loads old (line.program ∷ []) [] → new ≡ after_loads middle (line.journal ∷ []) [] →
    new ≡ after_loads old (both_names line) []
all_loads line old middle new before after = then_journal line old middle new (line.journal ∷ []) [] before after

-- the count of faulty writes
pub both_writes : (line : ReplayLine) (result : Result Loaded NotRun) (old new : Stored) → LoadsBoth line result old new → new.write_faults ≡ old.write_faults
both_writes line (Ok loaded) old new loads = ap (λ (s : Stored). s.write_faults) loads
both_writes line (Err (reasons.Refused refusal)) old new loads = ap (λ (s : Stored). s.write_faults) loads
both_writes line (Err reasons.ReadFault) old new loads = ap (λ (s : Stored). s.write_faults) loads.stands
both_writes line (Err reasons.NoMemory) old new loads =
    elim loads.stands as (λ _. new.write_faults ≡ old.write_faults) [
      | inl before ↦ ap (λ (s : Stored). s.write_faults) before
      | inr behind ↦ ap (λ (s : Stored). s.write_faults) behind
    ]

-- The replay

-- what stands once the outputs and their counts are these
abbrev after_outputs : Seen → Option (List ℕ) → Option (List ℕ) → ℕ → ℕ → Seen
after_outputs old out err outs errs = record old { out = out; err = err; out_faults = outs; err_faults = errs }

abbrev nothing_or : ReplayAsked → Seen → Seen → ℕ → End → Type 0
nothing_or asked old new turns end = ((end ≡ NoMemory) × DoesNothing old new turns) ⊎ AnswersReplay asked old new turns end

-- a refusal, where the replay wrote nothing
refused_so : (refusal : Refusal) (end : End) (old : Seen) (turns : ℕ) (middle : Written) (err : Option (List ℕ)) (outs middle_errs errs : ℕ) → turns ≡ 0 → middle ≡ outputs old → outs ≡ old.out_faults →
    middle_errs ≡ old.err_faults → EndsRefused refusal end middle.err err → LineFailsOnlyIfRose end middle_errs errs →
    AnswersReplay (RefuseReplay refusal) old (after_outputs old middle.out err outs errs) turns end
refused_so refusal end old turns middle err outs middle_errs errs none same outs_stay errs_stay so cause =
    let told : EndsRefused refusal end old.err err = subst (λ (w : Written). EndsRefused refusal end w.err err) same so in
    let fails : LineFailsOnlyIfRose end old.err_faults errs = subst (λ n. LineFailsOnlyIfRose end n errs) errs_stay cause in
    let here : AnswersReplay (RefuseReplay refusal) old (after_outputs old old.out err old.out_faults errs) 0 end =
    refused refusal end old err errs old.load_faults old.store told fails refl in
    subst (λ n. AnswersReplay (RefuseReplay refusal) old (after_outputs old middle.out err outs errs) n end) (sym none)
    (subst (λ (w : Written). AnswersReplay (RefuseReplay refusal) old (after_outputs old w.out err outs errs) 0 end) (sym same)
    (subst (λ n. AnswersReplay (RefuseReplay refusal) old (after_outputs old old.out err n errs) 0 end) (sym outs_stay) here))

-- nothing was written
nothing_so : (old : Seen) (turns : ℕ) (middle : Written) (err : Option (List ℕ)) (outs errs : ℕ) → turns ≡ 0 → middle ≡ outputs old → err ≡ middle.err →
    DoesNothing old (after_outputs old middle.out err outs errs) turns
nothing_so old turns middle err outs errs none same stays = record {
  no_turn = none;
  untaken = refl;
  wrote = record {
    to_out = unchanged old.out middle.out (ap (λ (w : Written). w.out) same);
    to_err = unchanged old.err err (stays ∙ ap (λ (w : Written). w.err) same);
  };
  stands = refl;
}

module _ (plan : Plan) (journal : Kept) (old : Seen) (middle : Written) (err : Option (List ℕ)) (outs middle_errs errs : ℕ) where
  abbrev after : Seen
  after = after_outputs old middle.out err outs errs

  rest_stands : RestStands old after
  rest_stands = record { untaken = refl; stands = refl }

  diverged : (turns turn wanted found : ℕ) (end : End) → DivergesBy (replay_of plan journal) turns turn wanted found → GainsText old.out middle.out (replay_of plan journal).sent.out →
      GainsText old.err middle.err (replay_of plan journal).sent.err → middle_errs ≡ old.err_faults → EndsDiverged turn wanted found end middle.err err → LineFailsOnlyIfRose end middle_errs errs →
      AnswersReplay (Repeat plan journal) old after turns end
  diverged turns turn wanted found (Diverged t w f) met to_out to_err stays so cause =
      subst (λ (e : End). AnswersReplay (Repeat plan journal) old after turns e) (sym so.0)
      (record { met = met; wrote = record { to_out = to_out; to_err = GainsText-then to_err so.1 }; rest = rest_stands })
  diverged turns turn wanted found WriteFault met to_out to_err stays so cause = inr (
    record { turn = turn; wanted = wanted; found = found; met = met; to_out = to_out; to_err = GainsBetween-part to_err so; rest = rest_stands },
    subst (λ n. Rose n errs) stays cause,
  )
  diverged turns turn wanted found NoMemory met to_out to_err stays so cause =
      inr (record { turn = turn; wanted = wanted; found = found; met = met; to_out = to_out; to_err = GainsBetween-part to_err so; rest = rest_stands })
  diverged turns turn wanted found ReadFault met to_out to_err stays so cause = absurd so
  diverged turns turn wanted found (Refused refusal) met to_out to_err stays so cause = absurd so
  diverged turns turn wanted found (Soaked finish) met to_out to_err stays so cause = absurd so
  diverged turns turn wanted found (Replayed finish) met to_out to_err stays so cause = absurd so
  diverged turns turn wanted found (Exited status) met to_out to_err stays so cause = absurd so
  diverged turns turn wanted found (Killed signal) met to_out to_err stays so cause = absurd so
  diverged turns turn wanted found Budget met to_out to_err stays so cause = absurd so
  diverged turns turn wanted found Blocked met to_out to_err stays so cause = absurd so

  abbrev Answered : ReplayEnd → ℕ → Type 0
  Answered came turns = AnswersBy (start_of plan journal) (last_of journal.records).turn (last_of journal.records).finish came turns (outputs old) middle

  stopped : (turns : ℕ) → err ≡ middle.err → StopsAt (start_of plan journal) (last_of journal.records).turn turns (outputs old) middle →
      StopsAt (start_of plan journal) (last_of journal.records).turn turns (outputs old) (outputs after)
  stopped turns stays so =
      subst (λ (e : Option (List ℕ)). StopsAt (start_of plan journal) (last_of journal.records).turn turns (outputs old) (record { out = middle.out; err = e })) (sym stays) so

  -- a replay that had a start
  repeated : (came : ReplayEnd) (turns : ℕ) (end : End) → (came ≡ replays.Start → ⊥) → Answered came turns → StopsOnlyIfRose came old.out_faults outs old.err_faults middle_errs →
      EndsReplay came end middle.err err → EndFailsOnlyIfRose came end middle_errs errs → nothing_or (Repeat plan journal) old after turns end
  repeated (replays.Finished finish) turns end begun answered counts so cause =
      let same : GainsText old.err err (replay_of plan journal).sent.err = subst (λ (e : Option (List ℕ)). GainsText old.err e (replay_of plan journal).sent.err) (sym so.1) answered.1.to_err in
      inr (subst (λ (e : End). AnswersReplay (Repeat plan journal) old after turns e) (sym so.0)
      (record { over = answered.0; wrote = record { to_out = answered.1.to_out; to_err = same }; rest = rest_stands }))
  repeated (replays.Diverged turn wanted found) turns end begun answered counts so cause =
      inr (diverged turns turn wanted found end answered.0 answered.1.to_out answered.1.to_err counts.err_stays so cause)
  repeated replays.Start turns end begun answered counts so cause = absurd (begun refl)
  repeated replays.WriteFault turns end begun answered counts so cause =
      let rose : Rose old.out_faults outs ⊎ Rose old.err_faults errs =
      subst (λ n. Rose old.out_faults outs ⊎ Rose old.err_faults n) (sym cause) counts.rose in
      inr (subst (λ (e : End). AnswersReplay (Repeat plan journal) old after turns e) (sym so.0) (inl (record { stopped = stopped turns so.1 answered; rest = rest_stands }, rose)))
  repeated replays.NoMemory turns end begun answered counts so cause =
      elim answered as (λ _. nothing_or (Repeat plan journal) old after turns end) [
        | inl unbegun ↦ inl (so.0, nothing_so old turns middle err outs errs unbegun.none unbegun.same so.1)
        | inr part ↦
            inr (subst (λ (e : End). AnswersReplay (Repeat plan journal) old after turns e) (sym so.0) (inl (record { stopped = stopped turns so.1 part; rest = rest_stands })))
      ]

  -- the journal's words are too long
  unbegun_so : (came : ReplayEnd) (turns : ℕ) (end : End) → came ≡ replays.Start → Answered came turns → StopsOnlyIfRose came old.out_faults outs old.err_faults middle_errs →
      EndsReplay came end middle.err err → EndFailsOnlyIfRose came end middle_errs errs → AnswersReplay (RefuseReplay Start) old after turns end
  unbegun_so replays.Start turns end is answered counts so cause =
      refused_so Start end old turns middle err outs middle_errs errs answered.none answered.same counts.out_stays counts.err_stays so cause
  unbegun_so (replays.Finished finish) turns end is answered counts so cause = absurd cc
  unbegun_so (replays.Diverged turn wanted found) turns end is answered counts so cause = absurd cc
  unbegun_so replays.WriteFault turns end is answered counts so cause = absurd cc
  unbegun_so replays.NoMemory turns end is answered counts so cause = absurd cc

  -- by whether the words fit
  by_size : (came : ReplayEnd) (turns : ℕ) (end : End) (long : Bool) → nat_lt start_limit (start_size journal.args journal.env) ≡ long →
      ((came ≡ replays.Start) ↔ (start_limit < start_size journal.args journal.env)) → Answered came turns →
      StopsOnlyIfRose came old.out_faults outs old.err_faults middle_errs → EndsReplay came end middle.err err → EndFailsOnlyIfRose came end middle_errs errs →
      nothing_or (cond long (RefuseReplay Start) (Repeat plan journal)) old after turns end
  by_size came turns end true is starts answered counts so cause =
      inr (unbegun_so came turns end (starts.1 (ltb-true start_limit (start_size journal.args journal.env) is)) answered counts so cause)
  by_size came turns end false is starts answered counts so cause =
      let fits : start_size journal.args journal.env ≤ start_limit = ltb-false start_limit (start_size journal.args journal.env) is in
      repeated came turns end (λ start. let long : start_limit < start_size journal.args journal.env = starts.0 start in absurd (omega (arith, fits, long))) answered counts so cause

-- A journal was replayed, and the answer says so.
pub replied : (plan : Plan) (reading : Result Kept ℕ) (came : ReplayEnd) (turns : ℕ) (end : End) (old : Seen) (middle : Written) (err : Option (List ℕ)) (outs middle_errs errs : ℕ) →
    Replays plan reading (Ok (record { end = came; turns = turns })) (outputs old) middle → StopsOnlyIfRose came old.out_faults outs old.err_faults middle_errs →
    EndsReplay came end middle.err err → EndFailsOnlyIfRose came end middle_errs errs →
    nothing_or (asked_of_reading plan reading) old (after_outputs old middle.out err outs errs) turns end
replied plan reading came turns end old middle err outs middle_errs errs replayed counts so cause =
    let journal = replayed.0 in
    subst (λ (r : Result Kept ℕ). nothing_or (asked_of_reading plan r) old (after_outputs old middle.out err outs errs) turns end) (sym replayed.1)
    (by_size plan journal old middle err outs middle_errs errs came turns end (nat_lt start_limit (start_size journal.args journal.env)) refl replayed.3 replayed.2 counts so cause)

-- None was replayed.
pub unreplied : (plan : Plan) (reading : Result Kept ℕ) (reason : NotRun) (end : End) (old : Seen) (middle : Written) (err : Option (List ℕ)) (outs middle_errs errs : ℕ) →
    Replays plan reading (Err reason) (outputs old) middle → CountsStay old.out_faults outs old.err_faults middle_errs →
    EndsWithoutRun reason end middle.err err → LineFailsOnlyIfRose end middle_errs errs →
    nothing_or (asked_of_reading plan reading) old (after_outputs old middle.out err outs errs) 0 end
unreplied plan reading (reasons.Refused (Journal at)) end old middle err outs middle_errs errs none counts so cause =
    inr (subst (λ (r : Result Kept ℕ). AnswersReplay (asked_of_reading plan r) old (after_outputs old middle.out err outs errs) 0 end) (sym none.0)
    (refused_so (Journal at) end old 0 middle err outs middle_errs errs refl none.1 counts.out_stays counts.err_stays so cause))
unreplied plan reading (reasons.Refused (Missing file)) end old middle err outs middle_errs errs none counts so cause = absurd none
unreplied plan reading (reasons.Refused (TooLong file)) end old middle err outs middle_errs errs none counts so cause = absurd none
unreplied plan reading (reasons.Refused (Usage word)) end old middle err outs middle_errs errs none counts so cause = absurd none
unreplied plan reading (reasons.Refused (Elf rule)) end old middle err outs middle_errs errs none counts so cause = absurd none
unreplied plan reading (reasons.Refused (Image broken)) end old middle err outs middle_errs errs none counts so cause = absurd none
unreplied plan reading (reasons.Refused (Schedule broken)) end old middle err outs middle_errs errs none counts so cause = absurd none
unreplied plan reading (reasons.Refused Start) end old middle err outs middle_errs errs none counts so cause = absurd none
unreplied plan reading reasons.ReadFault end old middle err outs middle_errs errs none counts so cause = absurd none
unreplied plan reading reasons.NoMemory end old middle err outs middle_errs errs none counts so cause =
    inl (so.0, nothing_so old 0 middle err outs errs refl none so.1)

-- The counts of faults

diverged_faults : (turn wanted found : ℕ) (end : End) (old new : Seen) (text then : Option (List ℕ)) → EndsDiverged turn wanted found end text then →
    LineFailsOnlyIfRose end old.err_faults new.err_faults → new.read_faults ≡ old.read_faults → new.out_faults ≡ old.out_faults → new.load_faults ≡ old.load_faults →
    new.store.write_faults ≡ old.store.write_faults → TellsFaults end old new
diverged_faults turn wanted found (Diverged t w f) old new text then so cause reads outs loads writes =
    record { reads = reads; outs = outs; errs = cause; loads = loads; writes = writes }
diverged_faults turn wanted found WriteFault old new text then so cause reads outs loads writes = inr (inl cause)
diverged_faults turn wanted found NoMemory old new text then so cause reads outs loads writes =
    record { reads = reads; outs = outs; errs = cause; loads = loads; writes = writes }
diverged_faults turn wanted found ReadFault old new text then so cause reads outs loads writes = absurd so
diverged_faults turn wanted found (Refused refusal) old new text then so cause reads outs loads writes = absurd so
diverged_faults turn wanted found (Soaked finish) old new text then so cause reads outs loads writes = absurd so
diverged_faults turn wanted found (Replayed finish) old new text then so cause reads outs loads writes = absurd so
diverged_faults turn wanted found (Exited status) old new text then so cause reads outs loads writes = absurd so
diverged_faults turn wanted found (Killed signal) old new text then so cause reads outs loads writes = absurd so
diverged_faults turn wanted found Budget old new text then so cause reads outs loads writes = absurd so
diverged_faults turn wanted found Blocked old new text then so cause reads outs loads writes = absurd so

pub replied_faults : (came : ReplayEnd) (end : End) (old new : Seen) (middle_errs : ℕ) (text then : Option (List ℕ)) → StopsOnlyIfRose came old.out_faults new.out_faults old.err_faults middle_errs →
    EndsReplay came end text then → EndFailsOnlyIfRose came end middle_errs new.err_faults → new.read_faults ≡ old.read_faults → new.load_faults ≡ old.load_faults →
    new.store.write_faults ≡ old.store.write_faults → TellsFaults end old new
replied_faults (replays.Finished finish) end old new middle_errs text then counts so cause reads loads writes =
    subst (λ (e : End). TellsFaults e old new) (sym so.0)
    (record { reads = reads; outs = counts.out_stays; errs = cause ∙ counts.err_stays; loads = loads; writes = writes })
replied_faults (replays.Diverged turn wanted found) end old new middle_errs text then counts so cause reads loads writes =
    diverged_faults turn wanted found end old new text then so (subst (λ n. LineFailsOnlyIfRose end n new.err_faults) counts.err_stays cause) reads counts.out_stays loads writes
replied_faults replays.Start end old new middle_errs text then counts so cause reads loads writes =
    line_faults Start end old new text then so (subst (λ n. LineFailsOnlyIfRose end n new.err_faults) counts.err_stays cause) reads counts.out_stays loads writes
replied_faults replays.WriteFault end old new middle_errs text then counts so cause reads loads writes =
    let rose : Rose old.out_faults new.out_faults ⊎ Rose old.err_faults new.err_faults =
    subst (λ n. Rose old.out_faults new.out_faults ⊎ Rose old.err_faults n) (sym cause) counts.rose in
    subst (λ (e : End). TellsFaults e old new) (sym so.0) (elim rose as (λ _. TellsFaults WriteFault old new) [ inl out ↦ inl out | inr err ↦ inr (inl err) ])
replied_faults replays.NoMemory end old new middle_errs text then counts so cause reads loads writes =
    subst (λ (e : End). TellsFaults e old new) (sym so.0)
    (record { reads = reads; outs = counts.out_stays; errs = cause ∙ counts.err_stays; loads = loads; writes = writes })

-- no count fell
pub counts_later : (came : ReplayEnd) (out out_then err err_then : ℕ) → StopsOnlyIfRose came out out_then err err_then → (out ≤ out_then) × (err ≤ err_then)
counts_later (replays.Finished finish) out out_then err err_then counts = (omega (arith, counts.out_stays), omega (arith, counts.err_stays))
counts_later (replays.Diverged turn wanted found) out out_then err err_then counts = (omega (arith, counts.out_stays), omega (arith, counts.err_stays))
counts_later replays.Start out out_then err err_then counts = (omega (arith, counts.out_stays), omega (arith, counts.err_stays))
counts_later replays.WriteFault out out_then err err_then counts = (counts.out_later, counts.err_later)
counts_later replays.NoMemory out out_then err err_then counts = (omega (arith, counts.out_stays), omega (arith, counts.err_stays))

-- A line

not_both : {P : Type 0} (end : End) → end ≡ NoMemory → end ≡ ReadFault → P
not_both end memory fault = absurd cc

-- nothing but loads was done

only_loaded : (line : ReplayLine) (end : End) (old : Seen) (err : Option (List ℕ)) (errs loads : ℕ) (store : Stored) → StopsAtReplayStage line end old.store store →
    (end ≡ ReadFault → Rose old.load_faults loads) → err ≡ old.err → StopsUnbegun line old (record old { err = err; err_faults = errs; load_faults = loads; store = store }) 0 end
only_loaded line end old err errs loads store at_stage cause same = record {
  at_stage = at_stage;
  cause = cause;
  nothing = record { no_turn = refl; untaken = refl; wrote = record { to_out = GainsText-nothing old.out; to_err = unchanged old.err err same }; stands = refl };
}

pub unbegun : (line : ReplayLine) (reason : NotRun) (end : End) (old : Seen) (err : Option (List ℕ)) (errs loads : ℕ) (store : Stored) → IsLoadedFor line old.store.files (Err reason) →
    EndsWithoutRun reason end old.err err → LineFailsOnlyIfRose end old.err_faults errs → LoadsBoth {T = Loaded} line (Err reason) old.store store →
    ReasonOnlyIfRose {T = Loaded} (Err reason) old.load_faults loads →
    AnswersReplayReading (AsksReplay line) old (record old { err = err; err_faults = errs; load_faults = loads; store = store }) 0 end
unbegun line (reasons.Refused refusal) end old err errs loads store is so cause loaded rose =
    inr (RefuseReplay refusal, is, refused refusal end (once_replay_loaded (RefuseReplay refusal) line old) err errs loads store so cause loaded)
unbegun line reasons.ReadFault end old err errs loads store is so cause loaded rose =
    inl (only_loaded line end old err errs loads store (inl (so.0, loaded)) (λ fault. rose) so.1)
unbegun line reasons.NoMemory end old err errs loads store is so cause loaded rose =
    inl (only_loaded line end old err errs loads store (inr (so.0, loaded)) (λ fault. not_both end so.0 fault) so.1)

-- what both loads make of the store is what comes before what is asked for
loaded_sized : (line : ReplayLine) (plan : Plan) (journal : Kept) (old new : Seen) (turns : ℕ) (end : End) (long : Bool) →
    AnswersReplay (cond long (RefuseReplay Start) (Repeat plan journal)) (record old { store = after_loads old.store (both_names line) [] }) new turns end →
    AnswersReplay (cond long (RefuseReplay Start) (Repeat plan journal)) (once_replay_loaded (cond long (RefuseReplay Start) (Repeat plan journal)) line old) new turns end
loaded_sized line plan journal old new turns end true answer = answer
loaded_sized line plan journal old new turns end false answer = answer

loaded_all : (line : ReplayLine) (plan : Plan) (reading : Result Kept ℕ) (old new : Seen) (turns : ℕ) (end : End) →
    AnswersReplay (asked_of_reading plan reading) (record old { store = after_loads old.store (both_names line) [] }) new turns end →
    AnswersReplay (asked_of_reading plan reading) (once_replay_loaded (asked_of_reading plan reading) line old) new turns end
loaded_all line plan (Err at) old new turns end answer = answer
loaded_all line plan (Ok journal) old new turns end answer =
    loaded_sized line plan journal old new turns end (nat_lt start_limit (start_size journal.args journal.env)) answer

-- both files were loaded
pub begun : (line : ReplayLine) (plan : Plan) (text : List ℕ) (old new : Seen) (turns : ℕ) (end : End) (loads : ℕ) (store : Stored) → HasProgram old.store.files line.program → ReplayAsksFor line old.store.files (asked_of_reading plan (reading_of text)) →
    store ≡ after_loads old.store (both_names line) [] → loads ≡ old.load_faults → nothing_or (asked_of_reading plan (reading_of text)) (record old { load_faults = loads; store = store }) new turns end →
    AnswersReplayReading (AsksReplay line) old new turns end
begun line plan text old new turns end loads store program asks loaded same answer =
    let there : nothing_or (asked_of_reading plan (reading_of text)) (record old { store = after_loads old.store (both_names line) [] }) new turns end =
    subst (λ (s : Stored). nothing_or (asked_of_reading plan (reading_of text)) (record old { store = s }) new turns end) loaded
    (subst (λ (n : ℕ). nothing_or (asked_of_reading plan (reading_of text)) (record old { load_faults = n; store = store }) new turns end) same answer) in
    elim there as (λ _. AnswersReplayReading (AsksReplay line) old new turns end) [
      | inl memory ↦ inl (record {
        at_stage = inr (memory.0, record { stage = AtJournal; in_order = program; stands = inr memory.1.stands });
        cause = λ fault. not_both end memory.0 fault;
        nothing = record {
          no_turn = memory.1.no_turn;
          untaken = memory.1.untaken;
          wrote = record { to_out = memory.1.wrote.to_out; to_err = memory.1.wrote.to_err };
          stands = refl;
        };
      })
      | inr is ↦
          inr (asked_of_reading plan (reading_of text), asks, loaded_all line plan (reading_of text) old new turns end is)
    ]

-- A replay is asked for

replay_end_of : (plan : Plan) (journal : Kept) (old new : Seen) (turns : ℕ) (end : End) → AnswersReplay (Repeat plan journal) old new turns end →
    (Rose old.out_faults new.out_faults → ⊥) → (Rose old.err_faults new.err_faults → ⊥) → (end ≡ NoMemory) ⊎ IsReplayEnd plan journal turns end
replay_end_of plan journal old new turns (Soaked finish) answer out err = absurd answer
replay_end_of plan journal old new turns (Replayed finish) answer out err = inr answer.over
replay_end_of plan journal old new turns (Diverged turn wanted found) answer out err = inr answer.met
replay_end_of plan journal old new turns NoMemory answer out err = inl refl
replay_end_of plan journal old new turns WriteFault answer out err =
    elim answer as (λ _. (WriteFault ≡ NoMemory) ⊎ IsReplayEnd plan journal turns WriteFault) [
      | inl part ↦ absurd (elim part.1 [ inl rose ↦ out rose | inr rose ↦ err rose ])
      | inr line ↦ absurd (err line.1)
    ]
replay_end_of plan journal old new turns ReadFault answer out err = absurd answer
replay_end_of plan journal old new turns (Refused given) answer out err = absurd answer
replay_end_of plan journal old new turns (Exited status) answer out err = absurd answer
replay_end_of plan journal old new turns (Killed signal) answer out err = absurd answer
replay_end_of plan journal old new turns Budget answer out err = absurd answer
replay_end_of plan journal old new turns Blocked answer out err = absurd answer

-- what is asked for is that replay
asks_replay : (words : List (List ℕ)) (told : Option Files) (replay : AsksForReplay words told) (asked : ReplayAsked) → ReplayAsksFor replay.line (Some replay.files) asked →
    asked ≡ Repeat (plan_of replay.bytes) replay.journal
asks_replay words told replay asked asks =
    let plan = plan_of replay.bytes in
    let of : ReplayAsksUnless replay.line (Some replay.files) replay.bytes None asked =
    subst (λ f. ReplayAsksUnless replay.line (Some replay.files) replay.bytes f asked) replay.formed
    (subst (λ f. ReplayAsksOf replay.line (Some replay.files) f asked) (asks.1 ∙ replay.found) asks.2) in
    of.2
    ∙ (ap (λ f. asked_of_found plan f) (of.1 ∙ replay.found_too)
    ∙ (ap (λ r. asked_of_reading plan r) replay.read
    ∙ ap (λ b. cond b (RefuseReplay Start) (Repeat plan replay.journal)) (le-ltb start_limit (start_size replay.journal.args replay.journal.env) replay.fits)))

before_end : (P : Type 0) (line : ReplayLine) (end : End) (old new : Stored) → StopsAtReplayStage line end old new → (end ≡ ReadFault → ⊥) → (end ≡ NoMemory) ⊎ P
before_end P line end old new at_stage read =
    elim at_stage as (λ _. (end ≡ NoMemory) ⊎ P) [
      | inl fault ↦ absurd (read fault.0)
      | inr memory ↦ inl memory.0
    ]

-- Where a replay is asked for and no count rose, the answer is how it is over, unless memory ran out.
pub reading_complete : (words : List (List ℕ)) (old new : Seen) (turns : ℕ) (end : End) (replay : AsksForReplay words old.store.files) → AnswersReplayWords words old new turns end →
    (Rose old.load_faults new.load_faults → ⊥) → (Rose old.out_faults new.out_faults → ⊥) → (Rose old.err_faults new.err_faults → ⊥) →
    (end ≡ NoMemory) ⊎ EndsAsReplay words old.store.files replay turns end
reading_complete words old new turns end replay answer load out err =
    let line = replay.line in
    let known : AnswersReplayReading (AsksReplay line) old new turns end = subst (λ r. AnswersReplayReading r old new turns end) replay.in_order answer in
    elim known as (λ _. (end ≡ NoMemory) ⊎ EndsAsReplay words old.store.files replay turns end) [
      | inl early ↦ before_end (EndsAsReplay words old.store.files replay turns end) line end old.store new.store early.at_stage (λ fault. load (early.cause fault))
      | inr asked ↦
          let this : ReplayAsked = Repeat (plan_of replay.bytes) replay.journal in
          let is : asked.0 ≡ this = asks_replay words old.store.files replay asked.0 (subst (λ f. ReplayAsksFor line f asked.0) replay.is_told asked.1) in
          replay_end_of (plan_of replay.bytes) replay.journal (once_replay_loaded this line old) new turns end
          (subst (λ a. AnswersReplay a (once_replay_loaded a line old) new turns end) is asked.2) out err
    ]

-- A replay changes no file

asked_files : (line : ReplayLine) (old new : Seen) (turns : ℕ) (end : End) (asked : ReplayAsked) → AnswersReplay asked (once_replay_loaded asked line old) new turns end →
    new.store.files ≡ old.store.files
asked_files line old new turns end (RefuseReplay refusal) answer =
    refusal_files refusal (once_replay_loaded (RefuseReplay refusal) line old) new turns end answer
asked_files line old new turns (Soaked finish) (Repeat plan journal) answer = absurd answer
asked_files line old new turns (Replayed finish) (Repeat plan journal) answer = ap (λ (s : Stored). s.files) answer.rest.stands
asked_files line old new turns (Diverged turn wanted found) (Repeat plan journal) answer = ap (λ (s : Stored). s.files) answer.rest.stands
asked_files line old new turns WriteFault (Repeat plan journal) answer =
    elim answer as (λ _. new.store.files ≡ old.store.files) [
      | inl part ↦ ap (λ (s : Stored). s.files) part.0.rest.stands
      | inr at_line ↦ ap (λ (s : Stored). s.files) at_line.0.rest.stands
    ]
asked_files line old new turns NoMemory (Repeat plan journal) answer =
    elim answer as (λ _. new.store.files ≡ old.store.files) [
      | inl part ↦ ap (λ (s : Stored). s.files) part.rest.stands
      | inr at_line ↦ ap (λ (s : Stored). s.files) at_line.rest.stands
    ]
asked_files line old new turns ReadFault (Repeat plan journal) answer = absurd answer
asked_files line old new turns (Refused given) (Repeat plan journal) answer = absurd answer
asked_files line old new turns (Exited status) (Repeat plan journal) answer = absurd answer
asked_files line old new turns (Killed signal) (Repeat plan journal) answer = absurd answer
asked_files line old new turns Budget (Repeat plan journal) answer = absurd answer
asked_files line old new turns Blocked (Repeat plan journal) answer = absurd answer

-- loads change no file
stage_files : (line : ReplayLine) (end : End) (old new : Stored) → StopsAtReplayStage line end old new → new.files ≡ old.files
stage_files line end old new at_stage =
    elim at_stage as (λ _. new.files ≡ old.files) [
      | inl fault ↦ ap (λ (s : Stored). s.files) fault.1.stands
      | inr memory ↦
          elim memory.1.stands as (λ _. new.files ≡ old.files) [
            | inl before ↦ ap (λ (s : Stored). s.files) before
            | inr behind ↦ ap (λ (s : Stored). s.files) behind
          ]
    ]

-- a replay changes no file
pub replay_files : (reading : ReplayReading) (old new : Seen) (turns : ℕ) (end : End) → AnswersReplayReading reading old new turns end → new.store.files ≡ old.store.files
replay_files (WrongReplayAt word) old new turns end answer = refusal_files (Usage word) old new turns end answer
replay_files (AsksReplay line) old new turns end answer =
    elim answer as (λ _. new.store.files ≡ old.store.files) [
      | inl early ↦ stage_files line end old.store new.store early.at_stage
      | inr asked ↦ asked_files line old new turns end asked.0 asked.2
    ]
