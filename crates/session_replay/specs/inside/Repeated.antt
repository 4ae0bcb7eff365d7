-- How the steps of a replay stand for what is asked for.
use Rattle.std.specs.Prelude.{ℕ, ◌≡◌, ◌<◌, ⊤, ◌↔◌, List, [], Result, Ok, Err, Option}
use Rattle.outside.specs.Files.{Files}
use Rattle.elf_image.specs.Loading.{IsValidPlan}
use Rattle.elf_image.specs.declared.load_plan.Plan.{Plan}
use Rattle.start_stack.specs.Stack.{start_size, start_limit}
use Rattle.journal.specs.Text.{Kept}
use Rattle.journal.specs.Reading.{reading_of}
use Rattle.replay_core.specs.Answered.{Written, AnswersBy, CountsStay, StopsOnlyIfRose}
use Rattle.replay_core.specs.Whole.{last_of, start_of}
use Rattle.replay_core.specs.declared.answer.ReplayAnswer.{ReplayAnswer}
use Rattle.replay_core.specs.declared.answer.ReplayEnd.{ReplayEnd}
use Rattle.replay_core.specs.declared.answer.ReplayEnd.TheVariants as replays
use Rattle.stored_files.specs.Stored.{Stored}
use Rattle.session_files.specs.Inputs.{HasProgram}
use Rattle.session_files.specs.Saved.{after_loads}
use Rattle.session_words.specs.Words as Words
use Rattle.session_replay.specs.Replayed.{RefuseReplay, ReplayAsksFor, ReplayFailsToLoad, ReplayWantsMemory, asked_of_reading, both_names, replay_loaded_by, replay_turned_by}
use Rattle.session_files.specs.Steps.{EndsDiverged, EndsRefused, LineFailsOnlyIfRose}
use Rattle.session_replay.specs.declared.replay.Loaded.{Loaded}
use Rattle.session_files.specs.declared.not_run.NotRun.{NotRun}
use Rattle.session_files.specs.declared.not_run.NotRun.TheVariants.{Refused, ReadFault, NoMemory}
use Rattle.session_files.specs.declared.refusal.Refusal.TheVariants as refusals
use Rattle.session_files.specs.declared.end.End.{End}
use Rattle.session_files.specs.declared.end.End.TheVariants as ends

-- The files

-- what was loaded for a line is what it asks for, and its program is in order; a fault or want of memory says nothing
abbrev pub IsLoadedFor : Words.ReplayLine → Option Files → Result Loaded NotRun → Type 0
IsLoadedFor line told (Ok loaded) =
    IsValidPlan loaded.plan × HasProgram told line.program × ReplayAsksFor line told (asked_of_reading loaded.plan (reading_of loaded.bytes.items))
IsLoadedFor line told (Err (Refused refusal)) = ReplayAsksFor line told (RefuseReplay refusal)
IsLoadedFor line told (Err ReadFault) = ⊤
IsLoadedFor line told (Err NoMemory) = ⊤

-- what the loads of a line make of the store
abbrev pub LoadsBoth : {T : Type 0} → Words.ReplayLine → Result T NotRun → Stored → Stored → Type 0
LoadsBoth line (Ok value) old new = new ≡ after_loads old (both_names line) []
LoadsBoth line (Err (Refused refusal)) old new = new ≡ after_loads old (replay_loaded_by line refusal) (replay_turned_by line refusal)
LoadsBoth line (Err ReadFault) old new = ReplayFailsToLoad line old new
LoadsBoth line (Err NoMemory) old new = ReplayWantsMemory line old new

-- The replay

-- a journal was replayed, or its bytes are bad; where it was not replayed nothing was written
abbrev pub Replays : Plan → Result Kept ℕ → Result ReplayAnswer NotRun → Written → Written → Type 0
Replays plan reading (Ok answer) before after =
    (journal : Kept) × (reading ≡ Ok journal)
    × AnswersBy (start_of plan journal) (last_of journal.records).turn (last_of journal.records).finish answer.end answer.turns before after
    × ((answer.end ≡ replays.Start) ↔ (start_limit < start_size journal.args journal.env))
Replays plan reading (Err (Refused (refusals.Journal at))) before after = (reading ≡ Err at) × (after ≡ before)
Replays plan reading (Err (Refused _)) before after = ⊥
Replays plan reading (Err ReadFault) before after = ⊥
Replays plan reading (Err NoMemory) before after = after ≡ before

abbrev pub ReplayFailsOnlyIfRose : Result ReplayAnswer NotRun → ℕ → ℕ → ℕ → ℕ → Type 0
ReplayFailsOnlyIfRose (Ok answer) out out_then err err_then = StopsOnlyIfRose answer.end out out_then err err_then
ReplayFailsOnlyIfRose (Err reason) out out_then err err_then = CountsStay out out_then err err_then

-- The end

-- the end of a session whose replay came to this, and what it wrote on standard error behind what the replay sent
abbrev pub EndsReplay : ReplayEnd → End → Option (List ℕ) → Option (List ℕ) → Type 0
EndsReplay (replays.Finished finish) end old new = (end ≡ ends.Replayed finish) × (new ≡ old)
EndsReplay (replays.Diverged turn wanted found) end old new = EndsDiverged turn wanted found end old new
EndsReplay replays.Start end old new = EndsRefused refusals.Start end old new
EndsReplay replays.WriteFault end old new = (end ≡ ends.WriteFault) × (new ≡ old)
EndsReplay replays.NoMemory end old new = (end ≡ ends.NoMemory) × (new ≡ old)

-- when the count of standard error rose by it
abbrev pub EndFailsOnlyIfRose : ReplayEnd → End → ℕ → ℕ → Type 0
EndFailsOnlyIfRose (replays.Finished finish) end before now = now ≡ before
EndFailsOnlyIfRose (replays.Diverged turn wanted found) end before now = LineFailsOnlyIfRose end before now
EndFailsOnlyIfRose replays.Start end before now = LineFailsOnlyIfRose end before now
EndFailsOnlyIfRose replays.WriteFault end before now = now ≡ before
EndFailsOnlyIfRose replays.NoMemory end before now = now ≡ before
