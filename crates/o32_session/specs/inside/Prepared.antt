-- How the steps before a run stand for what is asked for.
use Rattle.std.specs.Prelude.{ℕ, ◌≡◌, ⊤, List, Option, Result, Ok, Err}
use Rattle.outside.specs.Files.{Files}
use Rattle.o32_session.specs.Words.{Line, Reading, Asks, WrongAt}
use Rattle.o32_session.specs.Asked.{Asked, Refuse, Run, AsksFor}
use Rattle.session_files.specs.declared.refusal.Refusal.TheVariants as refusals
use Rattle.session_files.specs.declared.not_run.NotRun.{NotRun}
use Rattle.session_files.specs.declared.not_run.NotRun.TheVariants.{Refused, ReadFault, NoMemory}
use Rattle.o32_session.specs.declared.prepare.Ready.{Ready}

-- The first machine

-- why there is no first machine of a plan: the arguments are too long, unless memory ran out
abbrev pub IsStartReason : Asked → NotRun → Type 0
IsStartReason asked (Refused refusals.Start) = asked ≡ Refuse refusals.Start
IsStartReason asked (Refused _) = ⊥
IsStartReason asked ReadFault = ⊥
IsStartReason asked NoMemory = ⊤

-- what is asked for by a line is ready, with the indices of the files that its tree is saved to and that its texts are written to
abbrev pub IsPreparedLine : List (List ℕ) → Line → Option Files → Result Ready NotRun → Type 0
IsPreparedLine words line told (Ok ready) =
    AsksFor words line told (Run ready.emulator.quantum ready.emulator.machine ready.budget ready.front.items)
    × ((ready.save ≡ line.save) × ((ready.trace ≡ line.trace) × ((ready.native ≡ line.native) × (ready.journal ≡ line.journal))))
IsPreparedLine words line told (Err (Refused refusal)) = AsksFor words line told (Refuse refusal)
IsPreparedLine words line told (Err ReadFault) = ⊤
IsPreparedLine words line told (Err NoMemory) = ⊤

-- the same by the reading of the words: wrong ones are refused before any load
abbrev pub IsPrepared : List (List ℕ) → Reading → Option Files → Result Ready NotRun → Type 0
IsPrepared words (WrongAt word) told (Ok ready) = ⊥
IsPrepared words (WrongAt word) told (Err (Refused refusal)) = refusal ≡ refusals.Usage word
IsPrepared words (WrongAt word) told (Err ReadFault) = ⊥
IsPrepared words (WrongAt word) told (Err NoMemory) = ⊤
IsPrepared words (Asks line) told result = IsPreparedLine words line told result
