-- What an answer says where nothing is run. This project's own.
use Rattle.session_files.specs.Seen.{Seen, Writes}
use Rattle.stored_files.specs.Stored.{Stored}
use Rattle.std.specs.Prelude.{ℕ, ◌≡◌, ⊤, ◌⊎◌, true, [], ◌++◌, Option, is_some}
use Rattle.outside.specs.Files.{Files}
use Rattle.outside.specs.Count.{Rose}
use Rattle.outside.specs.Output.{GainsText, GainsBetween}
use Rattle.session_files.specs.Inputs.{Names, HasProgram, HasTree, HasSettings}
use Rattle.session_files.specs.Saved.{Stage, AtProgram, AtImage, AtSchedule, AtMachine, after_loads, loaded_before, name_at, named}
use Rattle.session_files.specs.Lines.{line_of}
use Rattle.session_files.specs.declared.refusal.Refusal.{Refusal}
use Rattle.session_files.specs.declared.end.End.{End}
use Rattle.session_files.specs.declared.end.End.TheVariants.{Exited, Killed, Budget, Blocked, Soaked, Replayed, Refused, Diverged, ReadFault, WriteFault, NoMemory}

-- nothing was run, taken, written or saved
pub record DoesNothing (old new : Seen) (turns : ℕ) : Type 0 where
  pub no_turn : turns ≡ 0
  pub untaken : new.left ≡ old.left
  pub wrote : Writes old new [] []
  pub stands : new.store ≡ old.store

-- the refusal was answered, its one line was written, and nothing else was done
pub record Refuses (refusal : Refusal) (old new : Seen) (turns : ℕ) (given : Refusal) : Type 0 where
  pub same : given ≡ refusal
  pub no_turn : turns ≡ 0
  pub untaken : new.left ≡ old.left
  pub wrote : Writes old new [] (line_of refusal)
  pub stands : new.store ≡ old.store

-- the same with at most a part of the line
pub record StopsAtLine (refusal : Refusal) (old new : Seen) (turns : ℕ) : Type 0 where
  pub no_turn : turns ≡ 0
  pub untaken : new.left ≡ old.left
  pub to_out : GainsText old.out new.out []
  pub to_err : GainsBetween old.err new.err [] (line_of refusal)
  pub stands : new.store ≡ old.store

-- What an end says where this refusal is asked for: it writes its line and nothing else. A fault has its cause in the device that it came from.
abbrev pub AnswersRefusal : Refusal → Seen → Seen → ℕ → End → Type 0
AnswersRefusal refusal old new turns (Refused given) = Refuses refusal old new turns given
AnswersRefusal refusal old new turns ReadFault = ⊥
AnswersRefusal refusal old new turns WriteFault = StopsAtLine refusal old new turns × Rose old.err_faults new.err_faults
AnswersRefusal refusal old new turns NoMemory = StopsAtLine refusal old new turns
AnswersRefusal refusal old new turns (Exited status) = ⊥
AnswersRefusal refusal old new turns (Killed signal) = ⊥
AnswersRefusal refusal old new turns Budget = ⊥
AnswersRefusal refusal old new turns Blocked = ⊥
AnswersRefusal refusal old new turns (Soaked finish) = ⊥
AnswersRefusal refusal old new turns (Replayed finish) = ⊥
AnswersRefusal refusal old new turns (Diverged turn wanted found) = ⊥

-- Before a run

-- Before a stage of the steps before a run all files are in order
abbrev pub AreInOrder : Stage → Names → Option Files → Type 0
AreInOrder AtProgram names files = ⊤
AreInOrder AtImage names files = HasProgram files names.program
AreInOrder AtSchedule names files = HasProgram files names.program × HasTree files names.image
AreInOrder AtMachine names files = HasProgram files names.program × HasTree files names.image × HasSettings files names.schedule

-- A load failed at a stage: the files before it were loaded and are in order.
pub record FailsToLoad (names : Names) (old new : Stored) : Type 0 where
  pub stage : Stage
  pub some : is_some (name_at stage names) ≡ true
  pub in_order : AreInOrder stage names old.files
  pub stands : new ≡ after_loads old (loaded_before stage names) []

-- Memory ran out at a stage, before or behind its load: the files before it were loaded and are in order.
pub record WantsMemory (names : Names) (old new : Stored) : Type 0 where
  pub stage : Stage
  pub in_order : AreInOrder stage names old.files
  pub stands : (new ≡ after_loads old (loaded_before stage names) [])
      ⊎ (new ≡ after_loads old (loaded_before stage names ++ named (name_at stage names)) [])

abbrev pub StopsAtStage : Names → End → Stored → Stored → Type 0
StopsAtStage names end old new = ((end ≡ ReadFault) × FailsToLoad names old new) ⊎ ((end ≡ NoMemory) × WantsMemory names old new)

-- Nothing is done but that files are loaded: a load failed, whose count rose, or memory ran out.
pub record StopsEarly (names : Names) (old new : Seen) (turns : ℕ) (end : End) : Type 0 where
  pub at_stage : StopsAtStage names end old.store new.store
  pub cause : end ≡ ReadFault → Rose old.load_faults new.load_faults
  pub nothing : DoesNothing (record old { store = new.store }) new turns
