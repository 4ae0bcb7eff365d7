-- How what follows a run stands for the answer.
use Rattle.std.specs.Prelude.{ℕ, ◌≡◌, ◌⊎◌, List, Option, Some, None, Result, Ok, Err}
use Rattle.outside.specs.Count.{Rose}
use Rattle.kernel_core.specs.declared.finish.Finish.{Finish}
use Rattle.kernel_core.specs.declared.tree.Tree.{Tree}
use Rattle.o32_runner.specs.Emulators.{Emulated}
use Rattle.stored_files.specs.Stored.{Stored}
use Rattle.session_files.specs.Saved.{SavesTree, SavesTreeInPart}
use Rattle.o32_session.specs.Session.{final_tree}
use Rattle.session_files.specs.Ends.{end_of}
use Rattle.o32_session.specs.declared.answer.Answer.{Answer}
use Rattle.session_files.specs.declared.save.SaveError.{SaveError}
use Rattle.session_files.specs.declared.end.End.TheVariants as ends

-- the final tree was saved where a file is named for it, or at most a part of it
abbrev pub SavesOrStops : Option (List ℕ) → Tree → Result (Unit {0}) SaveError → Stored → Stored → Type 0
SavesOrStops name tree (Ok done) old new = SavesTree name tree old new
SavesOrStops name tree (Err error) old new = SavesTreeInPart name tree old new

-- the answer of a run that is over so: the emulator is handed out, and its final tree was saved
pub record HasFinished (name : Option (List ℕ)) (emulated : Emulated) (finish : Finish) (answer : Answer) (old new : Stored) : Type 0 where
  pub end : answer.end ≡ end_of finish
  pub turns : answer.turns ≡ emulated.turns
  pub host : answer.host ≡ Some emulated
  pub writes : new.write_faults ≡ old.write_faults
  pub saves : SavesTree name (final_tree emulated.machine) old new

-- or it could not be saved whole
pub record HasFailed (name : Option (List ℕ)) (emulated : Emulated) (answer : Answer) (old new : Stored) : Type 0 where
  pub end : ((answer.end ≡ ends.WriteFault) × Rose old.write_faults new.write_faults)
      ⊎ ((answer.end ≡ ends.NoMemory) × (new.write_faults ≡ old.write_faults))
  pub turns : answer.turns ≡ emulated.turns
  pub host : answer.host ≡ None
  pub saves : SavesTreeInPart name (final_tree emulated.machine) old new

abbrev pub AnswersRun : Option (List ℕ) → Emulated → Finish → Answer → Stored → Stored → Type 0
AnswersRun name emulated finish answer old new = HasFinished name emulated finish answer old new ⊎ HasFailed name emulated answer old new
