-- The journal that a run leaves in the file that is named for it. This project's own.
use Rattle.std.specs.Prelude.{ℕ, List, Option, Some, Ok}
use Rattle.outside.specs.Files.{Files, HasFile}
use Rattle.elf_image.specs.Loading.{plan_of}
use Rattle.journal.specs.Text.{Kept, text_of}
use Rattle.kernel_core.specs.declared.finish.Finish.{Finish}
use Rattle.kernel_core.specs.declared.tree.Tree.{Tree}
use Rattle.turn_records.specs.Run.{IsJournalOfRun}
use Rattle.session_files.specs.Inputs.{IsOpened, names_of}
use Rattle.o32_session.specs.Asked.{arguments_of, first_machine, stack_chance}
use Rattle.o32_session.specs.Session.{AsksForRun}

-- The file has the text of a journal, in the form that is asked of one: the journal of the run that the words ask for, beside the image's tree, over
-- this input, which is over so after these turns.
pub record LeavesJournal (words : List (List ℕ)) (told : Option Files) (run : AsksForRun words told) (left : List ℕ) (turns : ℕ) (finish : Finish) (name : List ℕ) (new : Option Files) : Type 0 where
  pub tree : Tree
  pub opened : IsOpened (Some run.files) (names_of words run.line).image (Ok tree)
  pub journal : Kept
  pub of_run : IsJournalOfRun run.schedule.quantum (first_machine (plan_of run.bytes) (arguments_of words run.line) run.line.environment tree run.schedule) left run.line.budget turns finish
      (arguments_of words run.line) run.line.environment (stack_chance run.schedule) journal
  pub file : HasFile new name (text_of journal)
