-- What becomes of the final tree.
use Rattle.std.proofs.Common.{◌≡◌, ℕ, List, Option, Some, None, Result, Ok, Err, OnOk, OnErr, inl, inr, subst}
use Rattle.kernel_core.specs.ValidTree.{IsValidTree}
use Rattle.kernel_core.specs.declared.tree.Tree.{Tree}
use Rattle.fs_image.specs.Text.{text_of}
use Rattle.o32_runner.specs.Emulators.{Emulated}
use Rattle.session_files.specs.Saved.{SavesPart}
use Rattle.stored_files.specs.Stored.{SavesText, Stored}
use Rattle.o32_session.specs.Session.{final_tree}
use Rattle.session_files.specs.Ends.{end_of_error}
use Rattle.o32_session.specs.inside.Runs.{HasFailed, SavesOrStops}
use Rattle.session_files.specs.Steps.{SaveFailsOnlyIfRose}
use Rattle.o32_session.specs.declared.answer.Answer.{Answer}
use Rattle.session_files.specs.declared.save.SaveError.{SaveError}
use Rattle.session_files.specs.declared.save.SaveError.TheVariants.{NoImage, Failed, NoMemory}

saves_it : (name : List ℕ) (tree : Tree) (result : Result (Unit {0}) SaveError) (old new : Stored) → IsValidTree tree → OnOk result (SavesText name (text_of tree) old new) → OnErr result (SavesPart name (text_of tree) old new)
    → SavesOrStops (Some name) tree result old new
saves_it name tree (Ok done) old new valid whole part = (valid, whole)
saves_it name tree (Err error) old new valid whole part = part

pub saves_so : (name : List ℕ) (tree final : Tree) (result : Result (Unit {0}) SaveError) (old new : Stored) → tree ≡ final → IsValidTree tree → OnOk result (SavesText name (text_of tree) old new)
    → OnErr result (SavesPart name (text_of tree) old new) → SavesOrStops (Some name) final result old new
saves_so name tree final result old new same valid whole part =
    subst (λ (t : Tree). SavesOrStops (Some name) t result old new) same (saves_it name tree result old new valid whole part)

pub failed_so : (name : Option (List ℕ)) (emulated : Emulated) (answer : Answer) (error : SaveError) (old new : Stored) → answer.end ≡ end_of_error error → answer.turns ≡ emulated.turns → answer.host ≡ None
    → SavesOrStops name (final_tree emulated.machine) (Err error) old new → SaveFailsOnlyIfRose {T = Unit {0}} (Err error) old.write_faults new.write_faults → HasFailed name emulated answer old new
failed_so name emulated answer NoImage old new end turns host saves cause = record { end = inr (end, cause); turns = turns; host = host; saves = saves }
failed_so name emulated answer Failed old new end turns host saves cause = record { end = inl (end, cause); turns = turns; host = host; saves = saves }
failed_so name emulated answer NoMemory old new end turns host saves cause = record { end = inr (end, cause); turns = turns; host = host; saves = saves }
