-- What the files of a run come to.
use Rattle.std.proofs.Common.{Option, Ok, Err}
use Rattle.outside.specs.Files.{Files}
use Rattle.elf_image.specs.declared.load_plan.Plan.{Plan}
use Rattle.kernel_core.specs.declared.tree.Tree.{Tree}
use Rattle.session_files.specs.Inputs.{Names}
use Rattle.session_files.specs.Steps.{AreInputs, AreLoaded, IsPlanOf, IsPlanned, IsScheduledAs, IsTree, at_image, at_program, at_schedule}
use Rattle.session_files.specs.Unrun.{AreInOrder}
use Rattle.session_files.specs.Saved.{AtMachine}
use Rattle.session_files.specs.declared.inputs.Inputs.{Inputs}
use Rattle.session_files.specs.declared.not_run.NotRun.{NotRun}
use Rattle.session_files.specs.declared.not_run.NotRun.TheVariants.{Refused, ReadFault, NoMemory}
use Rattle.session_files.proofs.Loading.{program_is}

-- there is no plan
pub no_plan : (told : Option Files) (names : Names) (reason : NotRun) → IsPlanned told names.program (Err reason) → AreInputs told names (Err reason)
no_plan told names (Refused refusal) is = at_program is
no_plan told names ReadFault is = tt
no_plan told names NoMemory is = tt

-- there is no tree
pub no_tree : (told : Option Files) (names : Names) (plan : Plan) (reason : NotRun) → IsPlanOf told names.program plan → IsTree told names.image (Err reason) →
    AreInputs told names (Err reason)
no_tree told names plan (Refused refusal) is image = at_image plan is image
no_tree told names plan ReadFault is image = tt
no_tree told names plan NoMemory is image = tt

-- there is no schedule
pub no_schedule : (told : Option Files) (names : Names) (plan : Plan) (tree : Tree) (reason : NotRun) → IsPlanOf told names.program plan →
    IsTree told names.image (Ok tree) → IsScheduledAs told names.schedule (Err reason) → AreInputs told names (Err reason)
no_schedule told names plan tree (Refused refusal) is image scheduled = at_schedule plan tree is image.0 scheduled
no_schedule told names plan tree ReadFault is image scheduled = tt
no_schedule told names plan tree NoMemory is image scheduled = tt

-- all files are in order before the first machine
pub in_order : (told : Option Files) (names : Names) (inputs : Inputs) → AreLoaded told names inputs → AreInOrder AtMachine names told
in_order told names inputs is = (program_is told names.program inputs.plan is.plan, (inputs.tree, is.tree), (inputs.schedule, is.schedule))
