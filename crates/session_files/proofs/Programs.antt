-- What the file of a program comes to.
use Rattle.std.proofs.Common.{◌≡◌, ℕ, List, Option, None, Result, Ok, Err, IfOk, IfErr, sym, subst}
use Rattle.outside.specs.Files.{Files}
use Rattle.elf_image.specs.Rules.{first_failure}
use Rattle.elf_image.specs.Loading.{plan_of, IsValidPlan}
use Rattle.elf_image.specs.declared.load_plan.Plan.{Plan}
use Rattle.session_files.specs.Inputs.{Bytes, IsFound, program_limit}
use Rattle.session_files.specs.Steps.{IsLoaded, IsElfReason, IsRefusedFor, is_absent, is_long, is_broken, IsPlanned}
use Rattle.session_files.specs.declared.refusal.Refusal.TheVariants.{Usage, Missing, TooLong, Elf, Image, Start, Journal}
use Rattle.session_files.specs.declared.refusal.Refusal.TheVariants as refusals
use Rattle.session_files.specs.declared.load.SessionFile.TheVariants as which
use Rattle.session_files.specs.declared.not_run.NotRun.{NotRun}
use Rattle.session_files.specs.declared.not_run.NotRun.TheVariants.{Refused, ReadFault, NoMemory}

-- The program

-- what the bytes of a program come to
pub planned : (told : Option Files) (name bytes : List ℕ) → IsFound told program_limit name (Bytes bytes) → (result : Result Plan NotRun) →
    IfOk result (λ plan. (first_failure bytes ≡ None) × ((plan ≡ plan_of bytes) × IsValidPlan plan)) →
    IfErr result (IsElfReason (first_failure bytes)) → IsPlanned told name result
planned told name bytes found (Ok plan) is reason =
    record { bytes = bytes; found = found; formed = is.0; same = is.1.0; valid = is.1.1 }
planned told name bytes found (Err (Refused (Elf rule))) is reason = is_broken bytes rule found reason
planned told name bytes found (Err (Refused (Usage word))) is reason = absurd reason
planned told name bytes found (Err (Refused (Missing file))) is reason = absurd reason
planned told name bytes found (Err (Refused (TooLong file))) is reason = absurd reason
planned told name bytes found (Err (Refused (Image broken))) is reason = absurd reason
planned told name bytes found (Err (Refused (refusals.Schedule broken))) is reason = absurd reason
planned told name bytes found (Err (Refused Start)) is reason = absurd reason
planned told name bytes found (Err (Refused (Journal at))) is reason = absurd reason
planned told name bytes found (Err ReadFault) is reason = tt
planned told name bytes found (Err NoMemory) is reason = tt

-- no program was loaded
pub unplanned : (told : Option Files) (name : List ℕ) (reason : NotRun) → IsLoaded {A = ℕ} told which.Program name (Err reason) →
    IsPlanned told name (Err reason)
unplanned told name (Refused (Missing file)) is = subst (λ n. IsRefusedFor told name (Missing n)) (sym is.0) (is_absent is.1)
unplanned told name (Refused (TooLong file)) is = subst (λ n. IsRefusedFor told name (TooLong n)) (sym is.0) (is_long is.1)
unplanned told name (Refused (Usage word)) is = absurd is
unplanned told name (Refused (Elf rule)) is = absurd is
unplanned told name (Refused (Image broken)) is = absurd is
unplanned told name (Refused (refusals.Schedule broken)) is = absurd is
unplanned told name (Refused Start) is = absurd is
unplanned told name (Refused (Journal at)) is = absurd is
unplanned told name ReadFault is = tt
unplanned told name NoMemory is = tt
