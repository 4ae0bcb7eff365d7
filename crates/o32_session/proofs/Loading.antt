-- Which loads were answered once all files are loaded.
use Rattle.std.proofs.Common.{◌≡◌, [], Result, Ok, Err, IfErr, inl}
use Rattle.o32_session.specs.Asked.{Asked}
use Rattle.session_files.specs.Inputs.{Names}
use Rattle.session_files.specs.Saved.{AtMachine, after_loads, loaded_names}
use Rattle.session_files.specs.Unrun.{AreInOrder}
use Rattle.stored_files.specs.Stored.{Stored}
use Rattle.o32_session.specs.inside.Prepared.{IsStartReason}
use Rattle.session_files.specs.Steps.{LoadsFiles}
use Rattle.session_files.specs.declared.refusal.Refusal.TheVariants as refusals
use Rattle.session_files.specs.declared.inputs.Inputs.{Inputs}
use Rattle.session_files.specs.declared.not_run.NotRun.{NotRun}
use Rattle.session_files.specs.declared.not_run.NotRun.TheVariants.{Refused, ReadFault, NoMemory}
use Rattle.o32_session.specs.declared.prepare.Ready.{Ready}

started : (names : Names) (asked : Asked) (reason : NotRun) (old new : Stored) → AreInOrder AtMachine names old.files → IsStartReason asked reason → new ≡ after_loads old (loaded_names names) [] → LoadsFiles {T = Ready} names (Err reason) old new
started names asked (Refused refusals.Start) old new ordered why is = is
started names asked (Refused (refusals.Usage word)) old new ordered why is = absurd why
started names asked (Refused (refusals.Missing file)) old new ordered why is = absurd why
started names asked (Refused (refusals.TooLong file)) old new ordered why is = absurd why
started names asked (Refused (refusals.Elf rule)) old new ordered why is = absurd why
started names asked (Refused (refusals.Image broken)) old new ordered why is = absurd why
started names asked (Refused (refusals.Schedule broken)) old new ordered why is = absurd why
started names asked (Refused (refusals.Journal at)) old new ordered why is = absurd why
started names asked ReadFault old new ordered why is = absurd why
started names asked NoMemory old new ordered why is = record { stage = AtMachine; in_order = ordered; stands = inl is }

pub loads : (names : Names) (asked : Asked) (result : Result Ready NotRun) (old new : Stored) → AreInOrder AtMachine names old.files → new ≡ after_loads old (loaded_names names) [] →
    IfErr result (IsStartReason asked) → LoadsFiles names result old new
loads names asked (Ok ready) old new ordered is why = is
loads names asked (Err reason) old new ordered is why = started names asked reason old new ordered why is

-- where a file is refused or not loaded
pub not_loaded : (names : Names) (reason : NotRun) (old new : Stored) → LoadsFiles {T = Inputs} names (Err reason) old new → LoadsFiles {T = Ready} names (Err reason) old new
not_loaded names (Refused refusal) old new is = is
not_loaded names ReadFault old new is = is
not_loaded names NoMemory old new is = is
