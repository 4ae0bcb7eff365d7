-- What the end of a run says of the counts of faults.
use Rattle.std.proofs.Common.{◌≡◌, ℕ, List, Option, Err, inl, inr, sym, subst}
use Rattle.outside.specs.declared.devices.Devices.{Devices}
use Rattle.kernel_core.specs.declared.core_error.Stop.{Stop}
use Rattle.kernel_core.specs.declared.core_error.Stop.TheVariants as stops
use Rattle.kernel_core.specs.declared.finish.Finish.{Finish}
use Rattle.kernel_core.specs.declared.finish.Finish.TheVariants as finishes
use Rattle.o32_runner.specs.Traced.{StopsOnlyIfAnyRose}
use Rattle.o32_runner.specs.Emulators.{Emulated}
use Rattle.session_files.specs.Faults.{NoneRose, TellsFaults}
use Rattle.stored_files.specs.Stored.{Stored}
use Rattle.session_files.specs.Seen.{Seen, seen_of}
use Rattle.session_files.specs.Ends.{end_of, end_of_stop}
use Rattle.o32_session.specs.inside.Runs.{AnswersRun}
use Rattle.o32_session.specs.declared.answer.Answer.{Answer}
use Rattle.session_files.specs.declared.end.End.{End}

pub cut_faults : {I O E : Type 0} (left : I → Option (List ℕ)) (to_out : O → Option (List ℕ)) (to_err : E → Option (List ℕ)) (input : I → ℕ) (out : O → ℕ) (err : E → ℕ) (was now : Devices I O E) (loads loads_then : ℕ) (store store_then : Stored)
    (stop : Stop) → loads_then ≡ loads → StopsOnlyIfAnyRose {T = Finish} input out err (Err stop) store.write_faults store_then.write_faults was now
    → TellsFaults (end_of_stop stop) (seen_of left to_out to_err input out err was loads store) (seen_of left to_out to_err input out err now loads_then store_then)
cut_faults left to_out to_err input out err was now loads loads_then store store_then stops.ReadFault same cause = inr cause.0
cut_faults left to_out to_err input out err was now loads loads_then store store_then stops.WriteFault same cause = cause
cut_faults left to_out to_err input out err was now loads loads_then store store_then stops.NoMemory same cause =
    record { reads = cause.0.input_stays; outs = cause.0.out_stays; errs = cause.0.err_stays; loads = same; writes = cause.1 }

finish_faults : (finish : Finish) (old new : Seen) → NoneRose old new → TellsFaults (end_of finish) old new
finish_faults (finishes.Exited status) old new none = none
finish_faults (finishes.Killed signal) old new none = none
finish_faults finishes.Budget old new none = none
finish_faults finishes.Blocked old new none = none

pub run_faults : (name : Option (List ℕ)) (emulated : Emulated) (finish : Finish) (answer : Answer) (old new : Seen) → AnswersRun name emulated finish answer old.store new.store → new.read_faults ≡ old.read_faults
    → new.out_faults ≡ old.out_faults → new.err_faults ≡ old.err_faults → new.load_faults ≡ old.load_faults → TellsFaults answer.end old new
run_faults name emulated finish answer old new (inl done) reads outs errs loads =
    subst (λ (e : End). TellsFaults e old new) (sym done.end)
    (finish_faults finish old new (record { reads = reads; outs = outs; errs = errs; loads = loads; writes = done.writes }))
run_faults name emulated finish answer old new (inr failed) reads outs errs loads =
    elim failed.end as (λ _. TellsFaults answer.end old new) [
      | inl fault ↦ subst (λ (e : End). TellsFaults e old new) (sym fault.0) (inr (inr fault.1))
      | inr memory ↦
          subst (λ (e : End). TellsFaults e old new) (sym memory.0) (record { reads = reads; outs = outs; errs = errs; loads = loads; writes = memory.1 })
    ]
