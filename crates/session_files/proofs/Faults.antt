-- What an end says of the counts of faults.
use Rattle.std.proofs.Common.{◌≡◌, ℕ, List, Option, Err, inl, inr, sym, ◌∙◌, subst}
use Rattle.outside.specs.Count.{Rose}
use Rattle.session_files.specs.Faults.{NoneRose, TellsFaults}
use Rattle.session_files.specs.Seen.{Seen}
use Rattle.session_files.specs.Steps.{EndsRefused, EndsWithoutRun, LineFailsOnlyIfRose, ReasonOnlyIfRose}
use Rattle.session_files.specs.declared.end.End.{End}
use Rattle.session_files.specs.declared.end.End.TheVariants.{Exited, Killed, Budget, Blocked, Soaked, Replayed, Refused, Diverged, ReadFault, WriteFault, NoMemory}
use Rattle.session_files.specs.declared.refusal.Refusal.{Refusal}
use Rattle.session_files.specs.declared.not_run.NotRun.{NotRun}
use Rattle.session_files.specs.declared.not_run.NotRun.TheVariants as reasons

-- the same from an earlier moment, between which and this one no count rose

rose_since : (before middle now : ℕ) → middle ≡ before → Rose middle now → Rose before now
rose_since before middle now same rose = subst (λ (n : ℕ). Rose n now) same rose

none_since : (old middle new : Seen) → NoneRose old middle → NoneRose middle new → NoneRose old new
none_since old middle new first second = record {
  reads = second.reads ∙ first.reads;
  outs = second.outs ∙ first.outs;
  errs = second.errs ∙ first.errs;
  loads = second.loads ∙ first.loads;
  writes = second.writes ∙ first.writes;
}

pub tells_since : (end : End) (old middle new : Seen) → NoneRose old middle → TellsFaults end middle new → TellsFaults end old new
tells_since ReadFault old middle new first second =
    elim second as (λ _. TellsFaults ReadFault old new) [
      | inl rose ↦ inl (rose_since old.load_faults middle.load_faults new.load_faults first.loads rose)
      | inr rose ↦ inr (rose_since old.read_faults middle.read_faults new.read_faults first.reads rose)
    ]
tells_since WriteFault old middle new first second =
    elim second as (λ _. TellsFaults WriteFault old new) [
      | inl rose ↦ inl (rose_since old.out_faults middle.out_faults new.out_faults first.outs rose)
      | inr other ↦ elim other as (λ _. TellsFaults WriteFault old new) [
        | inl rose ↦ inr (inl (rose_since old.err_faults middle.err_faults new.err_faults first.errs rose))
        | inr rose ↦ inr (inr (rose_since old.store.write_faults middle.store.write_faults new.store.write_faults first.writes rose))
      ]
    ]
tells_since NoMemory old middle new first second = none_since old middle new first second
tells_since (Refused given) old middle new first second = none_since old middle new first second
tells_since (Exited status) old middle new first second = none_since old middle new first second
tells_since (Killed signal) old middle new first second = none_since old middle new first second
tells_since Budget old middle new first second = none_since old middle new first second
tells_since Blocked old middle new first second = none_since old middle new first second
tells_since (Soaked over) old middle new first second = none_since old middle new first second
tells_since (Replayed over) old middle new first second = none_since old middle new first second
tells_since (Diverged turn wanted found) old middle new first second = none_since old middle new first second

-- Nothing is run

pub line_faults : (refusal : Refusal) (end : End) (old new : Seen) (text then : Option (List ℕ)) → EndsRefused refusal end text then → LineFailsOnlyIfRose end old.err_faults new.err_faults
    → new.read_faults ≡ old.read_faults → new.out_faults ≡ old.out_faults → new.load_faults ≡ old.load_faults → new.store.write_faults ≡ old.store.write_faults → TellsFaults end old new
line_faults refusal (Refused given) old new text then so cause reads outs loads writes = record { reads = reads; outs = outs; errs = cause; loads = loads; writes = writes }
line_faults refusal WriteFault old new text then so cause reads outs loads writes = inr (inl cause)
line_faults refusal NoMemory old new text then so cause reads outs loads writes = record { reads = reads; outs = outs; errs = cause; loads = loads; writes = writes }
line_faults refusal ReadFault old new text then so cause reads outs loads writes = absurd so
line_faults refusal (Exited status) old new text then so cause reads outs loads writes = absurd so
line_faults refusal (Killed signal) old new text then so cause reads outs loads writes = absurd so
line_faults refusal Budget old new text then so cause reads outs loads writes = absurd so
line_faults refusal Blocked old new text then so cause reads outs loads writes = absurd so
line_faults refusal (Soaked over) old new text then so cause reads outs loads writes = absurd so
line_faults refusal (Replayed over) old new text then so cause reads outs loads writes = absurd so
line_faults refusal (Diverged turn wanted found) old new text then so cause reads outs loads writes = absurd so

pub unrun_faults : (T : Type 0) (reason : NotRun) (end : End) (old new : Seen) (text then : Option (List ℕ)) → EndsWithoutRun reason end text then → LineFailsOnlyIfRose end old.err_faults new.err_faults
    → ReasonOnlyIfRose {T = T} (Err reason) old.load_faults new.load_faults → new.read_faults ≡ old.read_faults → new.out_faults ≡ old.out_faults
    → new.store.write_faults ≡ old.store.write_faults → TellsFaults end old new
unrun_faults T (reasons.Refused refusal) end old new text then so cause loads reads outs writes = line_faults refusal end old new text then so cause reads outs loads writes
unrun_faults T reasons.ReadFault end old new text then so cause loads reads outs writes = subst (λ (e : End). TellsFaults e old new) (sym so.0) (inl loads)
unrun_faults T reasons.NoMemory end old new text then so cause loads reads outs writes =
    let errs : new.err_faults ≡ old.err_faults = subst (λ (e : End). LineFailsOnlyIfRose e old.err_faults new.err_faults) so.0 cause in
    subst (λ (e : End). TellsFaults e old new) (sym so.0) (record { reads = reads; outs = outs; errs = errs; loads = loads; writes = writes })
