-- What is answered where nothing is run.
use Rattle.std.proofs.Common.{◌≡◌, ℕ, List, [], Option, refl, sym, ap, subst}
use Rattle.outside.specs.Count.{Rose}
use Rattle.outside.specs.Output.{GainsText}
use Rattle.outside.proofs.OutputLemmas.{GainsText-nothing}
use Rattle.session_files.specs.Inputs.{Names}
use Rattle.stored_files.specs.Stored.{Stored}
use Rattle.session_files.specs.Seen.{Seen}
use Rattle.session_files.specs.Unrun.{AnswersRefusal, DoesNothing, StopsAtStage, StopsEarly}
use Rattle.session_files.specs.Steps.{EndsRefused, LineFailsOnlyIfRose}
use Rattle.session_files.specs.declared.end.End.{End}
use Rattle.session_files.specs.declared.end.End.TheVariants.{Exited, Killed, Budget, Blocked, Soaked, Replayed, Refused, Diverged, ReadFault, WriteFault, NoMemory}
use Rattle.session_files.specs.declared.refusal.Refusal.{Refusal}

-- the input and standard output with their counts stay as they are
abbrev pub beside : Seen → Option (List ℕ) → ℕ → ℕ → Stored → Seen
beside old err err_faults load_faults store = record old { err = err; err_faults = err_faults; load_faults = load_faults; store = store }

pub unchanged : (old new : Option (List ℕ)) → new ≡ old → GainsText old new []
unchanged old new same = subst (λ n. GainsText old n []) (sym same) (GainsText-nothing old)

pub nothing_done : (old : Seen) (err : Option (List ℕ)) (faults loads : ℕ) (store : Stored) → err ≡ old.err → store ≡ old.store → DoesNothing old (beside old err faults loads store) 0
nothing_done old err faults loads store same stands = record {
  no_turn = refl;
  untaken = refl;
  wrote = record { to_out = GainsText-nothing old.out; to_err = unchanged old.err err same };
  stands = stands;
}

-- a refusal with its line
pub refused : (refusal : Refusal) (end : End) (old : Seen) (err : Option (List ℕ)) (faults loads : ℕ) (store : Stored) → EndsRefused refusal end old.err err → LineFailsOnlyIfRose end old.err_faults faults →
    store ≡ old.store → AnswersRefusal refusal old (beside old err faults loads store) 0 end
refused refusal (Refused given) old err faults loads store so cause stands = record {
  same = so.0;
  no_turn = refl;
  untaken = refl;
  wrote = record { to_out = GainsText-nothing old.out; to_err = so.1 };
  stands = stands;
}
refused refusal WriteFault old err faults loads store so cause stands =
    (record { no_turn = refl; untaken = refl; to_out = GainsText-nothing old.out; to_err = so; stands = stands }, cause)
refused refusal NoMemory old err faults loads store so cause stands =
    record { no_turn = refl; untaken = refl; to_out = GainsText-nothing old.out; to_err = so; stands = stands }
refused refusal ReadFault old err faults loads store so cause stands = absurd so
refused refusal (Exited status) old err faults loads store so cause stands = absurd so
refused refusal (Killed signal) old err faults loads store so cause stands = absurd so
refused refusal Budget old err faults loads store so cause stands = absurd so
refused refusal Blocked old err faults loads store so cause stands = absurd so
refused refusal (Soaked over) old err faults loads store so cause stands = absurd so
refused refusal (Replayed over) old err faults loads store so cause stands = absurd so
refused refusal (Diverged turn wanted found) old err faults loads store so cause stands = absurd so

-- a load failed, or memory ran out, at a stage
pub stopped : (names : Names) (end : End) (old : Seen) (err : Option (List ℕ)) (faults loads : ℕ) (store : Stored) → StopsAtStage names end old.store store → (end ≡ ReadFault → Rose old.load_faults loads) → err ≡ old.err →
    StopsEarly names old (beside old err faults loads store) 0 end
stopped names end old err faults loads store at_stage cause same =
    record { at_stage = at_stage; cause = cause; nothing = nothing_done (record old { store = store }) err faults loads store same refl }

-- want of memory is no fault
pub no_fault : {P : Type 0} (end : End) → end ≡ NoMemory → end ≡ ReadFault → P
no_fault end memory fault = absurd cc

-- a refusal changes no file
pub refusal_files : (refusal : Refusal) (old new : Seen) (turns : ℕ) (end : End) → AnswersRefusal refusal old new turns end → new.store.files ≡ old.store.files
refusal_files refusal old new turns (Refused given) answer = ap (λ (s : Stored). s.files) answer.stands
refusal_files refusal old new turns WriteFault answer = ap (λ (s : Stored). s.files) answer.0.stands
refusal_files refusal old new turns NoMemory answer = ap (λ (s : Stored). s.files) answer.stands
refusal_files refusal old new turns ReadFault answer = absurd answer
refusal_files refusal old new turns (Exited status) answer = absurd answer
refusal_files refusal old new turns (Killed signal) answer = absurd answer
refusal_files refusal old new turns Budget answer = absurd answer
refusal_files refusal old new turns Blocked answer = absurd answer
refusal_files refusal old new turns (Soaked over) answer = absurd answer
refusal_files refusal old new turns (Replayed over) answer = absurd answer
refusal_files refusal old new turns (Diverged turn wanted found) answer = absurd answer
