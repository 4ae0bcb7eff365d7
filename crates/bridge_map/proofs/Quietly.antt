-- Native calls that change nothing but what is kept of them.
use Rattle.std.proofs.Common.{◌≡◌, ℕ, List, [], ◌++◌, Option, Some, None, Result, Ok, Err, IsErr, OnOk, refl, sym, ap, subst, ◌∙◌, inl, inr, append-nil}
use Rattle.kernel_core.specs.declared.core_error.Stop.{Stop}
use Rattle.kernel_core.specs.declared.log_entry.LogEntry.{LogEntry}
use Rattle.kernel_core.specs.declared.reply.Reply.{Reply}
use Rattle.kernel_model.specs.Pipes.{Sent, nothing}
use Rattle.kernel_model.specs.State.{Kernel}
use Rattle.native_calls.specs.Answered as native
use Rattle.native_calls.specs.History.{Moment, moment, more_sent, opening}
use Rattle.native_calls.specs.Step.{NativeStep}
use Rattle.outside.proofs.OutputLemmas.{GainsBetween-nothing}
use Rattle.outside.specs.Output.{GainsBetween, GainsText}
use Rattle.outside.specs.Streams.{Contents}
use Rattle.bridge_log.proofs.Histories.{logged_none, logged_then}
use Rattle.bridge_log.specs.Keeping.{Logged}
use Rattle.bridge_map.specs.Shown.{Looked, Quiet, Silent}

-- a native call that is quiet
pub record IsQuiet (step : NativeStep) (kernel : Kernel) (left : List ℕ) : Type 0 where
  pub stays : step.kernel ≡ kernel
  pub rest : step.left ≡ left
  pub sends : step.sent ≡ nothing

pub no_text : (old new : Option (List ℕ)) (text : List ℕ) → text ≡ [] → GainsText old new text → new ≡ old
no_text None new text none gains = gains.after
no_text (Some old) new text none gains = gains.after ∙ ap (λ (t : List ℕ). Some (old ++ t)) none ∙ ap Some (append-nil old)

pub contents_same : (before after : Contents) → after.left ≡ before.left → after.out ≡ before.out → after.err ≡ before.err → after ≡ before
contents_same before after left out err = λ i. record { left = left i; out = out i; err = err i }

module _ {step : NativeStep} {kernel : Kernel} {left : List ℕ} (quiet : IsQuiet step kernel left) where
  pub quiet_called : {reply : Reply} {became : Kernel} {memory : List ℕ} {before after : Contents} (old new : Option (List LogEntry)) → before.left ≡ Some left → native.Called step reply became memory before after
      → Logged old new (moment kernel left nothing) (moment step.kernel step.left (more_sent nothing step.sent)) → Quiet kernel became left before after old new
  quiet_called {before = before} {after = after} old new told called logged = record {
    stays = called.became ∙ quiet.stays;
    same =
        contents_same before after (called.rest ∙ ap Some quiet.rest ∙ sym told)
        (no_text before.out after.out step.sent.out (ap (λ (s : Sent). s.out) quiet.sends) called.to_out)
        (no_text before.err after.err step.sent.err (ap (λ (s : Sent). s.err) quiet.sends) called.to_err);
    logged =
        subst (λ (to : Moment). Logged old new (opening kernel left) to)
        (λ i. moment (quiet.stays i) (quiet.rest i) (more_sent nothing (quiet.sends i))) logged;
  }

  pub silent_stopped : {before after : Contents} → before.left ≡ Some left → native.Stopped step before after → Silent before after
  silent_stopped {before = before} {after = after} told stopped = record {
    rest = elim stopped.rest [ inl same ↦ same | inr taken ↦ taken ∙ ap Some quiet.rest ∙ sym told ];
    to_out = subst (λ (s : Sent). GainsBetween before.out after.out [] s.out) quiet.sends stopped.to_out;
    to_err = subst (λ (s : Sent). GainsBetween before.err after.err [] s.err) quiet.sends stopped.to_err;
  }

  pub looked_native : (result : Result Reply Stop) (became : Kernel) (memory : List ℕ) (before after : Contents) (old new : Option (List LogEntry)) → before.left ≡ Some left
      → native.Answers step result became memory before after
      → OnOk result (Logged old new (moment kernel left nothing) (moment step.kernel step.left (more_sent nothing step.sent)))
      → Looked (λ reply. reply ≡ step.reply) result kernel became left before after old new
  looked_native (Ok reply) became memory before after old new told called logged = (called.answered, quiet_called old new told called logged)
  looked_native (Err stop) became memory before after old new told stopped logged = silent_stopped told stopped

-- none, and one after another

pub quiet_none : (kernel : Kernel) (left : List ℕ) (at : Contents) (kept : Option (List LogEntry)) → Quiet kernel kernel left at at kept kept
quiet_none kernel left at kept = record { stays = refl; same = refl; logged = logged_none kept (opening kernel left) }

pub quiet_then : {kernel between became : Kernel} {left : List ℕ} {before middle after : Contents} {old kept new : Option (List LogEntry)}
    → Quiet kernel between left before middle old kept → Quiet between became left middle after kept new → Quiet kernel became left before after old new
quiet_then {left = left} {kept = kept} {new = new} first second = record {
  stays = second.stays ∙ first.stays;
  same = second.same ∙ first.same;
  logged = logged_then first.logged (subst (λ (k : Kernel). Logged kept new (opening k left) (opening k left)) first.stays second.logged);
}

pub silent_none : (at : Contents) → Silent at at
silent_none at = record { rest = refl; to_out = GainsBetween-nothing at.out []; to_err = GainsBetween-nothing at.err [] }

pub silent_after : {before middle after : Contents} → middle ≡ before → Silent middle after → Silent before after
silent_after {after = after} same silent = subst (λ (from : Contents). Silent from after) same silent

-- what is found after what was done quietly
pub looked_after : {A : Type 0} (Holds : A → Type 0) {kernel between : Kernel} (became : Kernel) {left : List ℕ} {before middle : Contents} (after : Contents) {old kept : Option (List LogEntry)} (new : Option (List LogEntry)) (result : Result A Stop)
    → Quiet kernel between left before middle old kept → Looked Holds result between became left middle after kept new → Looked Holds result kernel became left before after old new
looked_after Holds became after new (Ok answer) first second = (second.0, quiet_then first second.1)
looked_after Holds became after new (Err stop) first second = silent_after first.same second

pub looked_stop : {A : Type 0} (Holds : A → Type 0) (result : Result A Stop) (kernel became : Kernel) (left : List ℕ) (before after : Contents) (old new : Option (List LogEntry))
    → IsErr result → Silent before after → Looked Holds result kernel became left before after old new
looked_stop Holds (Ok answer) kernel became left before after old new failed silent = absurd cc
looked_stop Holds (Err stop) kernel became left before after old new failed silent = silent

pub looked_as : {A : Type 0} (P Q : A → Type 0) (result : Result A Stop) (kernel became : Kernel) (left : List ℕ) (before after : Contents) (old new : Option (List LogEntry)) → ((answer : A) → P answer → Q answer)
    → Looked P result kernel became left before after old new → Looked Q result kernel became left before after old new
looked_as P Q (Ok answer) kernel became left before after old new each looked = (each answer looked.0, looked.1)
looked_as P Q (Err stop) kernel became left before after old new each silent = silent

pub silent_same : (before after : Contents) → after ≡ before → Silent before after
silent_same before after same = subst (λ (at : Contents). Silent before at) (sym same) (silent_none before)
