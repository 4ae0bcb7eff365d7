-- Native calls that take and send nothing, one and several of them.
use Rattle.std.proofs.Common.{◌≡◌, ◌⊎◌, ℕ, List, [], ◌∷◌, ◌++◌, Option, None, Some, refl, sym, ap, subst, ◌∙◌, inl, inr, append-nil, Result, Ok, Err, OnOk, IsErr}
use Rattle.guest_space.specs.Memory.{Memory}
use Rattle.kernel_core.specs.declared.core_error.Stop.{Stop}
use Rattle.kernel_core.specs.declared.log_entry.LogEntry.{LogEntry}
use Rattle.kernel_core.specs.declared.record.Effect.{Effect}
use Rattle.kernel_core.specs.declared.reply.Reply.{Reply}
use Rattle.kernel_model.specs.Pipes.{Sent, nothing}
use Rattle.kernel_model.specs.State.{Kernel}
use Rattle.mips_exec.specs.Processor.{Processor}
use Rattle.native_calls.specs.Answered as native
use Rattle.native_calls.specs.History.{Moment, moment, opening, more_sent}
use Rattle.native_calls.specs.Step.{NativeStep}
use Rattle.o32_model.specs.Answered as o32
use Rattle.o32_model.specs.Effects.{Effected}
use Rattle.o32_model.specs.Logs.{Kept}
use Rattle.o32_model.specs.Step.{Guest, O32Step}
use Rattle.o32_model.specs.declared.outcome.Outcome.{Outcome}
use Rattle.outside.specs.Output.{GainsText, GainsBetween, with_text}
use Rattle.outside.specs.Streams.{Contents}
use Rattle.outside.proofs.OutputLemmas.{GainsText-nothing, GainsBetween-nothing}
use Rattle.bridge_log.proofs.Histories.{logged_then}
use Rattle.bridge_log.specs.Keeping.{Logged, Keeps, reached}
use Rattle.bridge_entries.specs.inside.Passing.{IsQuiet, Passed, Went, Replied}

-- Contents to which nothing is added

with_nothing : (text : Option (List ℕ)) → with_text text [] ≡ text
with_nothing None = refl
with_nothing (Some text) = ap Some (append-nil text)

gained_nothing : (old new : Option (List ℕ)) (more : List ℕ) → more ≡ [] → GainsText old new more → new ≡ old
gained_nothing old new more none gained = gained.after ∙ ap (with_text old) none ∙ with_nothing old

nothing_before : (front rest : List ℕ) → front ++ rest ≡ [] → front ≡ []
nothing_before [] rest whole = refl
nothing_before (byte ∷ front) rest whole = absurd cc

between_nothing : (old new : Option (List ℕ)) (high : List ℕ) → high ≡ [] → GainsBetween old new [] high → new ≡ old
between_nothing old new high none between = gained_nothing old new between.more (nothing_before between.more between.at_most.rest (between.at_most.whole ∙ none)) between.gained

contents_same : (before after : Contents) → after.left ≡ before.left → after.out ≡ before.out → after.err ≡ before.err → after ≡ before
contents_same before after left out err = λ i. record { left = left i; out = out i; err = err i }

called_rest : {target : Kernel} {answer : Reply} {memory left : List ℕ} {step : NativeStep} {reply : Reply} {became : Kernel} {room : List ℕ} (before after : Contents) → before.left ≡ Some left → IsQuiet target answer memory left step → native.Called step reply became room before after → after ≡ before
called_rest before after told quiet called =
    contents_same before after (called.rest ∙ ap Some quiet.left_stays ∙ sym told)
    (gained_nothing before.out after.out _ (ap (λ (s : Sent). s.out) quiet.sends) called.to_out)
    (gained_nothing before.err after.err _ (ap (λ (s : Sent). s.err) quiet.sends) called.to_err)

stopped_rest : {target : Kernel} {answer : Reply} {memory left : List ℕ} {step : NativeStep} (before after : Contents) → before.left ≡ Some left → IsQuiet target answer memory left step → native.Stopped step before after → after ≡ before
stopped_rest {left = left} {step = step} before after told quiet stopped =
    contents_same before after (by stopped.rest)
    (between_nothing before.out after.out _ (ap (λ (s : Sent). s.out) quiet.sends) stopped.to_out)
    (between_nothing before.err after.err _ (ap (λ (s : Sent). s.err) quiet.sends) stopped.to_err) where
      by : (after.left ≡ before.left) ⊎ (after.left ≡ Some step.left) → after.left ≡ before.left
      by (inl same) = same
      by (inr taken) = taken ∙ ap Some quiet.left_stays ∙ sym told

-- One call

moment_then : (target : Kernel) (left : List ℕ) (sent : Sent) (step : NativeStep) → step.kernel ≡ target → step.left ≡ left → step.sent ≡ nothing → moment step.kernel step.left (more_sent sent step.sent) ≡ moment target left sent
moment_then target left sent step becomes rest none =
    ap (λ (k : Kernel). moment k step.left (more_sent sent step.sent)) becomes
    ∙ ap (λ (l : List ℕ). moment target l (more_sent sent step.sent)) rest
    ∙ ap (λ (s : Sent). moment target left (more_sent sent s)) none
    ∙ ap (moment target left) (λ i. record { out = append-nil sent.out i; err = append-nil sent.err i })

pub went : (kernel target : Kernel) (answer : Reply) (memory left : List ℕ) (step : NativeStep) (result : Result Reply Stop) (became : Kernel) (room : List ℕ) (before after : Contents) (old new : Kept) → before.left ≡ Some left → IsQuiet target answer memory left step
    → native.Answers step result became room before after
    → ((sent : Sent) → OnOk result (Logged old.native new.native (moment kernel left sent) (moment step.kernel step.left (more_sent sent step.sent))))
    → new.effects ≡ old.effects → Went (Replied answer memory room) result kernel target became before after left old new
went kernel target answer memory left step (Ok reply) became room before after old new told quiet called logged same = (
  record { answered = called.answered ∙ quiet.replied; stored = called.stored ∙ quiet.stored },
  record {
    same = called.became ∙ quiet.becomes;
    rest = called_rest before after told quiet called;
    logged = λ sent. subst (λ (to : Moment). Logged old.native new.native (moment kernel left sent) to) (moment_then target left sent step quiet.becomes quiet.left_stays quiet.sends) (logged sent);
    effects = same;
  },
)
went kernel target answer memory left step (Err stop) became room before after old new told quiet stopped logged same = stopped_rest before after told quiet stopped

-- an error, where no content has changed
pub went_stop : {A : Type 0} (IsSo : A → Type 0) (result : Result A Stop) (kernel target became : Kernel) (before after : Contents) (left : List ℕ) (old new : Kept) → IsErr result → after ≡ before → Went IsSo result kernel target became before after left old new
went_stop IsSo (Ok found) kernel target became before after left old new failed same = absurd cc
went_stop IsSo (Err stop) kernel target became before after left old new failed same = same

-- what was found said in other words
pub went_weaker : {A : Type 0} (One Other : A → Type 0) (result : Result A Stop) (kernel target became : Kernel) (before after : Contents) (left : List ℕ) (old new : Kept) → ((found : A) → One found → Other found)
    → Went One result kernel target became before after left old new → Went Other result kernel target became before after left old new
went_weaker One Other (Ok found) kernel target became before after left old new each went = (each found went.0, went.1)
went_weaker One Other (Err stop) kernel target became before after left old new each went = went

-- Several

pub passed_then : {kernel middle between target became : Kernel} {before midst after : Contents} {left : List ℕ} {old kept new : Kept} → Passed kernel middle between before midst left old kept → Passed between target became midst after left kept new → Passed kernel target became before after left old new
passed_then {kernel} {middle} {between} {target} {became} {before} {midst} {after} {left} {old} {kept} {new} p q = record {
  same = q.same;
  rest = q.rest ∙ p.rest;
  logged = λ sent. logged_then (p.logged sent) (subst (λ (k : Kernel). Logged kept.native new.native (moment k left sent) (moment target left sent)) p.same (q.logged sent));
  effects = q.effects ∙ p.effects;
}

-- what is left of the input is told afterwards too
pub still_told : {kernel target became : Kernel} {before after : Contents} {left : List ℕ} {old new : Kept} → Passed kernel target became before after left old new → before.left ≡ Some left → after.left ≡ Some left
still_told p told = ap (λ (c : Contents). c.left) p.rest ∙ told

-- The program's call that they make, with what goes to its memory afterwards

-- nothing was taken or sent
pub record Silent (target : Kernel) (left : List ℕ) (step : O32Step) : Type 0 where
  pub becomes : step.kernel ≡ target
  pub left_stays : step.left ≡ left
  pub sends : step.sent ≡ nothing

pub passed_called : (outcome : Outcome) (memory : Memory) (processor : Processor) {kernel target became : Kernel} {before after : Contents} {left : List ℕ} {old new : Kept} (step : O32Step) → Passed kernel target became before after left old new → Silent target left step → before.left ≡ Some left
    → outcome ≡ step.outcome → memory ≡ step.memory → processor ≡ step.processor → o32.Called step outcome became memory processor before after
passed_called outcome memory processor {kernel} {target} {became} {before} {after} {left} step p silent told came stored set =
    subst (λ (c : Contents). o32.Called step outcome became memory processor before c) (sym p.rest)
    (record {
      came = came;
      became = p.same ∙ sym silent.becomes;
      stored = stored;
      set = set;
      rest = told ∙ ap Some (sym silent.left_stays);
      to_out = subst (λ (s : Sent). GainsText before.out before.out s.out) (sym silent.sends) (GainsText-nothing before.out);
      to_err = subst (λ (s : Sent). GainsText before.err before.err s.err) (sym silent.sends) (GainsText-nothing before.err);
    })

pub passed_keeps : {kernel target became : Kernel} {before after : Contents} {left : List ℕ} {old kept : Kept} (new : Kept) (guest : Guest) (step : O32Step) → Passed kernel target became before after left old kept → Silent target left step
    → new.native ≡ kept.native → Effected kept.effects new.effects (reached guest.processor guest.memory.pages nothing) (reached guest.processor step.memory.pages nothing)
    → Keeps step kernel left guest old new
passed_keeps {kernel} {target} {left = left} {old = old} {kept = kept} new guest step p silent same effected = record {
  native =
      subst (λ (n : Option (List LogEntry)). Logged old.native n (opening kernel left) (moment step.kernel step.left step.sent)) (sym same)
      (subst (λ (m : Moment). Logged old.native kept.native (opening kernel left) m) (sym moment_is) (p.logged nothing));
  effects =
      subst (λ (e : Option (List Effect)). Effected e new.effects (reached guest.processor guest.memory.pages nothing) (reached guest.processor step.memory.pages step.sent)) p.effects
      (subst (λ (s : Sent). Effected kept.effects new.effects (reached guest.processor guest.memory.pages nothing) (reached guest.processor step.memory.pages s)) (sym silent.sends) effected);
} where
  moment_is : moment step.kernel step.left step.sent ≡ moment target left nothing
  moment_is = ap (λ (k : Kernel). moment k step.left step.sent) silent.becomes ∙ ap (λ (l : List ℕ). moment target l step.sent) silent.left_stays ∙ ap (moment target left) silent.sends

-- a stop where no content has changed
pub silent_stop : (step : O32Step) (before after : Contents) → after ≡ before → o32.Stopped step before after
silent_stop step before after same =
    subst (λ (c : Contents). o32.Stopped step before c) (sym same)
    (record { rest = inl refl; to_out = GainsBetween-nothing before.out step.sent.out; to_err = GainsBetween-nothing before.err step.sent.err })
