-- Native calls that change nothing, one and several of them.
use Rattle.std.proofs.Common.{◌≡◌, ◌⊎◌, ℕ, List, [], ◌∷◌, ◌++◌, Option, None, Some, refl, sym, ap, subst, ◌∙◌, inl, inr, append-nil, Result, Ok, Err, OnOk, IsErr}
use Rattle.guest_space.specs.Memory.{Memory}
use Rattle.kernel_core.specs.declared.core_error.Stop.{Stop}
use Rattle.kernel_core.specs.declared.record.Effect.{Effect}
use Rattle.kernel_core.specs.declared.reply.Reply.{Reply}
use Rattle.kernel_model.specs.Pipes.{Sent, nothing}
use Rattle.kernel_model.specs.State.{Kernel}
use Rattle.mips_exec.specs.Processor.{Processor}
use Rattle.native_calls.specs.Answered as native
use Rattle.native_calls.specs.History.{Moment, moment, opening, more_sent}
use Rattle.native_calls.specs.Step.{NativeStep}
use Rattle.o32_model.specs.Answered as o32
use Rattle.o32_model.specs.Effects.{Effected}
use Rattle.o32_model.specs.Logs.{Kept}
use Rattle.o32_model.specs.Step.{Guest, O32Step}
use Rattle.o32_model.specs.declared.outcome.Outcome.{Outcome}
use Rattle.outside.specs.Output.{GainsText, GainsBetween, with_text}
use Rattle.outside.specs.Streams.{Contents}
use Rattle.bridge_log.proofs.Ends.{fails_before}
use Rattle.bridge_log.proofs.Histories.{logged_none, logged_then}
use Rattle.bridge_log.specs.Keeping.{Logged, Keeps, reached}
use Rattle.bridge_log.specs.Looks.{IsLook, Unmoved, Looked, Replied}

-- Contents to which nothing is added

with_nothing : (text : Option (List ℕ)) → with_text text [] ≡ text
with_nothing None = refl
with_nothing (Some text) = ap Some (append-nil text)

gained_nothing : (old new : Option (List ℕ)) (more : List ℕ) → more ≡ [] → GainsText old new more → new ≡ old
gained_nothing old new more none gained = gained.after ∙ ap (with_text old) none ∙ with_nothing old

nothing_before : (front rest : List ℕ) → front ++ rest ≡ [] → front ≡ []
nothing_before [] rest whole = refl
nothing_before (byte ∷ front) rest whole = absurd cc

between_nothing : (old new : Option (List ℕ)) (high : List ℕ) → high ≡ [] → GainsBetween old new [] high → new ≡ old
between_nothing old new high none between = gained_nothing old new between.more (nothing_before between.more between.at_most.rest (between.at_most.whole ∙ none)) between.gained

contents_same : (before after : Contents) → after.left ≡ before.left → after.out ≡ before.out → after.err ≡ before.err → after ≡ before
contents_same before after left out err = λ i. record { left = left i; out = out i; err = err i }

called_rest : {kernel : Kernel} {answer : Reply} {memory left : List ℕ} {step : NativeStep} {reply : Reply} {became : Kernel} {room : List ℕ} (before after : Contents) → before.left ≡ Some left → IsLook kernel answer memory left step → native.Called step reply became room before after → after ≡ before
called_rest before after told look called =
    contents_same before after (called.rest ∙ ap Some look.left_stays ∙ sym told)
    (gained_nothing before.out after.out _ (ap (λ (s : Sent). s.out) look.sends) called.to_out)
    (gained_nothing before.err after.err _ (ap (λ (s : Sent). s.err) look.sends) called.to_err)

stopped_rest : {kernel : Kernel} {answer : Reply} {memory left : List ℕ} {step : NativeStep} (before after : Contents) → before.left ≡ Some left → IsLook kernel answer memory left step → native.Stopped step before after → after ≡ before
stopped_rest {left = left} {step = step} before after told look stopped =
    contents_same before after (by stopped.rest)
    (between_nothing before.out after.out _ (ap (λ (s : Sent). s.out) look.sends) stopped.to_out)
    (between_nothing before.err after.err _ (ap (λ (s : Sent). s.err) look.sends) stopped.to_err) where
      by : (after.left ≡ before.left) ⊎ (after.left ≡ Some step.left) → after.left ≡ before.left
      by (inl same) = same
      by (inr taken) = taken ∙ ap Some look.left_stays ∙ sym told

-- One call

moment_stays : (kernel : Kernel) (left : List ℕ) (sent : Sent) (step : NativeStep) → step.kernel ≡ kernel → step.left ≡ left → step.sent ≡ nothing → moment step.kernel step.left (more_sent sent step.sent) ≡ moment kernel left sent
moment_stays kernel left sent step same rest none =
    ap (λ (k : Kernel). moment k step.left (more_sent sent step.sent)) same
    ∙ ap (λ (l : List ℕ). moment kernel l (more_sent sent step.sent)) rest
    ∙ ap (λ (s : Sent). moment kernel left (more_sent sent s)) none
    ∙ ap (moment kernel left) (λ i. record { out = append-nil sent.out i; err = append-nil sent.err i })

pub looked : (kernel : Kernel) (answer : Reply) (memory left : List ℕ) (step : NativeStep) (result : Result Reply Stop) (became : Kernel) (room : List ℕ) (before after : Contents) (old new : Kept) → before.left ≡ Some left → IsLook kernel answer memory left step
    → native.Answers step result became room before after
    → ((sent : Sent) → OnOk result (Logged old.native new.native (moment kernel left sent) (moment step.kernel step.left (more_sent sent step.sent))))
    → new.effects ≡ old.effects → Looked (Replied answer memory room) result kernel became before after left old new
looked kernel answer memory left step (Ok reply) became room before after old new told look called logged same = (
  record { answered = called.answered ∙ look.replied; stored = called.stored ∙ look.stored },
  record {
    same = called.became ∙ look.kernel_stays;
    rest = called_rest before after told look called;
    logged = λ sent. subst (λ (to : Moment). Logged old.native new.native (moment kernel left sent) to) (moment_stays kernel left sent step look.kernel_stays look.left_stays look.sends) (logged sent);
    effects = same;
  },
)
looked kernel answer memory left step (Err stop) became room before after old new told look stopped logged same = stopped_rest before after told look stopped

-- an error, where no content has changed
pub looked_stop : {A : Type 0} (IsThere : A → Type 0) (result : Result A Stop) (kernel became : Kernel) (before after : Contents) (left : List ℕ) (old new : Kept) → IsErr result → after ≡ before → Looked IsThere result kernel became before after left old new
looked_stop IsThere (Ok found) kernel became before after left old new failed same = absurd cc
looked_stop IsThere (Err stop) kernel became before after left old new failed same = same

-- Several

pub unmoved_then : {kernel middle became : Kernel} {before between after : Contents} {left : List ℕ} {old kept new : Kept} → Unmoved kernel middle before between left old kept → Unmoved middle became between after left kept new → Unmoved kernel became before after left old new
unmoved_then {kernel} {middle} {became} {before} {between} {after} {left} {old} {kept} {new} p q = record {
  same = q.same ∙ p.same;
  rest = q.rest ∙ p.rest;
  logged = λ sent. logged_then (p.logged sent) (subst (λ (k : Kernel). Logged kept.native new.native (moment k left sent) (moment k left sent)) p.same (q.logged sent));
  effects = q.effects ∙ p.effects;
}

-- what is left of the input is told afterwards too
pub still_told : {kernel became : Kernel} {before after : Contents} {left : List ℕ} {old new : Kept} → Unmoved kernel became before after left old new → before.left ≡ Some left → after.left ≡ Some left
still_told u told = ap (λ (c : Contents). c.left) u.rest ∙ told

-- the call that was looked for

pub keeps_then : {kernel became : Kernel} {before between : Contents} {left : List ℕ} {old kept new : Kept} {guest : Guest} {step : O32Step} → Unmoved kernel became before between left old kept → Keeps step became left guest kept new → Keeps step kernel left guest old new
keeps_then {kernel} {became} {left = left} {old = old} {kept = kept} {new = new} {guest = guest} {step = step} u keeps = record {
  native = logged_then (u.logged nothing) (subst (λ (k : Kernel). Logged kept.native new.native (opening k left) (moment step.kernel step.left step.sent)) u.same keeps.native);
  effects = subst (λ (e : Option (List Effect)). Effected e new.effects (reached guest.processor guest.memory.pages nothing) (reached guest.processor step.memory.pages step.sent)) u.effects keeps.effects;
}

-- what a second one finds, where the first changed nothing
pub looked_then : {A : Type 0} (IsThere : Kernel → A → Type 0) (result : Result A Stop) (kernel middle became : Kernel) (before between after : Contents) (left : List ℕ) (old kept new : Kept) → Unmoved kernel middle before between left old kept
    → Looked (IsThere middle) result middle became between after left kept new → Looked (IsThere kernel) result kernel became before after left old new
looked_then IsThere (Ok found) kernel middle became before between after left old kept new unmoved seen =
    (subst (λ (k : Kernel). IsThere k found) unmoved.same seen.0, unmoved_then unmoved seen.1)
looked_then IsThere (Err stop) kernel middle became before between after left old kept new unmoved same = same ∙ unmoved.rest

-- where nothing was asked
pub unmoved_none : (kernel : Kernel) (at : Contents) (left : List ℕ) (kept : Kept) → Unmoved kernel kernel at at left kept kept
unmoved_none kernel at left kept = record { same = refl; rest = refl; logged = λ sent. logged_none kept.native (moment kernel left sent); effects = refl }

-- The call that the looks were for is made of the kernel as it was.

pub row_then : (step : Kernel → O32Step) (result : Result Outcome Stop) (kernel middle became : Kernel) (memory : Memory) (processor : Processor) (before between after : Contents) {left : List ℕ} {old new : Kept} → Unmoved kernel middle before between left old new
    → o32.Answers (step middle) result became memory processor between after → o32.Answers (step kernel) result became memory processor before after
row_then step result kernel middle became memory processor before between after u answers =
    subst (λ (k : Kernel). o32.Answers (step k) result became memory processor before after) u.same
    (subst (λ (from : Contents). o32.Answers (step middle) result became memory processor from after) u.rest answers)

pub kept_then : (step : Kernel → O32Step) (result : Result Outcome Stop) (kernel middle : Kernel) (guest : Guest) (before between : Contents) (left : List ℕ) (old kept new : Kept) → Unmoved kernel middle before between left old kept
    → OnOk result (Keeps (step middle) middle left guest kept new) → OnOk result (Keeps (step kernel) kernel left guest old new)
kept_then step (Ok outcome) kernel middle guest before between left old kept new u keeps =
    subst (λ (k : Kernel). Keeps (step k) kernel left guest old new) u.same (keeps_then u keeps)
kept_then step (Err stop) kernel middle guest before between left old kept new u keeps = tt

-- a look that stopped early
pub stopped_row : (step : O32Step) (result : Result Outcome Stop) (kernel : Kernel) (memory : Memory) (processor : Processor) (before after : Contents) → IsErr result → after ≡ before
    → o32.Answers step result kernel memory processor before after
stopped_row step result kernel memory processor before after failed same =
    subst (λ (to : Contents). o32.Answers step result kernel memory processor before to) (sym same) (fails_before step result kernel memory processor before failed)
