-- Calls that change the kernel and no content: one, several, and looks among them.
use Rattle.std.proofs.Common.{◌≡◌, ℕ, List, Option, Some, refl, sym, ap, subst, ◌∙◌, append-nil, Result, Ok, Err, OnOk, IsErr}
use Rattle.kernel_core.specs.declared.core_error.Stop.{Stop}
use Rattle.kernel_core.specs.declared.record.Effect.{Effect}
use Rattle.kernel_core.specs.declared.reply.Reply.{Reply}
use Rattle.kernel_model.specs.Pipes.{Sent, nothing}
use Rattle.kernel_model.specs.State.{Kernel}
use Rattle.native_calls.specs.Answered as native
use Rattle.native_calls.specs.History.{Moment, moment, more_sent}
use Rattle.native_calls.specs.Step.{NativeStep}
use Rattle.o32_model.specs.Effects.{Effected}
use Rattle.o32_model.specs.Logs.{Kept}
use Rattle.o32_model.specs.Step.{Guest, O32Step}
use Rattle.outside.specs.Streams.{Contents}
use Rattle.bridge_log.proofs.Histories.{logged_none, logged_then}
use Rattle.bridge_log.proofs.Looking.{looked}
use Rattle.bridge_log.specs.Keeping.{Logged, Keeps, reached}
use Rattle.bridge_log.specs.Looks.{Unmoved, Looked}
use Rattle.bridge_signal_state.specs.Acts.{Moves, Acted}
use Rattle.bridge_signal_state.specs.Acting.{Answers, IsAct}

-- One native call

moment_goes : (became : Kernel) (left : List ℕ) (sent : Sent) (step : NativeStep) → step.kernel ≡ became → step.left ≡ left → step.sent ≡ nothing → moment step.kernel step.left (more_sent sent step.sent) ≡ moment became left sent
moment_goes became left sent step same rest none =
    ap (λ (k : Kernel). moment k step.left (more_sent sent step.sent)) same
    ∙ ap (λ (l : List ℕ). moment became l (more_sent sent step.sent)) rest
    ∙ ap (λ (s : Sent). moment became left (more_sent sent s)) none
    ∙ ap (moment became left) (λ i. record { out = append-nil sent.out i; err = append-nil sent.err i })

pub acted : (kernel to : Kernel) (answer : Reply) (memory left : List ℕ) (step : NativeStep) (result : Result Reply Stop) (became : Kernel) (room : List ℕ) (before after : Contents) (old new : Kept) → before.left ≡ Some left → IsAct to answer memory left step
    → native.Answers step result became room before after
    → ((sent : Sent) → OnOk result (Logged old.native new.native (moment kernel left sent) (moment step.kernel step.left (more_sent sent step.sent))))
    → new.effects ≡ old.effects → Acted (Answers to answer memory room) result kernel became before after left old new
acted kernel to answer memory left step (Ok reply) became room before after old new told act called logged same =
    let goes = λ (sent : Sent). moment_goes to left sent step act.kernel_stays act.left_stays act.sends in
    let seen = looked to answer memory left step (Ok reply) became room before after old old told act called
    (λ sent. subst (λ (end : Moment). Logged old.native old.native (moment to left sent) end) (sym (goes sent)) (logged_none old.native (moment to left sent))) refl in (
      (seen.0, seen.1.same),
      record {
        rest = seen.1.rest;
        logged = λ sent.
            subst (λ (end : Moment). Logged old.native new.native (moment kernel left sent) end)
            (goes sent ∙ ap (λ (k : Kernel). moment k left sent) (sym seen.1.same)) (logged sent);
        effects = same;
      },
    )
acted kernel to answer memory left step (Err stop) became room before after old new told act stopped logged same =
    looked to answer memory left step (Err stop) became room before after old old told act stopped (λ sent. tt) refl

-- an error, where no content has changed
pub acted_stop : {A : Type 0} (Does : A → Kernel → Type 0) (result : Result A Stop) (kernel became : Kernel) (before after : Contents) (left : List ℕ) (old new : Kept) → IsErr result → after ≡ before → Acted Does result kernel became before after left old new
acted_stop Does (Ok found) kernel became before after left old new failed same = absurd cc
acted_stop Does (Err stop) kernel became before after left old new failed same = same

-- where it did something else too, or less is said of it
pub acted_as : {A : Type 0} (Does Did : A → Kernel → Type 0) (result : Result A Stop) (kernel became : Kernel) (before after : Contents) (left : List ℕ) (old new : Kept)
    → ((found : A) → Does found became → Did found became) → Acted Does result kernel became before after left old new → Acted Did result kernel became before after left old new
acted_as Does Did (Ok found) kernel became before after left old new so done = (so found done.0, done.1)
acted_as Does Did (Err stop) kernel became before after left old new so same = same

-- A look is a call that leaves the kernel.

pub moves_look : {kernel became : Kernel} {before after : Contents} {left : List ℕ} {old new : Kept} → Unmoved kernel became before after left old new → Moves kernel became before after left old new
moves_look {kernel} {became} {left = left} {old = old} {new = new} u = record {
  rest = u.rest;
  logged = λ sent. subst (λ (k : Kernel). Logged old.native new.native (moment kernel left sent) (moment k left sent)) (sym u.same) (u.logged sent);
  effects = u.effects;
}

pub acted_look : {A : Type 0} (IsThere : A → Type 0) (result : Result A Stop) (kernel became : Kernel) (before after : Contents) (left : List ℕ) (old new : Kept) → Looked IsThere result kernel became before after left old new
    → Acted (λ found to. IsThere found × (to ≡ kernel)) result kernel became before after left old new
acted_look IsThere (Ok found) kernel became before after left old new seen = ((seen.0, seen.1.same), moves_look seen.1)
acted_look IsThere (Err stop) kernel became before after left old new same = same

-- Several

pub moves_none : (kernel : Kernel) (at : Contents) (left : List ℕ) (kept : Kept) → Moves kernel kernel at at left kept kept
moves_none kernel at left kept = record { rest = refl; logged = λ sent. logged_none kept.native (moment kernel left sent); effects = refl }

pub moves_then : {kernel middle became : Kernel} {before between after : Contents} {left : List ℕ} {old kept new : Kept} → Moves kernel middle before between left old kept → Moves middle became between after left kept new → Moves kernel became before after left old new
moves_then p q = record {
  rest = q.rest ∙ p.rest;
  logged = λ sent. logged_then (p.logged sent) (q.logged sent);
  effects = q.effects ∙ p.effects;
}

-- what is left of the input is told afterwards too
pub told_after : {kernel became : Kernel} {before after : Contents} {left : List ℕ} {old new : Kept} → Moves kernel became before after left old new → before.left ≡ Some left → after.left ≡ Some left
told_after m told = ap (λ (c : Contents). c.left) m.rest ∙ told

-- one act after others
pub acted_then : {A : Type 0} (Does : A → Kernel → Type 0) (result : Result A Stop) (kernel middle became : Kernel) (before between after : Contents) (left : List ℕ) (old kept new : Kept) → Moves kernel middle before between left old kept
    → Acted Does result middle became between after left kept new → Acted Does result kernel became before after left old new
acted_then Does (Ok found) kernel middle became before between after left old kept new moves done = (done.0, moves_then moves done.1)
acted_then Does (Err stop) kernel middle became before between after left old kept new moves same = same ∙ moves.rest

-- an act after looks, by which the kernel has stayed as it was
pub acted_after : {A : Type 0} (Does : Kernel → A → Kernel → Type 0) (result : Result A Stop) (kernel middle became : Kernel) (before between after : Contents) (left : List ℕ) (old kept new : Kept) → Unmoved kernel middle before between left old kept
    → Acted (Does middle) result middle became between after left kept new → Acted (Does kernel) result kernel became before after left old new
acted_after Does (Ok found) kernel middle became before between after left old kept new unmoved done =
    (subst (λ (k : Kernel). Does k found became) unmoved.same done.0, moves_then (moves_look unmoved) done.1)
acted_after Does (Err stop) kernel middle became before between after left old kept new unmoved same = same ∙ unmoved.rest

-- a look after acts
pub looked_after : {A : Type 0} (IsThere : A → Type 0) (result : Result A Stop) (kernel middle became : Kernel) (before between after : Contents) (left : List ℕ) (old kept new : Kept) → Moves kernel middle before between left old kept
    → Looked IsThere result middle became between after left kept new → Acted (λ found to. IsThere found × (to ≡ middle)) result kernel became before after left old new
looked_after IsThere result kernel middle became before between after left old kept new moves seen =
    acted_then (λ found to. IsThere found × (to ≡ middle)) result kernel middle became before between after left old kept new moves
    (acted_look IsThere result middle became between after left kept new seen)

-- what a call of a program keeps that goes on from there
pub keeps_after : {kernel middle : Kernel} {before between : Contents} {left : List ℕ} {old kept new : Kept} {guest : Guest} {step : O32Step} → Moves kernel middle before between left old kept → Keeps step middle left guest kept new → Keeps step kernel left guest old new
keeps_after {kernel} {middle} {left = left} {old = old} {kept = kept} {new = new} {guest = guest} {step = step} moves keeps = record {
  native = logged_then (moves.logged nothing) keeps.native;
  effects = subst (λ (e : Option (List Effect)). Effected e new.effects (reached guest.processor guest.memory.pages nothing) (reached guest.processor step.memory.pages step.sent)) moves.effects keeps.effects;
}
