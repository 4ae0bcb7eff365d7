-- A native call that changes the kernel, and the call of the program that it is made for.
use Rattle.std.proofs.Common.{◌≡◌, ◌⊎◌, ℕ, List, [], ◌∷◌, ◌++◌, Option, None, Some, refl, sym, ap, subst, ◌∙◌, inl, inr, append-nil, Result, Ok, Err, OnOk}
use Rattle.guest_space.specs.Memory.{Memory}
use Rattle.kernel_core.specs.declared.core_error.Stop.{Stop}
use Rattle.kernel_core.specs.declared.log_entry.LogEntry.{LogEntry}
use Rattle.kernel_core.specs.declared.record.Effect.{Effect}
use Rattle.kernel_core.specs.declared.reply.Reply.{Reply}
use Rattle.kernel_model.specs.Pipes.{Sent, nothing}
use Rattle.kernel_model.specs.State.{Kernel}
use Rattle.mips_exec.specs.Processor.{Processor}
use Rattle.native_calls.specs.Answered as native
use Rattle.native_calls.specs.History.{Moment, moment, opening, more_sent}
use Rattle.native_calls.specs.Step.{NativeStep}
use Rattle.o32_model.specs.Answered as o32
use Rattle.o32_model.specs.Effects.{Effected}
use Rattle.o32_model.specs.Logs.{Kept}
use Rattle.o32_model.specs.Step.{Guest, O32Step}
use Rattle.o32_model.specs.declared.outcome.Outcome.{Outcome}
use Rattle.outside.proofs.OutputLemmas.{GainsText-nothing}
use Rattle.outside.specs.Output.{GainsText, GainsBetween, with_text}
use Rattle.outside.specs.Streams.{Contents}
use Rattle.bridge_log.specs.Keeping.{Logged, Keeps, reached}
use Rattle.bridge_log.specs.Looks.{Unmoved}
use Rattle.bridge_timer.specs.inside.Acts.{Acted, IsAct, Moves}
use Rattle.bridge_log.specs.Storing.{Ending, ended}

-- Contents to which nothing is added

with_nothing : (text : Option (List ℕ)) → with_text text [] ≡ text
with_nothing None = refl
with_nothing (Some text) = ap Some (append-nil text)

gained_nothing : (old new : Option (List ℕ)) (more : List ℕ) → more ≡ [] → GainsText old new more → new ≡ old
gained_nothing old new more none gained = gained.after ∙ ap (with_text old) none ∙ with_nothing old

nothing_before : (front rest : List ℕ) → front ++ rest ≡ [] → front ≡ []
nothing_before [] rest whole = refl
nothing_before (byte ∷ front) rest whole = absurd cc

between_nothing : (old new : Option (List ℕ)) (high : List ℕ) → high ≡ [] → GainsBetween old new [] high → new ≡ old
between_nothing old new high none between = gained_nothing old new between.more (nothing_before between.more between.at_most.rest (between.at_most.whole ∙ none)) between.gained

contents_same : (before after : Contents) → after.left ≡ before.left → after.out ≡ before.out → after.err ≡ before.err → after ≡ before
contents_same before after left out err = λ i. record { left = left i; out = out i; err = err i }

called_rest : {target : Kernel} {answer : Reply} {left : List ℕ} {step : NativeStep} {reply : Reply} {became : Kernel} {room : List ℕ} (before after : Contents) → before.left ≡ Some left → IsAct target answer left step → native.Called step reply became room before after → after ≡ before
called_rest before after told act called =
    contents_same before after (called.rest ∙ ap Some act.left_stays ∙ sym told)
    (gained_nothing before.out after.out _ (ap (λ (s : Sent). s.out) act.sends) called.to_out)
    (gained_nothing before.err after.err _ (ap (λ (s : Sent). s.err) act.sends) called.to_err)

stopped_rest : {target : Kernel} {answer : Reply} {left : List ℕ} {step : NativeStep} (before after : Contents) → before.left ≡ Some left → IsAct target answer left step → native.Stopped step before after → after ≡ before
stopped_rest {left = left} {step = step} before after told act stopped =
    contents_same before after (by stopped.rest)
    (between_nothing before.out after.out _ (ap (λ (s : Sent). s.out) act.sends) stopped.to_out)
    (between_nothing before.err after.err _ (ap (λ (s : Sent). s.err) act.sends) stopped.to_err) where
      by : (after.left ≡ before.left) ⊎ (after.left ≡ Some step.left) → after.left ≡ before.left
      by (inl same) = same
      by (inr taken) = taken ∙ ap Some act.left_stays ∙ sym told

-- One call

moment_after : (became : Kernel) (left : List ℕ) (sent : Sent) (step : NativeStep) → step.kernel ≡ became → step.left ≡ left → step.sent ≡ nothing → moment step.kernel step.left (more_sent sent step.sent) ≡ moment became left sent
moment_after became left sent step same rest none =
    ap (λ (k : Kernel). moment k step.left (more_sent sent step.sent)) same
    ∙ ap (λ (l : List ℕ). moment became l (more_sent sent step.sent)) rest
    ∙ ap (λ (s : Sent). moment became left (more_sent sent s)) none
    ∙ ap (moment became left) (λ i. record { out = append-nil sent.out i; err = append-nil sent.err i })

-- what is answered and the kernel that it becomes
abbrev pub IsDone : Reply → Kernel → Reply → Kernel → Type 0
IsDone answer target reply became = (reply ≡ answer) × (became ≡ target)

pub acted : (kernel target : Kernel) (answer : Reply) (left : List ℕ) (step : NativeStep) (result : Result Reply Stop) (became : Kernel) (room : List ℕ) (before after : Contents) (old new : Kept) → before.left ≡ Some left → IsAct target answer left step
    → native.Answers step result became room before after
    → ((sent : Sent) → OnOk result (Logged old.native new.native (moment kernel left sent) (moment step.kernel step.left (more_sent sent step.sent))))
    → new.effects ≡ old.effects → Acted (IsDone answer target) result kernel became before after left old new
acted kernel target answer left step (Ok reply) became room before after old new told act called logged same = (
  (called.answered ∙ act.replied, called.became ∙ act.becomes),
  record {
    rest = called_rest before after told act called;
    logged = λ sent. subst (λ (to : Moment). Logged old.native new.native (moment kernel left sent) to) (moment_after became left sent step (sym called.became) act.left_stays act.sends) (logged sent);
    effects = same;
  },
)
acted kernel target answer left step (Err stop) became room before after old new told act stopped logged same = stopped_rest before after told act stopped

-- a call that changed nothing
pub unmoved_moves : {kernel became : Kernel} {before after : Contents} {left : List ℕ} {old new : Kept} → Unmoved kernel became before after left old new → Moves kernel became before after left old new
unmoved_moves {kernel} {left = left} {old = old} {new = new} u = record {
  rest = u.rest;
  logged = λ sent. subst (λ (k : Kernel). Logged old.native new.native (moment kernel left sent) (moment k left sent)) (sym u.same) (u.logged sent);
  effects = u.effects;
}

-- The call of the program that it was made for: beside it only the program's memory changes.

pub ended_called : {kernel became : Kernel} {before after : Contents} {left : List ℕ} {old kept : Kept} (target : Kernel) (guest : Guest) (outcome : Outcome) (memory : Memory) (ending : Ending) (step : O32Step)
    → Moves kernel became before after left old kept → before.left ≡ Some left → became ≡ target → step ≡ ended target guest.processor left ending → ending ≡ record { outcome = outcome; memory = memory }
    → o32.Called step outcome became memory guest.processor before after
ended_called {became = became} {before = before} {after = after} {left = left} target guest outcome memory ending step moves told done row is =
    subst (λ (s : O32Step). o32.Called s outcome became memory guest.processor before after) (sym row)
    (subst (λ (at : Contents). o32.Called (ended target guest.processor left ending) outcome became memory guest.processor before at) (sym moves.rest)
    (record {
      came = sym (ap (λ (e : Ending). e.outcome) is);
      became = done;
      stored = sym (ap (λ (e : Ending). e.memory) is);
      set = refl;
      rest = told;
      to_out = GainsText-nothing before.out;
      to_err = GainsText-nothing before.err;
    }))

pub ended_keeps : {kernel became : Kernel} {before after : Contents} {left : List ℕ} {old kept : Kept} (target : Kernel) (guest : Guest) (outcome : Outcome) (from memory : Memory) (ending : Ending) (step : O32Step) (new : Kept)
    → Moves kernel became before after left old kept → became ≡ target → guest.memory ≡ from → step ≡ ended target guest.processor left ending → ending ≡ record { outcome = outcome; memory = memory }
    → new.native ≡ kept.native → ((processor : Processor) (sent : Sent) → Effected kept.effects new.effects (reached processor from.pages sent) (reached processor memory.pages sent))
    → Keeps step kernel left guest old new
ended_keeps {kernel} {left = left} {old = old} {kept = kept} target guest outcome from memory ending step new moves done same row is native effects =
    subst (λ (s : O32Step). Keeps s kernel left guest old new) (sym row)
    (record {
      native =
          subst (λ (n : Option (List LogEntry)). Logged old.native n (opening kernel left) (moment target left nothing)) (sym native)
          (subst (λ (k : Kernel). Logged old.native kept.native (opening kernel left) (moment k left nothing)) done (moves.logged nothing));
      effects =
          subst (λ (m : Memory). Effected old.effects new.effects (reached guest.processor guest.memory.pages nothing) (reached guest.processor m.pages nothing)) (sym (ap (λ (e : Ending). e.memory) is))
          (subst (λ (m : Memory). Effected old.effects new.effects (reached guest.processor m.pages nothing) (reached guest.processor memory.pages nothing)) (sym same)
          (subst (λ (e : Option (List Effect)). Effected e new.effects (reached guest.processor from.pages nothing) (reached guest.processor memory.pages nothing)) moves.effects (effects guest.processor nothing)));
    })
