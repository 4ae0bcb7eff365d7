-- What is kept of native calls over none, one and several of them.
use Rattle.std.proofs.Common.{◌≡◌, ℕ, List, [], ◌∷◌, ◌++◌, Option, None, Some, refl, sym, ap, subst, ◌∙◌, append_assoc, append-nil, Result, Ok, Err, IfOk, OnOk}
use Rattle.kernel_core.specs.declared.log_entry.LogEntry.{LogEntry}
use Rattle.kernel_core.specs.declared.core_error.Stop.{Stop}
use Rattle.kernel_core.specs.declared.log_entry.LogEntry.TheVariants.{Call}
use Rattle.kernel_core.specs.declared.reply.Reply.{Reply}
use Rattle.kernel_model.specs.Pipes.{Sent}
use Rattle.kernel_model.specs.State.{Kernel}
use Rattle.native_calls.specs.Answered.{Called, Answers}
use Rattle.native_calls.specs.History.{Moment, moment, more_sent, Follows, Leads}
use Rattle.native_calls.specs.Step.{NativeStep}
use Rattle.native_calls.specs.Table.{native_call}
use Rattle.outside.specs.Streams.{Contents}
use Rattle.o32_model.specs.Logs.{with_more}
use Rattle.bridge_log.specs.Keeping.{Logged}

-- Lists that are kept

pub with_more-none : {A : Type 0} (kept : Option (List A)) → kept ≡ with_more kept []
with_more-none None = refl
with_more-none (Some list) = ap Some (sym (append-nil list))

pub with_more-twice : {A : Type 0} (kept : Option (List A)) (first second : List A) → with_more (with_more kept first) second ≡ with_more kept (first ++ second)
with_more-twice None first second = refl
with_more-twice (Some list) first second = ap Some (append_assoc list first second)

-- Histories

pub Leads-append : (from middle to : Moment) (first second : List LogEntry) → Leads from first middle → Leads middle second to → Leads from (first ++ second) to
Leads-append from middle to [] second same after = subst (λ (m : Moment). Leads m second to) (sym same) after
Leads-append from middle to (entry ∷ first) second before after =
    (before.0, before.1, Leads-append before.0 middle to first second before.2 after)

pub logged_none : (kept : Option (List LogEntry)) (at : Moment) → Logged kept kept at at
logged_none kept at = record { more = []; kept = with_more-none kept; leads = refl }

pub logged_one : (old new : Option (List LogEntry)) (entry : LogEntry) (from to : Moment) → new ≡ with_more old (entry ∷ []) → Follows from entry to → Logged old new from to
logged_one old new entry from to kept follows = record { more = entry ∷ []; kept = kept; leads = (to, follows, refl) }

pub logged_then : {old middle new : Option (List LogEntry)} {from between to : Moment} → Logged old middle from between → Logged middle new between to → Logged old new from to
logged_then {old} {middle} {new} {from} {between} {to} p q = record {
  more = p.more ++ q.more;
  kept = q.kept ∙ ap (λ kept. with_more kept q.more) p.kept ∙ with_more-twice old p.more q.more;
  leads = Leads-append from between to p.more q.more p.leads q.leads;
}

-- One native call

-- the moments before and after a call
abbrev pub LoggedOver : NativeStep → Kernel → List ℕ → Sent → Option (List LogEntry) → Option (List LogEntry) → Type 0
LoggedOver step kernel left sent old new = Logged old new (moment kernel left sent) (moment step.kernel step.left (more_sent sent step.sent))

logged_called : (number : ℕ) (args : List ℕ) (kernel became : Kernel) (before after left : List ℕ) (sent : Sent) (reply : Reply) (old new : Option (List LogEntry)) (from to : Contents)
    → Called (native_call number args kernel before left) reply became after from to → new ≡ with_more old (Call number args before after reply ∷ [])
    → LoggedOver (native_call number args kernel before left) kernel left sent old new
logged_called number args kernel became before after left sent reply old new from to called kept =
    logged_one old new (Call number args before after reply) _ _ kept (record { replied = called.answered; stored = called.stored; became = refl; rest = refl; told = refl })

-- a call that was kept, or would have been
pub logged_call : (number : ℕ) (args : List ℕ) (kernel became : Kernel) (before after left : List ℕ) (sent : Sent) (result : Result Reply Stop) (old new : Option (List LogEntry)) (from to : Contents)
    → Answers (native_call number args kernel before left) result became after from to → IfOk result (λ reply. new ≡ with_more old (Call number args before after reply ∷ []))
    → OnOk result (LoggedOver (native_call number args kernel before left) kernel left sent old new)
logged_call number args kernel became before after left sent (Ok reply) old new from to called kept = logged_called number args kernel became before after left sent reply old new from to called kept
logged_call number args kernel became before after left sent (Err stop) old new from to stopped kept = tt

if_nothing_kept : (number : ℕ) (args before after : List ℕ) (result : Result Reply Stop) → IfOk result (λ reply. None ≡ with_more None (Call number args before after reply ∷ []))
if_nothing_kept number args before after (Ok reply) = refl
if_nothing_kept number args before after (Err stop) = tt

pub logged_unkept : (number : ℕ) (args : List ℕ) (kernel became : Kernel) (before after left : List ℕ) (sent : Sent) (result : Result Reply Stop) (from to : Contents)
    → Answers (native_call number args kernel before left) result became after from to
    → OnOk result (LoggedOver (native_call number args kernel before left) kernel left sent None None)
logged_unkept number args kernel became before after left sent result from to answers =
    logged_call number args kernel became before after left sent result None None from to answers (if_nothing_kept number args before after result)

if_pushed : (number : ℕ) (args before after : List ℕ) (result : Result Reply Stop) (old new : List LogEntry) → IfOk result (λ reply. new ≡ old ++ (Call number args before after reply ∷ []))
    → IfOk result (λ reply. Some new ≡ with_more (Some old) (Call number args before after reply ∷ []))
if_pushed number args before after (Ok reply) old new pushed = ap Some pushed
if_pushed number args before after (Err stop) old new pushed = tt

pub logged_pushed : (number : ℕ) (args : List ℕ) (kernel became : Kernel) (before after left : List ℕ) (sent : Sent) (result : Result Reply Stop) (old new : List LogEntry) (from to : Contents)
    → Answers (native_call number args kernel before left) result became after from to → IfOk result (λ reply. new ≡ old ++ (Call number args before after reply ∷ []))
    → OnOk result (LoggedOver (native_call number args kernel before left) kernel left sent (Some old) (Some new))
logged_pushed number args kernel became before after left sent result old new from to answers pushed =
    logged_call number args kernel became before after left sent result (Some old) (Some new) from to answers (if_pushed number args before after result old new pushed)
