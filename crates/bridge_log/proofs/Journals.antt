-- What is kept of effects over none, one and several of them.
use Rattle.std.proofs.Common.{◌≡◌, ℕ, ◌<◌, ◌^◌, ◌⊎◌, Bool, true, false, List, [], ◌∷◌, ◌++◌, length, Option, None, Result, Ok, Err, refl, sym, ap, subst, ◌∙◌, inl, inr, arith}
use Rattle.std.proofs.lemmas.Bool.Decides.{nat_tests}
use Rattle.std.proofs.lemmas.List.Elements.{All-append, All-nil, All-cons}
use Rattle.std.specs.Prelude.{◌==◌, if◌then◌else◌}
use Rattle.guest_space.specs.Access.{first_denied}
use Rattle.guest_space.specs.Bytes.{with_bytes}
use Rattle.guest_space.specs.Memory.{Pages}
use Rattle.guest_space.specs.declared.access.Access.TheVariants.{Store}
use Rattle.kernel_core.specs.declared.record.Effect.{Effect}
use Rattle.kernel_core.specs.declared.record.Effect.TheVariants.{Write, Output}
use Rattle.kernel_model.specs.Pipes.{Sent, nothing}
use Rattle.mips_exec.specs.Processor.{Processor}
use Rattle.o32_model.specs.Effects.{Target, Difference, IsFormed, Effected, after_write, carried, carried_on, on_pages, written_unless}
use Rattle.o32_model.specs.Logs.{with_more}
use Rattle.bridge_log.proofs.Histories.{with_more-none, with_more-twice}
use Rattle.bridge_log.specs.Moved.{sent_on}
use Rattle.bridge_log.specs.Keeping.{reached}
use Rattle.bridge_log.specs.Sending.{sent_by}

carried_on-differs : (effects : List Effect) (difference : Difference) → carried_on effects (Err difference) ≡ Err difference
carried_on-differs [] difference = refl
carried_on-differs (effect ∷ effects) difference = refl

pub carried_on-append : (first second : List Effect) (reached : Result Target Difference) → carried_on (first ++ second) reached ≡ carried_on second (carried_on first reached)
carried_on-append [] second reached = refl
carried_on-append (effect ∷ first) second (Err difference) = sym (carried_on-differs second difference)
carried_on-append (effect ∷ first) second (Ok target) = carried_on-append first second (carried target effect)

pub effected_none : (kept : Option (List Effect)) (at : Target) → Effected kept kept at at
effected_none kept at = record { more = []; kept = with_more-none kept; formed = All-nil IsFormed; leads = refl }

pub effected_one : (old new : Option (List Effect)) (effect : Effect) (from to : Target) → new ≡ with_more old (effect ∷ []) → IsFormed effect → carried from effect ≡ Ok to → Effected old new from to
effected_one old new effect from to kept formed leads = record { more = effect ∷ []; kept = kept; formed = All-cons IsFormed effect [] formed (All-nil IsFormed); leads = leads }

pub effected_then : {old middle new : Option (List Effect)} {from between to : Target} → Effected old middle from between → Effected middle new between to → Effected old new from to
effected_then {old} {middle} {new} {from} {between} {to} p q = record {
  more = p.more ++ q.more;
  kept = q.kept ∙ ap (λ kept. with_more kept q.more) p.kept ∙ with_more-twice old p.more q.more;
  formed = All-append IsFormed p.more q.more p.formed q.formed;
  leads = carried_on-append p.more q.more (Ok from) ∙ ap (carried_on q.more) p.leads ∙ q.leads;
}

-- Bytes that were written, and bytes that went out

can_write : (pages : Pages) (address : ℕ) (bytes : List ℕ) → first_denied Store pages address (length bytes) ≡ None → after_write pages address bytes ≡ Ok (with_bytes pages address bytes)
can_write pages address bytes free = rw free

pub effected_write : (old new : Option (List Effect)) (at : Target) (address : ℕ) (bytes : List ℕ) → new ≡ with_more old (Write address bytes ∷ []) → address < 2 ^ 32 → length bytes < 2 ^ 32 → first_denied Store at.pages address (length bytes) ≡ None → Effected old new at (record at { pages = with_bytes at.pages address bytes })
effected_write old new at address bytes kept placed short free =
    effected_one old new (Write address bytes) at (record at { pages = with_bytes at.pages address bytes }) kept (placed, short)
    (ap (on_pages at) (can_write at.pages address bytes free))

pub effected_out : (old new : Option (List Effect)) (at : Target) (bytes : List ℕ) → new ≡ with_more old (Output 1 bytes ∷ []) → length bytes < 2 ^ 32 → Effected old new at (record at { sent = record at.sent { out = at.sent.out ++ bytes } })
effected_out old new at bytes kept short = effected_one old new (Output 1 bytes) at _ kept (inl refl, short) refl

pub effected_err : (old new : Option (List Effect)) (at : Target) (bytes : List ℕ) → new ≡ with_more old (Output 2 bytes ∷ []) → length bytes < 2 ^ 32 → Effected old new at (record at { sent = record at.sent { err = at.sent.err ++ bytes } })
effected_err old new at bytes kept short = effected_one old new (Output 2 bytes) at _ kept (inr refl, short) refl

-- Bytes that went out on a stream, which may be none

no_bytes : (stream : ℕ) → nothing ≡ sent_by stream []
no_bytes stream = by (stream == 1) where
  by : (out : Bool) → nothing ≡ (if out then record nothing { out = [] } else record nothing { err = [] })
  by true = refl
  by false = refl

pub effected_unsent : (old new : Option (List Effect)) (stream : ℕ) (processor : Processor) (pages : Pages) (bytes : List ℕ) → bytes ≡ [] → new ≡ old
    → Effected old new (reached processor pages nothing) (reached processor pages (sent_by stream bytes))
effected_unsent old new stream processor pages bytes none same =
    subst (λ (b : List ℕ). Effected old new (reached processor pages nothing) (reached processor pages (sent_by stream b))) (sym none)
    (subst (λ (s : Sent). Effected old new (reached processor pages nothing) (reached processor pages s)) (no_bytes stream)
    (subst (λ (e : Option (List Effect)). Effected old e (reached processor pages nothing) (reached processor pages nothing)) (sym same) (effected_none old (reached processor pages nothing))))

some_sent : (old new : Option (List Effect)) (stream : ℕ) (processor : Processor) (pages : Pages) (bytes : List ℕ) → (stream ≡ 1) ⊎ (stream ≡ 2) → length bytes < 2 ^ 32 → new ≡ with_more old (Output stream bytes ∷ [])
    → Effected old new (reached processor pages nothing) (reached processor pages (sent_by stream bytes))
some_sent old new stream processor pages bytes (inl is) short kept =
    subst (λ (s : ℕ). Effected old new (reached processor pages nothing) (reached processor pages (sent_by s bytes))) (sym is)
    (effected_out old new (reached processor pages nothing) bytes (kept ∙ ap (λ (s : ℕ). with_more old (Output s bytes ∷ [])) is) short)
some_sent old new stream processor pages bytes (inr is) short kept =
    subst (λ (s : ℕ). Effected old new (reached processor pages nothing) (reached processor pages (sent_by s bytes))) (sym is)
    (effected_err old new (reached processor pages nothing) bytes (kept ∙ ap (λ (s : ℕ). with_more old (Output s bytes ∷ [])) is) short)

-- bytes that are some are an effect
pub if_some : (bytes : List ℕ) (effect : Effect) → 0 < length bytes → (if length bytes == 0 then [] else effect ∷ []) ≡ effect ∷ []
if_some bytes effect some =
    let not_none : (length bytes == 0) ≡ false = grind (arith, nat_tests) in
    ap (λ (b : Bool). if b then [] else effect ∷ []) not_none

pub effected_sent : (old new : Option (List Effect)) (stream : ℕ) (processor : Processor) (pages : Pages) (bytes : List ℕ) → (stream ≡ 1) ⊎ (stream ≡ 2) → length bytes < 2 ^ 32 → new ≡ with_more old (sent_on stream bytes)
    → Effected old new (reached processor pages nothing) (reached processor pages (sent_by stream bytes))
effected_sent old new stream processor pages [] is short kept = effected_unsent old new stream processor pages [] refl (kept ∙ sym (with_more-none old))
effected_sent old new stream processor pages (byte ∷ bytes) is short kept =
    some_sent old new stream processor pages (byte ∷ bytes) is short (kept ∙ ap (with_more old) (if_some (byte ∷ bytes) (Output stream (byte ∷ bytes)) (omega arith)))

-- where no byte went out, nothing is kept of it
pub kept_unsent : (old new : Option (List Effect)) (stream : ℕ) (bytes : List ℕ) → bytes ≡ [] → new ≡ old → new ≡ with_more old (sent_on stream bytes)
kept_unsent old new stream bytes none same = same ∙ with_more-none old ∙ ap (λ (b : List ℕ). with_more old (sent_on stream b)) (sym none)
