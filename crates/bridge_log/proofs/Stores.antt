-- Bytes that were stored, as an effect.
use Rattle.std.proofs.Common.{◌≡◌, ℕ, zero, suc, ◌+◌, ◌<◌, ◌^◌, List, [], ◌∷◌, length, None, Option, Some, refl, sym, ap, subst, ◌∙◌, arith, true, false, Bool}
use Rattle.std.proofs.lemmas.Bool.Decides.{nat_tests}
use Rattle.std.specs.Prelude.{is_none, nat_le, if◌then◌else◌}
use Rattle.guest_space.specs.Access.{first_denied, refusal, denied_or, user_end}
use Rattle.guest_space.specs.declared.access.Denied.{Denied}
use Rattle.guest_space.specs.declared.access.Why.{Why}
use Rattle.guest_space.specs.Bytes.{copied_out, with_bytes}
use Rattle.guest_space.specs.Memory.{Memory, Pages}
use Rattle.guest_space.specs.declared.access.Access.TheVariants.{Store}
use Rattle.guest_space.specs.declared.access.Why.TheVariants.{Beyond}
use Rattle.kernel_core.specs.declared.record.Effect.{Effect}
use Rattle.kernel_core.specs.declared.record.Effect.TheVariants.{Write}
use Rattle.kernel_model.specs.Pipes.{Sent}
use Rattle.mips_exec.specs.Processor.{Processor}
use Rattle.o32_model.specs.Effects.{Effected}
use Rattle.o32_model.specs.GuestBytes.{is_storable, with_stored}
use Rattle.o32_model.specs.Logs.{with_more}
use Rattle.bridge_log.proofs.Histories.{with_more-none}
use Rattle.bridge_log.proofs.Journals.{effected_none, effected_write, if_some}
use Rattle.bridge_log.specs.Keeping.{reached}
use Rattle.bridge_log.specs.Moved.{written, stored}

-- What is not denied lies in user space, so there are fewer than 2^32 such bytes.

later_free : (address : ℕ) (here : Option Why) (later : Option Denied) → denied_or address here later ≡ None → later ≡ None
later_free address None later free = free
later_free address (Some why) later free = absurd cc

here_free : (address : ℕ) (here : Option Why) (later : Option Denied) → denied_or address here later ≡ None → here ≡ None
here_free address None later free = refl
here_free address (Some why) later free = absurd cc

free_below : (beyond : Bool) (here : Option Why) → (if beyond then Some Beyond else here) ≡ None → beyond ≡ false
free_below true here free = absurd cc
free_below false here free = refl

used_below : (pages : Pages) (address : ℕ) → refusal Store pages address ≡ None → address < user_end
unfolding refusal
used_below pages address free = let below = free_below (nat_le user_end address) _ free in grind (arith, nat_tests)

free_inside : (pages : Pages) (count address : ℕ) → first_denied Store pages address (suc count) ≡ None → address + count < user_end
unfolding first_denied
free_inside pages zero address free = let below = used_below pages address (here_free address _ _ free) in omega arith
free_inside pages (suc count) address free = let inside = free_inside pages count (address + 1) (later_free address _ _ free) in omega arith

free_short : (pages : Pages) (count address : ℕ) → first_denied Store pages address count ≡ None → count < 2 ^ 32
free_short pages zero address free = omega arith
free_short pages (suc count) address free = let inside = free_inside pages count address free in omega arith

-- Effects

storable_free : (denied : Option Denied) → is_none denied ≡ true → denied ≡ None
storable_free None storable = refl
storable_free (Some denied) storable = absurd cc

pub stored_nothing : (memory : Memory) (address : ℕ) → with_stored memory address [] ≡ memory
unfolding first_denied copied_out with_bytes
stored_nothing memory address = refl

some_stored : (old new : Option (List Effect)) (processor : Processor) (sent : Sent) (memory changed : Memory) (address : ℕ) (bytes : List ℕ) → address < 2 ^ 32 → is_storable memory address (length bytes) ≡ true
    → changed ≡ with_stored memory address bytes → new ≡ with_more old (Write address bytes ∷ []) → Effected old new (reached processor memory.pages sent) (reached processor changed.pages sent)
unfolding copied_out
some_stored old new processor sent memory changed address bytes placed storable became kept =
    let free : first_denied Store memory.pages address (length bytes) ≡ None = storable_free _ storable in
    let is : changed ≡ copied_out memory address bytes = became ∙ (rw free) in
    subst (λ (m : Memory). Effected old new (reached processor memory.pages sent) (reached processor m.pages sent)) (sym is)
    (effected_write old new (reached processor memory.pages sent) address bytes kept placed (free_short memory.pages (length bytes) address free) free)

pub effected_unstored : (old new : Option (List Effect)) (processor : Processor) (sent : Sent) (memory changed : Memory) → changed ≡ memory → new ≡ old → Effected old new (reached processor memory.pages sent) (reached processor changed.pages sent)
effected_unstored old new processor sent memory changed became kept =
    subst (λ (effects : Option (List Effect)). Effected old effects (reached processor memory.pages sent) (reached processor changed.pages sent)) (sym kept)
    (subst (λ (m : Memory). Effected old old (reached processor memory.pages sent) (reached processor m.pages sent)) (sym became) (effected_none old (reached processor memory.pages sent)))

pub effected_stored : (old new : Option (List Effect)) (processor : Processor) (sent : Sent) (memory changed : Memory) (address : ℕ) (bytes : List ℕ) → address < 2 ^ 32 → is_storable memory address (length bytes) ≡ true
    → changed ≡ with_stored memory address bytes → new ≡ with_more old (written address bytes) → Effected old new (reached processor memory.pages sent) (reached processor changed.pages sent)
effected_stored old new processor sent memory changed address [] placed storable became kept =
    effected_unstored old new processor sent memory changed (became ∙ stored_nothing memory address) (kept ∙ sym (with_more-none old))
effected_stored old new processor sent memory changed address (byte ∷ bytes) placed storable became kept =
    some_stored old new processor sent memory changed address (byte ∷ bytes) placed storable became
    (kept ∙ ap (with_more old) (if_some (byte ∷ bytes) (Write address (byte ∷ bytes)) (omega arith)))

-- What is kept of them

if_true : {A : Type 0} (test : Bool) (first second : A) → test ≡ true → (if test then first else second) ≡ first
if_true true first second holds = refl
if_true false first second holds = absurd cc

if_false : {A : Type 0} (test : Bool) (first second : A) → test ≡ false → (if test then first else second) ≡ second
if_false true first second holds = absurd cc
if_false false first second holds = refl

if_same : {A : Type 0} (test : Bool) (one : A) → (if test then one else one) ≡ one
if_same true one = refl
if_same false one = refl

pub kept_stored : (old new : Option (List Effect)) (memory : Memory) (address : ℕ) (bytes : List ℕ) → is_storable memory address (length bytes) ≡ true → new ≡ with_more old (written address bytes) → new ≡ with_more old (stored memory address bytes)
kept_stored old new memory address bytes storable kept = kept ∙ ap (with_more old) (sym (if_true _ (written address bytes) [] storable))

pub kept_refused : (old new : Option (List Effect)) (memory : Memory) (address : ℕ) (bytes : List ℕ) → is_storable memory address (length bytes) ≡ false → new ≡ old → new ≡ with_more old (stored memory address bytes)
kept_refused old new memory address bytes refused same = same ∙ with_more-none old ∙ ap (with_more old) (sym (if_false _ (written address bytes) [] refused))

pub kept_unstored : (old new : Option (List Effect)) (memory : Memory) (address : ℕ) (bytes : List ℕ) → bytes ≡ [] → new ≡ old → new ≡ with_more old (stored memory address bytes)
kept_unstored old new memory address bytes none same =
    same ∙ with_more-none old
    ∙ ap (with_more old) (sym (if_same {A = List Effect} (is_storable memory address 0) []))
    ∙ ap (λ (b : List ℕ). with_more old (stored memory address b)) (sym none)

-- where not all bytes can be stored, nothing changes
pub not_stored : (memory : Memory) (address : ℕ) (bytes : List ℕ) → is_storable memory address (length bytes) ≡ false → with_stored memory address bytes ≡ memory
not_stored memory address bytes not = rw not
