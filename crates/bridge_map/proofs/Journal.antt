-- What is kept of effects over none, one and several of them.
use Rattle.std.proofs.Common.{◌≡◌, ℕ, ◌≤◌, All, List, [], ◌∷◌, ◌++◌, Option, None, Some, Result, Ok, Err, refl, sym, ap, ◌∙◌, append_assoc, append-nil}
use Rattle.std.proofs.lemmas.List.Elements.{All-append, All-nil, All-cons}
use Rattle.guest_space.specs.Mapping.{with_protection}
use Rattle.guest_space.specs.Memory.{Pages}
use Rattle.guest_space.specs.Remapping.{without}
use Rattle.kernel_core.specs.declared.record.Effect.{Effect}
use Rattle.kernel_core.specs.declared.record.Effect.TheVariants.{Map, Unmap, Protect}
use Rattle.o32_model.specs.Effects.{Target, Difference, ArePages, IsFormed, Effected, after_protect, carried, carried_on, carried_all}
use Rattle.o32_model.specs.Effects as effects
use Rattle.mips_exec.specs.Processor.{Processor}
use Rattle.o32_model.specs.Logs.{with_more}
use Rattle.o32_model.specs.Ranges.{count_with, with_new_pages}
use Rattle.bridge_map.specs.Rows.{Leads, on_pages}

pub with_more-none : {A : Type 0} (kept : Option (List A)) → kept ≡ with_more kept []
with_more-none None = refl
with_more-none (Some list) = ap Some (sym (append-nil list))

pub with_more-twice : {A : Type 0} (kept : Option (List A)) (first second : List A) → with_more (with_more kept first) second ≡ with_more kept (first ++ second)
with_more-twice None first second = refl
with_more-twice (Some list) first second = ap Some (append_assoc list first second)

carried_on-differs : (effects : List Effect) (difference : Difference) → carried_on effects (Err difference) ≡ Err difference
carried_on-differs [] difference = refl
carried_on-differs (effect ∷ effects) difference = refl

pub carried_on-append : (first second : List Effect) (reached : Result Target Difference) → carried_on (first ++ second) reached ≡ carried_on second (carried_on first reached)
carried_on-append [] second reached = refl
carried_on-append (effect ∷ first) second (Err difference) = sym (carried_on-differs second difference)
carried_on-append (effect ∷ first) second (Ok target) = carried_on-append first second (carried target effect)

pub leads_none : (kept : Option (List Effect)) (pages : Pages) → Leads kept kept pages pages
leads_none kept pages = λ processor. record { more = []; kept = with_more-none kept; formed = All-nil IsFormed; leads = refl }

pub leads_one : (old new : Option (List Effect)) (effect : Effect) (before after : Pages) → new ≡ with_more old (effect ∷ []) → IsFormed effect
    → ((target : Target) → target.pages ≡ before → carried target effect ≡ Ok (record target { pages = after })) → Leads old new before after
leads_one old new effect before after kept formed leads = λ processor. record {
  more = effect ∷ [];
  kept = kept;
  formed = All-cons IsFormed effect [] formed (All-nil IsFormed);
  leads = leads (on_pages processor before) refl;
}

pub leads_then : (old middle new : Option (List Effect)) (before between after : Pages) → Leads old middle before between → Leads middle new between after → Leads old new before after
leads_then old middle new before between after p q = λ processor.
    let first = p processor in
    let second = q processor in
    record {
      more = first.more ++ second.more;
      kept = second.kept ∙ ap (λ kept. with_more kept second.more) first.kept ∙ with_more-twice old first.more second.more;
      formed = All-append IsFormed first.more second.more first.formed second.formed;
      leads = carried_on-append first.more second.more (Ok (on_pages processor before)) ∙ ap (carried_on second.more) first.leads ∙ second.leads;
    }

pub leads_list : (old new : Option (List Effect)) (effects : List Effect) (before after : Pages) → new ≡ with_more old effects → All IsFormed effects
    → ((processor : Processor) → carried_all (on_pages processor before) effects ≡ Ok (on_pages processor after)) → Leads old new before after
leads_list old new effects before after kept formed leads = λ processor. record { more = effects; kept = kept; formed = formed; leads = leads processor }

-- one effect on pages

pub unmap_leads : (old new : Option (List Effect)) (pages : Pages) (first count : ℕ) → new ≡ with_more old (Unmap first count ∷ []) → ArePages first count
    → Leads old new pages (without pages first count)
unmap_leads old new pages first count kept inside =
    leads_list old new (Unmap first count ∷ []) pages (without pages first count) kept (All-cons IsFormed (Unmap first count) [] inside (All-nil IsFormed)) (λ processor. refl)

pub map_leads : (old new : Option (List Effect)) (pages after : Pages) (first count protection : ℕ) → new ≡ with_more old (Map first count protection ∷ []) → ArePages first count
    → protection ≤ 7 → with_new_pages pages first count protection ≡ Some after → Leads old new pages after
map_leads old new pages after first count protection kept inside bits mapped =
    leads_list old new (Map first count protection ∷ []) pages after kept (All-cons IsFormed (Map first count protection) [] (inside, bits) (All-nil IsFormed))
    (λ processor. ap (λ (o : Option Pages). effects.on_pages (on_pages processor pages) (effects.mapped_or (count_with pages first count) o)) mapped)

pub protect_leads : (old new : Option (List Effect)) (pages : Pages) (first count protection : ℕ) → new ≡ with_more old (Protect first count protection ∷ []) → ArePages first count
    → protection ≤ 7 → after_protect pages first count protection ≡ Ok (with_protection pages first count protection) → Leads old new pages (with_protection pages first count protection)
protect_leads old new pages first count protection kept inside bits protected =
    leads_list old new (Protect first count protection ∷ []) pages _ kept (All-cons IsFormed (Protect first count protection) [] (inside, bits) (All-nil IsFormed))
    (λ processor. ap (effects.on_pages (on_pages processor pages)) protected)

pub nothing_leads : (old new : Option (List Effect)) (pages : Pages) → new ≡ with_more old [] → Leads old new pages pages
nothing_leads old new pages kept = leads_list old new [] pages pages kept (All-nil IsFormed) (λ processor. refl)
