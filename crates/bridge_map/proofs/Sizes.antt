-- What a change of size leads over.
use Rattle.std.proofs.Common.{◌≡◌, ◌≢◌, ◌≤◌, ◌<◌, ◌+◌, ◌-◌, zero, suc, ℕ, Bool, true, false, cond, All, List, [], ◌∷◌, ◌++◌, Option, Some, None, Ok, IsSome, is_some, refl, sym, ap, subst, ◌∙◌, arith, inl, inr}
use Rattle.std.proofs.lemmas.Bool.{cases_lt}
use Rattle.std.proofs.lemmas.Bool.Decides.{nat_tests}
use Rattle.std.proofs.lemmas.List.Elements.{All-append, All-nil, All-cons}
use Rattle.std.specs.FinMap.{get, len}
use Rattle.std.specs.Ordering.{nat_cmp, eq_by_cmp}
use Rattle.guest_space.proofs.MappingLemmas.{absent_count-le, len-with_zeros}
use Rattle.guest_space.proofs.Ranges.{run-mapped, without-none}
use Rattle.guest_space.proofs.Writes.{get-insert_other}
use Rattle.guest_space.specs.Mapping.{mapped_run, page_limit, with_zeros, zero_page}
use Rattle.guest_space.specs.Memory.{IsValid, Pages}
use Rattle.guest_space.specs.Places.{IsFree, IsGreatestPlace}
use Rattle.guest_space.specs.Remapping.{AreMoved, IsRemapped, Cut, Grown, Moved, MayGrow, PassesLimit, is_in, without, protection_of}
use Rattle.kernel_core.specs.declared.record.Effect.{Effect}
use Rattle.kernel_core.specs.declared.record.Effect.TheVariants.{Map, Unmap}
use Rattle.mips_exec.specs.Processor.{Processor}
use Rattle.o32_model.specs.Effects as effects
use Rattle.o32_model.specs.Effects.{IsFormed, carried_all, carried_on, mapped_or}
use Rattle.o32_model.specs.Logs.{with_more}
use Rattle.o32_model.specs.Ranges.{count_with, with_new_pages, with_pages_of}
use Rattle.bridge_map.proofs.Journal.{carried_on-append, leads_list, map_leads, nothing_leads, unmap_leads}
use Rattle.bridge_map.proofs.Moving.{cut_effects, growth_effects, moves_away, same_effects, stays_put}
use Rattle.bridge_map.proofs.Ranges.{map_fits}
use Rattle.bridge_map.proofs.Resizing.{same_pages}
use Rattle.bridge_map.proofs.Travel.{arrives, len_arrived, travel_formed}
use Rattle.bridge_map.specs.Rows.{IsWrittenOrZeros, Leads, on_pages, pages_effects, resize_effects}

-- a page before a range of zeros is as it was
get-with_zeros_before : (pages : Pages) (first count protection q : ℕ) → q < first → get (with_zeros pages first count protection) q ≡ get pages q
unfolding with_zeros
get-with_zeros_before pages first zero protection q before = refl
get-with_zeros_before pages first (suc count) protection q before =
    let apart : eq_by_cmp nat_cmp q (first + count) ≡ false = grind (arith, nat_tests) in
    get-insert_other (with_zeros pages first count protection) (first + count) q (zero_page protection) apart
    ∙ get-with_zeros_before pages first count protection q before

-- zeros that fit
zeros_fit : (pages : Pages) (first count protection : ℕ) → len pages + count ≤ 131072 → with_new_pages pages first count protection ≡ Some (with_zeros pages first count protection)
zeros_fit pages first count protection few =
    let grown = len-with_zeros pages first count protection in
    let most = absent_count-le pages first count in
    map_fits pages first count protection (omega arith)

module _ (old_log new_log : Option (List Effect)) (before after : Pages) (first old new at protection : ℕ)
    (whole : mapped_run before first old ≡ old) (some : 0 < old) (ends : first + old ≤ 524280) (valid : IsValid before)
    (same : protection ≡ protection_of (get before (first + old - 1))) (bits : protection ≤ 7)
    (kept : new_log ≡ with_more old_log (resize_effects after first old new at protection)) where
  abbrev Result : Type 0
  Result = Leads old_log new_log before after

  cut_leads : new ≤ old → after ≡ without before (first + new) (old - new) → Result
  cut_leads less now =
      elim (cases_lt new old) [
        | inl fewer ↦
            subst (Leads old_log new_log before) (sym now)
            (unmap_leads old_log new_log before (first + new) (old - new)
            (kept ∙ ap (with_more old_log) (cut_effects after first old new at protection fewer))
            (record { begins = omega arith; ends = omega arith }))
        | inr all ↦
            let equal : new ≡ old = omega arith in
            let none : old - new ≡ 0 = omega arith in
            subst (Leads old_log new_log before) (sym (now ∙ ap (without before (first + new)) none ∙ without-none before (first + new)))
            (nothing_leads old_log new_log before (kept ∙ ap (with_more old_log) (same_effects after first old new at protection equal)))
      ]

  grown_leads : old < new → MayGrow before first old new → (PassesLimit before old new → ⊥) → at ≡ first
      → after ≡ with_zeros before (first + old) (new - old) (protection_of (get before (first + old - 1))) → Result
  grown_leads more may few place now =
      let fits : len before + (new - old) ≤ 131072 = within (len before + (new - old)) (λ many. few (more, many)) in
      let inside = may.inside in
      map_leads old_log new_log before after (first + old) (new - old) protection
      (kept
      ∙ ap (with_more old_log) (growth_effects after first old new at protection more)
      ∙ ap (λ moved. with_more old_log (moved ++ Map (at + old) (new - old) protection ∷ [])) (stays_put after first old at place)
      ∙ ap (λ n. with_more old_log (Map (n + old) (new - old) protection ∷ [])) place)
      (record { begins = omega arith; ends = omega arith })
      bits
      (zeros_fit before (first + old) (new - old) protection fits
      ∙ ap (λ p. Some (with_zeros before (first + old) (new - old) p)) same
      ∙ ap Some (sym now))
    where
      within : (n : ℕ) → (page_limit < n → ⊥) → n ≤ 131072
      within n not_more = elim (cases_lt 131072 n) [ inl many ↦ absurd (not_more many) | inr low ↦ low ]

  module _ (more : old < new) (few : PassesLimit before old new → ⊥) (place : IsGreatestPlace before new (Some at)) (other : Pages)
      (are : AreMoved before other first at old)
      (now : after ≡ with_zeros other (at + old) (new - old) (protection_of (get before (first + old - 1))))
      (zeros : at ≢ first → (k : ℕ) → k < old → IsWrittenOrZeros (get after (at + k))) where
    fits : len before + (new - old) ≤ 131072
    fits = elim (cases_lt 131072 (len before + (new - old))) [ inl many ↦ absurd (few (more, many)) | inr low ↦ low ]

    away : at ≢ first
    away equal =
        let here : first + 0 ≡ at + 0 = omega arith in
        let taken : IsSome (get before (at + 0)) = subst (λ n. IsSome (get before n)) here (run-mapped before old first 0 whole some) in
        let free : get before (at + 0) ≡ None = place.0.free 0 (omega arith) in
        let no : false ≡ true = sym (ap is_some free) ∙ taken in
        absurd (cc)

    free : IsFree before at old
    free k below = place.0.free k (omega arith)

    inside : at + new ≤ 458752
    inside = place.0.to_end

    stand : (k : ℕ) → k < old → get after (at + k) ≡ get before (first + k)
    stand k below =
        let within : is_in at old (at + k) ≡ true = grind (arith, nat_tests) in
        let same_number : first + (at + k - at) ≡ first + k = omega arith in
        ap (λ (m : Pages). get m (at + k)) now
        ∙ get-with_zeros_before other (at + old) (new - old) _ (at + k) (omega arith)
        ∙ are (at + k)
        ∙ ap (λ b. cond b (get before (first + (at + k - at))) (cond (is_in first old (at + k)) None (get before (at + k)))) within
        ∙ ap (get before) same_number

    base : Pages
    base = without before first old

    arrived : Pages
    arrived = with_pages_of base before first at old

    growth : List Effect
    growth = Map (at + old) (new - old) protection ∷ []

    list_is : resize_effects after first old new at protection ≡ Unmap first old ∷ pages_effects after at old ++ growth
    unfolding growth
    list_is =
        growth_effects after first old new at protection more
        ∙ ap (λ moved. moved ++ Map (at + old) (new - old) protection ∷ []) (moves_away after first old at away)

    grows : with_new_pages arrived (at + old) (new - old) protection ≡ Some after
    unfolding arrived base
    grows =
        let same_length = len_arrived before first at old whole valid free (let e = inside in omega arith) (let e = fits in omega arith) after stand (zeros away) in
        zeros_fit (with_pages_of (without before first old) before first at old) (at + old) (new - old) protection (let e = fits in omega arith)
        ∙ ap (λ m. Some (with_zeros m (at + old) (new - old) protection)) (same_pages before first old new other at whole are)
        ∙ ap (λ p. Some (with_zeros other (at + old) (new - old) p)) same
        ∙ ap Some (sym now)

    leads : (processor : Processor) → carried_all (on_pages processor before) (Unmap first old ∷ pages_effects after at old ++ growth) ≡ Ok (on_pages processor after)
    unfolding growth arrived base
    leads processor =
        carried_on-append (pages_effects after at old) (Map (at + old) (new - old) protection ∷ []) (Ok (on_pages processor (without before first old)))
        ∙ ap (carried_on (Map (at + old) (new - old) protection ∷ []))
        (arrives before first at old whole valid free (let e = inside in omega arith) (let e = fits in omega arith) after stand (zeros away) processor)
        ∙ ap (λ o. effects.on_pages (on_pages processor (with_pages_of (without before first old) before first at old)) (mapped_or (count_with (with_pages_of (without before first old) before first at old) (at + old) (new - old)) o)) grows

    all_formed : All IsFormed (Unmap first old ∷ pages_effects after at old ++ growth)
    unfolding growth
    all_formed =
        let low = inside in
        All-cons IsFormed (Unmap first old) (pages_effects after at old ++ Map (at + old) (new - old) protection ∷ []) (record { begins = omega arith; ends = ends })
        (All-append IsFormed (pages_effects after at old) (Map (at + old) (new - old) protection ∷ [])
        (travel_formed before first at old whole valid free (omega arith) (let e = fits in omega arith) after stand (zeros away) old (omega arith))
        (All-cons IsFormed (Map (at + old) (new - old) protection) [] (record { begins = omega arith; ends = omega arith }, bits) (All-nil IsFormed)))

    moved_leads : Result
    moved_leads = leads_list old_log new_log (Unmap first old ∷ pages_effects after at old ++ growth) before after (kept ∙ ap (with_more old_log) list_is) all_formed leads

  pub resize_leads : (may_move : Bool) → (PassesLimit before old new → ⊥) → IsRemapped before after first old new may_move at
      → (old < new → at ≢ first → (k : ℕ) → k < old → IsWrittenOrZeros (get after (at + k))) → Result
  resize_leads may_move few (Cut less place now) zeros = cut_leads less now
  resize_leads may_move few (Grown more may place now) zeros = grown_leads more may few place now
  resize_leads may_move few (Moved more may_not leave place other are now) zeros = moved_leads more few place other are now (zeros more)
