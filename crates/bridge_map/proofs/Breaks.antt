-- What the break leads over.
use Rattle.std.proofs.Common.{◌≡◌, ◌≤◌, ◌<◌, ◌+◌, ◌-◌, ◌==◌, ◌&&◌, ◌||◌, min, ℕ, Bool, true, false, cond, List, [], ◌∷◌, Option, Some, None, refl, sym, ap, subst, ◌∙◌, arith, inl, inr, leb}
use Rattle.std.proofs.lemmas.Bool.{cases_lt}
use Rattle.std.proofs.lemmas.Bool.Decides.{nat_tests}
use Rattle.std.specs.Prelude.{nat_le, nat_lt, if◌then◌else◌}
use Rattle.std.specs.Cmp.{nat_cmp_total}
use Rattle.std.specs.FinMap.{get, len, same_map, nat_cmp-IsAntisymmetric}
use Rattle.guest_space.proofs.Breaks.{between-less, between-more}
use Rattle.guest_space.proofs.Ranges.{without-none}
use Rattle.guest_space.proofs.Validity.{get-without}
use Rattle.guest_space.specs.Break.{may_add, may_break, pages_between, pages_up_to, with_break, break_end}
use Rattle.guest_space.specs.Mapping.{with_zeros, absent_count, page_limit}
use Rattle.guest_space.specs.Memory.{MappedPage, Memory, Pages, IsValid}
use Rattle.guest_space.specs.Remapping.{is_in, without}
use Rattle.kernel_core.specs.declared.record.Effect.{Effect}
use Rattle.kernel_core.specs.declared.record.Effect.TheVariants.{Map, Unmap}
use Rattle.o32_model.specs.Logs.{with_more}
use Rattle.o32_model.specs.Ranges.{with_new_pages}
use Rattle.bridge_map.proofs.Journal.{unmap_leads, map_leads, nothing_leads}
use Rattle.bridge_map.proofs.Runs.{none_past}
use Rattle.bridge_map.specs.Rows.{Leads, break_effects}

both : (a b : Bool) → a && b ≡ true → (a ≡ true) × (b ≡ true)
both true b is = (refl, is)
both false b is = absurd (cc)

-- past user space there is nothing to take away
pub without_inside : (pages : Pages) (to from : ℕ) → IsValid pages → without pages to (min from 524280 - to) ≡ without pages to (from - to)
without_inside pages to from valid = same_map nat_cmp_total nat_cmp-IsAntisymmetric _ _ (λ number.
    get-without pages to (min from 524280 - to) number
    ∙ elim (cases_lt number 524280) [
      | inl inside ↦ ap (λ b. cond b None (get pages number)) (same_in number inside)
      | inr past ↦
          ap (λ found. cond (is_in to (min from 524280 - to) number) None found) (none_past pages number valid past)
          ∙ either (is_in to (min from 524280 - to) number) (is_in to (from - to) number)
          ∙ ap (λ found. cond (is_in to (from - to) number) None found) (sym (none_past pages number valid past))
    ]
    ∙ sym (get-without pages to (from - to) number))
  where
    nowhere : Option MappedPage
    nowhere = None

    either : (a b : Bool) → cond a nowhere nowhere ≡ cond b nowhere nowhere
    either true true = refl
    either true false = refl
    either false true = refl
    either false false = refl

    same_in : (number : ℕ) → number < 524280 → is_in to (min from 524280 - to) number ≡ is_in to (from - to) number
    same_in number inside = ap (λ b. leb to number && b) (grind (arith, nat_tests))

added : (pages : Pages) (first count : ℕ) → 0 < count → may_add pages first count ≡ true → with_new_pages pages first count 3 ≡ Some (with_zeros pages first count 3)
added pages first count some may =
    let not_none : (count == 0) ≡ false = grind (arith, nat_tests) in
    let rest : ((absent_count pages first count == count) && nat_le (len pages + count) page_limit) ≡ true =
    sym (ap (λ b. b || ((absent_count pages first count == count) && nat_le (len pages + count) page_limit)) not_none) ∙ may in
    let parts = both (absent_count pages first count == count) (nat_le (len pages + count) page_limit) rest in
    let all : absent_count pages first count ≡ count = let e = parts.0 in grind (arith, nat_tests) in
    ap (λ b. if b then Some (with_zeros pages first count 3) else None)
    (ap (λ n. nat_le (len pages + n) page_limit) all ∙ parts.1)

module _ (old new : Option (List Effect)) (pages : Pages) (valid : IsValid pages) (break wish : ℕ) where
  moved_leads : pages_up_to wish ≤ 458752 → may_add pages (pages_up_to break) (pages_up_to wish - pages_up_to break) ≡ true
      → new ≡ with_more old (break_effects (pages_up_to break) (pages_up_to wish)) → Leads old new pages (pages_between pages break wish)
  moved_leads low may kept =
      elim (cases_lt (pages_up_to break) (pages_up_to wish)) [
        | inl more ↦
            let grows : nat_lt (pages_up_to break) (pages_up_to wish) ≡ true = grind (arith, nat_tests) in
            map_leads old new pages _ (pages_up_to break) (pages_up_to wish - pages_up_to break) 3
            (kept ∙ ap (λ b. with_more old (if b then Map (pages_up_to break) (pages_up_to wish - pages_up_to break) 3 ∷ [] else rest_effects)) grows)
            (record { begins = omega arith; ends = omega arith }) (omega arith)
            (added pages (pages_up_to break) (pages_up_to wish - pages_up_to break) (omega arith) may
            ∙ ap Some (between-more pages break wish (omega arith)))
        | inr less ↦
            let stays : nat_lt (pages_up_to break) (pages_up_to wish) ≡ false = grind (arith, nat_tests) in
            let kept_less = kept ∙ ap (λ b. with_more old (if b then Map (pages_up_to break) (pages_up_to wish - pages_up_to break) 3 ∷ [] else rest_effects)) stays in
            elim (cases_lt (pages_up_to wish) (pages_up_to break)) [
              | inl fewer ↦
                  let shrinks : nat_lt (pages_up_to wish) (min (pages_up_to break) 524280) ≡ true = grind (arith, nat_tests) in
                  subst (Leads old new pages) (without_inside pages (pages_up_to wish) (pages_up_to break) valid ∙ between-less pages break wish less)
                  (unmap_leads old new pages (pages_up_to wish) (min (pages_up_to break) 524280 - pages_up_to wish)
                  (kept_less ∙ ap (λ b. with_more old (if b then Unmap (pages_up_to wish) (min (pages_up_to break) 524280 - pages_up_to wish) ∷ [] else [])) shrinks)
                  (record { begins = omega arith; ends = omega arith }))
              | inr equal ↦
                  let same : nat_lt (pages_up_to wish) (min (pages_up_to break) 524280) ≡ false = grind (arith, nat_tests) in
                  let none : pages_up_to break - pages_up_to wish ≡ 0 = omega arith in
                  subst (Leads old new pages)
                  (sym (without-none pages (pages_up_to wish)) ∙ ap (without pages (pages_up_to wish)) (sym none) ∙ between-less pages break wish less)
                  (nothing_leads old new pages
                  (kept_less ∙ ap (λ b. with_more old (if b then Unmap (pages_up_to wish) (min (pages_up_to break) 524280 - pages_up_to wish) ∷ [] else [])) same))
            ]
      ]
    where
      rest_effects : List Effect
      rest_effects = if nat_lt (pages_up_to wish) (min (pages_up_to break) 524280) then Unmap (pages_up_to wish) (min (pages_up_to break) 524280 - pages_up_to wish) ∷ [] else []

break_stays : (pages : ℕ) → break_effects pages pages ≡ []
break_stays pages =
    let same : nat_lt pages pages ≡ false = grind (arith, nat_tests) in
    let lower : nat_lt pages (min pages 524280) ≡ false = grind (arith, nat_tests) in
    ap (λ b. if b then Map pages (pages - pages) 3 ∷ [] else (if nat_lt pages (min pages 524280) then Unmap pages (min pages 524280 - pages) ∷ [] else [])) same
    ∙ ap (λ b. if b then Unmap pages (min pages 524280 - pages) ∷ [] else []) lower

pub break_leads : (old new : Option (List Effect)) (memory : Memory) (wish : ℕ) → IsValid memory.pages
    → new ≡ with_more old (break_effects (pages_up_to memory.program_break) (pages_up_to (with_break memory wish).program_break))
    → Leads old new memory.pages (with_break memory wish).pages
unfolding with_break
break_leads old new memory wish valid = by_test (may_break memory wish) refl
  where
    Claim : Memory → Type 0
    Claim after = new ≡ with_more old (break_effects (pages_up_to memory.program_break) (pages_up_to after.program_break)) → Leads old new memory.pages after.pages

    by_test : (test : Bool) → may_break memory wish ≡ test
        → Claim (if test then record memory { pages = pages_between memory.pages memory.program_break wish; program_break = wish } else memory)
    by_test false refused = λ kept. nothing_leads old new memory.pages (kept ∙ ap (with_more old) (break_stays (pages_up_to memory.program_break)))
    by_test true may = λ kept.
        let outer = both (nat_le memory.break_start wish && nat_le wish break_end) _ may in
        let inner = both (nat_le memory.break_start wish) (nat_le wish break_end) outer.0 in
        let low : wish ≤ break_end = let e = inner.1 in grind (arith, nat_tests) in
        moved_leads old new memory.pages valid memory.program_break wish (omega arith) outer.1 kept
