-- One page, mapped and written at a free number, as its effects lead.
use Rattle.std.proofs.Common.{◌≡◌, ◌<◌, ◌+◌, ◌*◌, ◌/◌, ◌%◌, ◌==◌, ℕ, Bool, true, false, All, List, [], ◌∷◌, length, take, Option, Some, None, Result, Ok, refl, sym, ap, ◌∙◌, arith}
use Rattle.std.proofs.lemmas.Bool.Decides.{nat_tests}
use Rattle.std.proofs.lemmas.List.{take_all}
use Rattle.std.proofs.lemmas.List.Elements.{All-nil, All-cons}
use Rattle.std.proofs.lemmas.Slice.{take-put_mid}
use Rattle.std.specs.Prelude.{is_some, if◌then◌else◌}
use Rattle.std.specs.FinMap.{get, insert, len}
use Rattle.guest_space.proofs.ByteLemmas.{with_bytes-page}
use Rattle.guest_space.proofs.MappingLemmas.{absent_count-le, len-with_zeros, mapped_run-step, mapped_run-zero, with_protection-more, with_protection-none, with_zeros-more, with_zeros-none}
use Rattle.guest_space.proofs.Writes.{writable-none}
use Rattle.guest_space.specs.Access.{first_denied}
use Rattle.guest_space.specs.Bytes.{with_bytes}
use Rattle.guest_space.specs.Mapping.{mapped_run, with_protection, with_zeros, zero_page, pages_with_protection}
use Rattle.guest_space.specs.Memory.{IsPage, MappedPage, Pages}
use Rattle.guest_space.specs.declared.access.Access.TheVariants.{Store}
use Rattle.kernel_core.specs.declared.record.Effect.{Effect}
use Rattle.kernel_core.specs.declared.record.Effect.TheVariants.{Map, Protect, Write}
use Rattle.mips_exec.specs.Processor.{Processor}
use Rattle.o32_model.specs.Effects as effects
use Rattle.o32_model.specs.Effects.{Difference, IsFormed, after_protect, after_write, carried_all, carried_on, differs, mapped_or, written_unless}
use Rattle.o32_model.specs.Ranges.{count_with, with_new_pages}
use Rattle.raw_pages.proofs.Puts.{get-insert_same, insert-insert, length-put_at, put_mid-put_at}
use Rattle.raw_pages.proofs.Zeros.{zeros_whole}
use Rattle.raw_pages.specs.Pages.{put_at, with_piece, zero_bytes}
use Rattle.bridge_map.proofs.Ranges.{map_fits}
use Rattle.bridge_map.specs.Rows.{IsWrittenOrZeros, on_pages, page_effects}

abbrev with_pages : Pages → Result Pages Difference
with_pages pages = Ok pages

-- what a protection of one page comes to, by how many pages are mapped there
abbrev protected_if : Pages → ℕ → ℕ → ℕ → Result Pages Difference
protected_if pages number protection run =
    if run == 1 then Ok (with_protection pages number 1 protection) else differs (number * 4096) ((number + run) * 4096)

-- a piece as long as the whole takes its place
put_whole : (all piece : List ℕ) → length piece ≡ length all → put_at all 0 piece ≡ piece
put_whole all piece long =
    sym (take_all (length piece) (put_at all 0 piece) (let e = length-put_at piece all 0 in omega arith))
    ∙ ap (take (length piece)) (sym (put_mid-put_at all piece piece 0 (length piece) (omega arith) refl refl))
    ∙ take-put_mid 0 (length piece) all piece (length piece) (omega arith) (omega arith)

module _ (pages : Pages) (number : ℕ) (room : len pages < 131072) where
  one_zero : (protection : ℕ) → with_zeros pages number 1 protection ≡ insert pages number (zero_page protection)
  one_zero protection =
      let here : number + 0 ≡ number = omega arith in
      with_zeros-more pages number protection 0 ∙ (λ i. insert (with_zeros-none pages number protection i) (here i) (zero_page protection))

  pub one_mapped : (protection : ℕ) → with_new_pages pages number 1 protection ≡ Some (insert pages number (zero_page protection))
  one_mapped protection =
      let grown = len-with_zeros pages number 1 protection in
      let most = absent_count-le pages number 1 in
      map_fits pages number 1 protection (omega arith) ∙ ap Some (one_zero protection)

module _ (pages : Pages) (number : ℕ) (bytes : List ℕ) (inside : number < 524280) (whole : length bytes ≡ 4096) where
  blank : Pages
  blank = insert pages number (zero_page 3)

  filled : Pages
  filled = insert pages number (with_piece (zero_page 3) 0 bytes)

  number_of : number * 4096 / 4096 ≡ number
  number_of = omega arith

  place_of : number * 4096 % 4096 ≡ 0
  place_of = omega arith

  blank_there : get blank (number * 4096 / 4096) ≡ Some (zero_page 3)
  unfolding blank
  blank_there = ap (get blank) number_of ∙ get-insert_same pages number (zero_page 3)

  all_written : with_bytes blank (number * 4096) bytes ≡ filled
  unfolding blank filled
  all_written =
      with_bytes-page bytes blank (number * 4096) (Some (zero_page 3)) blank_there (omega arith) (omega (arith, place_of))
      ∙ (λ i. insert blank (number_of i) (with_piece (zero_page 3) (place_of i) bytes))
      ∙ insert-insert pages number (zero_page 3) (with_piece (zero_page 3) 0 bytes)

  none_denied : first_denied Store blank (number * 4096) (length bytes) ≡ None
  none_denied = writable-none blank (number * 4096) (length bytes) (omega arith) (omega (arith, place_of)) (record { page = zero_page 3; found = blank_there; allowed = refl })

  one_written : after_write blank (number * 4096) bytes ≡ Ok filled
  one_written = ap (written_unless blank (number * 4096) bytes) none_denied ∙ ap with_pages all_written

  module _ (protection : ℕ) where
    filled_there : get filled number ≡ Some (with_piece (zero_page 3) 0 bytes)
    unfolding filled
    filled_there = get-insert_same pages number (with_piece (zero_page 3) 0 bytes)

    one_run : mapped_run filled number 1 ≡ 1
    one_run =
        let step = mapped_run-step filled number 1 (ap is_some filled_there) (omega arith) in
        let none = mapped_run-zero filled (number + 1) in
        omega (arith, step, none)

    changed : MappedPage
    changed = record { protection = protection; ready = true; bytes = put_at zero_bytes 0 bytes }

    one_changed : with_protection filled number 1 protection ≡ insert pages number changed
    unfolding filled changed
    one_changed =
        let here : number + 0 ≡ number = omega arith in
        with_protection-more filled number protection 0
        ∙ (λ i. pages_with_protection (with_protection-none filled number protection i) (here i) (get (with_protection-none filled number protection i) (here i)) protection)
        ∙ ap (λ o. pages_with_protection filled number o protection) filled_there
        ∙ insert-insert pages number (with_piece (zero_page 3) 0 bytes) changed

    one_protected : after_protect filled number 1 protection ≡ Ok (insert pages number (record { protection = protection; ready = true; bytes = bytes }))
    unfolding changed
    one_protected =
        ap (protected_if filled number protection) one_run
        ∙ ap with_pages one_changed
        ∙ ap (λ bytes. with_pages (insert pages number (record { protection = protection; ready = true; bytes = bytes })))
        (put_whole zero_bytes bytes (whole ∙ sym zeros_whole))

    pub one_put : (processor : Processor) → len pages < 131072
        → carried_all (on_pages processor pages) (Map number 1 3 ∷ Write (number * 4096) bytes ∷ Protect number 1 protection ∷ [])
        ≡ Ok (on_pages processor (insert pages number (record { protection = protection; ready = true; bytes = bytes })))
    unfolding blank filled
    one_put processor room =
        let rest : List Effect = Write (number * 4096) bytes ∷ Protect number 1 protection ∷ [] in
        let last : List Effect = Protect number 1 protection ∷ [] in
        ap (λ o. carried_on rest (effects.on_pages (on_pages processor pages) (mapped_or (count_with pages number 1) o))) (one_mapped pages number room 3)
        ∙ ap (λ o. carried_on last (effects.on_pages (on_pages processor blank) o)) one_written
        ∙ ap (effects.on_pages (on_pages processor filled)) one_protected

-- a page of either kind
module _ (pages : Pages) (number : ℕ) (page : MappedPage) (valid : IsPage number page) where
  abbrev effects_if : Bool → List Effect
  effects_if ready =
      if ready then Map number 1 3 ∷ Write (number * 4096) page.bytes ∷ Protect number 1 page.protection ∷ []
      else Map number 1 page.protection ∷ []

  abbrev Puts : Processor → List Effect → Type 0
  Puts processor list = carried_all (on_pages processor pages) list ≡ Ok (on_pages processor (insert pages number page))

  put_if : (processor : Processor) → len pages < 131072 → IsWrittenOrZeros (Some page) → (ready : Bool) → page.ready ≡ ready → Puts processor (effects_if ready)
  put_if processor room zeros true written =
      one_put pages number page.bytes valid.inside valid.whole page.protection processor room
      ∙ (λ i. Ok (on_pages processor (insert pages number (record { protection = page.protection; ready = sym written i; bytes = page.bytes }))))
  put_if processor room zeros false unwritten =
      ap (λ o. effects.on_pages (on_pages processor pages) (mapped_or (count_with pages number 1) o)) (one_mapped pages number room page.protection)
      ∙ (λ i. Ok (on_pages processor (insert pages number (record { protection = page.protection; ready = sym unwritten i; bytes = sym (zeros unwritten) i }))))

  pub page_put : (processor : Processor) → len pages < 131072 → IsWrittenOrZeros (Some page) → Puts processor (page_effects number (Some page))
  page_put processor room zeros = put_if processor room zeros page.ready refl

  formed_if : (ready : Bool) → All IsFormed (effects_if ready)
  formed_if true =
      let inside = valid.inside in
      let whole = valid.whole in
      All-cons IsFormed (Map number 1 3) (Write (number * 4096) page.bytes ∷ Protect number 1 page.protection ∷ []) (record { begins = inside; ends = omega arith }, omega arith)
      (All-cons IsFormed (Write (number * 4096) page.bytes) (Protect number 1 page.protection ∷ []) (omega arith, omega arith)
      (All-cons IsFormed (Protect number 1 page.protection) [] (record { begins = inside; ends = omega arith }, valid.three_bits) (All-nil IsFormed)))
  formed_if false =
      let inside = valid.inside in
      All-cons IsFormed (Map number 1 page.protection) [] (record { begins = inside; ends = omega arith }, valid.three_bits) (All-nil IsFormed)

  pub page_formed : All IsFormed (page_effects number (Some page))
  page_formed = formed_if page.ready
