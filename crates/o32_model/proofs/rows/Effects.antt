-- Worked rows on effects.
use Rattle.std.specs.Prelude.{◌≡◌, ℕ, true, List, [], ◌∷◌, Some, None, Ok, refl}
use Rattle.std.specs.FinMap.{get, len}
use Rattle.guest_space.specs.Access.{first_denied, refusal}
use Rattle.guest_space.specs.Bytes.{with_bytes}
use Rattle.guest_space.specs.Mapping.{with_zeros, absent_count, mapped_run, with_protection}
use Rattle.guest_space.specs.Memory.{Pages}
use Rattle.guest_space.specs.Remapping.{without}
use Rattle.kernel_core.specs.declared.record.Effect.TheVariants.{Register, Write, Map, Unmap, Protect, Output}
use Rattle.kernel_model.specs.Pipes.{nothing}
use Rattle.mips_exec.specs.Processor.{Processor, with_register}
use Rattle.o32_model.proofs.rows.Small.{page_of}
use Rattle.o32_model.specs.Effects.{Target, after_record, carried, carried_all, differs}

module _ (processor : Processor) (pages : Pages) where
  abbrev target : Target
  target = record { processor = processor; pages = pages; sent = nothing }

  -- a write needs each byte
  written : (held : List ℕ) → get pages 16 ≡ Some (page_of held) → carried target (Write 65536 (1 ∷ 2 ∷ [])) ≡ Ok (record target { pages = with_bytes pages 65536 (1 ∷ 2 ∷ []) })
  unfolding first_denied refusal
  written held kept = simp kept refl

  written_onto_absent : (held : List ℕ) → get pages 16 ≡ Some (page_of held) → get pages 17 ≡ None → carried target (Write 69631 (1 ∷ 2 ∷ [])) ≡ differs 69631 69632
  unfolding first_denied refusal
  written_onto_absent held kept absent = simp (kept, absent) refl

  written_onto_read_only : get pages 16 ≡ Some (record { protection = 5; ready = true; bytes = [] }) → carried target (Write 65536 (1 ∷ [])) ≡ differs 65536 65536
  unfolding first_denied refusal
  written_onto_read_only kept = simp kept refl

  nothing_written : carried target (Write 0 []) ≡ Ok target
  unfolding first_denied with_bytes
  nothing_written = refl

  -- a map needs room for the pages that it adds
  mapped : get pages 16 ≡ None → len pages ≡ 131_071 → carried target (Map 16 1 3) ≡ Ok (record target { pages = with_zeros pages 16 1 3 })
  unfolding absent_count
  mapped absent count = simp (absent, count) refl

  mapped_past_the_limit : get pages 16 ≡ None → len pages ≡ 131_072 → carried target (Map 16 1 3) ≡ differs 131_072 131_073
  unfolding absent_count
  mapped_past_the_limit absent count = simp (absent, count) refl

  mapped_anew : (held : List ℕ) → get pages 16 ≡ Some (page_of held) → len pages ≡ 131_072 → carried target (Map 16 1 3) ≡ Ok (record target { pages = with_zeros pages 16 1 3 })
  unfolding absent_count
  mapped_anew held kept count = simp (kept, count) refl

  unmapped : carried target (Unmap 16 2) ≡ Ok (record target { pages = without pages 16 2 })
  unmapped = refl

  -- a protect needs each page, and with no page none
  protected : (held : List ℕ) → get pages 16 ≡ Some (page_of held) → carried target (Protect 16 1 5) ≡ Ok (record target { pages = with_protection pages 16 1 5 })
  unfolding mapped_run
  protected held kept = simp kept refl

  protected_past_absent : (held : List ℕ) → get pages 16 ≡ Some (page_of held) → get pages 17 ≡ None → carried target (Protect 16 2 5) ≡ differs 65536 69632
  unfolding mapped_run
  protected_past_absent held kept absent = simp (kept, absent) refl

  nothing_protected : carried target (Protect 17 0 5) ≡ Ok target
  unfolding mapped_run with_protection
  nothing_protected = refl

  -- outputs, in order
  sent : carried_all target (Output 1 (97 ∷ []) ∷ Output 2 (98 ∷ []) ∷ Output 1 (99 ∷ []) ∷ [])
      ≡ Ok (record target { sent = record { out = 97 ∷ 99 ∷ []; err = 98 ∷ [] } })
  sent = refl

  sent_to_input : carried target (Output 0 (97 ∷ [])) ≡ differs 0 0
  sent_to_input = refl

  -- registers
  second_result : carried target (Register 3 4) ≡ Ok (record target { processor = with_register processor 3 4 })
  second_result = refl

  upper_word : carried target (Register 32 4) ≡ Ok (record target { processor = record processor { hi = 4 } })
  upper_word = refl

  lower_word : carried target (Register 33 4) ≡ Ok (record target { processor = record processor { lo = 4 } })
  lower_word = refl

  counter : carried target (Register 34 4) ≡ Ok (record target { processor = record processor { pc = 4 } })
  counter = refl

  thread_pointer : carried target (Register 35 4) ≡ Ok (record target { processor = record processor { thread_pointer = 4 } })
  thread_pointer = refl

  no_register : carried target (Register 36 4) ≡ differs 36 0
  no_register = refl

  register_zero : carried target (Register 0 4) ≡ differs 0 0
  register_zero = refl

  -- the first difference ends them
  after_difference : carried_all target (Output 3 (97 ∷ []) ∷ Output 4 (98 ∷ []) ∷ []) ≡ differs 3 0
  after_difference = refl

  no_effect : carried_all target [] ≡ Ok target
  no_effect = refl

  -- a record clears the link
  recorded : after_record (record target { processor = record processor { link = Some 65536 } }) (Register 3 4 ∷ [])
      ≡ Ok (record target { processor = with_register (record processor { link = None }) 3 4 })
  recorded = refl
