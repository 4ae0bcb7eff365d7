-- What an effect on pages comes to by the calls on memory.
use Rattle.std.proofs.Common.{◌≡◌, ◌≤◌, ◌<◌, ◌+◌, ℕ, Bool, true, false, List, length, Option, Some, None, Result, Ok, Err, sym, ap, ◌∙◌, inl, inr, arith, if◌then◌else◌}
use Rattle.std.specs.Prelude.{nat_le}
use Rattle.std.specs.FinMap.{len}
use Rattle.std.proofs.lemmas.Bool.{cases_lt}
use Rattle.std.proofs.lemmas.Bool.Decides.{nat_tests}
use Rattle.guest_space.proofs.MappingLemmas.{len-with_zeros}
use Rattle.guest_space.specs.Access.{first_denied}
use Rattle.guest_space.specs.Bytes.{copied_out, with_bytes}
use Rattle.guest_space.specs.Mapping.{absent_count, page_limit, with_zeros}
use Rattle.guest_space.specs.Memory.{Memory, Pages}
use Rattle.guest_space.specs.declared.access.Access.TheVariants.{Store}
use Rattle.guest_space.specs.declared.access.Denied.{Denied}
use Rattle.o32_model.specs.Effects.{Difference, after_map, after_write, mapped_or, written_unless}
use Rattle.o32_model.specs.Ranges.{count_with}

pub same_others : (before after : Memory) (pages : Pages) → after ≡ record before { pages = pages } → after ≡ record before { pages = after.pages }
same_others before after pages is =
    is ∙ ap (λ (p : Pages). let m : Memory = record { pages = p; program_break = before.program_break; break_start = before.break_start } in m) (sym (ap (λ (m : Memory). m.pages) is))

pub written_so : (before after : Memory) (address : ℕ) (bytes : List ℕ) → after ≡ copied_out before address bytes → first_denied Store before.pages address (length bytes) ≡ None
    → (after_write before.pages address bytes ≡ Ok after.pages) × (after ≡ record before { pages = after.pages })
unfolding copied_out
written_so before after address bytes is none = (
  ap (λ (d : Option Denied). written_unless before.pages address bytes d) none ∙ ap (λ (m : Memory). let r : Result Pages Difference = Ok m.pages in r) (sym is),
  same_others before after (with_bytes before.pages address bytes) is,
)

at_most : (n : ℕ) → (page_limit < n → ⊥) → n ≤ page_limit
at_most n few = elim (cases_lt page_limit n) [ inl more ↦ absurd (few more) | inr less ↦ less ]

module _ (pages : Pages) (first count protection : ℕ) where
  abbrev by_test : Bool → Result Pages Difference
  by_test fits = mapped_or (count_with pages first count) (if fits then Some (with_zeros pages first count protection) else None)

  pub mapped_so : (page_limit < len (with_zeros pages first count protection) → ⊥) → after_map pages first count protection ≡ Ok (with_zeros pages first count protection)
  mapped_so few =
      let not_more : len (with_zeros pages first count protection) ≤ page_limit = at_most (len (with_zeros pages first count protection)) few in
      let fits : nat_le (len pages + absent_count pages first count) page_limit ≡ true = let e = len-with_zeros pages first count protection in grind (arith, nat_tests) in
      ap by_test fits

  pub full_so : page_limit < len (with_zeros pages first count protection) → after_map pages first count protection ≡ Err (record { wanted = page_limit; found = count_with pages first count })
  full_so many =
      let passes : nat_le (len pages + absent_count pages first count) page_limit ≡ false = let e = len-with_zeros pages first count protection in grind (arith, nat_tests) in
      ap by_test passes
