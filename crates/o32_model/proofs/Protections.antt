-- mprotect changes protections alone.
use Rattle.std.proofs.Common.{◌≡◌, ◌+◌, zero, suc, ℕ, Bool, true, false, not, cond, List, Option, Some, None, refl, sym, ap, subst, ◌∙◌, inl, inr}
use Rattle.std.proofs.lemmas.Bool.Decides.{eqb_tells}
use Rattle.std.specs.Cmp.{nat_cmp_total}
use Rattle.std.specs.Prelude.{option_map}
use Rattle.std.specs.FinMap.{get, get-insert}
use Rattle.guest_space.proofs.Ranges.{eqb-eq_by_cmp}
use Rattle.guest_space.specs.Mapping.{with_protection, pages_with_protection}
use Rattle.guest_space.specs.Memory.{MappedPage, Memory, Pages}
use Rattle.kernel_core.specs.declared.error.Errno.TheVariants.{EINVAL}
use Rattle.kernel_model.specs.Came.{Did, refused_if}
use Rattle.kernel_model.specs.State.{Kernel}
use Rattle.o32_model.specs.Laws.{ChangesProtections, mprotect_number, unprotected}
use Rattle.o32_model.specs.Mappings.{maps, mprotect, protected, three_bits}
use Rattle.o32_model.specs.Ranges.{is_aligned, page_of, page_count}
use Rattle.o32_model.specs.Step.{Guest}
use Rattle.o32_model.specs.Table.{call_of, step_of, o32_call}
use Rattle.o32_model.specs.Words.{argument}

-- a page that has another protection is the same but for it
one_changed : (pages : Pages) (at protection number : ℕ) (found : Option MappedPage) → get pages at ≡ found
    → option_map unprotected (get (pages_with_protection pages at found protection) number) ≡ option_map unprotected (get pages number)
one_changed pages at protection number None there = refl
one_changed pages at protection number (Some page) there =
    ap (option_map unprotected) (get-insert nat_cmp_total pages at (record page { protection = protection }) number)
    ∙ ap (λ b. option_map unprotected (cond b (Some (record page { protection = protection })) (get pages number))) (sym (eqb-eq_by_cmp number at))
    ∙ elim (eqb_tells number at) [
      | inl same ↦
          ap (λ b. option_map unprotected (cond b (Some (record page { protection = protection })) (get pages number))) same.0
          ∙ ap (option_map unprotected) (sym there)
          ∙ ap (λ n. option_map unprotected (get pages n)) (sym same.1)
      | inr apart ↦ ap (λ b. option_map unprotected (cond b (Some (record page { protection = protection })) (get pages number))) apart.0
    ]

same_pages : (pages : Pages) (first count protection number : ℕ)
    → option_map unprotected (get (with_protection pages first count protection) number) ≡ option_map unprotected (get pages number)
unfolding with_protection
same_pages pages first zero protection number = refl
same_pages pages first (suc count) protection number =
    one_changed (with_protection pages first count protection) (first + count) protection number _ refl
    ∙ same_pages pages first count protection number

-- what is said of a step, by what becomes of memory
abbrev Protects : Memory → Did Memory ℕ → Type 0
Protects memory did =
    ((number : ℕ) → option_map unprotected (get did.state.pages number) ≡ option_map unprotected (get memory.pages number))
    × (did.state.program_break ≡ memory.program_break) × (did.state.break_start ≡ memory.break_start)

checked : (wrong : Bool) (memory : Memory) (first count protection : ℕ) → Protects memory (refused_if wrong EINVAL memory (protected memory first count protection))
checked true memory first count protection = (λ number. refl, refl, refl)
checked false memory first count protection = (λ number. same_pages memory.pages first _ protection number, refl, refl)

row_protects : (memory : Memory) (address length protection : ℕ) → Protects memory (mprotect memory address length protection)
unfolding mprotect
row_protects memory address length protection =
    checked (not (is_aligned address)) memory (page_of address) (page_count length) (three_bits protection)

step_protects : (kernel : Kernel) (guest : Guest) (left : List ℕ) (did : Did Memory ℕ) → Protects guest.memory did
    → ChangesProtections kernel guest left (maps kernel guest did left)
step_protects kernel guest left did so = record { became = refl; pages = so.0; break = so.1; start = so.2; set = refl; rest = refl; sent = refl }

pub mprotect_protects : (kernel : Kernel) (guest : Guest) (left : List ℕ) → guest.words.nr ≡ mprotect_number
    → ChangesProtections kernel guest left (o32_call kernel guest left)
mprotect_protects kernel guest left meant =
    subst (λ call. ChangesProtections kernel guest left (step_of call kernel guest left)) (sym (ap call_of meant))
    (step_protects kernel guest left _ (row_protects guest.memory (argument guest.words 0) (argument guest.words 1) (argument guest.words 2)))
