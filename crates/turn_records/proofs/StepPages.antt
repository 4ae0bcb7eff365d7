-- A step reads and writes the pages of a memory alone: the program break plays no part.
use Rattle.std.proofs.Common.{◌≡◌, ℕ, ◌%◌, Bool, true, false, refl, sym, subst, Option, Some, None, Result, Ok, Err}
use Rattle.std.specs.Prelude.{◌==◌, if◌then◌else◌}
use Rattle.guest_space.specs.Access.{first_denied}
use Rattle.guest_space.specs.Bytes.{copied_out, read, written}
use Rattle.guest_space.specs.Memory.{Memory, Pages}
use Rattle.guest_space.specs.declared.access.Access.TheVariants.{Store}
use Rattle.guest_space.specs.declared.access.Denied.{Denied}
use Rattle.kernel_core.specs.declared.signal.Sig.TheVariants.{Bus}
use Rattle.mips_exec.specs.Processor.{Processor, register}
use Rattle.mips_exec.specs.Step.{Step, aligned, carried_out, effect_at, faults, is_linked, load_address, load_width, loads, loads_linked, outside_slot, step_of, store_address, store_width, stored_value, stores_conditionally, unless_denied}
use Rattle.mips_exec.specs.declared.codes.TheConstants.{BAD_ADDRESS}
use Rattle.mips_exec.specs.declared.cpu.Slot.{Slot}
use Rattle.mips_exec.specs.declared.effect.Effect.{Effect}
use Rattle.mips_exec.specs.declared.effect.Effect.TheVariants as effects
use Rattle.mips_exec.specs.declared.effect.Span.{Span}

-- two steps that differ in the program break at most
abbrev pub Alike : Step → Step → Type 0
Alike one other = (one.processor ≡ other.processor) × (one.came ≡ other.came) × (one.memory.pages ≡ other.memory.pages)

either_alike : (b : Bool) (one other first second : Step) → Alike one other → Alike first second → Alike (if b then one else first) (if b then other else second)
either_alike true one other first second here there = here
either_alike false one other first second here there = there

module _ (pages : Pages) (one_break one_start other_break other_start : ℕ) where
  abbrev m : Memory
  m = record { pages = pages; program_break = one_break; break_start = one_start }

  abbrev n : Memory
  n = record { pages = pages; program_break = other_break; break_start = other_start }

  written_alike : (a width value : ℕ) → (written m a width value).pages ≡ (written n a width value).pages
  unfolding written copied_out
  written_alike a width value = refl

  module _ (p : Processor) where
    loads_alike : (span : Span) (signed : Bool) (a to : ℕ) (r : Result ℕ Denied) → Alike (loads p m span signed a to r) (loads p n span signed a to r)
    loads_alike span signed a to (Ok number) = (refl, refl, refl)
    loads_alike span signed a to (Err denied) = (refl, refl, refl)

    linked_alike : (a to : ℕ) (r : Result ℕ Denied) → Alike (loads_linked p m a to r) (loads_linked p n a to r)
    linked_alike a to (Ok number) = (refl, refl, refl)
    linked_alike a to (Err denied) = (refl, refl, refl)

    denied_alike : (o : Option Denied) (one other : Step) → Alike one other → Alike (unless_denied p m o one) (unless_denied p n o other)
    denied_alike None one other alike = alike
    denied_alike (Some denied) one other alike = (refl, refl, refl)

    aligned_alike : (a : ℕ) (one other : Step) → Alike one other → Alike (aligned p m a one) (aligned p n a other)
    aligned_alike a one other alike =
        either_alike (a % 4 == 0) one other (faults p m Bus BAD_ADDRESS a) (faults p n Bus BAD_ADDRESS a) alike (refl, refl, refl)

    conditional_alike : (a to : ℕ) → Alike (stores_conditionally p m a to) (stores_conditionally p n a to)
    conditional_alike a to =
        either_alike (is_linked p.link a) _ _ _ _ (refl, refl, written_alike a 4 (register p to)) (refl, refl, refl)

    outside_alike : (slot : Option Slot) (one other : Step) → Alike one other → Alike (outside_slot slot p m one) (outside_slot slot p n other)
    outside_alike None one other alike = alike
    outside_alike (Some slot) one other alike = (refl, refl, refl)

  by_effect : (p : Processor) (effect : Effect) → Alike (carried_out p m effect) (carried_out p n effect)
  unfolding read
  by_effect p effects.Proceed = (refl, refl, refl)
  by_effect p (effects.Register to value) = (refl, refl, refl)
  by_effect p (effects.HighLow high low) = (refl, refl, refl)
  by_effect p (effects.Load span signed a to) = loads_alike p span signed a (to % 32) (read m (load_address span a) (load_width span))
  by_effect p (effects.LoadLinked a to) = aligned_alike p a _ _ (linked_alike p a (to % 32) (read m a 4))
  by_effect p (effects.Store span a value) =
      denied_alike p (first_denied Store pages (store_address span a) (store_width span a)) _ _
      (refl, refl, written_alike (store_address span a) (store_width span a) (stored_value span a value))
  by_effect p (effects.StoreConditional a to) =
      let q = record p { link = None } in
      aligned_alike q a _ _ (denied_alike q (first_denied Store pages a 4) _ _ (conditional_alike p a (to % 32)))
  by_effect p (effects.Branch link target) = outside_alike p p.slot _ _ (refl, refl, refl)
  by_effect p (effects.ArithmeticError code) = (refl, refl, refl)
  by_effect p (effects.Breakpoint code) = (refl, refl, refl)
  by_effect p effects.SystemCall = outside_alike p p.slot _ _ (refl, refl, refl)
  by_effect p effects.Reserved = (refl, refl, refl)
  by_effect p (effects.FetchFault signal code address) = (refl, refl, refl)

  steps_alike : (p : Processor) → Alike (step_of p m) (step_of p n)
  unfolding step_of effect_at read
  steps_alike p = by_effect p (effect_at p m)

pub step_pages : (p : Processor) (m n : Memory) → m.pages ≡ n.pages
    → ((step_of p m).processor ≡ (step_of p n).processor) × ((step_of p m).came ≡ (step_of p n).came) × ((step_of p m).memory.pages ≡ (step_of p n).memory.pages)
step_pages p m n same =
    subst (λ (pages : Pages). Alike (step_of p (record m { pages = pages })) (step_of p n)) (sym same)
    (steps_alike n.pages m.program_break m.break_start n.program_break n.break_start p)
