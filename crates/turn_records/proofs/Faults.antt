-- What a fault leaves.
use Rattle.std.proofs.Common.{◌≡◌, ℕ, ◌%◌, Bool, true, false, refl, subst, Option, Some, None, Result, Ok, Err}
use Rattle.std.specs.Prelude.{⊤, ◌==◌, if◌then◌else◌}
use Rattle.guest_space.specs.Access.{first_denied}
use Rattle.guest_space.specs.Bytes.{read}
use Rattle.guest_space.specs.Memory.{Memory}
use Rattle.guest_space.specs.declared.access.Access.TheVariants.{Store}
use Rattle.guest_space.specs.declared.access.Denied.{Denied}
use Rattle.kernel_core.specs.declared.signal.Sig.{Sig}
use Rattle.kernel_core.specs.declared.signal.Sig.TheVariants.{Bus}
use Rattle.mips_exec.specs.Going.{Steps}
use Rattle.mips_exec.specs.Processor.{Processor}
use Rattle.mips_exec.specs.Step.{Step, aligned, carried_out, effect_at, faults, is_linked, load_address, load_width, loads, loads_linked, outside_slot, step_of, store_address, store_width, stores_conditionally, unless_denied}
use Rattle.mips_exec.specs.declared.codes.TheConstants.{BAD_ADDRESS}
use Rattle.mips_exec.specs.declared.cpu.Slot.{Slot}
use Rattle.mips_exec.specs.declared.effect.Effect.{Effect}
use Rattle.mips_exec.specs.declared.effect.Effect.TheVariants as effects
use Rattle.mips_exec.specs.declared.effect.Span.{Span}
use Rattle.mips_exec.specs.declared.execution.Stepped.{Stepped}
use Rattle.mips_exec.specs.declared.execution.Stepped.TheVariants.{Next, Syscall, Fault}

-- what is said where a step came to a fault
abbrev OnFault : Stepped → Type 0 → Type 0
OnFault Next Said = ⊤
OnFault Syscall Said = ⊤
OnFault (Fault signal code address) Said = Said

-- A fault leaves no slot, and the memory as it was.
abbrev Stops : Memory → Step → Type 0
Stops m step = OnFault step.came ((step.processor.slot ≡ None) × (step.memory ≡ m))

module _ (m : Memory) where
  either_stops : (b : Bool) (one other : Step) → Stops m one → Stops m other → Stops m (if b then one else other)
  either_stops true one other first second = first
  either_stops false one other first second = second

  module _ (p : Processor) where
    loads_stops : (span : Span) (signed : Bool) (a n : ℕ) (r : Result ℕ Denied) → Stops m (loads p m span signed a n r)
    loads_stops span signed a n (Ok number) = tt
    loads_stops span signed a n (Err denied) = (refl, refl)

    linked_stops : (a n : ℕ) (r : Result ℕ Denied) → Stops m (loads_linked p m a n r)
    linked_stops a n (Ok number) = tt
    linked_stops a n (Err denied) = (refl, refl)

    denied_stops : (o : Option Denied) (step : Step) → Stops m step → Stops m (unless_denied p m o step)
    denied_stops None step stops = stops
    denied_stops (Some denied) step stops = (refl, refl)

    aligned_stops : (a : ℕ) (step : Step) → Stops m step → Stops m (aligned p m a step)
    aligned_stops a step stops = either_stops (a % 4 == 0) step (faults p m Bus BAD_ADDRESS a) stops (refl, refl)

    conditional_stops : (a n : ℕ) → Stops m (stores_conditionally p m a n)
    conditional_stops a n = either_stops (is_linked p.link a) _ _ tt tt

    outside_stops : (slot : Option Slot) (step : Step) → Stops m step → Stops m (outside_slot slot p m step)
    outside_stops None step stops = stops
    outside_stops (Some slot) step stops = (refl, refl)

  by_effect : (p : Processor) (effect : Effect) → Stops m (carried_out p m effect)
  by_effect p effects.Proceed = tt
  by_effect p (effects.Register n value) = tt
  by_effect p (effects.HighLow high low) = tt
  by_effect p (effects.Load span signed a n) = loads_stops p span signed a (n % 32) (read m (load_address span a) (load_width span))
  by_effect p (effects.LoadLinked a n) = aligned_stops p a _ (linked_stops p a (n % 32) (read m a 4))
  by_effect p (effects.Store span a value) = denied_stops p (first_denied Store m.pages (store_address span a) (store_width span a)) _ tt
  by_effect p (effects.StoreConditional a n) =
      let q = record p { link = None } in
      aligned_stops q a _ (denied_stops q (first_denied Store m.pages a 4) _ (conditional_stops p a (n % 32)))
  by_effect p (effects.Branch link target) = outside_stops p p.slot _ tt
  by_effect p (effects.ArithmeticError code) = (refl, refl)
  by_effect p (effects.Breakpoint code) = (refl, refl)
  by_effect p effects.SystemCall = outside_stops p p.slot _ tt
  by_effect p effects.Reserved = (refl, refl)
  by_effect p (effects.FetchFault signal code address) = (refl, refl)

pub fault_step : (p next : Processor) (m stored : Memory) (signal : Sig) (code address : ℕ) → Steps p m (Fault signal code address) next stored
    → (next.slot ≡ None) × (stored ≡ m)
unfolding step_of
fault_step p next m stored signal code address is = subst (λ (step : Step). Stops m step) is (by_effect m p (effect_at p m))
