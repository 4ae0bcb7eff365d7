-- A step of the processor takes of memory the pages alone; and what it leaves where a call or a fault came.
use Rattle.std.proofs.Common.{◌≡◌, ℕ, ◌%◌, ◌==◌, Bool, true, false, Option, Some, None, Result, Ok, Err, refl, subst}
use Rattle.std.specs.Prelude.{⊤, if◌then◌else◌}
use Rattle.guest_space.specs.Access.{first_denied}
use Rattle.guest_space.specs.Bytes.{copied_out, read, written}
use Rattle.guest_space.specs.Memory.{Memory, Pages}
use Rattle.guest_space.specs.declared.access.Access.TheVariants as access
use Rattle.guest_space.specs.declared.access.Denied.{Denied}
use Rattle.mips_exec.specs.Arithmetic.{sum}
use Rattle.mips_exec.specs.Processor.{Processor}
use Rattle.mips_exec.specs.Step.{Step, aligned, carried_out, effect_at, goes_to_next, is_linked, load_address, load_width, loads, loads_linked, outside_slot, step_of, store_address, store_width, stored_value, stores, stores_conditionally, unless_denied}
use Rattle.mips_exec.specs.declared.cpu.Slot.{Slot}
use Rattle.mips_exec.specs.declared.effect.Effect.{Effect}
use Rattle.mips_exec.specs.declared.effect.Effect.TheVariants.{Proceed, Register, HighLow, Load, LoadLinked, Store, StoreConditional, Branch, ArithmeticError, Breakpoint, SystemCall, Reserved, FetchFault}
use Rattle.mips_exec.specs.declared.effect.Span.{Span}
use Rattle.mips_exec.specs.declared.execution.Stepped.{Stepped}
use Rattle.mips_exec.specs.declared.execution.Stepped.TheVariants.{Next, Syscall, Fault}

-- Two steps are the same but for the program break.
pub record SameStep (one other : Step) : Type 0 where
  pub processor : one.processor ≡ other.processor
  pub pages : one.memory.pages ≡ other.memory.pages
  pub came : one.came ≡ other.came

same_either : (test : Bool) (a b c d : Step) → SameStep a b → SameStep c d → SameStep (if test then a else c) (if test then b else d)
same_either true a b c d first second = first
same_either false a b c d first second = second

module _ (pages : Pages) (a b c d : ℕ) where
  abbrev one : Memory
  one = record { pages = pages; program_break = a; break_start = b }

  abbrev other : Memory
  other = record { pages = pages; program_break = c; break_start = d }

  loads_same : (p : Processor) (span : Span) (signed : Bool) (at n : ℕ) (r : Result ℕ Denied) → SameStep (loads p one span signed at n r) (loads p other span signed at n r)
  loads_same p span signed at n (Ok number) = record { processor = refl; pages = refl; came = refl }
  loads_same p span signed at n (Err denied) = record { processor = refl; pages = refl; came = refl }

  linked_same : (p : Processor) (at n : ℕ) (r : Result ℕ Denied) → SameStep (loads_linked p one at n r) (loads_linked p other at n r)
  linked_same p at n (Ok number) = record { processor = refl; pages = refl; came = refl }
  linked_same p at n (Err denied) = record { processor = refl; pages = refl; came = refl }

  unless_same : (p : Processor) (denied : Option Denied) (s t : Step) → SameStep s t → SameStep (unless_denied p one denied s) (unless_denied p other denied t)
  unless_same p None s t same = same
  unless_same p (Some denied) s t same = record { processor = refl; pages = refl; came = refl }

  outside_same : (slot : Option Slot) (p : Processor) (s t : Step) → SameStep s t → SameStep (outside_slot slot p one s) (outside_slot slot p other t)
  outside_same None p s t same = same
  outside_same (Some slot) p s t same = record { processor = refl; pages = refl; came = refl }

  aligned_same : (p : Processor) (at : ℕ) (s t : Step) → SameStep s t → SameStep (aligned p one at s) (aligned p other at t)
  aligned_same p at s t same = same_either (at % 4 == 0) s t _ _ same (record { processor = refl; pages = refl; came = refl })

  stores_same : (p : Processor) (at width value : ℕ) → SameStep (stores p one at width value) (stores p other at width value)
  unfolding written copied_out
  stores_same p at width value =
      unless_same p (first_denied access.Store pages at width) (goes_to_next p (written one at width value)) (goes_to_next p (written other at width value))
      (record { processor = refl; pages = refl; came = refl })

  conditionally_same : (p : Processor) (at n : ℕ) → SameStep (stores_conditionally p one at n) (stores_conditionally p other at n)
  unfolding written copied_out
  conditionally_same p at n =
      same_either (is_linked p.link at) _ _ _ _ (record { processor = refl; pages = refl; came = refl }) (record { processor = refl; pages = refl; came = refl })

  carried_same : (p : Processor) (effect : Effect) → SameStep (carried_out p one effect) (carried_out p other effect)
  unfolding read
  carried_same p Proceed = record { processor = refl; pages = refl; came = refl }
  carried_same p (Register n value) = record { processor = refl; pages = refl; came = refl }
  carried_same p (HighLow high low) = record { processor = refl; pages = refl; came = refl }
  carried_same p (Load span signed at n) = loads_same p span signed at (n % 32) (read one (load_address span at) (load_width span))
  carried_same p (LoadLinked at n) = aligned_same p at _ _ (linked_same p at (n % 32) (read one at 4))
  carried_same p (Store span at value) = stores_same p (store_address span at) (store_width span at) (stored_value span at value)
  carried_same p (StoreConditional at n) =
      let q = record p { link = None } in
      aligned_same q at _ _ (unless_same q (first_denied access.Store pages at 4) _ _ (conditionally_same p at (n % 32)))
  carried_same p (Branch link target) = outside_same p.slot p _ _ (record { processor = refl; pages = refl; came = refl })
  carried_same p (ArithmeticError code) = record { processor = refl; pages = refl; came = refl }
  carried_same p (Breakpoint code) = record { processor = refl; pages = refl; came = refl }
  carried_same p SystemCall = outside_same p.slot p _ _ (record { processor = refl; pages = refl; came = refl })
  carried_same p Reserved = record { processor = refl; pages = refl; came = refl }
  carried_same p (FetchFault signal code address) = record { processor = refl; pages = refl; came = refl }

  step_same : (p : Processor) → SameStep (step_of p one) (step_of p other)
  unfolding step_of effect_at read
  step_same p = carried_same p (effect_at p one)

pub same_step : (p : Processor) (one other : Memory) → one.pages ≡ other.pages → SameStep (step_of p one) (step_of p other)
same_step p one other same =
    subst (λ (pages : Pages). SameStep (step_of p one) (step_of p (record other { pages = pages }))) same
    (step_same one.pages one.program_break one.break_start other.program_break other.break_start p)

-- A call was made outside a slot, and a fault leaves none.

abbrev pub CameSo : Processor → Step → Stepped → Type 0
CameSo p step Next = ⊤
CameSo p step Syscall = (p.slot ≡ None) × (step.processor ≡ record p { pc = sum p.pc 4; link = None })
CameSo p step (Fault signal code address) = step.processor.slot ≡ None

abbrev Came : Processor → Step → Type 0
Came p step = CameSo p step step.came

came_either : (p : Processor) (test : Bool) (one other : Step) → Came p one → Came p other → Came p (if test then one else other)
came_either p true a b first second = first
came_either p false a b first second = second

module _ (m : Memory) where
  came_unless : (p q : Processor) (denied : Option Denied) (step : Step) → Came p step → Came p (unless_denied q m denied step)
  came_unless p q None step came = came
  came_unless p q (Some denied) step came = refl

  came_loads : (p : Processor) (span : Span) (signed : Bool) (at n : ℕ) (r : Result ℕ Denied) → Came p (loads p m span signed at n r)
  came_loads p span signed at n (Ok number) = tt
  came_loads p span signed at n (Err denied) = refl

  came_linked : (p : Processor) (at n : ℕ) (r : Result ℕ Denied) → Came p (loads_linked p m at n r)
  came_linked p at n (Ok number) = tt
  came_linked p at n (Err denied) = refl

  came_outside : (p : Processor) (slot : Option Slot) (step : Step) → (slot ≡ None → Came p step) → Came p (outside_slot slot p m step)
  came_outside p None step came = came refl
  came_outside p (Some slot) step came = refl

  came_by : (p : Processor) (effect : Effect) → Came p (carried_out p m effect)
  came_by p Proceed = tt
  came_by p (Register n value) = tt
  came_by p (HighLow high low) = tt
  came_by p (Load span signed at n) = came_loads p span signed at (n % 32) (read m (load_address span at) (load_width span))
  came_by p (LoadLinked at n) = came_either p (at % 4 == 0) _ _ (came_linked p at (n % 32) (read m at 4)) refl
  came_by p (Store span at value) =
      came_unless p p (first_denied access.Store m.pages (store_address span at) (store_width span at))
      (goes_to_next p (written m (store_address span at) (store_width span at) (stored_value span at value))) tt
  came_by p (StoreConditional at n) =
      let q = record p { link = None } in
      came_either p (at % 4 == 0) _ _
      (came_unless p q (first_denied access.Store m.pages at 4) (stores_conditionally p m at (n % 32)) (came_either p (is_linked p.link at) _ _ tt tt)) refl
  came_by p (Branch link target) = came_outside p p.slot _ (λ free. tt)
  came_by p (ArithmeticError code) = refl
  came_by p (Breakpoint code) = refl
  came_by p SystemCall = came_outside p p.slot _ (λ free. (free, refl))
  came_by p Reserved = refl
  came_by p (FetchFault signal code address) = refl

pub came_so : (p : Processor) (m : Memory) → CameSo p (step_of p m) (step_of p m).came
unfolding step_of
came_so p m = came_by m p (effect_at p m)
