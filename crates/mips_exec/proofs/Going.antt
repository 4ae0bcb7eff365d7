-- Instructions one after the other.
use Rattle.std.proofs.Common.{◌≡◌, ◌/◌, ◌<◌, ◌∙◌, ap, ℕ, zero, suc, ◌+◌, None, Result, Ok, Err, OnErr, IfOk, refl, sym, subst, add-one, arith}
use Rattle.std.specs.FinMap.{get}
use Rattle.guest_space.proofs.Prefixes.{below_end, refusal-page}
use Rattle.guest_space.specs.Access.{refusal, page_refusal, user_end}
use Rattle.guest_space.specs.declared.access.Access.TheVariants.{Load}
use Rattle.guest_space.specs.Memory.{Memory, Pages}
use Rattle.kernel_core.specs.declared.core_error.NoMemory.{NoMemory}
use Rattle.mips_exec.specs.Processor.{Processor}
use Rattle.mips_exec.specs.Going.{Goes, GoesThen, Steps}
use Rattle.mips_exec.specs.Arithmetic.{sum}
use Rattle.mips_exec.specs.Step.{Step, step_of, carried_out, effect_at, outside_slot}
use Rattle.mips_exec.specs.inside.Quietly.{IsAtCall}
use Rattle.mips_exec.specs.declared.effect.Effect.{Effect}
use Rattle.mips_exec.specs.declared.effect.Effect.TheVariants.{SystemCall}
use Rattle.mips_exec.specs.declared.execution.Stepped.{Stepped}
use Rattle.mips_exec.specs.declared.execution.Stepped.TheVariants.{Next, Syscall}

-- where a byte of a page may be loaded, each of the page may
pub usable_in_page : (pages : Pages) (a b : ℕ) → a / 4096 ≡ b / 4096 → refusal Load pages a ≡ None → refusal Load pages b ≡ None
usable_in_page pages a b same free =
    let low = below_end Load pages a free in
    let high : b < user_end = omega (arith, same) in
    refusal-page Load pages b high
    ∙ ap (λ n. page_refusal Load (get pages n)) (sym same)
    ∙ sym (refusal-page Load pages a low)
    ∙ free

-- a step by its effect
pub step_by_effect : (processor : Processor) (memory : Memory) (effect : Effect) (step : Step) → effect_at processor memory ≡ effect → carried_out processor memory effect ≡ step
    → step_of processor memory ≡ step
unfolding step_of
step_by_effect processor memory effect step is carried = ap (carried_out processor memory) is ∙ carried

-- a SYSCALL in no slot
pub steps_to_call : (processor : Processor) (memory : Memory) → IsAtCall processor memory
    → step_of processor memory ≡ record { processor = record processor { pc = sum processor.pc 4; link = None }; memory = memory; came = Syscall }
steps_to_call processor memory (outside, is) =
    step_by_effect processor memory SystemCall (record { processor = record processor { pc = sum processor.pc 4; link = None }; memory = memory; came = Syscall }) is
    (ap (λ s. outside_slot s processor memory (record { processor = record processor { pc = sum processor.pc 4; link = None }; memory = memory; came = Syscall })) outside)

pub goes_nowhere : (processor : Processor) (memory : Memory) → Goes 0 processor memory processor memory
unfolding Goes
goes_nowhere processor memory = (refl, refl)

-- a number of instructions may be written otherwise
pub goes_as : (k other : ℕ) (processor : Processor) (memory : Memory) (next : Processor) (stored : Memory) → other ≡ k → Goes k processor memory next stored → Goes other processor memory next stored
goes_as k other processor memory next stored same goes = subst (λ (n : ℕ). Goes n processor memory next stored) (sym same) goes

-- what is said of an instruction, by what it came to
abbrev pub IsStep : Processor → Memory → Result Stepped NoMemory → Processor → Memory → Type 0
IsStep processor memory result next stored = IfOk result (λ came. Steps processor memory came next stored)

module _ (k : ℕ) (processor : Processor) (memory : Memory) (middle : Processor) (kept : Memory) (goes : Goes k processor memory middle kept) where
  pub goes_one : (next : Processor) (stored : Memory) → Steps middle kept Next next stored → Goes (k + 1) processor memory next stored
  unfolding Goes
  goes_one next stored step = rw add-one (middle, kept, goes, step)

  pub goes_on : (next : Processor) (stored : Memory) (result : Result Stepped NoMemory) → result ≡ Ok Next → IsStep middle kept result next stored
      → Goes (k + 1) processor memory next stored
  goes_on next stored result is step = goes_one next stored (subst (λ (r : Result Stepped NoMemory). IsStep middle kept r next stored) is step)

  pub goes_then : (next : Processor) (stored : Memory) (result : Result Stepped NoMemory) → IsStep middle kept result next stored → OnErr result (next ≡ middle) → OnErr result (stored ≡ kept)
      → GoesThen k processor memory result next stored
  goes_then next stored (Ok came) step same alike = (middle, kept, goes, step)
  goes_then next stored (Err error) step same alike =
      subst (λ (p : Processor). Goes k processor memory p stored) (sym same) (subst (λ (m : Memory). Goes k processor memory middle m) (sym alike) goes)

  -- and then a SYSCALL in no slot
  pub goes_to_call : (next : Processor) (came : Stepped) → IsAtCall middle kept → next ≡ record middle { pc = sum middle.pc 4; link = None } → came ≡ Syscall
      → GoesThen k processor memory (Ok came) next kept
  goes_to_call next came at same is = (
    middle,
    kept,
    goes,
    subst (λ (s : Stepped). Steps middle kept s next kept) (sym is)
        (subst (λ (q : Processor). Steps middle kept Syscall q kept) (sym same) (steps_to_call middle kept at)),
  )

  -- and further
  pub goes_far : (j : ℕ) (next : Processor) (stored : Memory) → Goes j middle kept next stored → Goes (k + j) processor memory next stored
  unfolding Goes
  goes_far zero next stored (same, alike) =
      subst (λ (p : Processor). Goes (k + 0) processor memory p stored) same
      (subst (λ (m : Memory). Goes (k + 0) processor memory middle m) alike (goes_as k (k + 0) processor memory middle kept (omega arith) goes))
  goes_far (suc j) next stored (there, left, more, step) =
      let before = goes_far j there left more in
      goes_as (k + j + 1) (k + suc j) processor memory next stored (omega arith) (rw add-one (there, left, before, step))
