-- What a SYSCALL leaves.
use Rattle.std.proofs.Common.{◌≡◌, ℕ, ◌+◌, ◌%◌, ◌^◌, ◌<◌, ◌≤◌, Bool, true, false, refl, sym, ap, arith, Option, Some, None, Result, Ok, Err}
use Rattle.std.specs.Prelude.{◌==◌, if◌then◌else◌}
use Rattle.guest_space.proofs.Prefixes.{none_denied-within}
use Rattle.guest_space.specs.Access.{first_denied, unless_denied, user_end}
use Rattle.guest_space.specs.Bytes.{read}
use Rattle.guest_space.specs.Memory.{Memory}
use Rattle.guest_space.specs.declared.access.Access.TheVariants.{Load, Store}
use Rattle.guest_space.specs.declared.access.Denied.{Denied}
use Rattle.kernel_core.specs.declared.signal.Sig.TheVariants.{Bus}
use Rattle.mips_exec.specs.Arithmetic.{sum}
use Rattle.mips_exec.specs.Going.{Steps}
use Rattle.mips_exec.specs.Processor.{Processor}
use Rattle.mips_exec.specs.Step.{Step, aligned, carried_out, effect_at, effect_of_fetch, faults, is_linked, load_address, load_width, loads, loads_linked, outside_slot, step_of, store_address, store_width, stores_conditionally, unless_denied as unless_step_denied}
use Rattle.mips_exec.specs.declared.codes.TheConstants.{BAD_ADDRESS}
use Rattle.mips_exec.specs.declared.cpu.Slot.{Slot}
use Rattle.mips_exec.specs.declared.effect.Effect.{Effect}
use Rattle.mips_exec.specs.declared.effect.Effect.TheVariants as effects
use Rattle.mips_exec.specs.declared.effect.Span.{Span}
use Rattle.mips_exec.specs.declared.execution.Stepped.TheVariants.{Next, Syscall}

-- A step that makes no call

abbrev Quiet : Step → Type 0
Quiet step = step.came ≡ Syscall → ⊥

either_quiet : (b : Bool) (one other : Step) → Quiet one → Quiet other → Quiet (if b then one else other)
either_quiet true one other first second = first
either_quiet false one other first second = second

module _ (p : Processor) (m : Memory) where
  loads_quiet : (span : Span) (signed : Bool) (a n : ℕ) (r : Result ℕ Denied) → Quiet (loads p m span signed a n r)
  loads_quiet span signed a n (Ok number) call = cc
  loads_quiet span signed a n (Err denied) call = cc

  linked_quiet : (a n : ℕ) (r : Result ℕ Denied) → Quiet (loads_linked p m a n r)
  linked_quiet a n (Ok number) call = cc
  linked_quiet a n (Err denied) call = cc

  denied_quiet : (o : Option Denied) (step : Step) → Quiet step → Quiet (unless_step_denied p m o step)
  denied_quiet None step quiet = quiet
  denied_quiet (Some denied) step quiet = λ call. cc

  aligned_quiet : (a : ℕ) (step : Step) → Quiet step → Quiet (aligned p m a step)
  aligned_quiet a step quiet = either_quiet (a % 4 == 0) step (faults p m Bus BAD_ADDRESS a) quiet (λ call. cc)

  conditional_quiet : (a n : ℕ) → Quiet (stores_conditionally p m a n)
  conditional_quiet a n = either_quiet (is_linked p.link a) _ _ (λ call. cc) (λ call. cc)

  branch_quiet : (slot : Option Slot) (step : Step) → step.came ≡ Next → Quiet (outside_slot slot p m step)
  branch_quiet None step is call = cc
  branch_quiet (Some slot) step is call = cc

-- What a SYSCALL leaves, and that it stands in no slot

pub record Called (p next : Processor) (m stored : Memory) : Type 0 where
  pub alone : p.slot ≡ None
  pub left : next ≡ record p { pc = sum p.pc 4; link = None }
  pub same : stored ≡ m

module _ (p next : Processor) (m stored : Memory) where
  abbrev after_call : Step
  after_call = record { processor = next; memory = stored; came = Syscall }

  quiet_left : {A : Type 0} (step : Step) → Quiet step → step ≡ after_call → A
  quiet_left step quiet is = absurd (quiet (ap (λ (s : Step). s.came) is))

  called_in : (slot : Option Slot) → p.slot ≡ slot
      → outside_slot slot p m (record { processor = record p { pc = sum p.pc 4; link = None }; memory = m; came = Syscall }) ≡ after_call → Called p next m stored
  called_in None alone is = record { alone = alone; left = sym (ap (λ (s : Step). s.processor) is); same = sym (ap (λ (s : Step). s.memory) is) }
  called_in (Some slot) there is = quiet_left _ (λ call. cc) is

  by_effect : (effect : Effect) → carried_out p m effect ≡ after_call → (effect ≡ effects.SystemCall) × Called p next m stored
  by_effect effects.Proceed is = quiet_left (carried_out p m effects.Proceed) (λ call. cc) is
  by_effect (effects.Register n value) is = quiet_left (carried_out p m (effects.Register n value)) (λ call. cc) is
  by_effect (effects.HighLow high low) is = quiet_left (carried_out p m (effects.HighLow high low)) (λ call. cc) is
  by_effect (effects.Load span signed a n) is =
      quiet_left _ (loads_quiet p m span signed a (n % 32) (read m (load_address span a) (load_width span))) is
  by_effect (effects.LoadLinked a n) is = quiet_left _ (aligned_quiet p m a _ (linked_quiet p m a (n % 32) (read m a 4))) is
  by_effect (effects.Store span a value) is =
      quiet_left _ (denied_quiet p m (first_denied Store m.pages (store_address span a) (store_width span a)) _ (λ call. cc)) is
  by_effect (effects.StoreConditional a n) is =
      quiet_left _ (aligned_quiet (record p { link = None }) m a _
      (denied_quiet (record p { link = None }) m (first_denied Store m.pages a 4) _ (conditional_quiet p m a (n % 32)))) is
  by_effect (effects.Branch link target) is = quiet_left _ (branch_quiet p m p.slot _ refl) is
  by_effect (effects.ArithmeticError code) is = quiet_left (carried_out p m (effects.ArithmeticError code)) (λ call. cc) is
  by_effect (effects.Breakpoint code) is = quiet_left (carried_out p m (effects.Breakpoint code)) (λ call. cc) is
  by_effect effects.SystemCall is = (refl, called_in p.slot refl is)
  by_effect effects.Reserved is = quiet_left (carried_out p m effects.Reserved) (λ call. cc) is
  by_effect (effects.FetchFault signal code address) is = quiet_left (carried_out p m (effects.FetchFault signal code address)) (λ call. cc) is

-- An instruction that was fetched stands in user space

aligned_fetch : (b : Bool) (effect : Effect) (p : Processor) → (if b then effect else effects.FetchFault Bus BAD_ADDRESS p.pc) ≡ effects.SystemCall → effect ≡ effects.SystemCall
aligned_fetch true effect p is = is
aligned_fetch false effect p is = cc

none_denied : (p : Processor) (o : Option Denied) (word : ℕ) → effect_of_fetch p (unless_denied o word) ≡ effects.SystemCall → o ≡ None
none_denied p None word is = refl
none_denied p (Some denied) word is = cc

fetched : (p : Processor) (m : Memory) → effect_at p m ≡ effects.SystemCall → first_denied Load m.pages p.pc 4 ≡ None
unfolding effect_at read
fetched p m is = none_denied p (first_denied Load m.pages p.pc 4) _ (aligned_fetch (p.pc % 4 == 0) _ p is)

in_user_space : (p : Processor) (m : Memory) → effect_at p m ≡ effects.SystemCall → p.pc < 2 ^ 32
in_user_space p m is =
    let below : p.pc + 4 ≤ user_end = none_denied-within Load m.pages 4 p.pc (fetched p m is) (omega arith) in
    omega arith

pub syscall_step : (p next : Processor) (m stored : Memory) → Steps p m Syscall next stored
    → (p.pc < 2 ^ 32) × (p.slot ≡ None) × (next ≡ record p { pc = sum p.pc 4; link = None }) × (stored ≡ m)
unfolding step_of
syscall_step p next m stored is =
    let (effect, called) = by_effect p next m stored (effect_at p m) is in
    (in_user_space p m effect, called.alone, called.left, called.same)
