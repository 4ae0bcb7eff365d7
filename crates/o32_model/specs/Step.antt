-- What a call does, and how what a row of the kernel came to becomes its outcome (syscall(2)).
use Rattle.std.specs.Prelude.{ℕ, List, length, None, if◌then◌else◌}
use Rattle.guest_space.specs.Memory.{Memory}
use Rattle.kernel_core.specs.declared.error.Errno.TheVariants.{EFAULT}
use Rattle.kernel_model.specs.Came.{Came, Done, Refused, Waits, Did}
use Rattle.kernel_model.specs.Pipes.{Sent, nothing}
use Rattle.kernel_model.specs.Shared.{Errno, Wake}
use Rattle.kernel_model.specs.State.{Kernel}
use Rattle.mips_exec.specs.Processor.{Processor}
use Rattle.o32_model.specs.GuestBytes.{is_storable, with_stored}
use Rattle.o32_model.specs.Words.{six_words}
use Rattle.o32_model.specs.declared.call_words.CallWords.{CallWords}
use Rattle.o32_model.specs.declared.outcome.Outcome.{Outcome}
use Rattle.o32_model.specs.declared.outcome.Outcome.TheVariants as outcomes
use Rattle.o32_model.specs.declared.wait.Wait.{Wait}

-- What a call finds of the program: its words, the processor, whose pc is past the SYSCALL, and memory
pub record Guest : Type 0 where
  pub words : CallWords
  pub processor : Processor
  pub memory : Memory

-- The kernel, what is left of the input, memory and the processor after a call; what it sends to the outputs; and what it came to, which is
-- not yet in the registers.
pub record O32Step : Type 0 where
  pub kernel : Kernel
  pub left : List ℕ
  pub memory : Memory
  pub processor : Processor
  pub sent : Sent
  pub outcome : Outcome

-- Outcomes

abbrev pub value : ℕ → Outcome
value number = outcomes.Value number

abbrev pub failure : Errno → Outcome
failure error = outcomes.Error error

-- a wait without a mask of its own
abbrev pub wait_of : CallWords → Wake → Wait
wait_of words wake = record { nr = words.nr; words = six_words words; deadline = wake.until; done = wake.done; mask = None }

-- what a row came to, as an outcome, and memory after it, by what its value is
abbrev pub outcome_of : {V : Type 0} → (V → Outcome) → CallWords → Came V → Outcome
outcome_of of_value words (Done found) = of_value found
outcome_of of_value words (Refused error) = failure error
outcome_of of_value words (Waits wake) = outcomes.Sleep (wait_of words wake)

abbrev pub memory_after : {V : Type 0} → (V → Memory) → Memory → Came V → Memory
memory_after with_value memory (Done found) = with_value found
memory_after with_value memory (Refused error) = memory
memory_after with_value memory (Waits wake) = memory

-- Calls that move no byte of a stream. What is left of the input comes last.

-- memory stays, and the row's value says what the call came to
abbrev pub comes_to : {V : Type 0} → (V → Outcome) → Guest → Did Kernel V → List ℕ → O32Step
comes_to of_value guest did left = record {
  kernel = did.state;
  left = left;
  memory = guest.memory;
  processor = guest.processor;
  sent = nothing;
  outcome = outcome_of of_value guest.words did.came;
}

-- the row's number is the result
abbrev pub gives : Guest → Did Kernel ℕ → List ℕ → O32Step
gives guest did left = comes_to value guest did left

-- The row's bytes are stored whole, and the result is 0; where they can't all be stored, none is, and that is EFAULT.

abbrev pub stored : Memory → ℕ → List ℕ → Outcome
stored memory address bytes = if is_storable memory address (length bytes) then value 0 else failure EFAULT

abbrev pub stores : Guest → ℕ → Did Kernel (List ℕ) → List ℕ → O32Step
stores guest address did left = record {
  kernel = did.state;
  left = left;
  memory = memory_after (with_stored guest.memory address) guest.memory did.came;
  processor = guest.processor;
  sent = nothing;
  outcome = outcome_of (stored guest.memory address) guest.words did.came;
}

-- The row's bytes go to where they can be stored, and the result is their number. `with_bytes` is memory with them.
abbrev pub fills : (List ℕ → Memory) → Guest → Did Kernel (List ℕ) → List ℕ → O32Step
fills with_bytes guest did left = record {
  kernel = did.state;
  left = left;
  memory = memory_after with_bytes guest.memory did.came;
  processor = guest.processor;
  sent = nothing;
  outcome = outcome_of (λ bytes. value (length bytes)) guest.words did.came;
}

-- A call of the table: its number, and what it does by the kernel, what it finds of the program, and what is left of the input
pub record O32Row : Type 0 where
  pub number : ℕ
  pub step : Kernel → Guest → List ℕ → O32Step
