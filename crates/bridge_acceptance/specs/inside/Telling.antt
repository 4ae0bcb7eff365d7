-- What is told of an acceptance, and what the call then comes to. (The form is this project's own.)
use Rattle.std.specs.Prelude.{ℕ, ◌==◌, Bool, List, length, if◌then◌else◌}
use Rattle.guest_space.specs.Memory.{Memory}
use Rattle.kernel_core.specs.declared.error.Errno.TheVariants.{EFAULT}
use Rattle.kernel_model.specs.Pipes.{nothing}
use Rattle.kernel_model.specs.Shared.{Info}
use Rattle.kernel_model.specs.State.{Kernel}
use Rattle.o32_model.specs.GuestBytes.{is_storable, with_stored}
use Rattle.o32_model.specs.Step.{Guest, O32Step, failure, value, wait_of}
use Rattle.o32_model.specs.Suspending.{accepted_number, info_bytes}
use Rattle.o32_model.specs.declared.call_words.CallWords.{CallWords}
use Rattle.o32_model.specs.declared.outcome.Outcome.{Outcome}
use Rattle.o32_model.specs.declared.outcome.Outcome.TheVariants as outcomes
use Rattle.o32_model.specs.declared.wait.Close.{Close}
use Rattle.o32_model.specs.declared.wait.Close.TheVariants as closes
use Rattle.bridge_acceptance.specs.declared.accepting.Accepted.{Accepted}
use Rattle.bridge_acceptance.specs.declared.accepting.Accepted.TheVariants as accepteds
use Rattle.bridge_acceptance.specs.declared.telling.Told.{Told}
use Rattle.bridge_acceptance.specs.declared.telling.Told.TheVariants as tolds

-- what was told, and memory then
pub record Telling : Type 0 where
  pub told : Told
  pub memory : Memory

abbrev pub telling : Told → Memory → Telling
telling told memory = record { told = told; memory = memory }

abbrev pub number_if : Bool → ℕ → Told
number_if room number = if room then tolds.Number number else tolds.Refused EFAULT

-- bytes are stored whole, and give the number, or are EFAULT
abbrev pub stores : Memory → ℕ → List ℕ → ℕ → Telling
stores memory address bytes number =
    telling (number_if (is_storable memory address (length bytes)) number) (with_stored memory address bytes)

-- a pointer that is null stores nothing
abbrev pub stores_unless_null : Memory → ℕ → Info → Telling
stores_unless_null memory address info =
    if address == 0 then telling (tolds.Number (accepted_number info)) memory
    else stores memory address (info_bytes info) (accepted_number info)

abbrev pub tells : Memory → ℕ → Accepted → Telling
tells memory address (accepteds.Signal info) = stores_unless_null memory address info
tells memory address (accepteds.Refused error) = telling (tolds.Refused error) memory
tells memory address (accepteds.Waits until) = telling (tolds.Waits until) memory

-- the outcome of a call with these words
abbrev pub outcome_of : CallWords → Told → Outcome
outcome_of words (tolds.Number number) = value number
outcome_of words (tolds.Refused error) = failure error
outcome_of words (tolds.Waits until) = outcomes.Sleep (wait_of words (record { done = 0; until = until }))

-- how a wait is closed by it
abbrev pub close_of : Told → Close
close_of (tolds.Number number) = closes.Value number
close_of (tolds.Refused error) = closes.Error error
close_of (tolds.Waits until) = closes.Again

-- the step of a call that was told so
abbrev pub ended : Kernel → Guest → List ℕ → Telling → O32Step
ended kernel guest left telling = record {
  kernel = kernel;
  left = left;
  memory = telling.memory;
  processor = guest.processor;
  sent = nothing;
  outcome = outcome_of guest.words telling.told;
}
