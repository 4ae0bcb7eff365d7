-- An o32 call that is one native call which tells a status: it stands in host memory, and goes to the program's memory as a structure of the
-- program, whole, or not at all, which is EFAULT. (The form is this project's own.)
use Rattle.std.specs.Prelude.{◌≡◌, ℕ, pos, negsuc, List, Option, Some, None, if◌then◌else◌}
use Rattle.guest_space.specs.Memory.{Memory}
use Rattle.host_mem.specs.Memory.{bytes_at, first_address}
use Rattle.kernel_core.specs.declared.error.Errno.TheVariants.{EFAULT, EOVERFLOW}
use Rattle.kernel_core.specs.declared.reply.Reply.{Reply}
use Rattle.kernel_core.specs.declared.reply.Reply.TheVariants as replies
use Rattle.kernel_model.specs.Pipes.{nothing}
use Rattle.native_calls.specs.Step.{NativeStep}
use Rattle.o32_model.specs.GuestBytes.{with_stored}
use Rattle.o32_model.specs.Step.{Guest, O32Step, failure, stored}
use Rattle.o32_model.specs.declared.call_words.CallWords.{CallWords}
use Rattle.o32_model.specs.declared.outcome.Outcome.{Outcome}
use Rattle.bridge_paths.specs.Passed.{outcome_of}
use Rattle.bridge_status.specs.declared.structures.Form.{Form}
use Rattle.bridge_status.specs.inside.Statuses.{is_too_wide, shape_of, shown}

-- the native status, where it is there
unfoldable pub status_there : List ℕ → Option (List ℕ)
status_there room = bytes_at room first_address 128

-- The program's memory after a status that was told, and what the call comes to: nothing is stored of one that the structure can't hold.

abbrev pub memory_by : Memory → ℕ → Form → Option (List ℕ) → Memory
memory_by memory address form None = memory
memory_by memory address form (Some status) =
    if is_too_wide form status then memory else with_stored memory address (shown (shape_of form) status)

abbrev pub outcome_by : Memory → ℕ → Form → Option (List ℕ) → Outcome
outcome_by memory address form None = failure EFAULT
outcome_by memory address form (Some status) =
    if is_too_wide form status then failure EOVERFLOW else stored memory address (shown (shape_of form) status)

-- the same by the reply; after an error nothing is stored

abbrev pub memory_told : Memory → ℕ → Form → List ℕ → Reply → Memory
memory_told memory address form room (replies.Done (pos number)) = memory_by memory address form (status_there room)
memory_told memory address form room (replies.Done (negsuc number)) = memory
memory_told memory address form room (replies.Sleep wake) = memory

abbrev pub outcome_told : CallWords → Memory → ℕ → Form → List ℕ → Reply → Outcome
outcome_told words memory address form room (replies.Done (pos number)) = outcome_by memory address form (status_there room)
outcome_told words memory address form room (replies.Done (negsuc number)) = outcome_of words (replies.Done (negsuc number))
outcome_told words memory address form room (replies.Sleep wake) = outcome_of words (replies.Sleep wake)

-- Both calls come to the same.
pub record Tells (guest : Guest) (address : ℕ) (form : Form) (native : NativeStep) (step : O32Step) : Type 0 where
  pub kernel : step.kernel ≡ native.kernel
  pub left : step.left ≡ native.left
  pub native_sends : native.sent ≡ nothing
  pub sends : step.sent ≡ nothing
  pub stored_so : step.memory ≡ memory_told guest.memory address form native.memory native.reply
  pub set : step.processor ≡ guest.processor
  pub came : step.outcome ≡ outcome_told guest.words guest.memory address form native.memory native.reply
