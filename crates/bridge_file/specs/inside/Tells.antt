-- An o32 call that is one native call which tells a text or a place: it stands in host memory or is the reply's number, and goes to the
-- program's memory whole, or not at all, which is EFAULT. (The form is this project's own.)
use Rattle.std.specs.Prelude.{◌≡◌, ℕ, ◌-◌, ◌%◌, ◌^◌, pos, negsuc, List, length, take, drop, nat_lt, if◌then◌else◌}
use Rattle.guest_space.specs.Memory.{Memory}
use Rattle.host_mem.specs.Memory.{first_address}
use Rattle.kernel_core.specs.declared.reply.Reply.{Reply}
use Rattle.kernel_core.specs.declared.reply.Reply.TheVariants as replies
use Rattle.kernel_model.specs.Pipes.{nothing}
use Rattle.native_calls.specs.Step.{NativeStep}
use Rattle.o32_model.specs.GuestBytes.{is_storable, with_stored}
use Rattle.o32_model.specs.Opening.{place_bytes}
use Rattle.o32_model.specs.Results.{value_if}
use Rattle.o32_model.specs.Step.{Guest, O32Step}
use Rattle.o32_model.specs.declared.call_words.CallWords.{CallWords}
use Rattle.o32_model.specs.declared.outcome.Outcome.{Outcome}
use Rattle.bridge_paths.specs.Passed.{outcome_of}
use Rattle.bridge_file.specs.declared.telling.Told.{Told}
use Rattle.bridge_file.specs.declared.telling.Told.TheVariants.{Text, Place}

-- the bytes that go to the program's memory, by those of host memory and the reply's number
abbrev pub bytes_told : Told → List ℕ → ℕ → List ℕ
bytes_told (Text at) room number = take number (drop (at - first_address) room)
bytes_told Place room number = place_bytes number

-- the call's result
abbrev pub value_told : Told → ℕ → ℕ
value_told (Text at) number = number % 2 ^ 32
value_told Place number = 0

-- what a call comes to that stores these bytes
abbrev pub outcome_stored : Memory → ℕ → List ℕ → ℕ → Outcome
outcome_stored memory address bytes value = value_if (is_storable memory address (length bytes)) value

-- the program's memory after a reply, and what the call came to; after an error nothing is stored

abbrev pub memory_told : Memory → ℕ → Told → List ℕ → Reply → Memory
memory_told memory address told room (replies.Done (pos number)) =
    with_stored memory address (bytes_told told room number)
memory_told memory address told room (replies.Done (negsuc number)) = memory
memory_told memory address told room (replies.Sleep wake) = memory

abbrev pub outcome_told : CallWords → Memory → ℕ → Told → List ℕ → Reply → Outcome
outcome_told words memory address told room (replies.Done (pos number)) =
    outcome_stored memory address (bytes_told told room number) (value_told told number)
outcome_told words memory address told room (replies.Done (negsuc number)) = outcome_of words (replies.Done (negsuc number))
outcome_told words memory address told room (replies.Sleep wake) = outcome_of words (replies.Sleep wake)

-- Both calls come to the same.
pub record Tells (guest : Guest) (address : ℕ) (told : Told) (native : NativeStep) (step : O32Step) : Type 0 where
  pub kernel : step.kernel ≡ native.kernel
  pub left : step.left ≡ native.left
  pub native_sends : native.sent ≡ nothing
  pub sends : step.sent ≡ nothing
  pub stored_so : step.memory ≡ memory_told guest.memory address told native.memory native.reply
  pub set : step.processor ≡ guest.processor
  pub came : step.outcome ≡ outcome_told guest.words guest.memory address told native.memory native.reply

-- how many bytes a text has at most by a size, which may be below 0
abbrev pub size_room : ℕ → ℕ
size_room size = if nat_lt size (2 ^ 31) then size else 0
