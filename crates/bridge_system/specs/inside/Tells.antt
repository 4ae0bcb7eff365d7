-- Calls that are one native call which gives names or a limit: they go to host memory, and from there to the program's memory. (The form is
-- this project's own.)
use Rattle.std.specs.Prelude.{◌≡◌, ℕ, pos, negsuc, List}
use Rattle.guest_space.specs.Memory.{Memory}
use Rattle.kernel_core.specs.declared.reply.Reply.{Reply}
use Rattle.kernel_core.specs.declared.reply.Reply.TheVariants as replies
use Rattle.kernel_model.specs.Pipes.{nothing}
use Rattle.native_calls.specs.HostBytes as host
use Rattle.native_calls.specs.Step.{NativeStep}
use Rattle.native_calls.specs.System as native
use Rattle.bridge_system.specs.declared.telling.Told.{Told}
use Rattle.bridge_system.specs.declared.telling.Told.TheVariants.{Names, Limits, WideLimits}
use Rattle.bridge_system.specs.inside.Limits.{limit_there}
use Rattle.o32_model.specs.GuestBytes.{with_stored}
use Rattle.o32_model.specs.Small as o32
use Rattle.o32_model.specs.Step.{Guest, O32Step, stored}
use Rattle.o32_model.specs.declared.call_words.CallWords.{CallWords}
use Rattle.o32_model.specs.declared.outcome.Outcome.{Outcome}
use Rattle.bridge_io.specs.Passed.{outcome_of}

-- the bytes that go to the program's memory, by those of host memory
abbrev pub bytes_told : Told → List ℕ → List ℕ
bytes_told Names memory = memory
bytes_told Limits memory = o32.shown_bytes (limit_there memory)
bytes_told WideLimits memory = o32.limit_bytes (limit_there memory)

-- the program's memory after a reply, and what the call came to; after an error nothing is stored

abbrev pub memory_told : Memory → ℕ → Told → List ℕ → Reply → Memory
memory_told memory address told room (replies.Done (pos number)) = with_stored memory address (bytes_told told room)
memory_told memory address told room (replies.Done (negsuc number)) = memory
memory_told memory address told room (replies.Sleep wake) = memory

abbrev pub outcome_told : CallWords → Memory → ℕ → Told → List ℕ → Reply → Outcome
outcome_told words memory address told room (replies.Done (pos number)) = stored memory address (bytes_told told room)
outcome_told words memory address told room (replies.Done (negsuc number)) = outcome_of words (replies.Done (negsuc number))
outcome_told words memory address told room (replies.Sleep wake) = outcome_of words (replies.Sleep wake)

-- Both calls come to the same.
pub record Tells (guest : Guest) (address : ℕ) (told : Told) (native : NativeStep) (step : O32Step) : Type 0 where
  pub kernel : step.kernel ≡ native.kernel
  pub left : step.left ≡ native.left
  pub native_sends : native.sent ≡ nothing
  pub sends : step.sent ≡ nothing
  pub stored_so : step.memory ≡ memory_told guest.memory address told native.memory native.reply
  pub set : step.processor ≡ guest.processor
  pub came : step.outcome ≡ outcome_told guest.words guest.memory address told native.memory native.reply

-- The limit that host memory has at a place is the program's: none where its pointer is null, and EFAULT where it can't be read.
abbrev pub IsTaken : Memory → ℕ → List ℕ → ℕ → Type 0
IsTaken memory address room place = host.unless_null place (native.limit_at room place) ≡ o32.limit_at memory address
