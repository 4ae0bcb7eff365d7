-- An o32 call that is one native call which fills a buffer: its bytes go to host memory, and from there to the program's buffer. (The form
-- is this project's own.)
use Rattle.std.specs.Prelude.{◌≡◌, ℕ, pos, negsuc, ◌≤◌, List, [], length, take}
use Rattle.guest_space.specs.Bytes.{copied_out}
use Rattle.host_mem.specs.Memory.{first_address, written}
use Rattle.kernel_core.specs.declared.reply.Reply.{Reply}
use Rattle.kernel_core.specs.declared.reply.Reply.TheVariants as replies
use Rattle.kernel_model.specs.Came.{Came}
use Rattle.kernel_model.specs.Pipes.{nothing}
use Rattle.native_calls.specs.Step as native_step
use Rattle.native_calls.specs.Step.{NativeStep}
use Rattle.o32_model.specs.Step as o32_step
use Rattle.o32_model.specs.Step.{Guest, O32Step}
use Rattle.bridge_log.specs.Bounds.{Bounded}

-- the bytes of host memory that a reply says were put there: as many as its number, from the first on
abbrev pub bytes_back : List ℕ → Reply → List ℕ
bytes_back memory (replies.Done (pos count)) = take count memory
bytes_back memory (replies.Done (negsuc number)) = []
bytes_back memory (replies.Sleep wake) = []

-- Both calls come to the same, and give no more bytes than host memory, `room`, has.
pub record Fills (guest : Guest) (buffer : ℕ) (room : List ℕ) (native : NativeStep) (step : O32Step) : Type 0 where
  pub came : Came (List ℕ)
  pub bounded : Bounded (λ bytes. length bytes ≤ length room) came
  pub kernel : step.kernel ≡ native.kernel
  pub left : step.left ≡ native.left
  pub native_sends : native.sent ≡ nothing
  pub sends : step.sent ≡ nothing
  pub room_after : native.memory ≡ native_step.memory_after (written room first_address) room came
  pub stored : step.memory ≡ o32_step.memory_after (copied_out guest.memory buffer) guest.memory came
  pub set : step.processor ≡ guest.processor
  pub replied : native.reply ≡ native_step.reply_to (λ bytes. native_step.value (length bytes)) came
  pub outcome : step.outcome ≡ o32_step.outcome_of (λ bytes. o32_step.value (length bytes)) guest.words came
