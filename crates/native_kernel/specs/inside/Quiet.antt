-- A call that reaches no stream. (The form is this project's own.)
use Rattle.std.specs.Prelude.{◌≡◌, ℕ, List, length}
use Rattle.host_mem.specs.Memory.{written}
use Rattle.kernel_core.specs.declared.reply.Reply.{Reply}
use Rattle.kernel_model.specs.Came.{Did}
use Rattle.kernel_model.specs.Pipes.{nothing}
use Rattle.kernel_model.specs.State.{Kernel}
use Rattle.native_calls.specs.Step.{NativeStep, value, reply_to, stored, memory_after}

-- it takes none of what is left of the input, sends nothing, and does the rest as its step says
pub record Quietly (step : NativeStep) (reply : Reply) (kernel : Kernel) (memory left : List ℕ) : Type 0 where
  pub answered : reply ≡ step.reply
  pub became : kernel ≡ step.kernel
  pub stored : memory ≡ step.memory
  pub rest : step.left ≡ left
  pub sent : step.sent ≡ nothing

abbrev pub IsQuiet : (List ℕ → NativeStep) → Reply → Kernel → List ℕ → Type 0
IsQuiet step reply kernel memory = (left : List ℕ) → Quietly (step left) reply kernel memory left

-- what a call that replies a number came to
pub record Gives (did : Did Kernel ℕ) (reply : Reply) (kernel : Kernel) : Type 0 where
  pub answered : reply ≡ reply_to value did.came
  pub became : kernel ≡ did.state

-- what a call that stores a structure came to, and host memory before and after
pub record Stores (did : Did Kernel (List ℕ)) (address : ℕ) (reply : Reply) (kernel : Kernel) (old new : List ℕ) : Type 0 where
  pub answered : reply ≡ reply_to (stored old address) did.came
  pub became : kernel ≡ did.state
  pub put : new ≡ memory_after (written old address) old did.came

-- what a call that fills a buffer came to, by memory with the bytes
pub record Fills (with_bytes : List ℕ → List ℕ) (did : Did Kernel (List ℕ)) (reply : Reply) (kernel : Kernel) (old new : List ℕ) : Type 0 where
  pub answered : reply ≡ reply_to (λ bytes. value (length bytes)) did.came
  pub became : kernel ≡ did.state
  pub put : new ≡ memory_after with_bytes old did.came
