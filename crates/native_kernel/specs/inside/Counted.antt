-- A call that stores bytes and replies their number.
use Rattle.std.specs.Prelude.{◌≡◌, ℕ, List}
use Rattle.host_mem.specs.Memory.{written}
use Rattle.kernel_core.specs.declared.reply.Reply.{Reply}
use Rattle.kernel_model.specs.Came.{Did}
use Rattle.kernel_model.specs.State.{Kernel}
use Rattle.native_calls.specs.Step.{counted, memory_after, reply_to}

-- what it came to, and host memory before and after
pub record Counts (did : Did Kernel (List ℕ)) (address : ℕ) (reply : Reply) (kernel : Kernel) (old new : List ℕ) : Type 0 where
  pub answered : reply ≡ reply_to (counted old address) did.came
  pub became : kernel ≡ did.state
  pub put : new ≡ memory_after (written old address) old did.came
