-- An o32 call that is one native call, writes no memory of the program, and sends nothing. (The form is this project's own.)
use Rattle.std.specs.Prelude.{◌≡◌, ℕ, List}
use Rattle.kernel_core.specs.declared.reply.Reply.{Reply}
use Rattle.kernel_model.specs.Pipes.{nothing}
use Rattle.native_calls.specs.Step.{NativeStep}
use Rattle.o32_model.specs.Step.{Guest, O32Step}
use Rattle.o32_model.specs.declared.outcome.Outcome.{Outcome}

-- What the native call does is what the o32 call does, and `of` makes the outcome of host memory after it and its reply.
pub record Mirrors (guest : Guest) (of : List ℕ → Reply → Outcome) (native : NativeStep) (step : O32Step) : Type 0 where
  pub kernel : step.kernel ≡ native.kernel
  pub left : step.left ≡ native.left
  pub native_sends : native.sent ≡ nothing
  pub sends : step.sent ≡ nothing
  pub stored : step.memory ≡ guest.memory
  pub set : step.processor ≡ guest.processor
  pub came : step.outcome ≡ of native.memory native.reply
