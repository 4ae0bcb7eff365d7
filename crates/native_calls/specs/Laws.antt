-- Words of the laws. (The laws are this project's own.)
use Rattle.std.specs.Prelude.{◌≡◌, ◌⊎◌, ℕ, pos, negsuc, List, Option, ⊤}
use Rattle.host_mem.specs.Memory.{written}
use Rattle.kernel_core.specs.declared.error.Errno.TheVariants.{EFAULT, EPIPE}
use Rattle.kernel_core.specs.declared.reply.Reply.{Reply}
use Rattle.kernel_core.specs.declared.reply.Reply.TheVariants as replies
use Rattle.kernel_model.specs.Came.{Done, Refused}
use Rattle.kernel_model.specs.DescriptorRows.{PipeFlags, Ends, make_pipe}
use Rattle.kernel_model.specs.Pipes.{nothing}
use Rattle.kernel_model.specs.State.{Kernel}
use Rattle.kernel_model.specs.Whole.{with_files, with_sigpipe}
use Rattle.native_calls.specs.Descriptors.{without_pair}
use Rattle.native_calls.specs.Step.{NativeStep, failure}
use Rattle.native_calls.specs.Times.{time_bytes}

-- a reply below 0, which is an error's
abbrev pub IsFailure : Reply → Type 0
IsFailure (replies.Done (pos number)) = ⊥
IsFailure (replies.Done (negsuc number)) = ⊤
IsFailure (replies.Sleep wake) = ⊥

-- what is left of the input stays, and nothing is sent
pub record KeepsStreams (left : List ℕ) (step : NativeStep) : Type 0 where
  pub rest : step.left ≡ left
  pub sent : step.sent ≡ nothing

-- host memory stays too
pub record MovesNothing (memory left : List ℕ) (step : NativeStep) : Type 0 where
  pub stored : step.memory ≡ memory
  pub rest : step.left ≡ left
  pub sent : step.sent ≡ nothing

-- A call that changes the kernel and tells what was there before, or what it took away, and the place of the argument that says where to.
pub data TellsOld (number place : ℕ) : Type 0 where
  Setitimer : number ≡ 103 → place ≡ 2 → TellsOld number place
  Sigaltstack : number ≡ 132 → place ≡ 1 → TellsOld number place
  Sigaction : number ≡ 134 → place ≡ 2 → TellsOld number place
  Sigprocmask : number ≡ 135 → place ≡ 2 → TellsOld number place
  Sigtimedwait : number ≡ 137 → place ≡ 1 → TellsOld number place
  Prlimit : number ≡ 261 → place ≡ 3 → TellsOld number place

-- What a call that fails leaves of the kernel: all as it was; or SIGPIPE posted, with EPIPE (pipe(7)); or, by pipe2(2), a pipe that was
-- made and both of whose ends are closed again, with EFAULT; or what the call did, where it can't tell what was there before, with EFAULT.

abbrev pub MadeAndClosed : Kernel → Option PipeFlags → Ends → Kernel → Type 0
MadeAndClosed kernel flags ends after =
    let made = make_pipe kernel.files flags in
    (made.came ≡ Done ends) × (after ≡ without_pair (with_files kernel made.state) ends)

pub data LeftByFailure (number : ℕ) (kernel : Kernel) (step : NativeStep) : Type 0 where
  AsItWas : step.kernel ≡ kernel → LeftByFailure number kernel step
  BrokenPipe : step.reply ≡ failure EPIPE → step.kernel ≡ with_sigpipe kernel (Refused EPIPE) → LeftByFailure number kernel step
  PairNotStored : number ≡ 59 → step.reply ≡ failure EFAULT → (flags : Option PipeFlags) (ends : Ends) → MadeAndClosed kernel flags ends step.kernel
      → LeftByFailure number kernel step
  NotStored : (place : ℕ) → TellsOld number place → step.reply ≡ failure EFAULT → LeftByFailure number kernel step

-- write(2) and writev(2), which may wait with a part of their bytes put
abbrev pub MayWaitPartly : ℕ → Type 0
MayWaitPartly number = (number ≡ 64) ⊎ (number ≡ 66)

-- pselect(2) and ppoll(2), which store the time left at an error too, and nothing else
pub record StoresTimeLeft (number : ℕ) (memory : List ℕ) (step : NativeStep) : Type 0 where
  pub own : (number ≡ 72) ⊎ (number ≡ 73)
  pub time : ℕ
  pub remaining : ℕ
  pub stored : step.memory ≡ written memory time (time_bytes remaining)

-- sigaltstack(2), to which a stack may be too small
abbrev pub MayLackMemory : ℕ → Type 0
MayLackMemory number = number ≡ 132
