-- What a call of this crate answers: its row of `native_calls`, for each kernel that has these files and shows this time.
use Rattle.std.specs.Prelude.{◌≡◌, ℕ, List}
use Rattle.kernel_core.specs.declared.reply.Reply.{Reply}
use Rattle.kernel_model.specs.Pipes.{nothing}
use Rattle.kernel_model.specs.State.{Kernel, Files}
use Rattle.native_calls.specs.Polls as polls
use Rattle.native_calls.specs.Step.{NativeStep}
use Rattle.native_polls.specs.declared.select.SetPlaces.{SetPlaces}

-- the call replies what its step does and leaves the memory that it leaves; the step changes nothing else
pub record IsAnswer (step : NativeStep) (before : Kernel) (input : List ℕ) (result : Reply) (after : List ℕ) : Type 0 where
  pub reply : step.reply ≡ result
  pub memory : step.memory ≡ after
  pub kernel : step.kernel ≡ before
  pub left : step.left ≡ input
  pub sent : step.sent ≡ nothing

-- whatever else the kernel has, and whatever is left of the input
abbrev pub Answers : (Kernel → List ℕ → NativeStep) → Files → ℕ → Reply → List ℕ → Type 0
Answers step files clock reply memory =
    (kernel : Kernel) (left : List ℕ) → kernel.files ≡ files → kernel.clock ≡ clock
    → IsAnswer (step kernel left) kernel left reply memory

-- where the sets are
abbrev pub places_of : SetPlaces → polls.SetPlaces
places_of places = record { read = places.read; write = places.write; except = places.except }
