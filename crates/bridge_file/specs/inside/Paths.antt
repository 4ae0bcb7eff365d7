-- An o32 call with paths that is one native call with the same paths, which stand in host memory. Where one of them can't be read, the call
-- does nothing, and what was wrong is its outcome. (The form is this project's own.)
use Rattle.std.specs.Prelude.{◌≡◌, ℕ, List, Ok, Err}
use Rattle.host_mem.specs.Memory.{first_address}
use Rattle.kernel_core.specs.declared.error.Errno.{Errno}
use Rattle.kernel_model.specs.State.{Kernel}
use Rattle.native_calls.specs.Paths as native
use Rattle.native_calls.specs.Step.{NativeStep}
use Rattle.o32_model.specs.Paths as o32
use Rattle.o32_model.specs.Step.{Guest, O32Step}
use Rattle.bridge_paths.specs.Passed.{Mirrors}
use Rattle.bridge_paths.specs.Passed.{by_reply}
use Rattle.bridge_paths.specs.Refusals.{Refuses}

-- a call with one path, which then stands in host memory from its first address on
pub record MirrorsPath (guest : Guest) (kernel : Kernel) (address : ℕ) (native_step : List ℕ → List ℕ → NativeStep) (step : List ℕ → O32Step) : Type 0 where
  pub found : (path memory : List ℕ) → o32.path_at guest.memory address ≡ Ok path → native.path_at memory first_address ≡ Ok path
      → (left : List ℕ) → Mirrors guest (by_reply guest.words) (native_step memory left) (step left)
  pub lost : (error : Errno) → o32.path_at guest.memory address ≡ Err error → (left : List ℕ) → Refuses guest kernel error left (step left)

-- a call with two paths, of which the second stands in host memory at an address `at`
pub record MirrorsPaths (guest : Guest) (kernel : Kernel) (first second : ℕ) (native_step : ℕ → List ℕ → List ℕ → NativeStep) (step : List ℕ → O32Step) : Type 0 where
  pub found : (one two memory : List ℕ) (at : ℕ) → o32.path_at guest.memory first ≡ Ok one → o32.path_at guest.memory second ≡ Ok two
      → native.path_at memory first_address ≡ Ok one → native.path_at memory at ≡ Ok two
      → (left : List ℕ) → Mirrors guest (by_reply guest.words) (native_step at memory left) (step left)
  pub first_lost : (error : Errno) → o32.path_at guest.memory first ≡ Err error → (left : List ℕ) → Refuses guest kernel error left (step left)
  pub second_lost : (one : List ℕ) (error : Errno) → o32.path_at guest.memory first ≡ Ok one → o32.path_at guest.memory second ≡ Err error
      → (left : List ℕ) → Refuses guest kernel error left (step left)
