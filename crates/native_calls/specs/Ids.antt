-- The calls on ids: getpid(2), getppid(2).
use Rattle.std.specs.Prelude.{ℕ, List, [], ◌∷◌}
use Rattle.kernel_model.specs.Came.{done}
use Rattle.kernel_model.specs.SignalRows.{own_id, parent_id}
use Rattle.kernel_model.specs.State.{Kernel}
use Rattle.native_calls.specs.Step.{NativeStep, NativeCall, gives}

unfoldable pub getpid_row : Kernel → List ℕ → List ℕ → NativeStep
getpid_row kernel memory left = gives memory (done kernel own_id) left

unfoldable pub getppid_row : Kernel → List ℕ → List ℕ → NativeStep
getppid_row kernel memory left = gives memory (done kernel parent_id) left

-- The numbers (Linux include/uapi/asm-generic/unistd.h)
abbrev pub id_calls : List NativeCall
id_calls =
    record { number = 172; step = λ args kernel memory. getpid_row kernel memory }
    ∷ record { number = 173; step = λ args kernel memory. getppid_row kernel memory }
    ∷ []
