-- A write of bytes that stand in host memory. (The form is this project's own.)
use Rattle.std.specs.Prelude.{ℕ, ℤ, List, Some, Ok}
use Rattle.kernel_model.specs.Came.{Came, Done, Refused, Waits}
use Rattle.kernel_model.specs.Clock.{now}
use Rattle.kernel_model.specs.State.{Kernel}
use Rattle.kernel_model.specs.Transfers.{write_at}
use Rattle.kernel_model.specs.Whole.{kernel_write, on_files}
use Rattle.o32_model.specs.Step.{Guest, O32Step, gives}
use Rattle.o32_model.specs.Transfers.{after_write, small_file_limit}

-- `count` bytes are asked for, and `bytes` are those that can be loaded
abbrev pub write_of : Kernel → Guest → ℕ → ℕ → List ℕ → List ℕ → O32Step
write_of kernel guest fd count bytes left = after_write guest (kernel_write kernel (Some small_file_limit) fd (Ok count) bytes) left

-- how many bytes a write has done
abbrev pub count_done : Came ℕ → ℕ
count_done (Done count) = count
count_done (Refused error) = 0
count_done (Waits wake) = 0

-- the same at a place
abbrev pub place_write_of : Kernel → Guest → ℕ → ℤ → ℕ → List ℕ → List ℕ → O32Step
place_write_of kernel guest fd place count bytes left =
    gives guest (on_files kernel (write_at kernel.files (Some small_file_limit) (now kernel) fd place (Ok count) bytes)) left
