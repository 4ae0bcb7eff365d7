-- A call that is refused before it does anything, as for a path that can't be read. (The form is this project's own.)
use Rattle.std.specs.Prelude.{◌≡◌, ℕ, List}
use Rattle.kernel_core.specs.declared.error.Errno.{Errno}
use Rattle.kernel_model.specs.Came.{refused}
use Rattle.kernel_model.specs.State.{Kernel}
use Rattle.o32_model.specs.Step.{Guest, O32Step, gives}

-- what was wrong is the outcome, and nothing was done
abbrev pub Refuses : Guest → Kernel → Errno → List ℕ → O32Step → Type 0
Refuses guest kernel error left step = step ≡ gives guest (refused kernel error) left
