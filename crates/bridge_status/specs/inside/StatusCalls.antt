-- The calls on status in one of the two structures. (The form is this project's own.)
use Rattle.std.specs.Prelude.{ℕ, ◌+◌, Bool, List}
use Rattle.kernel_model.specs.Came.{Did}
use Rattle.kernel_model.specs.ContentRows.{Status, status}
use Rattle.kernel_model.specs.Paths.{Base}
use Rattle.kernel_model.specs.State.{Kernel}
use Rattle.kernel_model.specs.Whole.{on_files}
use Rattle.o32_model.specs.PathArguments.{empty_path_flag, has_only, no_automount_flag, nofollow_flag}
use Rattle.o32_model.specs.Status.{status_flags, status_from, stores_status, stores_status64}
use Rattle.o32_model.specs.Step.{Guest, O32Step}
use Rattle.bridge_status.specs.declared.structures.Form.{Form}
use Rattle.bridge_status.specs.declared.structures.Form.TheVariants.{Old, Wide}

abbrev pub stores_in : Form → Guest → ℕ → Did Kernel Status → List ℕ → O32Step
stores_in Old guest address did left = stores_status guest address did left
stores_in Wide guest address did left = stores_status64 guest address did left

abbrev pub open_status : Form → Kernel → Guest → ℕ → ℕ → List ℕ → O32Step
open_status form kernel guest fd buffer left = stores_in form guest buffer (on_files kernel (status kernel.files fd)) left

abbrev pub path_status : Form → Kernel → Guest → Base → ℕ → ℕ → ℕ → List ℕ → O32Step
path_status form kernel guest from address buffer flags left =
    stores_in form guest buffer (status_from kernel guest from address (status_flags flags)) left

abbrev pub is_listed : ℕ → Bool
is_listed flags = has_only flags (nofollow_flag + no_automount_flag + empty_path_flag)
