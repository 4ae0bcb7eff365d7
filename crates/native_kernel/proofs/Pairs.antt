-- A pair of descriptors that is stored or closed again.
use Rattle.std.proofs.Common.{◌≡◌, ℕ, List, subst}
use Rattle.host_mem.specs.Memory.{is_inside}
use Rattle.kernel_core.specs.declared.reply.Reply.{Reply}
use Rattle.kernel_model.specs.Came.{Done, Did, done, told_as}
use Rattle.kernel_model.specs.DescriptorRows.{Ends}
use Rattle.kernel_model.specs.State.{Kernel, Files}
use Rattle.kernel_model.specs.Whole.{with_files, on_files}
use Rattle.native_calls.specs.Descriptors.{given_pair, pair_bytes, pair_size}
use Rattle.native_calls.specs.Step.{stores}
use Rattle.native_kernel.specs.inside.Quiet.{Quietly}

abbrev StoresPair : List ℕ → ℕ → List ℕ → Reply → Kernel → List ℕ → Did Kernel Ends → Type 0
StoresPair memory address left reply after new did =
    Quietly (stores memory address (told_as pair_bytes (given_pair (is_inside memory address pair_size) did)) left) reply after new left

pub pair_given : (kernel mid after : Kernel) (made : Did Files Ends) (pair : Ends) (memory new left : List ℕ) (address : ℕ) (reply : Reply)
    → StoresPair memory address left reply after new (done mid pair)
    → made.came ≡ Done pair → mid ≡ with_files kernel made.state
    → StoresPair memory address left reply after new (on_files kernel made)
pair_given kernel mid after made pair memory new left address reply stored came state =
    let same : done mid pair ≡ on_files kernel made = cc in
    subst (λ (did : Did Kernel Ends). StoresPair memory address left reply after new did) same stored
