-- A call that is refused for its path does nothing.
use Rattle.std.proofs.Common.{ℕ, List, refl, sym, subst}
use Rattle.kernel_core.specs.declared.error.Errno.{Errno}
use Rattle.kernel_model.specs.State.{Kernel}
use Rattle.o32_model.specs.Step.{Guest, O32Step, failure}
use Rattle.bridge_log.proofs.Ends.{Still}
use Rattle.bridge_paths.specs.Refusals.{Refuses}

pub still_of : (guest : Guest) (kernel : Kernel) (error : Errno) (left : List ℕ) (step : O32Step) → Refuses guest kernel error left step → Still guest kernel left (failure error) step
still_of guest kernel error left step is =
    subst (λ (s : O32Step). Still guest kernel left (failure error) s) (sym is)
    (record { kernel_stays = refl; left_stays = refl; sends = refl; stored = refl; set = refl; came = refl })
