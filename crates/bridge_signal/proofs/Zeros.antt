-- Rows that give 0, in both worlds.
use Rattle.std.proofs.Common.{◌≡◌, ℕ, Bool, true, false, List, Ok, Err, sym, subst}
use Rattle.kernel_core.specs.declared.error.Errno.{Errno}
use Rattle.kernel_model.specs.Came.{Did, Given, refused_if, told_zero, with_given}
use Rattle.kernel_model.specs.State.{Kernel}
use Rattle.native_calls.specs.Step as native_step
use Rattle.o32_model.specs.Step as o32_step
use Rattle.o32_model.specs.Step.{Guest}
use Rattle.bridge_signal_state.proofs.Passed.{mirrors_gives}
use Rattle.bridge_signal_state.proofs.Passed.{Fits}
use Rattle.bridge_signal_state.specs.Passed.{Mirrors}
use Rattle.bridge_signal_state.specs.Passed.{by_reply}

pub zero_if : (wrong : Bool) (error : Errno) (kernel : Kernel) (rest : Did Kernel (Unit {0})) → Fits (told_zero rest).came → Fits (told_zero (refused_if wrong error kernel rest)).came
zero_if true error kernel rest fits = tt
zero_if false error kernel rest fits = fits

pub zero_given : {A : Type 0} (kernel : Kernel) (there : Given A) (rest : A → Did Kernel (Unit {0})) → ((a : A) → Fits (told_zero (rest a)).came) → Fits (told_zero (with_given kernel there rest)).came
zero_given kernel (Err error) rest each = tt
zero_given kernel (Ok a) rest each = each a

-- a row of the same numbers
pub same_gives : (guest : Guest) (memory left : List ℕ) (native_did did : Did Kernel ℕ) → native_did ≡ did → Fits did.came → Mirrors guest (by_reply guest.words) (native_step.gives memory native_did left) (o32_step.gives guest did left)
same_gives guest memory left native_did did same fits =
    subst (λ (d : Did Kernel ℕ). Mirrors guest (by_reply guest.words) (native_step.gives memory d left) (o32_step.gives guest did left)) (sym same) (mirrors_gives guest memory did left fits)
