-- What holds of each part of a call that a device may stop: it stops only where a device failed in it, no count of faults falls, the kernel's
-- clock stands, and what it is lent leads where it led. (The form is this project's own.)
use Rattle.std.specs.Prelude.{◌≡◌, ℕ, Result}
use Rattle.kernel_core.specs.declared.core_error.Stop.{Stop}
use Rattle.kernel_model.specs.Stops.{StopsOnlyIfRose}
use Rattle.outside.specs.Streams.{NoCountFell}
use Rattle.outside.specs.declared.devices.Devices.{Devices}
use Rattle.bridge_log.specs.Leading.{LeadsOn}
use Rattle.bridge_log.specs.declared.below.Below.{Below}

-- `input`, `out` and `err` give the counts of faults of the three devices.
pub record Proceeds {I O E T : Type 0} (input : I → ℕ) (out : O → ℕ) (err : E → ℕ) (result : Result T Stop) (old new : Below) (before after : Devices I O E) : Type 0 where
  pub cause : StopsOnlyIfRose input out err result before after
  pub counts : NoCountFell input out err before after
  pub clock : new.kernel.now.clock ≡ old.kernel.now.clock
  pub same : LeadsOn old new
