-- What is in a set without KILL and STOP.
use Rattle.std.proofs.Common.{◌≡◌, ◌&&◌, zero, suc, All, refl, arith}
use Rattle.std.specs.Prelude.{◌<◌, ◌^◌, not}
use Rattle.kernel_core.specs.declared.signal.Sig.{Sig}
use Rattle.kernel_model.specs.Always.{IsSet}
use Rattle.kernel_model.specs.SignalRows.{is_unblockable}
use Rattle.kernel_model.specs.SignalSets.{SignalSet, blockable, has, unblockable}
use Rattle.signal_choice.proofs.Left.{has_left}

small : All (λ word. word < 2 ^ 32) unblockable
small zero d h = omega arith
small (suc zero) d h = omega arith
small (suc (suc zero)) d h = omega arith
small (suc (suc (suc zero))) d h = omega arith
small (suc (suc (suc (suc k)))) d h = absurd (omega (arith, h))

pub named : (set : SignalSet) (signal : Sig) → IsSet set → has (blockable set) signal ≡ (has set signal && not (is_unblockable signal))
named set signal is = has_left set unblockable signal is (refl, small)
