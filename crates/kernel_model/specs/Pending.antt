-- What can pend (signal(7), sigaction(2); Linux include/uapi/asm-generic/siginfo.h): what a program, a timer or the world outside sends. Of
-- these none has an address; a fault has one, and it is delivered where it comes up, without pending before.
use Rattle.std.specs.Int.{w32}
use Rattle.std.specs.Prelude.{◌≡◌, ◌^◌, ◌<◌, List, All, FitsSigned}
use Rattle.kernel_model.specs.Always.{IsMask}
use Rattle.kernel_model.specs.Shared.{Info}
use Rattle.kernel_model.specs.State.{Signals}

-- each number has 32 bits, the code and the error with their sign
pub record CanPend (info : Info) : Type 0 where
  pub code : FitsSigned w32 info.code
  pub errno : FitsSigned w32 info.errno
  pub pid : info.pid < 2 ^ 32
  pub uid : info.uid < 2 ^ 32
  pub value : info.value < 2 ^ 32
  pub addr : info.addr ≡ 0

-- all that pends, at the places of the signals, can
abbrev pub AllCanPend : List (List Info) → Type 0
AllCanPend pending = All (λ infos. All CanPend infos) pending

-- What pends can, and neither the mask nor that of an action has KILL or STOP.
pub record AreSound (signals : Signals) : Type 0 where
  pub pending : AllCanPend signals.pending
  pub mask : IsMask signals.mask
  pub masks : All (λ action. IsMask action.mask) signals.actions
