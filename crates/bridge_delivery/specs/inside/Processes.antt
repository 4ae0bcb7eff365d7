-- The process that a delivery changes. (The forms are this project's own.)
use Rattle.std.specs.Prelude.{◌≡◌, ℕ, List}
use Rattle.bridge_delivery.specs.declared.process.Process.{Process}
use Rattle.kernel_model.specs.State.{Kernel}
use Rattle.o32_turns.specs.Going.{within_of}
use Rattle.o32_turns.specs.Machine.{Within}
use Rattle.schedule.specs.declared.events.Due.{Due}

-- what stands within a turn, by the process and the kernel
abbrev pub stands : Process → Kernel → List Due → ℕ → Within
stands process kernel = within_of process.going.now process.cpu.now process.space.now kernel

-- each of the three is the one that it was, whatever it holds
pub record StaysOn (old new : Process) : Type 0 where
  pub going : new.going.ghost_name ≡ old.going.ghost_name
  pub cpu : new.cpu.ghost_name ≡ old.cpu.ghost_name
  pub space : new.space.ghost_name ≡ old.space.ghost_name
