-- The native log of a machine's turns. (The log is this project's own.)
use Rattle.std.specs.Prelude.{◌≡◌, ◌⊎◌, ℕ, Bool, List, [], Option, Some, None, option_map, if◌then◌else◌}
use Rattle.kernel_core.specs.declared.log_entry.LogEntry.{LogEntry}
use Rattle.kernel_model.specs.Clock.{gone_off}
use Rattle.kernel_model.specs.Pipes.{Sent}
use Rattle.kernel_model.specs.State.{Kernel}
use Rattle.native_calls.specs.History.{Moment, moment}

-- The entries of the last turn, none where no log is kept; and the time of the kernel's clock that an entry told last, 0 before the first
pub record NativeLog : Type 0 where
  pub entries : Option (List LogEntry)
  pub told : ℕ

-- the log before the first turn
abbrev pub first_log : Bool → NativeLog
first_log kept = record { entries = if kept then Some [] else None; told = 0 }

-- no entry, where a log is kept
abbrev pub emptied : Option (List LogEntry) → Option (List LogEntry)
emptied entries = option_map (λ _. []) entries

-- the kernel at a time of its clock
abbrev pub at_time : ℕ → Kernel → Kernel
at_time time kernel = record kernel { clock = time }

-- A moment as the log has it: the kernel's clock stands at the time that was told last.
abbrev pub as_told : NativeLog → Kernel → List ℕ → Sent → Moment
as_told log kernel left sent = moment (at_time log.told kernel) left sent

-- A time can be told before a call that is made at it: it is the one that was told last, or no timer is due by it.
abbrev pub IsReady : ℕ → NativeLog → Kernel → Type 0
IsReady clock log kernel = (log.told ≡ clock) ⊎ (gone_off clock kernel.timer ≡ None)
