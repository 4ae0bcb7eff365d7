-- The status of each end, and which of them are ends of a run. This project's own, after the statuses of a shell and of timeout(1).
use Rattle.std.specs.Prelude.{ℕ, ◌+◌, ⊤, min, Option, Some, None}
use Rattle.kernel_core.specs.declared.finish.Finish.{Finish}
use Rattle.kernel_core.specs.declared.finish.Finish.TheVariants as finishes
use Rattle.session_files.specs.declared.end.End.{End}
use Rattle.session_files.specs.declared.end.End.TheVariants as ends

-- of a run that is over so, and of its replay
abbrev pub status_of_finish : Finish → ℕ
status_of_finish (finishes.Exited status) = status
status_of_finish (finishes.Killed signal) = min (128 + signal) 255
status_of_finish finishes.Budget = 124
status_of_finish finishes.Blocked = 123

abbrev pub status_of : End → ℕ
status_of (ends.Exited status) = status
status_of (ends.Killed signal) = min (128 + signal) 255
status_of ends.Budget = 124
status_of ends.Blocked = 123
status_of (ends.Soaked finish) = status_of_finish finish
status_of (ends.Replayed finish) = status_of_finish finish
status_of (ends.Diverged turn wanted found) = 120
status_of (ends.Refused refusal) = 125
status_of ends.ReadFault = 122
status_of ends.WriteFault = 119
status_of ends.NoMemory = 121

-- nothing was run: the words or a file were refused
abbrev pub IsRefusal : End → Type 0
IsRefusal (ends.Refused refusal) = ⊤
IsRefusal (ends.Exited status) = ⊥
IsRefusal (ends.Killed signal) = ⊥
IsRefusal ends.Budget = ⊥
IsRefusal ends.Blocked = ⊥
IsRefusal (ends.Soaked finish) = ⊥
IsRefusal (ends.Replayed finish) = ⊥
IsRefusal (ends.Diverged turn wanted found) = ⊥
IsRefusal ends.ReadFault = ⊥
IsRefusal ends.WriteFault = ⊥
IsRefusal ends.NoMemory = ⊥

-- how a run ended by itself, where one did
abbrev pub finish_of : End → Option Finish
finish_of (ends.Exited status) = Some (finishes.Exited status)
finish_of (ends.Killed signal) = Some (finishes.Killed signal)
finish_of ends.Budget = Some finishes.Budget
finish_of ends.Blocked = Some finishes.Blocked
finish_of (ends.Soaked finish) = Some finish
finish_of (ends.Replayed finish) = None
finish_of (ends.Diverged turn wanted found) = None
finish_of (ends.Refused refusal) = None
finish_of ends.ReadFault = None
finish_of ends.WriteFault = None
finish_of ends.NoMemory = None
