-- The trace of a run: the lines of its events, turn by turn. This project's own.
use Rattle.std.specs.Prelude.{ℕ, zero, suc, ◌+◌, Bool, true, false, List, [], ◌++◌, ◌==◌, if◌then◌else◌}
use Rattle.std.specs.List.{flat_map}
use Rattle.kernel_core.specs.declared.event.Event.{Event}
use Rattle.kernel_core.specs.declared.event.Event.TheVariants as events
use Rattle.kernel_core.specs.declared.finish.Finish.{Finish}
use Rattle.kernel_core.specs.declared.finish.Finish.TheVariants.{Exited, Killed, Budget, Blocked}
use Rattle.o32_turns.specs.Machine.{Machine}
use Rattle.o32_turns.specs.Runs.{attempt, is_blocked}
use Rattle.trace_text.specs.Trace.{trace_line}

-- the lines of the events of a turn
abbrev pub turn_lines : ℕ → List Event → List ℕ
turn_lines turn happened = flat_map (λ event. trace_line turn event) happened

-- the lines of the attempt at the turn after k turns
abbrev pub attempt_lines : ℕ → Machine → List ℕ → ℕ → List ℕ
attempt_lines quantum machine left k = turn_lines (k + 1) (attempt quantum machine left k).events

-- the trace of the first k turns of a run
unfoldable pub traced : ℕ → Machine → List ℕ → ℕ → List ℕ
traced quantum machine left zero = []
traced quantum machine left (suc k) = traced quantum machine left k ++ attempt_lines quantum machine left k

-- What stands behind the lines of the turns where a run is over so after k of them: the line of the budget; or the lines of the attempt that found the
-- process blocked, and the line that it is
abbrev pub last_lines : ℕ → Machine → List ℕ → ℕ → Finish → List ℕ
last_lines quantum machine left k (Exited status) = []
last_lines quantum machine left k (Killed signal) = []
last_lines quantum machine left k Budget = trace_line k events.Budget
last_lines quantum machine left k Blocked = attempt_lines quantum machine left k ++ trace_line k events.Blocked

-- the trace of a run that is over so after k turns
abbrev pub whole_trace : ℕ → Machine → List ℕ → ℕ → Finish → List ℕ
whole_trace quantum machine left k finish = traced quantum machine left k ++ last_lines quantum machine left k finish

-- What is written next where a run for a budget goes on after k turns: the lines of the next turn, or those of the attempt that finds the process
-- blocked; and once the budget's turns are done the line of the budget

abbrev pub blocked_line : ℕ → Bool → List ℕ
blocked_line k true = trace_line k events.Blocked
blocked_line k false = []

abbrev pub next_lines : ℕ → Machine → List ℕ → ℕ → ℕ → List ℕ
next_lines quantum machine left budget k =
    if k == budget then trace_line k events.Budget
    else attempt_lines quantum machine left k ++ blocked_line k (is_blocked (attempt quantum machine left k))
