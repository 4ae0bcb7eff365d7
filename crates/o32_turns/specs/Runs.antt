-- A whole run: what stands after k turns, and how the run for a budget is over. (Turns and budgets are this project's own.)
use Rattle.std.specs.Prelude.{ℕ, zero, suc, ◌≡◌, ◌<◌, ◌≤◌, Bool, true, false, List, ◌++◌, Option, Some, None}
use Rattle.kernel_core.specs.declared.finish.Finish.{Finish}
use Rattle.kernel_core.specs.declared.finish.Finish.TheVariants.{Exited, Killed, Budget, Blocked}
use Rattle.kernel_model.specs.Pipes.{Sent, nothing}
use Rattle.o32_turns.specs.Machine.{Machine, Turn}
use Rattle.o32_turns.specs.Turn.{turn_of}

-- The machine, what is left of the input, all that was sent since the start, and how the process has ended
pub record Reached : Type 0 where
  pub machine : Machine
  pub left : List ℕ
  pub sent : Sent
  pub over : Option Finish

abbrev pub more_sent : Sent → Sent → Sent
more_sent before more = record { out = before.out ++ more.out; err = before.err ++ more.err }

abbrev pub after_turn : Sent → Turn → Reached
after_turn before turn = record {
  machine = turn.machine;
  left = turn.left;
  sent = more_sent before turn.sent;
  over = turn.over;
}

-- An attempt at a turn that finds the process blocked is no turn.

abbrev pub is_block : Option Finish → Bool
is_block None = false
is_block (Some (Exited status)) = false
is_block (Some (Killed signal)) = false
is_block (Some Budget) = false
is_block (Some Blocked) = true

abbrev pub is_blocked : Turn → Bool
is_blocked turn = is_block turn.over

-- one more turn; a process that has ended has none, and neither has one that is found blocked

abbrev pub unless_blocked : Reached → Turn → Bool → Reached
unless_blocked reached turn true = reached
unless_blocked reached turn false = after_turn reached.sent turn

abbrev pub after_attempt : Reached → Turn → Reached
after_attempt reached turn = unless_blocked reached turn (is_blocked turn)

abbrev pub unless_over : ℕ → Reached → Option Finish → Reached
unless_over quantum reached (Some finish) = reached
unless_over quantum reached None = after_attempt reached (turn_of quantum reached.machine reached.left)

-- what stands after k turns of a machine with this input
unfoldable pub reached : ℕ → Machine → List ℕ → ℕ → Reached
reached quantum machine left zero = record { machine = machine; left = left; sent = nothing; over = None }
reached quantum machine left (suc k) =
    let before = reached quantum machine left k in
    unless_over quantum before before.over

-- the attempt at a turn after k turns
abbrev pub attempt : ℕ → Machine → List ℕ → ℕ → Turn
attempt quantum machine left k =
    let before = reached quantum machine left k in
    turn_of quantum before.machine before.left

-- the process runs after k turns: it has not ended, and a turn follows
pub record IsRunningAt (quantum : ℕ) (machine : Machine) (left : List ℕ) (k : ℕ) : Type 0 where
  pub alive : (reached quantum machine left k).over ≡ None
  pub awake : is_blocked (attempt quantum machine left k) ≡ false

-- the process has ended so after k turns, and ran after fewer
pub record EndsAt (quantum : ℕ) (machine : Machine) (left : List ℕ) (k : ℕ) (finish : Finish) : Type 0 where
  pub ended : (reached quantum machine left k).over ≡ Some finish
  pub first : (j : ℕ) → j < k → IsRunningAt quantum machine left j

-- the attempt at a turn after k turns finds the process blocked, which ran after fewer
pub record BlocksAt (quantum : ℕ) (machine : Machine) (left : List ℕ) (k : ℕ) : Type 0 where
  pub alive : (reached quantum machine left k).over ≡ None
  pub waits : is_blocked (attempt quantum machine left k) ≡ true
  pub first : (j : ℕ) → j < k → IsRunningAt quantum machine left j

-- The run for a budget is over so after k turns. Once the budget's turns are done no further one is tried.
abbrev pub IsOverAt : ℕ → Machine → List ℕ → ℕ → ℕ → Finish → Type 0
IsOverAt quantum machine left budget k (Exited status) = (k ≤ budget) × EndsAt quantum machine left k (Exited status)
IsOverAt quantum machine left budget k (Killed signal) = (k ≤ budget) × EndsAt quantum machine left k (Killed signal)
IsOverAt quantum machine left budget k Blocked = (k < budget) × BlocksAt quantum machine left k
IsOverAt quantum machine left budget k Budget =
    (k ≡ budget) × ((j : ℕ) → j < budget → IsRunningAt quantum machine left j) × ((reached quantum machine left budget).over ≡ None)

-- The machine in which a run is over so after k turns: at Blocked the one that the attempt leaves.

abbrev pub last_machine : ℕ → Machine → List ℕ → ℕ → Finish → Machine
last_machine quantum machine left k (Exited status) = (reached quantum machine left k).machine
last_machine quantum machine left k (Killed signal) = (reached quantum machine left k).machine
last_machine quantum machine left k Budget = (reached quantum machine left k).machine
last_machine quantum machine left k Blocked = (attempt quantum machine left k).machine
