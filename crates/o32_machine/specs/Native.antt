-- What a turn keeps in the native log. (That it is kept, and its form, is this project's own.)
use Rattle.std.specs.Prelude.{◌≡◌, ◌+◌, ◌≤◌, ℕ, List, Some, Result, OnOk}
use Rattle.bridge_log.specs.Keeping.{Logged}
use Rattle.kernel_core.specs.declared.core_error.Stop.{Stop}
use Rattle.kernel_model.specs.Pipes.{nothing}
use Rattle.kernel_model.specs.State.{Kernel}
use Rattle.native_log.specs.NativeLog.{NativeLog, as_told, emptied}
use Rattle.o32_machine.specs.Answered.{turns_done}
use Rattle.o32_machine.specs.declared.turn.Turn as code
use Rattle.o32_turns.specs.Machine.{Machine, Turn}
use Rattle.o32_turns.specs.Runs.{attempt}
use Rattle.outside.specs.Streams.{Contents}

-- The entries of a turn that is defined so lead from the kernel before it to the one after it, in each the clock at the time that was told last, which is
-- not ahead of the kernel's: they are a history of native calls, of posts and of the clock. What the calls take of the input is what the turn takes, and
-- what they send is, byte for byte, what it sends. Where no log is kept, there are such entries all the same.
pub record TurnLogged (kernel became : Kernel) (left : List ℕ) (defined : Turn) (old new : NativeLog) : Type 0 where
  pub leads : Logged (emptied old.entries) new.entries (as_told old kernel left nothing) (as_told new became defined.left defined.sent)
  pub behind : new.told ≤ became.clock

-- where the input tells what is left of it: `defined` is the turn then; of a turn that stopped early nothing is said
abbrev pub LogsTurn : (List ℕ → Turn) → Result code.Turn Stop → Kernel → Kernel → NativeLog → NativeLog → Contents → Type 0
LogsTurn defined result kernel became old new before =
    (left : List ℕ) → before.left ≡ Some left → OnOk result (TurnLogged kernel became left (defined left) old new)

-- Of turns that were taken at once the log has the last one: the attempt behind some quiet ones, which have no entries. They lead from the kernel before
-- all of these turns. `turns` is how many there were before, and `then` how many there are.
pub record TurnsLogged (quantum : ℕ) (machine : Machine) (turns : ℕ) (left : List ℕ) (result : Result code.Turn Stop) (then : ℕ) (became : Kernel) (old new : NativeLog) : Type 0 where
  pub quiet : ℕ
  pub counted : then ≡ turns + quiet + turns_done result
  pub last : TurnLogged machine.kernel became left (attempt quantum machine left quiet) old new

-- so that of one turn or more
abbrev pub LogsTurns : Result code.Turn Stop → ℕ → Machine → ℕ → ℕ → Kernel → NativeLog → NativeLog → Contents → Type 0
LogsTurns result quantum machine turns then became old new before =
    (left : List ℕ) → before.left ≡ Some left → OnOk result (TurnsLogged quantum machine turns left result then became old new)
