-- What is said of a turn that is taken, by what the machine's turn is defined to be. (That a turn may stop early, and what holds then, is this
-- project's own.)
use Rattle.std.specs.Prelude.{◌≡◌, ℕ, ◌⊎◌, Bool, true, false, List, [], Option, Some, None, Result, Ok, Err}
use Rattle.kernel_core.specs.declared.core_error.Stop.{Stop}
use Rattle.kernel_core.specs.declared.event.Event.{Event}
use Rattle.kernel_core.specs.declared.finish.Finish.{Finish}
use Rattle.kernel_core.specs.declared.finish.Finish.TheVariants.{Exited, Killed, Budget, Blocked}
use Rattle.o32_machine.specs.declared.turn.Turn as code
use Rattle.o32_machine.specs.declared.turn.Turn.TheVariants.{Went, Ended}
use Rattle.o32_turns.specs.Machine.{Machine, Turn}
use Rattle.outside.specs.Output.{GainsText, GainsBetween}
use Rattle.outside.specs.Streams.{Contents}

-- Answers

-- how a turn ended the process, if it did
abbrev pub over_of : code.Turn → Option Finish
over_of Went = None
over_of (Ended finish) = Some finish

-- how many turns it counts for: an attempt that finds the process blocked counts for none
abbrev pub turns_of : code.Turn → ℕ
turns_of Went = 1
turns_of (Ended (Exited status)) = 1
turns_of (Ended (Killed signal)) = 1
turns_of (Ended Budget) = 1
turns_of (Ended Blocked) = 0

-- one that stopped early is not counted
abbrev pub turns_done : Result code.Turn Stop → ℕ
turns_done (Ok turn) = turns_of turn
turns_done (Err stop) = 0

abbrev pub is_end : code.Turn → Bool
is_end Went = false
is_end (Ended finish) = true

-- whether no further turn follows
abbrev pub is_last : Result code.Turn Stop → Bool
is_last (Ok turn) = is_end turn
is_last (Err stop) = true

-- The turn was carried out, and these are its events.
pub record Turned (defined : Turn) (turn : code.Turn) (machine : Machine) (events : List Event) (before after : Contents) : Type 0 where
  pub came : over_of turn ≡ defined.over
  pub became : machine ≡ defined.machine
  pub happened : events ≡ defined.events
  pub rest : after.left ≡ Some defined.left
  pub to_out : GainsText before.out after.out defined.sent.out
  pub to_err : GainsText before.err after.err defined.sent.err

-- The turn stopped early, for want of memory or by a device. What it would have taken of the input is taken or not, and of what it would have
-- sent a first part is sent. Nothing is said of the machine and of events, which are not used again.
pub record Stopped (defined : Turn) (before after : Contents) : Type 0 where
  pub rest : (after.left ≡ before.left) ⊎ (after.left ≡ Some defined.left)
  pub to_out : GainsBetween before.out after.out [] defined.sent.out
  pub to_err : GainsBetween before.err after.err [] defined.sent.err

abbrev pub Answers : Turn → Result code.Turn Stop → Machine → List Event → Contents → Contents → Type 0
Answers defined (Ok turn) machine events before after = Turned defined turn machine events before after
Answers defined (Err stop) machine events before after = Stopped defined before after

-- What is said of a turn, where the input tells what is left of it: `defined` is the turn then. When a device may stop it is `StopsOnlyIfRose`
-- of `kernel_model`.
abbrev pub IsTurn : (List ℕ → Turn) → Result code.Turn Stop → Machine → List Event → Contents → Contents → Type 0
IsTurn defined result machine events before after =
    (left : List ℕ) → before.left ≡ Some left → Answers (defined left) result machine events before after
