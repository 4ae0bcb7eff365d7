-- What a run of an emulator for a budget comes to, by what the machine's run is defined to be. (That a run may stop early, and what holds then, is
-- this project's own.)
use Rattle.std.specs.Prelude.{ℕ, ◌≡◌, ◌+◌, ◌<◌, ◌≤◌, ◌⊎◌, ◌==◌, if◌then◌else◌, Bool, true, false, List, Some, None, is_some, Result, Ok, Err}
use Rattle.outside.specs.Output.{GainsText, GainsBetween}
use Rattle.outside.specs.Streams.{Contents}
use Rattle.kernel_core.specs.declared.core_error.Stop.{Stop}
use Rattle.kernel_core.specs.declared.finish.Finish.{Finish}
use Rattle.kernel_core.specs.declared.finish.Finish.TheVariants.{Exited, Killed, Budget, Blocked}
use Rattle.o32_machine.specs.Emulator.{Emulated}
use Rattle.o32_turns.specs.Machine.{Machine}
use Rattle.o32_turns.specs.Runs.{IsOverAt, IsRunningAt, last_machine, reached}

-- an emulator that has taken no turn
pub record IsFresh (emulated : Emulated) : Type 0 where
  pub none : emulated.turns ≡ 0
  pub on : emulated.over ≡ false

-- whether no turn follows one that a run is over with: only behind the budget's turns one may
abbrev pub no_turn_follows : Finish → Bool
no_turn_follows (Exited status) = true
no_turn_follows (Killed signal) = true
no_turn_follows Budget = false
no_turn_follows Blocked = true

-- A native log is kept exactly where one was kept before, and so are records of a journal.
pub record KeepsTexts (before after : Emulated) : Type 0 where
  pub native : is_some after.native.entries ≡ is_some before.native.entries
  pub records : is_some after.records ≡ is_some before.records

-- after these turns the run goes on so, or waits: what was taken and written since the start, and the machine
pub record IsSoFar (quantum : ℕ) (machine : Machine) (left : List ℕ) (turns : ℕ) (before after : Contents) (now : Machine) : Type 0 where
  pub same : (reached quantum machine left turns).machine ≡ now
  pub alive : (reached quantum machine left turns).over ≡ None
  pub first : (j : ℕ) → j < turns → IsRunningAt quantum machine left j
  pub rest : after.left ≡ Some (reached quantum machine left turns).left
  pub to_out : GainsText before.out after.out (reached quantum machine left turns).sent.out
  pub to_err : GainsText before.err after.err (reached quantum machine left turns).sent.err

abbrev pub GoesSo : ℕ → Machine → ℕ → Contents → Contents → Machine → Type 0
GoesSo quantum machine turns before after now = (left : List ℕ) → before.left ≡ Some left → IsSoFar quantum machine left turns before after now

-- the run is over so
pub record IsOver (quantum : ℕ) (machine : Machine) (left : List ℕ) (budget turns : ℕ) (finish : Finish) (before after : Contents) (final : Machine) : Type 0 where
  pub over : IsOverAt quantum machine left budget turns finish
  pub leaves : final ≡ last_machine quantum machine left turns finish
  pub rest : after.left ≡ Some (reached quantum machine left turns).left
  pub to_out : GainsText before.out after.out (reached quantum machine left turns).sent.out
  pub to_err : GainsText before.err after.err (reached quantum machine left turns).sent.err

-- what a run for a budget may have begun where it stops after these turns: one more, but where they are the budget's
abbrev pub turns_begun : ℕ → ℕ → ℕ
turns_begun budget turns = if turns == budget then turns else turns + 1

-- The run stopped after these turns, in the attempt at the next one or where the last lines of its trace could not be added; no turn after `last` was
-- begun.
pub record IsCut (quantum : ℕ) (machine : Machine) (left : List ℕ) (turns last : ℕ) (before after : Contents) : Type 0 where
  pub alive : (reached quantum machine left turns).over ≡ None
  pub first : (j : ℕ) → j < turns → IsRunningAt quantum machine left j
  pub rest : (after.left ≡ Some (reached quantum machine left turns).left) ⊎ (after.left ≡ Some (reached quantum machine left last).left)
  pub to_out : GainsBetween before.out after.out (reached quantum machine left turns).sent.out (reached quantum machine left last).sent.out
  pub to_err : GainsBetween before.err after.err (reached quantum machine left turns).sent.err (reached quantum machine left last).sent.err

abbrev pub RunsTo : ℕ → Machine → List ℕ → ℕ → ℕ → Result Finish Stop → Contents → Contents → Machine → Type 0
RunsTo quantum machine left budget turns (Ok finish) before after final = IsOver quantum machine left budget turns finish before after final
RunsTo quantum machine left budget turns (Err stop) before after final = IsCut quantum machine left turns (turns_begun budget turns) before after

abbrev pub RunsAs : ℕ → Machine → ℕ → ℕ → Result Finish Stop → Contents → Contents → Machine → Type 0
RunsAs quantum machine budget turns end before after final =
    (left : List ℕ) → before.left ≡ Some left → RunsTo quantum machine left budget turns end before after final

-- a run that stopped early has turns left
abbrev pub WithinBudget : Result Finish Stop → ℕ → ℕ → Type 0
WithinBudget (Ok finish) turns budget = turns ≤ budget
WithinBudget (Err stop) turns budget = turns < budget
