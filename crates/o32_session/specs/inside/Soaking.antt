-- How the steps of a soak stand for what is asked for.
use Rattle.std.specs.Prelude.{ℕ, ◌≡◌, List, [], unwrap_or, Option, Some, None}
use Rattle.outside.specs.Output.{GainsText, GainsBetween}
use Rattle.o32_runner.specs.Emulators.{Emulated}
use Rattle.o32_runner.specs.Runs.{no_turn_follows}
use Rattle.session_files.specs.Inputs.{empty_schedule, no_names}
use Rattle.o32_session.specs.Session.{KeepsNamed, final_tree}
use Rattle.o32_session.specs.Soaked.{IsSoak, line_on}
use Rattle.o32_session.specs.declared.soak.SoakRun.{SoakRun}
use Rattle.session_files.specs.declared.end.End.{End}
use Rattle.session_files.specs.declared.end.End.TheVariants as ends

-- this is a run of the program for so many numbers, with its line
pub record IsSoakOf (count : ℕ) (soaked : SoakRun) : Type 0 where
  pub over : IsSoak count soaked.turns soaked.finish soaked.emulator.machine
  pub turned : soaked.emulator.turns ≡ soaked.turns
  pub quantum : soaked.emulator.quantum ≡ empty_schedule.quantum
  pub keeps : KeepsNamed no_names soaked.emulator
  pub last : soaked.emulator.over ≡ no_turn_follows soaked.finish
  pub line : soaked.line ≡ line_on count soaked.turns soaked.finish (final_tree soaked.emulator.machine)

-- the line on a run was written, where there is one, and its emulator is handed out; or at most a part of the line was written where the device
-- or memory gave out
abbrev pub TellsSoak : SoakRun → End → Option Emulated → Option (List ℕ) → Option (List ℕ) → Type 0
TellsSoak soaked (ends.Soaked finish) host old new =
    (finish ≡ soaked.finish) × ((host ≡ Some soaked.emulator) × GainsText old new (unwrap_or soaked.line []))
TellsSoak soaked ends.WriteFault host old new = (host ≡ None) × GainsBetween old new [] (unwrap_or soaked.line [])
TellsSoak soaked ends.NoMemory host old new = (host ≡ None) × GainsBetween old new [] (unwrap_or soaked.line [])
TellsSoak soaked ends.ReadFault host old new = ⊥
TellsSoak soaked (ends.Refused refusal) host old new = ⊥
TellsSoak soaked (ends.Replayed finish) host old new = ⊥
TellsSoak soaked (ends.Diverged turn wanted found) host old new = ⊥
TellsSoak soaked (ends.Exited status) host old new = ⊥
TellsSoak soaked (ends.Killed signal) host old new = ⊥
TellsSoak soaked ends.Budget host old new = ⊥
TellsSoak soaked ends.Blocked host old new = ⊥
