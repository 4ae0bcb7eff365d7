-- The steps of a turn, by what stands between them: those before an instruction, and the last ones. (The form is this project's own.)
use Rattle.std.specs.Prelude.{◌≡◌, ℕ, Bool, false, ◌&&◌, ◌||◌, not, List, [], Option, Some, None, is_none, is_some, Result, Ok, Err, IfOk, OnOk, if◌then◌else◌}
use Rattle.std.specs.List.{list_any}
use Rattle.kernel_core.specs.declared.core_error.Stop.{Stop}
use Rattle.kernel_core.specs.declared.signal.Sig.{Sig}
use Rattle.kernel_model.specs.Pipes.{nothing}
use Rattle.kernel_model.specs.SignalRows.{pends}
use Rattle.o32_machine.specs.Answered.{Stopped, Turned}
use Rattle.o32_machine.specs.Emulator.{ProcessState, machine_at, machine_of, within_now}
use Rattle.o32_machine.specs.declared.process.Last.{Last}
use Rattle.o32_model.specs.SignalWaitEnds.{named_signals}
use Rattle.o32_model.specs.declared.wait.Wait.{Wait}
use Rattle.o32_turns.specs.Going.{Standing}
use Rattle.o32_turns.specs.Machine.{Machine, Turn, Within, turn}
use Rattle.o32_turns.specs.Turn.{fifth_or_sixth, first_step, fourth_step, is_over_at, jumped, next_for, second_step, third_step, whole}
use Rattle.outside.specs.Streams.{Contents}

-- a turn begins, in which nothing has happened
abbrev pub begun : Standing → Standing
begun standing = record standing { saved = None; over = None; events = [] }

-- whether the second step ends the wait

abbrev pub deadline_in : Option Wait → Option ℕ
deadline_in None = None
deadline_in (Some wait) = wait.deadline

abbrev pub wakes : ℕ → Machine → Bool
wakes clock machine = not (machine.stopped || machine.interrupted) && is_over_at clock (deadline_in machine.wait)

-- and whether it does so for a signal that the call waits for by name

abbrev pub accepts_by : Machine → Option Wait → Bool
accepts_by machine None = false
accepts_by machine (Some wait) = list_any (λ (signal : Sig). pends machine.kernel.signals signal) (named_signals machine.memory wait)

abbrev pub wakes_for : Machine → Bool
wakes_for machine = not (machine.stopped || machine.interrupted) && accepts_by machine machine.wait

-- the fourth step, which a process that was killed doesn't take
abbrev pub goes_on : Within → Within
goes_on within = if is_some within.over then within else fourth_step whole within

-- whether it ends a wait
abbrev pub resumes : Standing → Bool
resumes standing = is_none standing.over && standing.interrupted && not standing.stopped

-- behind the first four steps, at the machine's time
abbrev pub settled : Machine → Within
settled machine = goes_on (third_step whole (second_step whole (first_step whole machine)))

-- the end of the process, or the fifth or the sixth step
abbrev pub last_steps : ℕ → Within → List ℕ → Turn
last_steps quantum within left = if is_some within.over then turn within left nothing else fifth_or_sixth whole quantum within left

-- the clock jumps, by what stands before
abbrev pub jumped_within : Within → Within
jumped_within within = jumped (next_for within.machine) within

-- A part of a turn was carried out, where the input tells what is left of it: devices are as they were, and what stood within the turn has become
-- what is defined, unless it stopped early.
abbrev pub Takes : {A : Type 0} → (Within → Within) → Result A Stop → ProcessState → ProcessState → Contents → Contents → Type 0
Takes part result old new before after =
    (left : List ℕ) → before.left ≡ Some left → (after ≡ before) × OnOk result (within_now new ≡ part (within_now old))

-- Something was found, where the input tells what is left of it: devices are as they were, and so is what stands within the turn, unless it stopped
-- early.
abbrev pub Finds : {A : Type 0} → (A → Type 0) → Result A Stop → ProcessState → ProcessState → Contents → Contents → Type 0
Finds IsThere result old new before after =
    (left : List ℕ) → before.left ≡ Some left → (after ≡ before) × OnOk result (within_now new ≡ within_now old) × IfOk result IsThere

-- so the first four steps, from the machine at this time
abbrev pub Settles : {A : Type 0} → ℕ → Result A Stop → ProcessState → ProcessState → Contents → Contents → Type 0
Settles clock result old new before after =
    (left : List ℕ) → before.left ≡ Some left
    → (after ≡ before) × OnOk result (within_now new ≡ settled (machine_at clock (machine_of old)))

-- and the last ones
abbrev pub LastAnswers : Turn → Result Last Stop → ProcessState → Contents → Contents → Type 0
LastAnswers defined (Ok last) process before after =
    Turned defined last.turn (machine_at last.clock (machine_of process)) process.going.events before after
LastAnswers defined (Err stop) process before after = Stopped defined before after

abbrev pub IsLast : (List ℕ → Turn) → Result Last Stop → ProcessState → Contents → Contents → Type 0
IsLast defined result process before after = (left : List ℕ) → before.left ≡ Some left → LastAnswers (defined left) result process before after
