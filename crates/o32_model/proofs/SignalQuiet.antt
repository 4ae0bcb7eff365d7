-- A call that fails moves nothing: the calls on signals.
use Rattle.std.proofs.Common.{ℕ, List, refl}
use Rattle.std.specs.Prelude.{Option, Some, None, Ok, Err}
use Rattle.kernel_model.specs.Came.{Given, told_zero}
use Rattle.kernel_model.specs.SignalRows.{suspend}
use Rattle.kernel_model.specs.SignalSets.{SignalSet}
use Rattle.kernel_model.specs.State.{Kernel}
use Rattle.o32_model.proofs.Quiet.{Quiet, CallsQuiet, QuietIfAny, gives_quiet, stores_quiet, unless_null_quiet, in_quiet}
use Rattle.o32_model.proofs.ResultQuiet.{result_unless_null_quiet}
use Rattle.o32_model.specs.Actions.{action_calls, rt_sigaction_row, rt_sigprocmask_row, rt_sigpending_row, sigaltstack_row}
use Rattle.o32_model.specs.Masks.{masked, set_at, waiting_with}
use Rattle.o32_model.specs.Returns.{return_calls, after_frame, after_rt_frame, sigreturn_row, rt_sigreturn_row}
use Rattle.o32_model.specs.Sending.{sending_calls, kill_row, tkill_row, tgkill_row, rt_sigqueueinfo_row}
use Rattle.o32_model.specs.Step.{Guest, O32Step, O32Row, gives}
use Rattle.o32_model.specs.Suspending.{suspending_calls, info_bytes, accepted_number, pause_row, rt_sigsuspend_row, rt_sigtimedwait_row}
use Rattle.o32_model.specs.Table.{signal_call_or}
use Rattle.o32_model.specs.declared.outcome.Outcome.{Outcome}
use Rattle.o32_model.specs.declared.outcome.Outcome.TheVariants.{Value, Pair, Error, Sleep, Frame, BadFrame, Exit}
use Rattle.o32_model.specs.declared.wait.Wait.{Wait}

-- Calls that wait with a mask: one that waits has not failed

waiting_quiet : (guest : Guest) (left : List ℕ) (before : Kernel) (step : O32Step) (wait : Wait) (mask : Option (Given SignalSet)) → Quiet guest left step
    → Quiet guest left (waiting_with before step wait mask)
waiting_quiet guest left before step wait None quiet = quiet
waiting_quiet guest left before step wait (Some (Err error)) quiet = quiet
waiting_quiet guest left before step wait (Some (Ok mask)) quiet = λ failed. absurd failed

masked_quiet : (guest : Guest) (left : List ℕ) (before : Kernel) (mask : Option (Given SignalSet)) (step : O32Step) (outcome : Outcome)
    → Quiet guest left step → Quiet guest left (masked before mask step outcome)
masked_quiet guest left before mask step (Value value) quiet = quiet
masked_quiet guest left before mask step (Pair first second) quiet = quiet
masked_quiet guest left before mask step (Error error) quiet = quiet
masked_quiet guest left before mask step (Sleep wait) quiet = waiting_quiet guest left before step wait mask quiet
masked_quiet guest left before mask step Frame quiet = quiet
masked_quiet guest left before mask step BadFrame quiet = quiet
masked_quiet guest left before mask step (Exit status) quiet = quiet

suspend_quiet : (kernel : Kernel) (guest : Guest) (address size : ℕ) (left : List ℕ) → Quiet guest left (rt_sigsuspend_row kernel guest address size left)
unfolding rt_sigsuspend_row
suspend_quiet kernel guest address size left =
    let set = set_at guest.memory address in
    let step = gives guest (told_zero (suspend kernel size set)) left in
    masked_quiet guest left kernel (Some set) step step.outcome (gives_quiet guest (told_zero (suspend kernel size set)) left)

-- Returns

frame_quiet : (kernel : Kernel) (guest : Guest) (bytes : Given (List ℕ)) (left : List ℕ) → Quiet guest left (after_frame kernel guest bytes left)
frame_quiet kernel guest (Err error) left = λ failed. record { stored = refl; set = refl; rest = refl; sent = refl }
frame_quiet kernel guest (Ok bytes) left = λ failed. absurd failed

rt_frame_quiet : (kernel : Kernel) (guest : Guest) (bytes : Given (List ℕ)) (left : List ℕ) → Quiet guest left (after_rt_frame kernel guest bytes left)
rt_frame_quiet kernel guest (Err error) left = λ failed. record { stored = refl; set = refl; rest = refl; sent = refl }
rt_frame_quiet kernel guest (Ok bytes) left = λ failed. absurd failed

-- By groups

sending_quiet : CallsQuiet sending_calls
unfolding kill_row tkill_row tgkill_row rt_sigqueueinfo_row
sending_quiet = (record { quiet = λ kernel guest left. gives_quiet guest _ left }, (record { quiet = λ kernel guest left. gives_quiet guest _ left }, (record { quiet = λ kernel guest left. gives_quiet guest _ left }, (record { quiet = λ kernel guest left. gives_quiet guest _ left }, tt))))

actions_quiet : CallsQuiet action_calls
unfolding rt_sigaction_row rt_sigprocmask_row rt_sigpending_row sigaltstack_row
actions_quiet = (record { quiet = λ kernel guest left. unless_null_quiet guest _ _ left }, (record { quiet = λ kernel guest left. unless_null_quiet guest _ _ left }, (record { quiet = λ kernel guest left. stores_quiet guest _ _ left }, (record { quiet = λ kernel guest left. unless_null_quiet guest _ _ left }, tt))))

suspending_quiet : CallsQuiet suspending_calls
unfolding pause_row rt_sigtimedwait_row
suspending_quiet = (record { quiet = λ kernel guest left. gives_quiet guest _ left }, (record { quiet = λ kernel guest left. result_unless_null_quiet info_bytes accepted_number guest _ _ left }, (record { quiet = λ kernel guest left. suspend_quiet kernel guest _ _ left }, tt)))

returns_quiet : CallsQuiet return_calls
unfolding sigreturn_row rt_sigreturn_row
returns_quiet = (record { quiet = λ kernel guest left. frame_quiet kernel guest _ left }, (record { quiet = λ kernel guest left. rt_frame_quiet kernel guest _ left }, tt))

pub signals_quiet : (number : ℕ) (otherwise : Option O32Row) → QuietIfAny otherwise → QuietIfAny (signal_call_or otherwise number)
signals_quiet number otherwise others =
    in_quiet sending_calls _ number sending_quiet
    (in_quiet action_calls _ number actions_quiet
    (in_quiet suspending_calls _ number suspending_quiet
    (in_quiet return_calls otherwise number returns_quiet others)))
