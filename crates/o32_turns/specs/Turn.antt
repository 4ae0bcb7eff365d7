-- One turn of the machine of an o32 program: its six steps (signal(7) for the posting and delivery of signals; setitimer(2) for a timer that is
-- due; nanosleep(2), poll(2) for a deadline). What a turn is, the order of its steps, how long it takes, and that the clock jumps where no
-- instruction can be executed, is this project's own.
use Rattle.std.specs.Prelude.{ℕ, ◌+◌, ◌-◌, min, max, Bool, false, ◌&&◌, ◌||◌, not, List, [], ◌∷◌, ◌++◌, Option, Some, None, is_some, if◌then◌else◌}
use Rattle.std.specs.List.{list_any}
use Rattle.kernel_core.specs.declared.event.Event.{Event}
use Rattle.kernel_core.specs.declared.finish.Finish.TheVariants.{Blocked}
use Rattle.kernel_core.specs.declared.signal.Sig.{Sig}
use Rattle.kernel_model.specs.Clock.{if_comes, is_due, next_time}
use Rattle.kernel_model.specs.Pipes.{nothing}
use Rattle.kernel_model.specs.SignalRows.{pends}
use Rattle.o32_turns.specs.Closing.{wait_over, whole_end}
use Rattle.o32_turns.specs.Delivering.{deliver}
use Rattle.o32_turns.specs.Instruction.{executed}
use Rattle.o32_turns.specs.Machine.{Change, Machine, Rules, Turn, Within, begin, no_change, turn, with_change, with_machine}
use Rattle.o32_turns.specs.Posting.{awaited, posted}
use Rattle.o32_model.specs.Table.{machine_call}
use Rattle.o32_model.specs.declared.wait.Cause.{Cause}
use Rattle.o32_model.specs.declared.wait.Cause.TheVariants.{Due, Accepted, Stopped}
use Rattle.o32_model.specs.declared.wait.Wait.{Wait}
use Rattle.schedule.specs.declared.events.Due.{Due as Coming}

-- Waits

abbrev pub ended_by : Rules → Cause → Wait → Machine → Change
ended_by rules cause wait machine = wait_over wait (rules.ended false wait cause machine.kernel machine.memory) machine

-- whether a deadline is over; one that is not there, or past 2^61, never is
abbrev pub is_over_at : ℕ → Option ℕ → Bool
is_over_at clock None = false
is_over_at clock (Some deadline) = is_due clock deadline

-- whether a signal that the call waits for pends
abbrev pub accepts : Rules → Machine → Bool
accepts rules machine = list_any (λ (signal : Sig). pends machine.kernel.signals signal) (rules.awaited machine)

abbrev pub ended_if_over : Rules → Machine → Option Wait → Change
ended_if_over rules machine None = no_change machine
ended_if_over rules machine (Some wait) =
    if accepts rules machine then ended_by rules Accepted wait machine
    else (if is_over_at machine.kernel.clock wait.deadline then ended_by rules Due wait machine
    else no_change machine)

abbrev pub continued : Rules → Machine → Option Wait → Change
continued rules machine None = no_change machine
continued rules machine (Some wait) = ended_by rules Stopped wait machine

-- Time

-- the lesser of two times that may not be there
abbrev pub sooner : Option ℕ → Option ℕ → Option ℕ
sooner None other = other
sooner (Some time) None = Some time
sooner (Some time) (Some other) = Some (min time other)

abbrev pub next_event : List Coming → Option ℕ
next_event [] = None
next_event (due ∷ more) = Some due.time

abbrev pub deadline_of : Option Wait → Option ℕ
deadline_of None = None
deadline_of (Some wait) = if_comes wait.deadline

-- The time of the next thing that can come while no instruction is executed: an event, the timer, or the deadline of a call, which a stopped
-- process does not look at; none past 2^61
abbrev pub next_for : Machine → Option ℕ
next_for machine =
    sooner (next_event machine.coming)
    (sooner (next_time machine.kernel.timer) (if machine.stopped then None else deadline_of machine.wait))

abbrev pub jumped_to : ℕ → Machine → Machine
jumped_to time machine =
    record machine { kernel = record machine.kernel { clock = time }; idle = machine.idle + (time - machine.kernel.clock) }

-- the clock goes there, and never back; where nothing can come, the process is blocked
abbrev pub jumped : Option ℕ → Within → Within
jumped None within = record within { over = Some Blocked }
jumped (Some time) within = with_machine within (jumped_to (max within.machine.kernel.clock time) within.machine)

-- The steps of a turn

-- what is due is posted
abbrev pub first_step : Rules → Machine → Within
first_step rules machine = posted rules (begin machine)

-- a wait ends whose deadline is over, or for which a signal pends
abbrev pub second_step : Rules → Within → Within
second_step rules within =
    let machine = within.machine in
    if machine.stopped || machine.interrupted then within else with_change within (ended_if_over rules machine machine.wait)

-- signals are delivered
abbrev pub third_step : Rules → Within → Within
third_step rules within = if within.machine.stopped then within else rules.deliver within

-- a wait that a stop interrupted goes on or ends
abbrev pub fourth_step : Rules → Within → Within
fourth_step rules within =
    let machine = within.machine in
    if machine.interrupted && not machine.stopped then with_change within (continued rules machine machine.wait) else within

-- where the process is stopped, or a call waits, the clock jumps
abbrev pub fifth_step : Within → List ℕ → Turn
fifth_step within left = turn (jumped (next_for within.machine) within) left nothing

abbrev pub after_events : List Event → Turn → Turn
after_events events later = record later { events = events ++ later.events }

-- else one instruction is executed, with its call
abbrev pub sixth_step : Rules → ℕ → Within → List ℕ → Turn
sixth_step rules quantum within left = after_events within.events (executed rules quantum within.machine left)

abbrev pub fifth_or_sixth : Rules → ℕ → Within → List ℕ → Turn
fifth_or_sixth rules quantum within left =
    if within.machine.stopped || is_some within.machine.wait then fifth_step within left else sixth_step rules quantum within left

-- a process that was killed takes no further step
abbrev pub unless_killed : Rules → ℕ → Within → List ℕ → Turn
unless_killed rules quantum within left =
    if is_some within.over then turn within left nothing else fifth_or_sixth rules quantum (fourth_step rules within) left

abbrev pub turn_by : Rules → ℕ → Machine → List ℕ → Turn
turn_by rules quantum machine left =
    unless_killed rules quantum (third_step rules (second_step rules (first_step rules machine))) left

-- What a turn of an o32 program is made of: all calls, all ends of waits, and the delivery of signals
abbrev pub whole : Rules
whole = record { call = machine_call; awaited = awaited; ended = whole_end; deliver = deliver whole_end }

-- One turn. `quantum` is what one with an instruction takes, in nanoseconds of the clock.
unfoldable pub turn_of : ℕ → Machine → List ℕ → Turn
turn_of quantum machine left = turn_by whole quantum machine left
