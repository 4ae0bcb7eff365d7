-- What is due is posted at the beginning of a turn: the events of the schedule (their form is this project's own), and what the interval timer
-- posts (setitimer(2)). A signal that a call waits for is kept though it be ignored (sigtimedwait(2)), and a stopped process goes on by SIGCONT
-- or SIGKILL (signal(7)).
use Rattle.std.specs.Prelude.{◌==◌, nat_le, Bool, true, false, ◌&&◌, ◌||◌, List, [], ◌∷◌, ◌++◌, Option, Some, None, if◌then◌else◌}
use Rattle.std.specs.List.{list_any}
use Rattle.kernel_core.specs.declared.event.Event.{Event}
use Rattle.kernel_core.specs.declared.event.Event.TheVariants as events
use Rattle.kernel_core.specs.declared.signal.Sig.{Sig}
use Rattle.kernel_core.specs.declared.signal.Sig.TheVariants as sigs
use Rattle.kernel_model.specs.Clock.{gone_off}
use Rattle.kernel_model.specs.Shared.{Info}
use Rattle.kernel_model.specs.SignalRows.{Posted, advance, is_continue, post, scheduled_info, with_signals}
use Rattle.kernel_model.specs.SignalSets.{place}
use Rattle.kernel_model.specs.State.{Timer}
use Rattle.kernel_model.specs.declared.signal.Post.{Post}
use Rattle.kernel_model.specs.declared.signal.Post.TheVariants as posts
use Rattle.number_tables.specs.Signals.{signal_of_o32}
use Rattle.o32_turns.specs.Machine.{Machine, Rules, Within, happens, with_machine}
use Rattle.o32_model.specs.SignalWaitEnds.{named_signals}
use Rattle.o32_model.specs.declared.wait.Wait.{Wait}
use Rattle.schedule.specs.declared.events.Due.{Due}

-- The signals that a call waits for. One that a stop interrupted waits for none.

abbrev pub awaited_by : Machine → Option Wait → List Sig
awaited_by machine None = []
awaited_by machine (Some wait) = if machine.interrupted then [] else named_signals machine.memory wait

abbrev pub awaited : Machine → List Sig
awaited machine = awaited_by machine machine.wait

abbrev pub waits_for : Rules → Machine → Sig → Bool
waits_for rules machine signal = list_any (λ (other : Sig). place other == place signal) (rules.awaited machine)

-- Events of the schedule

abbrev pub post_event : Sig → Post → Event
post_event signal posts.Queued = events.Post signal
post_event signal posts.Dropped = events.Post signal
post_event signal posts.Full = events.Dropped signal

abbrev pub is_kill : Sig → Bool
is_kill sigs.Kill = true
is_kill _ = false

abbrev pub let_go : Sig → Within → Within
let_go signal within =
    if (is_kill signal || is_continue signal) && within.machine.stopped
    then happens (with_machine within (record within.machine { stopped = false })) events.Cont
    else within

abbrev pub after_post : Within → Sig → Posted → Within
after_post within signal posted =
    let machine = within.machine in
    happens (with_machine within (record machine { kernel = with_signals machine.kernel posted.signals })) (post_event signal posted.post)

abbrev pub sent_to : Rules → Within → Info → Within
sent_to rules within info =
    let machine = within.machine in
    let_go info.sig (after_post within info.sig (post machine.kernel.signals info (waits_for rules machine info.sig)))

-- an event has the number of a signal, so that there is one
abbrev pub signal_or_first : Option Sig → Sig
signal_or_first (Some signal) = signal
signal_or_first None = sigs.Hup

abbrev pub event_info : Due → Info
event_info due = scheduled_info (signal_or_first (signal_of_o32 due.sig)) due.value

-- those that are due, up to the first that is not
abbrev pub events_posted : Rules → List Due → Within → Within
events_posted rules [] within = with_machine within (record within.machine { coming = [] })
events_posted rules (due ∷ more) within =
    if nat_le due.time within.machine.kernel.clock then events_posted rules more (sent_to rules within (event_info due))
    else with_machine within (record within.machine { coming = due ∷ more })

-- The timer

abbrev pub expiry_events : Option Timer → List Event
expiry_events None = []
expiry_events (Some timer) = events.Post sigs.Alrm ∷ []

-- where it is due it goes off, and its signal is posted
abbrev pub timer_posted : Rules → Within → Within
timer_posted rules within =
    let machine = within.machine in
    let kernel = machine.kernel in
    record within {
      machine = record machine { kernel = advance kernel kernel.clock (waits_for rules machine sigs.Alrm) };
      events = within.events ++ expiry_events (gone_off kernel.clock kernel.timer);
    }

-- the events first, and then the timer
abbrev pub posted : Rules → Within → Within
posted rules within = timer_posted rules (events_posted rules within.machine.coming within)
