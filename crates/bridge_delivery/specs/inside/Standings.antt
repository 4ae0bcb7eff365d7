-- What a delivery does to what a process keeps within a turn, and to the kernel. (The forms are this project's own.)
use Rattle.std.specs.Prelude.{◌≡◌, ℕ, Bool, true, List, [], ◌∷◌, ◌++◌, Option, Some, None, is_none, is_some, ◌&&◌, ◌||◌, Result, IfOk, OnOk, if◌then◌else◌}
use Rattle.kernel_core.specs.declared.core_error.Stop.{Stop}
use Rattle.kernel_core.specs.declared.event.Delivery.{Delivery}
use Rattle.kernel_core.specs.declared.event.Delivery.TheVariants as deliveries
use Rattle.kernel_core.specs.declared.event.Event.{Event}
use Rattle.kernel_core.specs.declared.event.Event.TheVariants as events
use Rattle.kernel_core.specs.declared.finish.Finish.TheVariants.{Killed}
use Rattle.kernel_core.specs.declared.signal.Sig.{Sig}
use Rattle.kernel_model.specs.SignalRows.{ignores, is_stop}
use Rattle.kernel_model.specs.SignalSets.{SignalSet, union}
use Rattle.kernel_model.specs.State.{Kernel}
use Rattle.kernel_model.specs.declared.signal.Action.{Action}
use Rattle.number_tables.specs.Signals.{o32_signal}
use Rattle.o32_model.specs.declared.wait.Wait.{Wait}
use Rattle.o32_turns.specs.Delivering.{next_signal}
use Rattle.o32_turns.specs.Going.{Standing}
use Rattle.o32_turns.specs.Handling.{frame_fault, is_segv, own_mask, sooner_saved}
use Rattle.outside.specs.Streams.{Contents}

abbrev pub happened : Standing → Event → Standing
happened standing event = record standing { events = standing.events ++ event ∷ [] }

-- a signal that was sent is delivered so
abbrev pub told : Standing → Sig → Delivery → Standing
told standing signal delivery = happened standing (events.Signal signal delivery)

abbrev pub killed : Sig → Standing → Standing
killed signal standing = record (happened standing (events.Killed signal)) { over = Some (Killed (o32_signal signal)) }

abbrev pub stopped : Sig → Standing → Standing
stopped signal standing = told (record standing { stopped = true; interrupted = is_some standing.wait }) signal deliveries.Stop

abbrev pub by_default : Sig → Standing → Standing
by_default signal standing = if is_stop signal then stopped signal standing else killed signal standing

-- the same of a signal that has no handler
abbrev pub disposed : Sig → Action → Standing → Standing
disposed signal action standing =
    if ignores signal action then told standing signal deliveries.Ignored else by_default signal standing

-- a frame can't be written
abbrev pub unframed : Standing → Standing
unframed standing =
    happened (record standing { fault = Some frame_fault }) (events.Fault frame_fault.sig 0x80 0)

abbrev pub not_entered : Sig → Standing → Standing
not_entered signal standing = if is_segv signal then killed signal standing else unframed standing

-- a handler begins
abbrev pub entered : Standing → Standing
entered standing = record standing { restart = None; saved = None }

abbrev pub begun : Bool → Sig → Standing → Standing
begun written signal standing = if written then entered standing else not_entered signal standing

-- the mask from before the call that waits is kept for the handler's frame
abbrev pub kept_of : Option Wait → Option SignalSet → Option SignalSet
kept_of None saved = saved
kept_of (Some wait) saved = sooner_saved wait.mask saved

abbrev pub keeping : Standing → Standing
keeping standing = record standing { saved = kept_of standing.wait standing.saved }

-- what is blocked while a handler runs
abbrev pub handling_mask : SignalSet → Sig → Action → SignalSet
handling_mask mask signal action = union mask (union action.mask (own_mask signal action))

-- Where the input tells what is left of it, the kernel has become what is said, unless it stopped early; and input and outputs are as they were.
abbrev pub Becomes : {A : Type 0} → (Kernel → Kernel) → Result A Stop → Kernel → Kernel → Contents → Contents → Type 0
Becomes next result kernel became before after =
    (left : List ℕ) → before.left ≡ Some left → (after ≡ before) × OnOk result (became ≡ next kernel)

-- The same where something is found, and the kernel stays.
abbrev pub Finds : {A : Type 0} → (A → Type 0) → Result A Stop → Kernel → Kernel → Contents → Contents → Type 0
Finds IsThere result kernel became before after =
    (left : List ℕ) → before.left ≡ Some left → (after ≡ before) × OnOk result (became ≡ kernel) × IfOk result IsThere

-- whether nothing is left to deliver, or the process was stopped or killed
abbrev pub is_over : Standing → Kernel → Bool
is_over standing kernel =
    is_some standing.over || standing.stopped || (is_none standing.fault && is_none (next_signal kernel.signals))
