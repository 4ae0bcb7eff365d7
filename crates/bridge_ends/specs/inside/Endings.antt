-- Parts of the end of a wait. (The forms are this project's own.)
use Rattle.std.specs.Prelude.{ℕ, nat_le, Bool, false, List, [], ◌∷◌, ◌++◌, Option, Some, None, if◌then◌else◌}
use Rattle.guest_space.specs.Memory.{Memory}
use Rattle.kernel_core.specs.declared.error.Errno.TheVariants.{EINTR}
use Rattle.kernel_core.specs.declared.event.Event.{Event}
use Rattle.kernel_core.specs.declared.event.Event.TheVariants as events
use Rattle.kernel_core.specs.declared.signal.Sig.{Sig}
use Rattle.kernel_core.specs.declared.signal.Sig.TheVariants as sigs
use Rattle.kernel_model.specs.SignalSets.{SignalSet}
use Rattle.mips_exec.specs.Processor.{Processor, register}
use Rattle.o32_model.specs.SignalWaitEnds.{named_signals}
use Rattle.o32_model.specs.WaitEnds.{WaitEnd}
use Rattle.o32_model.specs.Words.{a3, v0, with_result}
use Rattle.o32_model.specs.declared.wait.Cause.{Cause}
use Rattle.o32_model.specs.declared.wait.Cause.TheVariants.{Due, Accepted, Handler, Stopped}
use Rattle.o32_model.specs.declared.wait.Close.{Close}
use Rattle.o32_model.specs.declared.wait.Close.TheVariants as closes
use Rattle.o32_model.specs.declared.wait.Wait.{Wait}
use Rattle.o32_turns.specs.Closing.{wait_over}
use Rattle.o32_turns.specs.Going.{Standing}
use Rattle.o32_turns.specs.Machine.{Within, with_change}

-- the wait is over so
abbrev pub put_over : Wait → WaitEnd → Within → Within
put_over wait end within = with_change within (wait_over wait end within.machine)

-- A suspension

-- the mask that its end puts back, where there is one
abbrev pub old_mask : Wait → Cause → Option SignalSet
old_mask wait Due = wait.mask
old_mask wait Accepted = wait.mask
old_mask wait Handler = None
old_mask wait Stopped = wait.mask

abbrev pub suspension_end : Cause → Close
suspension_end Due = closes.Error EINTR
suspension_end Accepted = closes.Error EINTR
suspension_end Handler = closes.Error EINTR
suspension_end Stopped = closes.Again

-- Registers and events

abbrev pub happened : Standing → Event → Standing
happened standing event = record standing { events = standing.events ++ event ∷ [] }

abbrev pub returning : Processor → ℕ → Bool → Processor
returning processor value failed = with_result processor value (if failed then 1 else 0)

abbrev pub done : Standing → Processor → Standing
done standing processor = happened standing (events.Done (register processor v0) (register processor a3))

abbrev pub restarted : Standing → ℕ → Standing
restarted standing number = happened standing (events.Restart number)

-- whether a time that may not be there has come by a time of the clock
abbrev pub has_come : ℕ → Option ℕ → Bool
has_come clock None = false
has_come clock (Some time) = nat_le time clock

-- the timer's signal, where the time at which it was due has come
abbrev pub timer_told : Standing → ℕ → Option ℕ → Standing
timer_told standing clock next = if has_come clock next then happened standing (events.Post sigs.Alrm) else standing

-- the signals that the call which waits waits for by name; one that a stop interrupted waits for none
abbrev pub names : Bool → Memory → Option Wait → List Sig
names interrupted memory None = []
names interrupted memory (Some wait) = if interrupted then [] else named_signals memory wait
