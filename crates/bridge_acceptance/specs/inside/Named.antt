-- The set whose signals a call waits for by name. (The form is this project's own.)
use Rattle.std.specs.Prelude.{◌==◌, Option, Some, None, Ok, Err, if◌then◌else◌}
use Rattle.guest_space.specs.Memory.{Memory}
use Rattle.kernel_model.specs.Came.{Given}
use Rattle.kernel_model.specs.SignalSets.{SignalSet}
use Rattle.o32_calls.specs.Numbers.{rt_sigtimedwait_number}
use Rattle.o32_model.specs.Masks.{set_at}
use Rattle.o32_model.specs.WaitEnds.{wait_word}
use Rattle.o32_model.specs.declared.wait.Wait.{Wait}

-- none where it can't be read
abbrev pub set_or_none : Given SignalSet → Option SignalSet
set_or_none (Err error) = None
set_or_none (Ok set) = Some set

-- that of rt_sigtimedwait(2)
abbrev pub named_set : Memory → Wait → Option SignalSet
named_set memory wait = if wait.nr == rt_sigtimedwait_number then set_or_none (set_at memory (wait_word wait 0)) else None
