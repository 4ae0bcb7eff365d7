-- How a wait closes, before the mask is put back and the time is stored. (The form is this project's own.)
use Rattle.std.specs.Prelude.{ℕ, ◌==◌, if◌then◌else◌}
use Rattle.guest_space.specs.Memory.{Memory}
use Rattle.kernel_model.specs.State.{Kernel}
use Rattle.o32_calls.specs.Numbers.{select_number}
use Rattle.o32_calls.specs.declared.times.SelectCall.TheVariants.{Newselect}
use Rattle.o32_model.specs.TimeLeft.{LeftForm}
use Rattle.o32_model.specs.Times.{spec_bytes, val_bytes}
use Rattle.o32_model.specs.WaitEnds.{WaitEnd, again_or_interrupted, ends_with, interrupted, sets_told, told, wait_word, with_old_mask}
use Rattle.o32_model.specs.declared.wait.Cause.{Cause}
use Rattle.o32_model.specs.declared.wait.Cause.TheVariants.{Due, Accepted, Handler, Stopped}
use Rattle.o32_model.specs.declared.wait.Wait.{Wait}

-- where the time that is left is stored
abbrev pub time_form : Wait → LeftForm
time_form wait = record { address = wait_word wait 4; bytes = if wait.nr == select_number Newselect then val_bytes else spec_bytes }

abbrev pub closing : LeftForm → Wait → Cause → ℕ → Kernel → Memory → WaitEnd
closing form wait Due clock kernel memory = told (sets_told wait) (with_old_mask wait.mask kernel) memory
closing form wait Accepted clock kernel memory = told (sets_told wait) (with_old_mask wait.mask kernel) memory
closing form wait Handler clock kernel memory = interrupted kernel memory
closing form wait Stopped clock kernel memory =
    ends_with (again_or_interrupted form wait clock memory) (with_old_mask wait.mask kernel) memory
