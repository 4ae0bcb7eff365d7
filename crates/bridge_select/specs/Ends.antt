-- How the waits of select(2) and pselect(2) end: the last two cases of `wait_ended` of `o32_model`. (The form is this project's own.)
use Rattle.std.specs.Prelude.{ℕ, ◌==◌, if◌then◌else◌}
use Rattle.guest_space.specs.Memory.{Memory}
use Rattle.kernel_model.specs.State.{Kernel}
use Rattle.o32_calls.specs.Numbers.{select_number}
use Rattle.o32_calls.specs.declared.times.SelectCall.TheVariants.{Newselect}
use Rattle.o32_model.specs.Times.{spec_bytes, val_bytes}
use Rattle.o32_model.specs.WaitEnds.{WaitEnd, limited_ended, sets_told, wait_word}
use Rattle.o32_model.specs.declared.wait.Cause.{Cause}
use Rattle.o32_model.specs.declared.wait.Wait.{Wait}

-- select(2) has microseconds, and any other number ends as pselect(2) does
abbrev pub select_ended : Wait → Cause → ℕ → Kernel → Memory → WaitEnd
select_ended wait cause clock kernel memory =
    if wait.nr == select_number Newselect
    then limited_ended (record { address = wait_word wait 4; bytes = val_bytes }) (sets_told wait) wait cause clock kernel memory
    else limited_ended (record { address = wait_word wait 4; bytes = spec_bytes }) (sets_told wait) wait cause clock kernel memory
