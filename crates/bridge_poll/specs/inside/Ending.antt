-- How a wait for entries ends. (The form is this project's own.)
use Rattle.std.specs.Prelude.{Bool, if◌then◌else◌}
use Rattle.guest_space.specs.Memory.{Memory}
use Rattle.kernel_core.specs.declared.error.Errno.TheVariants.{EFAULT}
use Rattle.kernel_model.specs.State.{Kernel}
use Rattle.o32_model.specs.WaitEnds.{WaitEnd, ends_with, entries_told, interrupted, told}
use Rattle.o32_model.specs.declared.wait.Cause.{Cause}
use Rattle.o32_model.specs.declared.wait.Cause.TheVariants.{Due, Accepted, Handler, Stopped}
use Rattle.o32_model.specs.declared.wait.Close.{Close}
use Rattle.o32_model.specs.declared.wait.Close.TheVariants as closes
use Rattle.o32_model.specs.declared.wait.Wait.{Wait}

-- where its time is over
abbrev pub told_if : Bool → Close
told_if stored = if stored then closes.Value 0 else closes.Error EFAULT

-- `stopped` is how it is closed after a stop
abbrev pub ended_so : Wait → Cause → Close → Kernel → Memory → WaitEnd
ended_so wait Due stopped kernel memory = told (entries_told wait memory) kernel memory
ended_so wait Accepted stopped kernel memory = told (entries_told wait memory) kernel memory
ended_so wait Handler stopped kernel memory = interrupted kernel memory
ended_so wait Stopped stopped kernel memory = ends_with stopped kernel memory
