-- How the call that waits ends, within a turn. (The form is this project's own.)
use Rattle.std.specs.Prelude.{Bool, Option, Some, None}
use Rattle.o32_model.specs.declared.wait.Cause.{Cause}
use Rattle.o32_model.specs.declared.wait.Wait.{Wait}
use Rattle.o32_turns.specs.Closing.{whole_end}
use Rattle.o32_turns.specs.Closing.{wait_over}
use Rattle.o32_turns.specs.Machine.{Within, with_change}

-- for a cause, where the action of a handler that ends it restarts calls or not; where none waits nothing ends
abbrev pub ended_wait : Bool → Cause → Within → Option Wait → Within
ended_wait restarts cause within None = within
ended_wait restarts cause within (Some wait) =
    with_change within
    (wait_over wait (whole_end restarts wait cause within.machine.kernel within.machine.memory) within.machine)
