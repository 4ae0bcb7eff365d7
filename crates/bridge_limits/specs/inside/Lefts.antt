-- The time that is left, as it is shown, and the mask that is put back. (The forms are this project's own.)
use Rattle.std.specs.Prelude.{ℕ, ◌/◌, ◌%◌, ◌^◌, ◌==◌, List, ◌++◌, drop, Option, None, option_map, if◌then◌else◌}
use Rattle.byteorder.specs.Endian.{big_bytes, little_number}
use Rattle.guest_space.specs.Memory.{Memory}
use Rattle.host_mem.specs.Memory.{bytes_at}
use Rattle.kernel_model.specs.Clock.{second}
use Rattle.kernel_model.specs.SignalSets.{SignalSet}
use Rattle.o32_model.specs.GuestBytes.{with_stored}
use Rattle.o32_model.specs.TimeLeft.{LeftForm}
use Rattle.o32_model.specs.WaitEnds.{left_bytes}
use Rattle.o32_model.specs.declared.wait.Cause.{Cause}
use Rattle.o32_model.specs.declared.wait.Cause.TheVariants.{Due, Accepted, Handler, Stopped}
use Rattle.o32_model.specs.declared.wait.Wait.{Wait}
use Rattle.bridge_limits.specs.declared.lefts.Left.{Left}
use Rattle.bridge_limits.specs.declared.times.TimeForm.{TimeForm}
use Rattle.bridge_limits.specs.declared.times.TimeForm.TheVariants as forms

-- of a time in nanoseconds, of whose seconds the low 32 bits are shown
abbrev pub left_of : ℕ → Left
left_of time = record { seconds = time / second % 2 ^ 32; nanoseconds = time % second }

-- of the bytes of a native time
abbrev pub left_in : List ℕ → Left
left_in bytes = record { seconds = little_number 4 bytes; nanoseconds = little_number 4 (drop 8 bytes) }

-- at a place in host memory
abbrev pub left_at : List ℕ → ℕ → Option Left
left_at memory place = if place == 0 then None else option_map left_in (bytes_at memory place 16)

-- its bytes in the program's memory
abbrev pub bytes_of : TimeForm → Left → List ℕ
bytes_of forms.Nanoseconds left = big_bytes 4 left.seconds ++ big_bytes 4 left.nanoseconds
bytes_of forms.Microseconds left = big_bytes 4 left.seconds ++ big_bytes 4 (left.nanoseconds / 1000)

-- memory with what is left of a wait, at a time of the clock
abbrev pub with_remaining : LeftForm → Wait → ℕ → Memory → Memory
with_remaining form wait clock memory =
    if form.address == 0 then memory else with_stored memory form.address (left_bytes form wait clock)

-- the mask that the end of a wait puts back
abbrev pub old_mask : Wait → Cause → Option SignalSet
old_mask wait Due = wait.mask
old_mask wait Accepted = wait.mask
old_mask wait Handler = None
old_mask wait Stopped = wait.mask
