-- What calls that wait for descriptors have of times and masks, in terms of the table. (The forms are this project's own.)
use Rattle.std.specs.Prelude.{◌≡◌, ◌≢◌, ℕ, List, Option, Some, None, Ok, Err}
use Rattle.guest_space.specs.Memory.{Memory}
use Rattle.host_mem.specs.Memory.{bytes_at}
use Rattle.kernel_core.specs.declared.error.Errno.TheVariants.{EFAULT}
use Rattle.kernel_model.specs.Came.{Given}
use Rattle.kernel_model.specs.Clock.{checked_or_none, length_of}
use Rattle.kernel_model.specs.Readiness.{select_length}
use Rattle.kernel_model.specs.SignalRows.{with_mask}
use Rattle.kernel_model.specs.SignalSets.{SignalSet}
use Rattle.kernel_model.specs.State.{Kernel}
use Rattle.native_calls.specs.Times.{time_bytes}
use Rattle.o32_model.specs.GuestBytes.{is_storable, unless_null}
use Rattle.o32_model.specs.TimeLeft.{LeftForm}
use Rattle.o32_model.specs.Times.{spec_at, spec_bytes, val_at, val_bytes}
use Rattle.o32_model.specs.WaitEnds.{with_old_mask}
use Rattle.o32_model.specs.declared.outcome.Outcome.{Outcome}
use Rattle.o32_model.specs.declared.outcome.Outcome.TheVariants.{Sleep}
use Rattle.o32_model.specs.declared.wait.Cause.{Cause}
use Rattle.o32_model.specs.declared.wait.Cause.TheVariants.{Due, Accepted, Handler, Stopped}
use Rattle.o32_model.specs.declared.wait.Wait.{Wait}
use Rattle.bridge_limits.specs.declared.masks.OwnMask.{OwnMask}
use Rattle.bridge_limits.specs.declared.masks.OwnMask.TheVariants as masks
use Rattle.bridge_limits.specs.declared.times.TimeForm.{TimeForm}
use Rattle.bridge_limits.specs.declared.times.TimeForm.TheVariants as forms
use Rattle.bridge_limits.specs.declared.times.TimePlace.{TimePlace}

-- how long the program's call may wait, by where its time is

abbrev pub length_by : TimeForm → Memory → ℕ → Given (Option ℕ)
length_by forms.Nanoseconds memory address = checked_or_none length_of (unless_null address (spec_at memory address))
length_by forms.Microseconds memory address = checked_or_none select_length (unless_null address (val_at memory address))

abbrev pub length_at : Memory → TimePlace → Given (Option ℕ)
length_at memory place = length_by place.form memory place.address

-- the time that is left, where it is stored and in what form

abbrev pub left_bytes : TimeForm → ℕ → List ℕ
left_bytes forms.Nanoseconds = spec_bytes
left_bytes forms.Microseconds = val_bytes

abbrev pub left_form : TimePlace → LeftForm
left_form place = record { address = place.address; bytes = left_bytes place.form }

-- host memory has at a place the time that is left, and the place is 0 where there is none
abbrev pub ShowsLeft : List ℕ → ℕ → Option ℕ → Type 0
ShowsLeft memory place None = place ≡ 0
ShowsLeft memory place (Some left) = (place ≢ 0) × (bytes_at memory place 16 ≡ Some (time_bytes left))

-- the call's own mask
abbrev pub given_mask : OwnMask → Option (Given SignalSet)
given_mask masks.None = None
given_mask masks.Unreadable = Some (Err EFAULT)
given_mask (masks.Set set) = Some (Ok set)

-- What a call that waits comes to, and what it leaves

abbrev pub asleep : Kernel → Wait → Option (Given SignalSet) → Outcome
asleep kernel wait None = Sleep wait
asleep kernel wait (Some (Err error)) = Sleep wait
asleep kernel wait (Some (Ok mask)) = Sleep (record wait { mask = Some kernel.signals.mask })

abbrev pub masked_kernel : Kernel → Option (Given SignalSet) → Kernel
masked_kernel kernel None = kernel
masked_kernel kernel (Some (Err error)) = kernel
masked_kernel kernel (Some (Ok mask)) = with_mask kernel mask

-- the kernel when a wait has ended
abbrev pub unmasked_kernel : Wait → Cause → Kernel → Kernel
unmasked_kernel wait Due kernel = with_old_mask wait.mask kernel
unmasked_kernel wait Accepted kernel = with_old_mask wait.mask kernel
unmasked_kernel wait Handler kernel = kernel
unmasked_kernel wait Stopped kernel = with_old_mask wait.mask kernel

-- the same can be stored in two memories
abbrev pub StoresAlike : Memory → Memory → Type 0
StoresAlike before after = (address count : ℕ) → is_storable before address count ≡ is_storable after address count
