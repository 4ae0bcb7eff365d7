-- What a call asks for, and what an acceptance comes to. (The form is this project's own.)
use Rattle.std.specs.Prelude.{ℕ, pos, nat_abs, int_lt, Bool, true, not, ◌||◌, ◌==◌, Option, Some, None, Ok, Err, if◌then◌else◌}
use Rattle.kernel_core.specs.declared.error.Errno.TheVariants.{EAGAIN, EINVAL}
use Rattle.kernel_core.specs.declared.reply.Reply.{Reply}
use Rattle.kernel_core.specs.declared.reply.Reply.TheVariants as replies
use Rattle.kernel_core.specs.declared.signal.Sig.{Sig}
use Rattle.kernel_model.specs.Came.{Did, Given, done, given_or_none, refused, waits, with_given}
use Rattle.kernel_model.specs.Clock.{deadline, given_some, is_below, length_of, second, waits_until}
use Rattle.kernel_model.specs.Shared.{Info}
use Rattle.kernel_model.specs.SignalRows.{accept_signal, first_pending, set_size}
use Rattle.kernel_model.specs.SignalSets.{SignalSet, blockable}
use Rattle.kernel_model.specs.State.{Kernel}
use Rattle.kernel_model.specs.declared.time.TimeSpec.{TimeSpec}
use Rattle.o32_model.specs.Suspending.{all_signals}
use Rattle.bridge_signal_state.specs.Passed.{error_of}
use Rattle.bridge_acceptance.specs.declared.accepting.Accepted.{Accepted}
use Rattle.bridge_acceptance.specs.declared.accepting.Accepted.TheVariants as accepteds
use Rattle.bridge_acceptance.specs.declared.asked.Wanted.{Wanted}

-- What is asked for, when the arguments can be read

abbrev pub asking : SignalSet → Option TimeSpec → Wanted
asking set time = record { set = set; time = time }

abbrev pub asked_time : SignalSet → Given (Option TimeSpec) → Given Wanted
asked_time set (Err error) = Err error
asked_time set (Ok time) = Ok (asking set time)

abbrev pub asked_set : Given SignalSet → Given (Option TimeSpec) → Given Wanted
asked_set (Err error) time = Err error
asked_set (Ok set) time = asked_time set time

abbrev pub asked : ℕ → Given SignalSet → Option (Given TimeSpec) → Given Wanted
asked size set time = if not (size == set_size) then Err EINVAL else asked_set set (given_or_none time)

-- The time

-- how long a call waits at most
abbrev pub checked : Option TimeSpec → Given (Option ℕ)
checked None = Ok None
checked (Some time) = given_some (length_of time)

-- whether a time is a length of time
abbrev pub is_length : TimeSpec → Bool
is_length time = not (int_lt time.seconds (pos 0) || not (is_below time.nanoseconds second))

abbrev pub is_timed : Option TimeSpec → Bool
is_timed None = true
is_timed (Some time) = is_length time

-- What the row does by what is asked for

-- where none of the set's signals pends it waits, or the time is over
abbrev pub unmet : Kernel → Option ℕ → Did Kernel Info
unmet kernel length = waits_until kernel (deadline kernel length) (refused kernel EAGAIN)

-- by the first of the set's signals that pends
abbrev pub met : Kernel → Option TimeSpec → Option Sig → Did Kernel Info
met kernel time first = with_given kernel (checked time) (λ length. accept_signal kernel first (unmet kernel length))

abbrev pub acceptance : Kernel → Wanted → Did Kernel Info
acceptance kernel asked = met kernel asked.time (first_pending kernel.signals all_signals (blockable asked.set))

abbrev pub accept_by : Kernel → Given Wanted → Did Kernel Info
accept_by kernel (Err error) = refused kernel error
accept_by kernel (Ok asked) = acceptance kernel asked

-- What it comes to

abbrev pub did : Kernel → Accepted → Did Kernel Info
did kernel (accepteds.Signal info) = done kernel info
did kernel (accepteds.Refused error) = refused kernel error
did kernel (accepteds.Waits until) = waits kernel until

-- by what was taken of a signal
abbrev pub taken : Option Info → Accepted
taken None = accepteds.Refused EAGAIN
taken (Some info) = accepteds.Signal info

-- by a native reply where none pends
abbrev pub came_of : Reply → Accepted
came_of (replies.Done number) = accepteds.Refused (error_of (nat_abs number))
came_of (replies.Sleep wake) = accepteds.Waits wake.until
