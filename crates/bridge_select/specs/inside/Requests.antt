-- What a call asks for, in terms of the table. (The form is this project's own.)
use Rattle.std.specs.Prelude.{ℕ, List, slice_index, Option, Some, None, Ok, Err}
use Rattle.std.specs.Int.{w32, cast_signed}
use Rattle.bridge_limits.specs.Limits.{given_mask, left_form, length_at}
use Rattle.bridge_limits.specs.declared.times.TimeForm.TheVariants.{Microseconds, Nanoseconds}
use Rattle.bridge_limits.specs.declared.times.TimePlace.{TimePlace}
use Rattle.guest_space.specs.Memory.{Memory}
use Rattle.kernel_core.specs.declared.error.Errno.TheVariants.{EFAULT}
use Rattle.kernel_model.specs.Came.{Given, refused}
use Rattle.kernel_model.specs.Readiness.{masked_wait}
use Rattle.kernel_model.specs.State.{Kernel}
use Rattle.o32_calls.specs.declared.times.SelectCall.{SelectCall}
use Rattle.o32_calls.specs.declared.times.SelectCall.TheVariants.{Newselect, Pselect6}
use Rattle.o32_model.specs.Masks.{with_own_mask}
use Rattle.o32_model.specs.Selecting as selecting
use Rattle.o32_model.specs.Selecting.{OwnMask, mask_at, no_mask, selected}
use Rattle.o32_model.specs.Step.{Guest, O32Step, gives}
use Rattle.o32_model.specs.TimeLeft.{LeftForm, with_time_left}
use Rattle.o32_model.specs.Words.{stack_word}
use Rattle.o32_model.specs.declared.call_words.CallWords.{CallWords}
use Rattle.bridge_select.specs.declared.asked.Asked.{Asked}
use Rattle.bridge_select.specs.declared.requests.Request.{Request}
use Rattle.bridge_select.specs.declared.requests.SizedMask.{SizedMask}

-- The descriptors

abbrev pub asked_of : Asked → selecting.Asked
asked_of asked = record { count = asked.count; read = asked.read; write = asked.write; except = asked.except }

abbrev pub asked_words : List ℕ → selecting.Asked
asked_words words = record {
  count = cast_signed w32 (slice_index words 0);
  read = slice_index words 1;
  write = slice_index words 2;
  except = slice_index words 3;
}

-- The mask

abbrev pub own_mask : SizedMask → OwnMask
own_mask mask = record { mask = given_mask mask.mask; size = mask.size }

-- All that is asked for: the descriptors, where the time is stored that is left, how long the call may wait, and the mask

pub record Requested : Type 0 where
  pub asked : selecting.Asked
  pub form : LeftForm
  pub wait : Option ℕ
  pub own : OwnMask

abbrev pub requested : Request → Requested
requested request = record {
  asked = asked_of request.asked;
  form = left_form request.time;
  wait = request.wait;
  own = own_mask request.mask;
}

-- when the arguments can be read

abbrev pub waiting : selecting.Asked → TimePlace → OwnMask → Given (Option ℕ) → Given Requested
waiting asked time own (Err error) = Err error
waiting asked time own (Ok wait) = Ok (record { asked = asked; form = left_form time; wait = wait; own = own })

abbrev pub timed : Memory → selecting.Asked → TimePlace → OwnMask → Given Requested
timed memory asked time own = waiting asked time own (length_at memory time)

abbrev pub masked : Memory → selecting.Asked → TimePlace → Given OwnMask → Given Requested
masked memory asked time (Err error) = Err error
masked memory asked time (Ok own) = timed memory asked time own

abbrev pub select_requested : Memory → selecting.Asked → Option ℕ → Given Requested
select_requested memory asked None = Err EFAULT
select_requested memory asked (Some time) = timed memory asked (record { form = Microseconds; address = time }) no_mask

abbrev pub pselect_requested : Memory → selecting.Asked → Option ℕ → Option ℕ → Given Requested
pselect_requested memory asked None pair = Err EFAULT
pselect_requested memory asked (Some time) None = Err EFAULT
pselect_requested memory asked (Some time) (Some pair) =
    masked memory asked (record { form = Nanoseconds; address = time }) (mask_at memory pair)

abbrev pub requested_by : SelectCall → CallWords → Memory → Given Requested
requested_by Newselect words memory = select_requested memory (asked_words words.reg) (stack_word words 0)
requested_by Pselect6 words memory = pselect_requested memory (asked_words words.reg) (stack_word words 0) (stack_word words 1)

-- What the call then does

abbrev pub selects : Kernel → Guest → Requested → List ℕ → O32Step
selects kernel guest requested left =
    with_time_left requested.form kernel guest.memory (Ok requested.wait)
    (with_own_mask kernel requested.own.mask
    (selected kernel guest requested.asked (masked_wait (Ok requested.wait) requested.own.size requested.own.mask) left))

abbrev pub does : Kernel → Guest → List ℕ → Given Requested → O32Step
does kernel guest left (Err error) = gives guest (refused kernel error) left
does kernel guest left (Ok requested) = selects kernel guest requested left
