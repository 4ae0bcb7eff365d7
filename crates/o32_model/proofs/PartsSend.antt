-- A call that stores several pieces sends nothing.
use Rattle.std.proofs.Common.{◌≡◌, ℕ, ◌==◌, Bool, true, false, List, refl, sym, subst, arith}
use Rattle.std.specs.Prelude.{T, ◌||◌, Option, Some, None, Ok, Err}
use Rattle.std.proofs.lemmas.Bool.Decides.{nat_tests}
use Rattle.guest_space.specs.Memory.{Memory}
use Rattle.kernel_core.specs.declared.error.Errno.TheVariants.{EFAULT}
use Rattle.kernel_model.specs.Came.{Did, Given, refused}
use Rattle.kernel_model.specs.Clock.{checked_or_none, left_of_wait, length_of}
use Rattle.kernel_model.specs.Readiness.{masked_wait, select_length}
use Rattle.kernel_model.specs.SignalSets.{SignalSet}
use Rattle.kernel_model.specs.State.{Kernel}
use Rattle.o32_model.specs.Clocks.{gettimeofday_row}
use Rattle.o32_model.specs.GuestBytes.{unless_null}
use Rattle.o32_model.specs.Laws.{SendsNothing, stores_in_parts}
use Rattle.o32_model.specs.Masks.{masked, set_at, waiting_with, with_own_mask}
use Rattle.o32_model.specs.Polling.{polled, ppolled, poll_row, ppoll_row}
use Rattle.o32_model.specs.Selecting.{Asked, OwnMask, selected, newselected, pselected, with_pair, newselect_row, pselect6_row, mask_at}
use Rattle.o32_model.specs.Step.{Guest, O32Step, gives}
use Rattle.o32_model.specs.Table.{call_of, step_of, o32_call}
use Rattle.o32_model.specs.TimeLeft.{LeftForm, at_end, with_left_of, with_time_left}
use Rattle.o32_model.specs.Times.{spec_at, spec_bytes, val_at, val_bytes}
use Rattle.o32_model.specs.declared.outcome.Outcome.{Outcome}
use Rattle.o32_model.specs.declared.wait.Wait.{Wait}
use Rattle.o32_model.specs.declared.outcome.Outcome.TheVariants.{Value, Pair, Error, Sleep, Frame, BadFrame, Exit}

module _ (guest : Guest) (left : List ℕ) where
  abbrev Quiet : O32Step → Type 0
  Quiet step = SendsNothing guest left step

  gives_sends : (did : Did Kernel ℕ) → Quiet (gives guest did left)
  gives_sends did = record { set = refl; rest = refl; sent = refl }

  waiting_sends : (before : Kernel) (step : O32Step) (wait : Wait) (mask : Option (Given SignalSet)) → Quiet step
      → Quiet (waiting_with before step wait mask)
  waiting_sends before step wait None sends = sends
  waiting_sends before step wait (Some (Err error)) sends = sends
  waiting_sends before step wait (Some (Ok mask)) sends = record { set = sends.set; rest = sends.rest; sent = sends.sent }

  masked_sends : (before : Kernel) (mask : Option (Given SignalSet)) (step : O32Step) (outcome : Outcome) → Quiet step
      → Quiet (masked before mask step outcome)
  masked_sends before mask step (Value value) sends = sends
  masked_sends before mask step (Pair first second) sends = sends
  masked_sends before mask step (Error error) sends = sends
  masked_sends before mask step (Sleep wait) sends = waiting_sends before step wait mask sends
  masked_sends before mask step Frame sends = sends
  masked_sends before mask step BadFrame sends = sends
  masked_sends before mask step (Exit status) sends = sends

  own_mask_sends : (before : Kernel) (mask : Option (Given SignalSet)) (step : O32Step) → Quiet step → Quiet (with_own_mask before mask step)
  own_mask_sends before mask step sends = masked_sends before mask step step.outcome sends

  end_sends : (with_left : Memory → Memory) (step : O32Step) (outcome : Outcome) → Quiet step → Quiet (at_end with_left step outcome)
  end_sends with_left step (Value value) sends = record { set = sends.set; rest = sends.rest; sent = sends.sent }
  end_sends with_left step (Pair first second) sends = record { set = sends.set; rest = sends.rest; sent = sends.sent }
  end_sends with_left step (Error error) sends = record { set = sends.set; rest = sends.rest; sent = sends.sent }
  end_sends with_left step (Sleep wait) sends = sends
  end_sends with_left step Frame sends = sends
  end_sends with_left step BadFrame sends = sends
  end_sends with_left step (Exit status) sends = sends

  time_left_sends : (form : LeftForm) (kernel : Kernel) (length : Given (Option ℕ)) (step : O32Step) → Quiet step
      → Quiet (with_time_left form kernel guest.memory length step)
  time_left_sends form kernel (Err error) step sends = sends
  time_left_sends form kernel (Ok length) step sends = end_sends (with_left_of form guest.memory (left_of_wait kernel kernel.clock length)) step step.outcome sends

  polled_sends : (kernel : Kernel) (address count : ℕ) (wait : Given (Option ℕ)) → Quiet (polled kernel guest address count wait left)
  polled_sends kernel address count wait = record { set = refl; rest = refl; sent = refl }

  selected_sends : (kernel : Kernel) (asked : Asked) (wait : Given (Option ℕ)) → Quiet (selected kernel guest asked wait left)
  selected_sends kernel asked wait = record { set = refl; rest = refl; sent = refl }

  ppolled_sends : (kernel : Kernel) (address count time : ℕ) (length : Given (Option ℕ)) (size : ℕ) (mask : Option (Given SignalSet))
      → Quiet (ppolled kernel guest address count time length size mask left)
  ppolled_sends kernel address count time length size mask =
      let wait = masked_wait length size mask in
      time_left_sends (record { address = time; bytes = spec_bytes }) kernel length
      (with_own_mask kernel mask (polled kernel guest address count wait left))
      (own_mask_sends kernel mask (polled kernel guest address count wait left) (polled_sends kernel address count wait))

  ppoll_sends : (kernel : Kernel) (address count time mask : ℕ) (size : Option ℕ) → Quiet (ppoll_row kernel guest address count time mask size left)
  unfolding ppoll_row
  ppoll_sends kernel address count time mask None = gives_sends (refused kernel EFAULT)
  ppoll_sends kernel address count time mask (Some size) =
      ppolled_sends kernel address count time (checked_or_none length_of (unless_null time (spec_at guest.memory time))) size
      (unless_null mask (set_at guest.memory mask))

  newselected_sends : (kernel : Kernel) (asked : Asked) (time : ℕ) (length : Given (Option ℕ)) → Quiet (newselected kernel guest asked time length left)
  newselected_sends kernel asked time length =
      time_left_sends (record { address = time; bytes = val_bytes }) kernel length (selected kernel guest asked length left)
      (selected_sends kernel asked length)

  newselect_sends : (kernel : Kernel) (asked : Asked) (time : Option ℕ) → Quiet (newselect_row kernel guest asked time left)
  unfolding newselect_row
  newselect_sends kernel asked None = gives_sends (refused kernel EFAULT)
  newselect_sends kernel asked (Some time) =
      newselected_sends kernel asked time (checked_or_none select_length (unless_null time (val_at guest.memory time)))

  pselected_sends : (kernel : Kernel) (asked : Asked) (time : ℕ) (length : Given (Option ℕ)) (own : OwnMask)
      → Quiet (pselected kernel guest asked time length own left)
  pselected_sends kernel asked time length own =
      let wait = masked_wait length own.size own.mask in
      time_left_sends (record { address = time; bytes = spec_bytes }) kernel length
      (with_own_mask kernel own.mask (selected kernel guest asked wait left))
      (own_mask_sends kernel own.mask (selected kernel guest asked wait left) (selected_sends kernel asked wait))

  pair_sends : (kernel : Kernel) (asked : Asked) (time : ℕ) (pair : Given OwnMask) → Quiet (with_pair kernel guest asked time pair left)
  pair_sends kernel asked time (Err error) = gives_sends (refused kernel error)
  pair_sends kernel asked time (Ok own) =
      pselected_sends kernel asked time (checked_or_none length_of (unless_null time (spec_at guest.memory time))) own

  pselect6_sends : (kernel : Kernel) (asked : Asked) (time pair : Option ℕ) → Quiet (pselect6_row kernel guest asked time pair left)
  unfolding pselect6_row
  pselect6_sends kernel asked None pair = gives_sends (refused kernel EFAULT)
  pselect6_sends kernel asked (Some time) None = gives_sends (refused kernel EFAULT)
  pselect6_sends kernel asked (Some time) (Some pair) = pair_sends kernel asked time (mask_at guest.memory pair)

-- By number

abbrev Sends : ℕ → Type 0
Sends number = (kernel : Kernel) (guest : Guest) (left : List ℕ) → SendsNothing guest left (step_of (call_of number) kernel guest left)

at_gettimeofday : Sends 4078
unfolding gettimeofday_row
at_gettimeofday = λ kernel guest left. record { set = refl; rest = refl; sent = refl }

at_newselect : Sends 4142
at_newselect = λ kernel guest left. newselect_sends guest left kernel _ _

at_poll : Sends 4188
unfolding poll_row
at_poll = λ kernel guest left. record { set = refl; rest = refl; sent = refl }

at_pselect6 : Sends 4301
at_pselect6 = λ kernel guest left. pselect6_sends guest left kernel _ _ _

at_ppoll : Sends 4302
at_ppoll = λ kernel guest left. ppoll_sends guest left kernel _ _ _ _ _

one_or_other : (number part : ℕ) (others : Bool) → Sends part → (others ≡ true → Sends number) → (number == part || others) ≡ true → Sends number
one_or_other number part others at_part at_others is = by_test (number == part) refl is
  where
    by_test : (test : Bool) → (number == part) ≡ test → (test || others) ≡ true → Sends number
    by_test true same is = let e : part ≡ number = grind (arith, nat_tests) in subst Sends e at_part
    by_test false other is = at_others is

parts_send : (number : ℕ) → stores_in_parts number ≡ true → Sends number
parts_send number is =
    one_or_other number 4078 _ at_gettimeofday
    (λ is. one_or_other number 4142 _ at_newselect
    (λ is. one_or_other number 4188 _ at_poll
    (λ is. one_or_other number 4301 _ at_pselect6
    (λ is. one_or_other number 4302 false at_ppoll (λ none. absurd (subst T (sym none) tt)) is) is) is) is) is

pub o32_call_sends_nothing : (kernel : Kernel) (guest : Guest) (left : List ℕ) → stores_in_parts guest.words.nr ≡ true
    → SendsNothing guest left (o32_call kernel guest left)
o32_call_sends_nothing kernel guest left is = parts_send guest.words.nr is kernel guest left
