-- Worked rows on the clock and the timer, and on the masks of ppoll(2) and pselect(2), at the time 1000 of the clock.
use Rattle.std.specs.Prelude.{◌≡◌, ◌*◌, ◌^◌, pos, true, false, [], ◌∷◌, Some, None, Ok, Err, refl}
use Rattle.kernel_core.specs.Nodes.{Nodes}
use Rattle.kernel_core.specs.declared.error.Errno.TheVariants.{EBADF, EFAULT, EINVAL}
use Rattle.kernel_core.specs.declared.signal.Sig.TheVariants.{Alrm}
use Rattle.kernel_model.proofs.rows.Small.{small}
use Rattle.kernel_model.specs.Begin.{first_signals}
use Rattle.kernel_model.specs.Came.{done, refused, waits}
use Rattle.kernel_model.specs.Clock.{alarm, next_time, read_timer, resolution, second, unarmed}
use Rattle.kernel_model.specs.Readiness.{PollEntry, masked_wait, no_events, poll, ready, select}
use Rattle.kernel_model.specs.SignalRows.{advance, after_action, ignore_handler, no_action, post}
use Rattle.kernel_model.specs.SignalSets.{no_signals}
use Rattle.kernel_model.specs.State.{Kernel, Signals, Timer}

-- the timer by itself

not_armed : next_time unarmed ≡ None
not_armed = refl

armed_then : next_time (record { due = Some 3000; period = 300 }) ≡ Some 3000
armed_then = refl

-- the last time that comes
armed_at_last : next_time (record { due = Some (2 ^ 61); period = 0 }) ≡ Some (2 ^ 61)
armed_at_last = refl

ignores_alarm : Signals
ignores_alarm = after_action first_signals Alrm (record no_action { handler = ignore_handler })

module _ (kernel : Kernel) (nodes : Nodes) where
  at_1000 : Kernel
  at_1000 = record kernel { files = small nodes []; clock = 1000; epoch = 5 * second; timer = unarmed; signals = first_signals }

  armed_for : Timer → Kernel
  armed_for timer = record at_1000 { timer = timer }

  -- alarm: 0 disarms, and what is left is rounded

  alarm_off : alarm (armed_for (record { due = Some 1_000_001_000; period = 300 })) 0 ≡ done at_1000 1
  unfolding alarm armed_for at_1000
  alarm_off = refl

  alarm_on : alarm at_1000 3 ≡ done (armed_for (record { due = Some 3_000_001_000; period = 0 })) 0
  unfolding alarm armed_for at_1000
  alarm_on = refl

  -- getitimer

  shows_nothing : read_timer at_1000 0 ≡ done at_1000 (record { left = 0; period = 0 })
  unfolding read_timer at_1000
  shows_nothing = refl

  shows_what_is_left : read_timer (armed_for (record { due = Some 1300; period = 500 })) 0 ≡ done (armed_for (record { due = Some 1300; period = 500 })) (record { left = 300; period = 500 })
  unfolding read_timer armed_for at_1000
  shows_what_is_left = refl

  no_such_timer : read_timer at_1000 1 ≡ refused at_1000 EINVAL
  unfolding read_timer at_1000
  no_such_timer = refl

  -- clock_getres

  of_the_first_clock : resolution at_1000 0 ≡ done at_1000 1
  unfolding resolution at_1000
  of_the_first_clock = refl

  of_no_clock : resolution at_1000 8 ≡ refused at_1000 EINVAL
  unfolding resolution at_1000
  of_no_clock = refl

  -- the clock moves

  without_a_timer : advance at_1000 2000 false ≡ record at_1000 { clock = 2000 }
  unfolding advance at_1000
  without_a_timer = refl

  before_it_is_due : advance (armed_for (record { due = Some 2001; period = 0 })) 2000 false ≡ record at_1000 { clock = 2000; timer = record { due = Some 2001; period = 0 } }
  unfolding advance armed_for at_1000
  before_it_is_due = refl

  -- ALRM is ignored, and the timer is done all the same
  as_it_is_due : advance (record at_1000 { timer = record { due = Some 2000; period = 0 }; signals = ignores_alarm }) 2000 false
      ≡ record at_1000 { clock = 2000; signals = ignores_alarm }
  unfolding advance post ignores_alarm at_1000
  as_it_is_due = refl

  -- ppoll and pselect: the mask comes before the count, and that before what is asked for

  asks_input : PollEntry
  asks_input = record { fd = Some 0; events = record no_events { input = true } }

  ppoll_mask_size : poll at_1000 (masked_wait (Ok None) 8 (Some (Err EFAULT))) 1025 (Err EFAULT) ≡ refused at_1000 EINVAL
  unfolding poll at_1000
  ppoll_mask_size = refl

  ppoll_mask_unreadable : poll at_1000 (masked_wait (Ok None) 16 (Some (Err EFAULT))) 1025 (Err EFAULT) ≡ refused at_1000 EFAULT
  unfolding poll at_1000
  ppoll_mask_unreadable = refl

  ppoll_answers : poll at_1000 (masked_wait (Ok None) 16 (Some (Ok no_signals))) 1 (Ok (asks_input ∷ [])) ≡ done at_1000 (record no_events { input = true } ∷ [])
  unfolding poll at_1000 asks_input ready
  ppoll_answers = refl

  pselect_mask_size : select at_1000 (masked_wait (Ok None) 8 (Some (Ok no_signals))) (pos 6) (Err EFAULT) ≡ refused at_1000 EINVAL
  unfolding select at_1000
  pselect_mask_size = refl

  pselect_mask_unreadable : select at_1000 (masked_wait (Ok None) 16 (Some (Err EFAULT))) (pos 6) (Err EFAULT) ≡ refused at_1000 EFAULT
  unfolding select at_1000
  pselect_mask_unreadable = refl

  pselect_closed : select at_1000 (masked_wait (Ok None) 8 None) (pos 6) (Ok (record { read = 2 ∷ []; write = []; except = [] })) ≡ refused at_1000 EBADF
  unfolding select at_1000
  pselect_closed = refl

  pselect_waits : select at_1000 (masked_wait (Ok (Some 50)) 8 None) (pos 6) (Ok (record { read = 3 ∷ []; write = []; except = [] })) ≡ waits at_1000 (Some 1050)
  unfolding select at_1000 ready
  pselect_waits = refl
