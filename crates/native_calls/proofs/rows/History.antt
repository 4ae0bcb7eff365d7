-- Worked rows on histories: entries of a log, and the moments to which they lead.
use Rattle.std.proofs.Common.{arith}
use Rattle.std.specs.Prelude.{◌≡◌, ◌≤◌, ℕ, true, false, List, [], ◌∷◌, ◌++◌, codes, slice_set, Some, refl}
use Rattle.kernel_core.specs.Nodes.{Nodes}
use Rattle.kernel_core.specs.declared.log_entry.LogEntry.TheVariants as entries
use Rattle.kernel_core.specs.declared.signal.Sig.{Sig}
use Rattle.kernel_core.specs.declared.signal.Sig.TheVariants.{Alrm, RealTime}
use Rattle.kernel_model.specs.Begin.{first_signals}
use Rattle.kernel_model.specs.Clock.{unarmed}
use Rattle.kernel_model.specs.Pipes.{Sent}
use Rattle.kernel_model.specs.Shared.{Info}
use Rattle.kernel_model.specs.SignalRows.{advance, appended, no_action, post, scheduled_info, si_queue, timer_info, with_signals}
use Rattle.kernel_model.specs.SignalSets.{place}
use Rattle.kernel_model.specs.State.{Kernel, Signals, Timer}
use Rattle.kernel_model.specs.Transfers.{write}
use Rattle.kernel_model.specs.Whole.{kernel_write, with_files}
use Rattle.native_calls.proofs.rows.Small.{after_moving, at_first, number, six}
use Rattle.native_calls.specs.History.{Follows, Leads, Moment, moment}
use Rattle.native_calls.specs.Transfers.{write_row}

module _ (whole : Kernel) (nodes : Nodes) where
  -- "a" was sent to the output so far
  abbrev sent : Sent
  sent = record { out = codes "a"; err = [] }

  -- The clock: ALRM is ignored, and the timer is due at 2000.

  ignoring : Signals
  ignoring = record first_signals { actions = slice_set first_signals.actions (place Alrm) (record no_action { handler = 1 }) }

  abbrev due_at_2000 : Timer
  due_at_2000 = record { due = Some 2000; period = 0 }

  abbrev at_time : ℕ → Timer → Signals → Moment
  at_time clock timer signals = moment (record whole { clock = clock; timer = timer; signals = signals }) (7 ∷ []) sent

  -- where a wait names ALRM it pends
  goes_off_for_a_wait : Follows (at_time 1000 due_at_2000 ignoring) (entries.Clock 2000) (at_time 2000 unarmed (appended ignoring timer_info))
  unfolding advance post ignoring
  goes_off_for_a_wait = record { kept = true; later = omega arith; became = refl; rest = refl; silent = refl }

  -- and else it is gone
  goes_off_for_nothing : Follows (at_time 1000 due_at_2000 ignoring) (entries.Clock 2000) (at_time 2000 unarmed ignoring)
  unfolding advance post ignoring
  goes_off_for_nothing = record { kept = false; later = omega arith; became = refl; rest = refl; silent = refl }

  not_due : Follows (at_time 1000 due_at_2000 ignoring) (entries.Clock 1999) (at_time 1999 due_at_2000 ignoring)
  unfolding advance
  not_due = record { kept = false; later = omega arith; became = refl; rest = refl; silent = refl }

  never_back : (to : Moment) → Follows (at_time 1000 due_at_2000 ignoring) (entries.Clock 999) to → ⊥
  never_back to follows = let back : 1000 ≤ 999 = follows.later in omega (arith, back)

  -- Posts: two of the real-time signal 34, each with its value, are queued in their order.

  thirty_four : Sig
  thirty_four = RealTime (record { number = 34; in_range = refl })

  abbrev queued : ℕ → Info
  queued value = scheduled_info thirty_four (Some value)

  abbrev pending : Signals → Moment
  pending signals = moment (with_signals whole signals) [] sent

  two_queued : Leads (pending first_signals) (entries.Post thirty_four si_queue 5 ∷ entries.Post thirty_four si_queue 6 ∷ [])
      (pending (appended (appended first_signals (queued 5)) (queued 6)))
  unfolding post thirty_four
  two_queued = (
    pending (appended first_signals (queued 5)),
    record { kept = false; given = Some 5; coded = refl; valued = refl; became = refl; rest = refl; silent = refl },
    (
      pending (appended (appended first_signals (queued 5)) (queued 6)),
      record { kept = false; given = Some 6; coded = refl; valued = refl; became = refl; rest = refl; silent = refl },
      refl,
    ),
  )

  -- A call: what it writes to the output comes behind what was sent.
  says_hi : Follows (moment (with_files whole (at_first nodes)) [] sent) (entries.Call 64 (six 1 65536 2 0) (codes "Hi") (codes "Hi") (number 2))
      (moment (with_files whole (after_moving (at_first nodes) 0 2 0)) [] (record { out = codes "aHi"; err = [] }))
  unfolding write_row kernel_write write
  says_hi = record { replied = refl; stored = refl; became = refl; rest = refl; told = refl }
