-- Worked rows on signals, from the first state of signals. TERM is 15, USR1 10, KILL 9, ABRT 6, CONT 18.
use Rattle.std.specs.Prelude.{◌≡◌, ℕ, ◌+◌, ◌-◌, ◌^◌, pos, negsuc, true, false, List, [], ◌∷◌, ◌++◌, map, replicate, slice_set, Some, None, refl}
use Rattle.kernel_core.specs.declared.reply.Reply.{Reply}
use Rattle.kernel_core.specs.declared.reply.Reply.TheVariants as replies
use Rattle.kernel_core.specs.declared.signal.Sig.{Sig}
use Rattle.kernel_core.specs.declared.signal.Sig.TheVariants.{Kill, Stop, Term, Usr1, RealTime}
use Rattle.kernel_model.specs.Begin.{first_signals}
use Rattle.kernel_model.specs.Pipes.{nothing}
use Rattle.kernel_model.specs.SignalRows.{accept, after_action, appended, change_mask, info_of, kill, kill_info, kill_thread, kill_thread_of, no_action, pending, post, queue, set_action, set_stack, si_queue, suspend, tkill_info, with_pending}
use Rattle.kernel_model.specs.SignalSets.{only, place}
use Rattle.kernel_model.specs.State.{Kernel, Signals}
use Rattle.kernel_model.specs.declared.signal.Action.{Action}
use Rattle.layouts.specs.Termios.{count_up}
use Rattle.native_calls.proofs.rows.Small.{error, number, six, u32, u64, zeros}
use Rattle.native_calls.specs.Signals.{kill_row, native_order, rt_sigaction_row, rt_sigpending_row, rt_sigprocmask_row, rt_sigqueueinfo_row, rt_sigsuspend_row, rt_sigtimedwait_row, sigaltstack_row, tgkill_row, tkill_row}
use Rattle.native_calls.specs.Step.{NativeStep}
use Rattle.native_calls.specs.Table.{native_call}
use Rattle.number_tables.specs.Signals.{native_signal, real_time, real_time_if}
use Rattle.signal_sets.specs.NativeSets.{bits_where, native_of, set_of_native}

-- all signals stand in the order in which they are accepted, each once
order : map native_signal native_order ≡ count_up 1 128
unfolding native_order real_time real_time_if
order = refl

module _ (whole : Kernel) where
  abbrev with : Signals → Kernel
  with signals = record whole { signals = signals; clock = 1000 }

  abbrev from : Kernel
  from = with first_signals

  abbrev call_with : Signals → ℕ → List ℕ → List ℕ → NativeStep
  call_with signals number args memory = native_call number args (with signals) memory []

  abbrev call : ℕ → List ℕ → List ℕ → NativeStep
  call number args memory = call_with first_signals number args memory

  abbrev leaves : Signals → List ℕ → Reply → NativeStep
  leaves signals memory reply = record { kernel = with signals; left = []; memory = memory; sent = nothing; reply = reply }

  abbrev refuses : List ℕ → ℕ → NativeStep
  refuses memory value = leaves first_signals memory (error value)

  -- kill

  term_pends : Signals
  term_pends = appended first_signals (kill_info Term)

  kill_itself : call 129 (six 100 15 0 0) [] ≡ leaves term_pends [] (number 0)
  unfolding kill_row kill post term_pends
  kill_itself = refl

  -- its group, whose id has the sign turned
  kill_group : call 129 (six (2 ^ 64 - 100) 15 0 0) [] ≡ leaves term_pends [] (number 0)
  unfolding kill_row kill post term_pends
  kill_group = refl

  kill_nothing : call 129 (six 0 0 0 0) [] ≡ leaves first_signals [] (number 0)
  unfolding kill_row kill
  kill_nothing = refl

  kill_another : call 129 (six 101 129 0 0) [] ≡ refuses [] 3
  unfolding kill_row kill
  kill_another = refl

  kill_by_129 : call 129 (six 100 129 0 0) [] ≡ refuses [] 22
  unfolding kill_row kill real_time real_time_if
  kill_by_129 = refl

  forty : Sig
  forty = RealTime (record { number = 40; in_range = refl })

  full : Signals
  full = with_pending first_signals forty (replicate 1024 (kill_info forty))

  kill_when_full : call_with full 129 (six 100 40 0 0) [] ≡ leaves full [] (error 11)
  unfolding kill_row kill post full forty real_time real_time_if
  kill_when_full = refl

  -- of the pid and the number the low 32 bits count
  kill_by_low_words : call 129 (six (2 ^ 32 - 100) (2 ^ 32 + 15) 0 0) [] ≡ leaves term_pends [] (number 0)
  unfolding kill_row kill post term_pends
  kill_by_low_words = refl

  -- tkill and tgkill

  kill_thread_itself : call 130 (six 100 15 0 0) [] ≡ leaves (appended first_signals (tkill_info Term)) [] (number 0)
  unfolding tkill_row kill_thread post
  kill_thread_itself = refl

  kill_thread_0 : call 130 (six 0 15 0 0) [] ≡ refuses [] 22
  unfolding tkill_row kill_thread
  kill_thread_0 = refl

  kill_thread_99 : call 130 (six 99 15 0 0) [] ≡ refuses [] 3
  unfolding tkill_row kill_thread
  kill_thread_99 = refl

  kill_thread_by_nothing : call 130 (six 100 0 0 0) [] ≡ leaves first_signals [] (number 0)
  unfolding tkill_row kill_thread
  kill_thread_by_nothing = refl

  kill_thread_by_129 : call 130 (six 100 129 0 0) [] ≡ refuses [] 22
  unfolding tkill_row kill_thread real_time real_time_if
  kill_thread_by_129 = refl

  kill_thread_by_low_words : call 130 (six (2 ^ 32 + 100) (2 ^ 32 + 15) 0 0) [] ≡ leaves (appended first_signals (tkill_info Term)) [] (number 0)
  unfolding tkill_row kill_thread post
  kill_thread_by_low_words = refl

  kill_thread_when_full : call_with full 130 (six 100 40 0 0) [] ≡ leaves full [] (error 11)
  unfolding tkill_row kill_thread post full forty real_time real_time_if
  kill_thread_when_full = refl

  kill_thread_of_itself : call 131 (six 100 100 15 0) [] ≡ leaves (appended first_signals (tkill_info Term)) [] (number 0)
  unfolding tgkill_row kill_thread_of post
  kill_thread_of_itself = refl

  kill_thread_below_zero : call 131 (six 100 (2 ^ 64 - 1) 15 0) [] ≡ refuses [] 22
  unfolding tgkill_row kill_thread_of
  kill_thread_below_zero = refl

  kill_thread_of_99 : call 131 (six 99 100 15 0) [] ≡ refuses [] 3
  unfolding tgkill_row kill_thread_of
  kill_thread_of_99 = refl

  kill_thread_of_by_nothing : call 131 (six 100 100 0 0) [] ≡ leaves first_signals [] (number 0)
  unfolding tgkill_row kill_thread_of
  kill_thread_of_by_nothing = refl

  kill_thread_of_by_129 : call 131 (six 100 100 129 0) [] ≡ refuses [] 22
  unfolding tgkill_row kill_thread_of real_time real_time_if
  kill_thread_of_by_129 = refl

  kill_thread_of_by_low_words : call 131 (six (2 ^ 32 + 100) (2 ^ 32 + 100) (2 ^ 32 + 15) 0) [] ≡ leaves (appended first_signals (tkill_info Term)) [] (number 0)
  unfolding tgkill_row kill_thread_of post
  kill_thread_of_by_low_words = refl

  kill_thread_of_when_full : call_with full 131 (six 100 100 40 0) [] ≡ leaves full [] (error 11)
  unfolding tgkill_row kill_thread_of post full forty real_time real_time_if
  kill_thread_of_when_full = refl

  -- rt_sigqueueinfo: signo, errno, code, 4 bytes of nothing, pid, uid, value, and nothing up to 128 bytes

  abbrev sent : ℕ → ℕ → ℕ → ℕ → ℕ → ℕ → List ℕ
  sent signo errno code pid uid value = u32 signo ++ u32 errno ++ u32 code ++ zeros 4 ++ u32 pid ++ u32 uid ++ u64 value ++ zeros 96

  -- of the value the low 32 bits are kept; the number in the structure says nothing
  queued : call 138 (six 100 15 65536 0) (sent 99 5 (2 ^ 32 - 1) 7 8 (2 ^ 32 + 9))
      ≡ leaves (appended first_signals (record (info_of Term si_queue 7 9) { errno = pos 5; uid = 8 })) (sent 99 5 (2 ^ 32 - 1) 7 8 (2 ^ 32 + 9)) (number 0)
  unfolding rt_sigqueueinfo_row queue post
  queued = refl

  -- SI_TIMER, -2 here, is kept as -3
  queued_by_timer : call 138 (six 100 15 65536 0) (sent 0 0 (2 ^ 32 - 2) 0 0 0)
      ≡ leaves (appended first_signals (info_of Term (negsuc 2) 0 0)) (sent 0 0 (2 ^ 32 - 2) 0 0 0) (number 0)
  unfolding rt_sigqueueinfo_row queue post
  queued_by_timer = refl

  -- of the pid and the number the low 32 bits count; bytes 12 to 15 of the structure, and those behind the value, say nothing
  queued_by_low_words : call 138 (six (2 ^ 32 + 100) (2 ^ 32 + 15) 65536 0) (replicate 8 0 ++ u32 (2 ^ 32 - 1) ++ replicate 4 255 ++ u32 7 ++ u32 8 ++ u64 9 ++ replicate 96 255)
      ≡ leaves (appended first_signals (record (info_of Term si_queue 7 9) { uid = 8 }))
      (replicate 8 0 ++ u32 (2 ^ 32 - 1) ++ replicate 4 255 ++ u32 7 ++ u32 8 ++ u64 9 ++ replicate 96 255) (number 0)
  unfolding rt_sigqueueinfo_row queue post
  queued_by_low_words = refl

  queue_when_full : call_with full 138 (six 100 40 65536 0) (zeros 128) ≡ leaves full (zeros 128) (error 11)
  unfolding rt_sigqueueinfo_row queue post full forty real_time real_time_if
  queue_when_full = refl

  queue_to_group : call 138 (six 0 129 0 0) [] ≡ refuses [] 3
  unfolding rt_sigqueueinfo_row queue
  queue_to_group = refl

  queue_129 : call 138 (six 100 129 0 0) [] ≡ refuses [] 22
  unfolding rt_sigqueueinfo_row queue real_time real_time_if
  queue_129 = refl

  queue_unreadable : call 138 (six 100 0 65536 0) (zeros 127) ≡ refuses (zeros 127) 14
  unfolding rt_sigqueueinfo_row queue
  queue_unreadable = refl

  -- rt_sigaction: handler, flags, mask. Of the flags SIGINFO, RESTART and 0x04000000 the last has no name, and of the mask KILL is dropped.

  abbrev action : ℕ → ℕ → ℕ → ℕ → List ℕ
  action handler flags low high = u64 handler ++ u64 flags ++ u64 low ++ u64 high

  wanted : List ℕ
  wanted = action 4096 0x14000004 (2 ^ 14 + 2 ^ 8) 1

  caught : Action
  caught = record {
    handler = 4096;
    flags = record { nocldstop = false; siginfo = true; nocldwait = false; onstack = false; restart = true; nodefer = false; resethand = false };
    mask = (2 ^ 14 + 2 ^ 8) ∷ 0 ∷ 1 ∷ 0 ∷ [];
  }

  acts : Signals
  acts = after_action first_signals Usr1 caught

  action_set : call 134 (six 10 65536 65568 16) (wanted ++ replicate 32 7) ≡ leaves acts (wanted ++ zeros 32) (number 0)
  unfolding rt_sigaction_row set_action wanted caught acts set_of_native native_of bits_where real_time real_time_if
  action_set = refl

  action_told : call_with acts 134 (six 10 0 65536 16) (replicate 32 7) ≡ leaves acts (action 4096 0x10000004 (2 ^ 14) 1) (number 0)
  unfolding rt_sigaction_row set_action caught acts native_of bits_where real_time real_time_if
  action_told = refl

  -- a new action that ignores the signal removes what pends
  usr1_pends : Signals
  usr1_pends = appended first_signals (tkill_info Usr1)

  action_ignores : call_with usr1_pends 134 (six 10 65536 0 16) (action 1 0 0 0)
      ≡ leaves (record first_signals { actions = slice_set first_signals.actions (place Usr1) (record no_action { handler = 1 }) }) (action 1 0 0 0) (number 0)
  unfolding rt_sigaction_row set_action usr1_pends set_of_native native_of bits_where real_time real_time_if
  action_ignores = refl

  -- no flag stands above the low 32 bits
  action_with_high_flags : call 134 (six 10 65536 0 16) (action 4096 (2 ^ 63 + 2 ^ 32 + 4) 0 0)
      ≡ leaves (after_action first_signals Usr1 (record no_action { handler = 4096; flags = record no_action.flags { siginfo = true } }))
      (action 4096 (2 ^ 63 + 2 ^ 32 + 4) 0 0) (number 0)
  unfolding rt_sigaction_row set_action set_of_native native_of bits_where real_time real_time_if
  action_with_high_flags = refl

  -- of the signal's number the low 32 bits count, and of the size all 64

  action_of_low_word : call 134 (six (2 ^ 32 + 9) 0 0 16) [] ≡ leaves first_signals [] (number 0)
  unfolding rt_sigaction_row set_action
  action_of_low_word = refl

  action_by_long_size : call 134 (six 10 0 0 (2 ^ 32 + 16)) [] ≡ refuses [] 22
  unfolding rt_sigaction_row set_action
  action_by_long_size = refl

  -- what was there of KILL may be asked for
  action_of_kill : call 134 (six 9 0 0 16) [] ≡ leaves first_signals [] (number 0)
  unfolding rt_sigaction_row set_action
  action_of_kill = refl

  action_for_kill : call 134 (six 9 1 0 16) [] ≡ refuses [] 22
  unfolding rt_sigaction_row set_action
  action_for_kill = refl

  -- nor does STOP get one, 19 here
  action_for_stop : call 134 (six 19 1 0 16) [] ≡ refuses [] 22
  unfolding rt_sigaction_row set_action
  action_for_stop = refl

  action_of_0 : call 134 (six 0 1 0 16) [] ≡ refuses [] 22
  unfolding rt_sigaction_row set_action real_time real_time_if
  action_of_0 = refl

  action_of_129 : call 134 (six 129 1 0 16) [] ≡ refuses [] 22
  unfolding rt_sigaction_row set_action real_time real_time_if
  action_of_129 = refl

  action_by_8 : call 134 (six 10 1 0 8) [] ≡ refuses [] 22
  unfolding rt_sigaction_row set_action
  action_by_8 = refl

  action_unreadable : call 134 (six 10 65536 0 16) (zeros 31) ≡ refuses (zeros 31) 14
  unfolding rt_sigaction_row set_action
  action_unreadable = refl

  -- the action is set also where the old one can't be stored
  old_action_outside : call 134 (six 10 65536 1 16) wanted ≡ leaves acts wanted (error 14)
  unfolding rt_sigaction_row set_action wanted caught acts set_of_native native_of bits_where real_time real_time_if
  old_action_outside = refl

  -- rt_sigprocmask: 0 blocks, 1 unblocks, 2 sets

  blocks : List ℕ → Signals
  blocks mask = record first_signals { mask = mask }

  -- STOP is 19 here, and no mask holds it
  blocked : call_with (blocks (only Usr1)) 135 (six 0 65536 65552 16) (u64 (2 ^ 14 + 2 ^ 18) ++ u64 1 ++ replicate 16 7)
      ≡ leaves (blocks ((2 ^ 14 + 2 ^ 15) ∷ 0 ∷ 1 ∷ 0 ∷ [])) (u64 (2 ^ 14 + 2 ^ 18) ++ u64 1 ++ u64 (2 ^ 9) ++ u64 0) (number 0)
  unfolding rt_sigprocmask_row change_mask blocks set_of_native native_of bits_where real_time real_time_if
  blocked = refl

  unblocked : call_with (blocks (only Usr1)) 135 (six 1 65536 0 16) (u64 (2 ^ 9) ++ u64 0) ≡ leaves (blocks (0 ∷ 0 ∷ 0 ∷ 0 ∷ [])) (u64 (2 ^ 9) ++ u64 0) (number 0)
  unfolding rt_sigprocmask_row change_mask blocks set_of_native native_of bits_where real_time real_time_if
  unblocked = refl

  mask_set : call_with (blocks (only Usr1)) 135 (six 2 65536 0 16) (u64 (2 ^ 14) ++ u64 0) ≡ leaves (blocks (only Term)) (u64 (2 ^ 14) ++ u64 0) (number 0)
  unfolding rt_sigprocmask_row change_mask blocks set_of_native native_of bits_where real_time real_time_if
  mask_set = refl

  -- without a set the kind may be any
  mask_told : call_with (blocks (only Usr1)) 135 (six 9 0 65536 16) (replicate 16 7) ≡ leaves (blocks (only Usr1)) (u64 (2 ^ 9) ++ u64 0) (number 0)
  unfolding rt_sigprocmask_row change_mask blocks native_of bits_where real_time real_time_if
  mask_told = refl

  mask_by_3 : call 135 (six 3 1 0 16) [] ≡ refuses [] 22
  unfolding rt_sigprocmask_row change_mask
  mask_by_3 = refl

  mask_of_8 : call 135 (six 0 1 0 8) [] ≡ refuses [] 22
  unfolding rt_sigprocmask_row change_mask
  mask_of_8 = refl

  -- of the kind the low 32 bits count, and of the size all 64

  mask_set_by_low_word : call_with (blocks (only Usr1)) 135 (six (2 ^ 32 + 2) 65536 0 16) (u64 (2 ^ 14) ++ u64 0) ≡ leaves (blocks (only Term)) (u64 (2 ^ 14) ++ u64 0) (number 0)
  unfolding rt_sigprocmask_row change_mask blocks set_of_native native_of bits_where real_time real_time_if
  mask_set_by_low_word = refl

  mask_of_long_size : call 135 (six 0 0 0 (2 ^ 32 + 16)) [] ≡ refuses [] 22
  unfolding rt_sigprocmask_row change_mask
  mask_of_long_size = refl

  mask_unreadable : call 135 (six 0 65536 0 16) (zeros 15) ≡ refuses (zeros 15) 14
  unfolding rt_sigprocmask_row change_mask
  mask_unreadable = refl

  old_mask_outside : call 135 (six 2 65536 1 16) (u64 (2 ^ 14) ++ u64 0) ≡ leaves (blocks (only Term)) (u64 (2 ^ 14) ++ u64 0) (error 14)
  unfolding rt_sigprocmask_row change_mask blocks set_of_native native_of bits_where real_time real_time_if
  old_mask_outside = refl

  -- rt_sigpending

  pends : call_with term_pends 136 (six 65536 16 0 0) (replicate 16 7) ≡ leaves term_pends (u64 (2 ^ 14) ++ u64 0) (number 0)
  unfolding rt_sigpending_row pending term_pends native_of bits_where real_time real_time_if
  pends = refl

  pends_by_8 : call 136 (six 65536 8 0 0) [] ≡ refuses [] 22
  unfolding rt_sigpending_row pending
  pends_by_8 = refl

  pends_by_long_size : call 136 (six 65536 (2 ^ 32 + 16) 0 0) [] ≡ refuses [] 22
  unfolding rt_sigpending_row pending
  pends_by_long_size = refl

  pends_at_null : call 136 (six 0 16 0 0) [] ≡ refuses [] 14
  unfolding rt_sigpending_row pending native_of bits_where real_time real_time_if
  pends_at_null = refl

  -- rt_sigtimedwait: of TERM, 15, and USR1, 10, the lower number comes first, though USR1 has the higher one for an o32 program

  both : List ℕ
  both = u64 (2 ^ 14 + 2 ^ 9) ++ u64 0

  both_pend : Signals
  both_pend = appended term_pends (tkill_info Usr1)

  accepts_usr1 : call_with both_pend 137 (six 65536 65552 0 16) (both ++ replicate 129 7)
      ≡ leaves (with_pending both_pend Usr1 []) (both ++ sent 10 0 (2 ^ 32 - 6) 100 0 0 ++ 7 ∷ []) (number 10)
  unfolding rt_sigtimedwait_row accept both both_pend term_pends native_order set_of_native bits_where real_time real_time_if
  accepts_usr1 = refl

  accepts_at_null : call_with both_pend 137 (six 65536 0 0 16) both ≡ leaves (with_pending both_pend Usr1 []) both (number 10)
  unfolding rt_sigtimedwait_row accept both both_pend term_pends native_order set_of_native bits_where real_time real_time_if
  accepts_at_null = refl

  -- it is gone also where what is known of it can't be stored
  accepts_outside : call_with both_pend 137 (six 65536 65537 0 16) both ≡ leaves (with_pending both_pend Usr1 []) both (error 14)
  unfolding rt_sigtimedwait_row accept both both_pend term_pends native_order set_of_native bits_where real_time real_time_if
  accepts_outside = refl

  kill_pends : Signals
  kill_pends = appended first_signals (kill_info Kill)

  accepts_kill : call_with kill_pends 137 (six 65536 0 0 16) (u64 (2 ^ 8) ++ u64 0) ≡ leaves (with_pending kill_pends Kill []) (u64 (2 ^ 8) ++ u64 0) (number 9)
  unfolding rt_sigtimedwait_row accept kill_pends native_order set_of_native bits_where real_time real_time_if
  accepts_kill = refl

  -- and STOP, 19 here
  stop_pends : Signals
  stop_pends = appended first_signals (kill_info Stop)

  accepts_stop : call_with stop_pends 137 (six 65536 0 0 16) (u64 (2 ^ 18) ++ u64 0) ≡ leaves (with_pending stop_pends Stop []) (u64 (2 ^ 18) ++ u64 0) (number 19)
  unfolding rt_sigtimedwait_row accept stop_pends native_order set_of_native bits_where real_time real_time_if
  accepts_stop = refl

  -- of two that are queued the first goes, and the second stays
  two_queued : Signals
  two_queued = appended (appended first_signals (info_of forty si_queue 7 5)) (info_of forty si_queue 7 6)

  accepts_first : call_with two_queued 137 (six 65536 65552 0 16) (u64 (2 ^ 39) ++ u64 0 ++ zeros 128)
      ≡ leaves (appended first_signals (info_of forty si_queue 7 6)) (u64 (2 ^ 39) ++ u64 0 ++ sent 40 0 (2 ^ 32 - 1) 7 0 5) (number 40)
  unfolding rt_sigtimedwait_row accept two_queued forty native_order set_of_native bits_where real_time real_time_if
  accepts_first = refl

  -- a code that is kept as -3 is SI_TIMER, -2 here
  sent_by_timer : Signals
  sent_by_timer = appended first_signals (info_of Usr1 (negsuc 2) 7 9)

  accepts_from_timer : call_with sent_by_timer 137 (six 65536 65552 0 16) (both ++ zeros 128)
      ≡ leaves first_signals (both ++ sent 10 0 (2 ^ 32 - 2) 7 0 9) (number 10)
  unfolding rt_sigtimedwait_row accept both sent_by_timer native_order set_of_native bits_where real_time real_time_if
  accepts_from_timer = refl

  -- none pends, and there is no time
  accepts_without_end : call 137 (six 65536 1 0 16) both ≡ leaves first_signals both (replies.Sleep (record { done = 0; until = None }))
  unfolding rt_sigtimedwait_row accept both native_order set_of_native bits_where real_time real_time_if
  accepts_without_end = refl

  -- none pends: the time stands behind the set
  accepts_later : call 137 (six 65536 1 65552 16) (both ++ u64 0 ++ u64 5) ≡ leaves first_signals (both ++ u64 0 ++ u64 5) (replies.Sleep (record { done = 0; until = Some 1005 }))
  unfolding rt_sigtimedwait_row accept both native_order set_of_native bits_where real_time real_time_if
  accepts_later = refl

  accepts_none : call 137 (six 65536 1 65552 16) (both ++ u64 0 ++ u64 0) ≡ refuses (both ++ u64 0 ++ u64 0) 11
  unfolding rt_sigtimedwait_row accept both native_order set_of_native bits_where real_time real_time_if
  accepts_none = refl

  accepts_below_zero : call_with both_pend 137 (six 65536 1 65552 16) (both ++ u64 (2 ^ 64 - 1) ++ u64 0) ≡ leaves both_pend (both ++ u64 (2 ^ 64 - 1) ++ u64 0) (error 22)
  unfolding rt_sigtimedwait_row accept both
  accepts_below_zero = refl

  accepts_unreadable : call 137 (six 0 1 65536 16) [] ≡ refuses [] 14
  unfolding rt_sigtimedwait_row accept
  accepts_unreadable = refl

  accept_time_unreadable : call 137 (six 65536 1 65537 16) (zeros 16) ≡ refuses (zeros 16) 14
  unfolding rt_sigtimedwait_row accept
  accept_time_unreadable = refl

  accepts_by_8 : call 137 (six 0 1 65536 8) [] ≡ refuses [] 22
  unfolding rt_sigtimedwait_row accept
  accepts_by_8 = refl

  accepts_by_long_size : call 137 (six 0 1 65536 (2 ^ 32 + 16)) [] ≡ refuses [] 22
  unfolding rt_sigtimedwait_row accept
  accepts_by_long_size = refl

  -- rt_sigsuspend: the mask is read and has no effect

  suspends : call 133 (six 65536 16 0 0) (replicate 16 255) ≡ leaves first_signals (replicate 16 255) (replies.Sleep (record { done = 0; until = None }))
  unfolding rt_sigsuspend_row suspend
  suspends = refl

  suspends_unreadable : call 133 (six 0 16 0 0) [] ≡ refuses [] 14
  unfolding rt_sigsuspend_row suspend
  suspends_unreadable = refl

  suspends_by_15 : call 133 (six 0 15 0 0) [] ≡ refuses [] 22
  unfolding rt_sigsuspend_row suspend
  suspends_by_15 = refl

  suspends_by_long_size : call 133 (six 0 (2 ^ 32 + 16) 0 0) [] ≡ refuses [] 22
  unfolding rt_sigsuspend_row suspend
  suspends_by_long_size = refl

  -- sigaltstack: sp, flags, 4 bytes of nothing, size; at first it is disabled

  abbrev stack : ℕ → ℕ → ℕ → List ℕ
  stack sp flags size = u64 sp ++ u32 flags ++ zeros 4 ++ u64 size

  abbrev with_stack : Signals
  with_stack = record first_signals { stack = record { sp = 2 ^ 40; size = 2048; flags = 0 } }

  stack_set : call 132 (six 65536 65560 0 0) (stack (2 ^ 40) 1 2048 ++ replicate 24 7) ≡ leaves with_stack (stack (2 ^ 40) 1 2048 ++ stack 0 2 0) (number 0)
  unfolding sigaltstack_row set_stack
  stack_set = refl

  stack_disabled : call_with with_stack 132 (six 65536 65560 0 0) (stack 5 2 5 ++ replicate 24 7) ≡ leaves first_signals (stack 5 2 5 ++ stack (2 ^ 40) 0 2048) (number 0)
  unfolding sigaltstack_row set_stack
  stack_disabled = refl

  -- bytes 12 to 15 say nothing
  stack_with_padding : call 132 (six 65536 0 0 0) (u64 (2 ^ 40) ++ u32 0 ++ replicate 4 255 ++ u64 2048) ≡ leaves with_stack (u64 (2 ^ 40) ++ u32 0 ++ replicate 4 255 ++ u64 2048) (number 0)
  unfolding sigaltstack_row set_stack
  stack_with_padding = refl

  stack_told : call_with with_stack 132 (six 0 65536 0 0) (replicate 24 7) ≡ leaves with_stack (stack (2 ^ 40) 0 2048) (number 0)
  unfolding sigaltstack_row set_stack
  stack_told = refl

  stack_unreadable : call 132 (six 65536 0 0 0) (zeros 23) ≡ refuses (zeros 23) 14
  unfolding sigaltstack_row set_stack
  stack_unreadable = refl

  stack_with_flag_3 : call 132 (six 65536 0 0 0) (stack 0 3 0) ≡ refuses (stack 0 3 0) 22
  unfolding sigaltstack_row set_stack
  stack_with_flag_3 = refl

  stack_with_flag_4 : call 132 (six 65536 0 0 0) (stack 0 4 4096) ≡ refuses (stack 0 4 4096) 22
  unfolding sigaltstack_row set_stack
  stack_with_flag_4 = refl

  stack_too_small : call 132 (six 65536 0 0 0) (stack 0 0 2047) ≡ refuses (stack 0 0 2047) 12
  unfolding sigaltstack_row set_stack
  stack_too_small = refl

  -- it is set also where the old one can't be stored
  old_stack_outside : call 132 (six 65536 1 0 0) (stack (2 ^ 40) 0 2048) ≡ leaves with_stack (stack (2 ^ 40) 0 2048) (error 14)
  unfolding sigaltstack_row set_stack
  old_stack_outside = refl
