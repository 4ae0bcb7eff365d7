-- Worked rows on signals, from the first state of signals, and on how waits for signals end.
use Rattle.std.specs.Prelude.{◌≡◌, ℕ, pos, negsuc, true, false, List, [], ◌∷◌, ◌++◌, replicate, slice_set, Option, Some, None, refl}
use Rattle.std.specs.FinMap.{get}
use Rattle.guest_space.specs.Access.{first_denied, refusal}
use Rattle.guest_space.specs.Bytes.{bytes_at, copied_out}
use Rattle.guest_space.specs.Memory.{Memory}
use Rattle.guest_space.specs.declared.access.Access.TheVariants.{Load, Store}
use Rattle.guest_space.specs.declared.access.Denied.{Denied}
use Rattle.guest_space.specs.declared.access.Why.TheVariants.{Forbidden}
use Rattle.kernel_core.specs.declared.error.Errno.{Errno}
use Rattle.kernel_core.specs.declared.error.Errno.TheVariants.{EAGAIN, EFAULT, EINTR, EINVAL, ENOMEM, EPERM, ESRCH}
use Rattle.kernel_core.specs.declared.signal.Sig.{Sig}
use Rattle.kernel_core.specs.declared.signal.Sig.TheVariants.{Alrm, Kill, Usr1, RealTime}
use Rattle.kernel_model.specs.Begin.{first_signals}
use Rattle.kernel_model.specs.Pipes.{nothing}
use Rattle.kernel_model.specs.Shared.{Info}
use Rattle.kernel_model.specs.SignalRows.{accept, appended, change_mask, kill, kill_info, kill_thread, kill_thread_of, no_action, no_stack, pause, pending, post, queue, scheduled_info, set_action, set_stack, suspend, tkill_info, with_mask, with_pending}
use Rattle.kernel_model.specs.SignalSets.{SignalSet}
use Rattle.kernel_model.specs.State.{Kernel, Signals}
use Rattle.kernel_model.specs.declared.signal.Action.{Action}
use Rattle.kernel_model.specs.declared.signal.SigStack.{SigStack}
use Rattle.layouts.specs.Frames.{frame_context, frame_mask, rt_frame_context, rt_frame_mask, rt_frame_stack}
use Rattle.layouts.specs.Number.{bytes_of}
use Rattle.mips_exec.specs.Processor.{Processor, register}
use Rattle.number_tables.specs.Signals.{real_time, real_time_if}
use Rattle.o32_model.proofs.rows.Small.{words, guest}
use Rattle.o32_model.specs.Actions.{rt_sigaction_row, rt_sigprocmask_row, rt_sigpending_row, sigaltstack_row}
use Rattle.o32_model.specs.Returns.{sigreturn_row, rt_sigreturn_row, with_frame_stack}
use Rattle.o32_model.specs.Sending.{kill_row, tkill_row, tgkill_row, rt_sigqueueinfo_row}
use Rattle.o32_model.specs.SignalWaitEnds.{signal_wait_ended, transfer_ended}
use Rattle.o32_model.specs.Step.{O32Step, wait_of}
use Rattle.o32_model.specs.Suspending.{pause_row, rt_sigsuspend_row, rt_sigtimedwait_row, signals_from}
use Rattle.o32_model.specs.Table.{o32_call}
use Rattle.o32_model.specs.WaitEnds.{ends_with}
use Rattle.o32_model.specs.declared.call_words.CallWords.{CallWords}
use Rattle.o32_model.specs.declared.outcome.Outcome.{Outcome}
use Rattle.o32_model.specs.declared.outcome.Outcome.TheVariants.{Value, Error, Sleep, Frame, BadFrame}
use Rattle.o32_model.specs.declared.wait.Cause.TheVariants.{Due, Accepted, Handler, Stopped}
use Rattle.o32_model.specs.declared.wait.Close.TheVariants as closes
use Rattle.o32_model.specs.declared.wait.Wait.{Wait}
use Rattle.signal_frames.specs.Returning.{returned}

-- a number of 4 bytes
abbrev u32 : ℕ → List ℕ
u32 value = bytes_of true 4 value

-- a set with this first word
abbrev set : ℕ → List ℕ
set first = u32 first ++ u32 0 ++ u32 0 ++ u32 0

thirty_four : Sig
thirty_four = RealTime (record { number = 34; in_range = refl })

module _ (whole : Kernel) (processor : Processor) (memory : Memory) (left : List ℕ) where
  abbrev leaves : Kernel → Memory → Outcome → O32Step
  leaves kernel memory outcome =
      record { kernel = kernel; left = left; memory = memory; processor = processor; sent = nothing; outcome = outcome }

  abbrev in_kernel : Kernel → CallWords → O32Step
  in_kernel kernel call = o32_call kernel (guest call processor memory) left

  -- no signal pends, and the clock stands at 5
  abbrev with_signals : Signals → Kernel
  with_signals signals = record whole { signals = signals; clock = 5 }

  abbrev first : Kernel
  first = with_signals first_signals

  abbrev called : CallWords → O32Step
  called call = in_kernel first call

  abbrev fails : Errno → O32Step
  fails error = leaves first memory (Error error)

  -- after this one was posted
  abbrev posts : Info → O32Step
  posts info = leaves (with_signals (appended first_signals info)) memory (Value 0)

  -- kill, tkill, tgkill

  kill_itself : called (words 4037 100 16 0 0) ≡ posts (kill_info Usr1)
  unfolding kill_row kill post
  kill_itself = refl

  kill_its_group : called (words 4037 0 16 0 0) ≡ posts (kill_info Usr1)
  unfolding kill_row kill post
  kill_its_group = refl

  kill_its_group_by_id : called (words 4037 0xFFFF_FF9C 16 0 0) ≡ posts (kill_info Usr1)
  unfolding kill_row kill post
  kill_its_group_by_id = refl

  kill_with_nothing : called (words 4037 100 0 0 0) ≡ leaves first memory (Value 0)
  unfolding kill_row kill post
  kill_with_nothing = refl

  kill_another : called (words 4037 1 129 0 0) ≡ fails ESRCH
  unfolding kill_row kill post
  kill_another = refl

  -- every other process, of which there is none; also where nothing is sent
  kill_others : called (words 4037 0xFFFF_FFFF 0 0 0) ≡ fails ESRCH
  unfolding kill_row kill post
  kill_others = refl

  kill_unlisted : called (words 4037 100 129 0 0) ≡ fails EINVAL
  unfolding kill_row kill post real_time real_time_if
  kill_unlisted = refl

  -- 1,024 are queued
  abbrev full : Kernel
  full = with_signals (with_pending first_signals thirty_four (replicate 1024 (scheduled_info thirty_four None)))

  kill_full : in_kernel full (words 4037 100 34 0 0) ≡ leaves full memory (Error EAGAIN)
  unfolding kill_row kill post real_time real_time_if thirty_four
  kill_full = refl

  tkill_itself : called (words 4236 100 16 0 0) ≡ posts (tkill_info Usr1)
  unfolding tkill_row kill_thread post
  tkill_itself = refl

  tkill_none : called (words 4236 0 16 0 0) ≡ fails EINVAL
  unfolding tkill_row kill_thread
  tkill_none = refl

  tkill_another : called (words 4236 101 16 0 0) ≡ fails ESRCH
  unfolding tkill_row kill_thread
  tkill_another = refl

  tkill_another_unlisted : called (words 4236 101 129 0 0) ≡ fails ESRCH
  unfolding tkill_row kill_thread real_time real_time_if
  tkill_another_unlisted = refl

  tkill_unlisted : called (words 4236 100 0xFFFF_FFFF 0 0) ≡ fails EINVAL
  unfolding tkill_row kill_thread real_time real_time_if
  tkill_unlisted = refl

  tkill_with_nothing : called (words 4236 100 0 0 0) ≡ leaves first memory (Value 0)
  unfolding tkill_row kill_thread
  tkill_with_nothing = refl

  tgkill_itself : called (words 4266 100 100 16 0) ≡ posts (tkill_info Usr1)
  unfolding tgkill_row kill_thread_of post
  tgkill_itself = refl

  tgkill_none : called (words 4266 100 0xFFFF_FFFF 16 0) ≡ fails EINVAL
  unfolding tgkill_row kill_thread_of
  tgkill_none = refl

  tgkill_another : called (words 4266 101 100 16 0) ≡ fails ESRCH
  unfolding tgkill_row kill_thread_of
  tgkill_another = refl

  -- an id below 1 comes before one of another
  tgkill_another_none : called (words 4266 101 0 129 0) ≡ fails EINVAL
  unfolding tgkill_row kill_thread_of real_time real_time_if
  tgkill_another_none = refl

  tgkill_another_thread : called (words 4266 100 101 129 0) ≡ fails ESRCH
  unfolding tgkill_row kill_thread_of real_time real_time_if
  tgkill_another_thread = refl

  tgkill_unlisted : called (words 4266 100 100 129 0) ≡ fails EINVAL
  unfolding tgkill_row kill_thread_of real_time real_time_if
  tgkill_unlisted = refl

  -- rt_sigqueueinfo: the number in the structure is not looked at

  queue_value : first_denied Load memory.pages 65536 128 ≡ None → bytes_at memory.pages 65536 128 ≡ u32 9 ++ u32 0xFFFF_FFFF ++ u32 3 ++ u32 100 ++ u32 7 ++ u32 5 ++ replicate 104 0 → called (words 4198 100 16 65536 0) ≡ posts (record { sig = Usr1; code = negsuc 0; errno = pos 3; pid = 100; uid = 7; value = 5; addr = 0 })
  unfolding rt_sigqueueinfo_row queue post
  queue_value loaded held = simp (loaded, held) refl

  queue_to_another : called (words 4198 0 129 0x8000_0000 0) ≡ fails ESRCH
  unfolding rt_sigqueueinfo_row queue post real_time real_time_if
  queue_to_another = refl

  queue_unlisted : called (words 4198 100 129 0x8000_0000 0) ≡ fails EINVAL
  unfolding rt_sigqueueinfo_row queue post real_time real_time_if
  queue_unlisted = refl

  queue_unread : get memory.pages 17 ≡ None → called (words 4198 100 16 69632 0) ≡ fails EFAULT
  unfolding rt_sigqueueinfo_row queue post first_denied refusal bytes_at
  queue_unread absent = simp absent refl

  -- 0 sends nothing, and the structure is read all the same

  queue_nothing : first_denied Load memory.pages 65536 128 ≡ None → called (words 4198 100 0 65536 0) ≡ leaves first memory (Value 0)
  unfolding rt_sigqueueinfo_row queue
  queue_nothing loaded = simp loaded refl

  queue_nothing_unread : get memory.pages 17 ≡ None → called (words 4198 100 0 69632 0) ≡ fails EFAULT
  unfolding rt_sigqueueinfo_row queue first_denied refusal bytes_at
  queue_nothing_unread absent = simp absent refl

  -- rt_sigaction

  abbrev wanted : Action
  wanted = record {
    handler = 0x400000;
    flags = record { nocldstop = false; siginfo = true; nocldwait = false; onstack = false; restart = true; nodefer = false; resethand = false };
    mask = 2 ∷ 0 ∷ 0 ∷ 0 ∷ [];
  }

  -- SIGINFO, RESTART and a bit that is not listed; a mask of INT, KILL and STOP
  abbrev wanted_bytes : List ℕ
  wanted_bytes = u32 0x1000_0208 ++ u32 0x40_0000 ++ set 0x40_0102

  abbrev shown_bytes : List ℕ
  shown_bytes = u32 0x1000_0008 ++ u32 0x40_0000 ++ set 2

  abbrev with_action : Kernel
  with_action = with_signals (record first_signals { actions = slice_set first_signals.actions 15 wanted })

  action_set : first_denied Load memory.pages 65536 24 ≡ None → bytes_at memory.pages 65536 24 ≡ wanted_bytes → called (words 4194 16 65536 0 16) ≡ leaves with_action memory (Value 0)
  unfolding rt_sigaction_row set_action
  action_set loaded held = simp (loaded, held) refl

  action_shown : first_denied Store memory.pages 65792 24 ≡ None → in_kernel with_action (words 4194 16 0 65792 16) ≡ leaves with_action (copied_out memory 65792 shown_bytes) (Value 0)
  unfolding rt_sigaction_row set_action
  action_shown room = simp room refl

  -- KILL shows its action, and gets no new one
  action_at_first : first_denied Store memory.pages 65792 24 ≡ None → called (words 4194 9 0 65792 16) ≡ leaves first (copied_out memory 65792 (replicate 24 0)) (Value 0)
  unfolding rt_sigaction_row set_action
  action_at_first room = simp room refl

  action_for_kill : called (words 4194 9 0x8000_0000 0 16) ≡ fails EINVAL
  unfolding rt_sigaction_row set_action
  action_for_kill = refl

  action_of_none : called (words 4194 0 0x8000_0000 0 16) ≡ fails EINVAL
  unfolding rt_sigaction_row set_action real_time real_time_if
  action_of_none = refl

  action_of_129 : called (words 4194 129 0x8000_0000 0 16) ≡ fails EINVAL
  unfolding rt_sigaction_row set_action real_time real_time_if
  action_of_129 = refl

  action_of_eight : called (words 4194 129 0x8000_0000 0 8) ≡ fails EINVAL
  unfolding rt_sigaction_row set_action
  action_of_eight = refl

  action_unread : get memory.pages 17 ≡ None → called (words 4194 16 69632 0 16) ≡ fails EFAULT
  unfolding rt_sigaction_row set_action first_denied refusal bytes_at
  action_unread absent = simp absent refl

  action_unshown : get memory.pages 17 ≡ None → called (words 4194 16 0 69632 16) ≡ fails EFAULT
  unfolding rt_sigaction_row set_action first_denied refusal
  action_unshown absent = simp absent refl

  -- the old action is given, and the new one stands also where that can't be stored

  action_exchanged : first_denied Load memory.pages 65536 24 ≡ None → bytes_at memory.pages 65536 24 ≡ wanted_bytes → first_denied Store memory.pages 65792 24 ≡ None → called (words 4194 16 65536 65792 16) ≡ leaves with_action (copied_out memory 65792 (replicate 24 0)) (Value 0)
  unfolding rt_sigaction_row set_action
  action_exchanged loaded held room = simp (loaded, held, room) refl

  action_set_unshown : first_denied Load memory.pages 65536 24 ≡ None → bytes_at memory.pages 65536 24 ≡ wanted_bytes → first_denied Store memory.pages 65792 24 ≡ Some (record { addr = 65792; why = Forbidden }) → called (words 4194 16 65536 65792 16) ≡ leaves with_action memory (Error EFAULT)
  unfolding rt_sigaction_row set_action
  action_set_unshown loaded held full_page = simp (loaded, held, full_page) refl

  -- rt_sigprocmask

  abbrev masks : SignalSet → Kernel
  masks mask = with_signals (record first_signals { mask = mask })

  -- all but 9 and 23
  mask_all : first_denied Load memory.pages 65536 16 ≡ None → bytes_at memory.pages 65536 16 ≡ u32 0xFFFF_FFFF ++ u32 0xFFFF_FFFF ++ u32 0xFFFF_FFFF ++ u32 0xFFFF_FFFF → called (words 4195 3 65536 0 16) ≡ leaves (masks (0xFFBF_FEFF ∷ 0xFFFF_FFFF ∷ 0xFFFF_FFFF ∷ 0xFFFF_FFFF ∷ [])) memory (Value 0)
  unfolding rt_sigprocmask_row change_mask
  mask_all loaded held = simp (loaded, held) refl

  mask_more : first_denied Load memory.pages 65536 16 ≡ None → bytes_at memory.pages 65536 16 ≡ set 4 → first_denied Store memory.pages 65792 16 ≡ None → in_kernel (masks (2 ∷ 0 ∷ 0 ∷ 0 ∷ [])) (words 4195 1 65536 65792 16) ≡ leaves (masks (6 ∷ 0 ∷ 0 ∷ 0 ∷ [])) (copied_out memory 65792 (set 2)) (Value 0)
  unfolding rt_sigprocmask_row change_mask
  mask_more loaded held room = simp (loaded, held, room) refl

  mask_less : first_denied Load memory.pages 65536 16 ≡ None → bytes_at memory.pages 65536 16 ≡ set 4 → in_kernel (masks (6 ∷ 0 ∷ 0 ∷ 0 ∷ [])) (words 4195 2 65536 0 16) ≡ leaves (masks (2 ∷ 0 ∷ 0 ∷ 0 ∷ [])) memory (Value 0)
  unfolding rt_sigprocmask_row change_mask
  mask_less loaded held = simp (loaded, held) refl

  mask_by_four : called (words 4195 4 0x8000_0000 0 16) ≡ fails EINVAL
  unfolding rt_sigprocmask_row change_mask
  mask_by_four = refl

  -- without a set the kind says nothing
  mask_shown_by_four : first_denied Store memory.pages 65792 16 ≡ None → called (words 4195 4 0 65792 16) ≡ leaves first (copied_out memory 65792 (set 0)) (Value 0)
  unfolding rt_sigprocmask_row change_mask
  mask_shown_by_four room = simp room refl

  mask_of_eight : called (words 4195 3 0x8000_0000 0 8) ≡ fails EINVAL
  unfolding rt_sigprocmask_row change_mask
  mask_of_eight = refl

  mask_unread : get memory.pages 17 ≡ None → called (words 4195 3 69632 0 16) ≡ fails EFAULT
  unfolding rt_sigprocmask_row change_mask first_denied refusal bytes_at
  mask_unread absent = simp absent refl

  -- the new mask stands where the old one can't be stored
  mask_set_unshown : first_denied Load memory.pages 65536 16 ≡ None → bytes_at memory.pages 65536 16 ≡ set 4 → first_denied Store memory.pages 65792 16 ≡ Some (record { addr = 65792; why = Forbidden }) → called (words 4195 3 65536 65792 16) ≡ leaves (masks (4 ∷ 0 ∷ 0 ∷ 0 ∷ [])) memory (Error EFAULT)
  unfolding rt_sigprocmask_row change_mask
  mask_set_unshown loaded held full_page = simp (loaded, held, full_page) refl

  -- rt_sigpending

  abbrev usr1_pends : Kernel
  usr1_pends = with_signals (appended first_signals (kill_info Usr1))

  pending_shown : first_denied Store memory.pages 65536 16 ≡ None → in_kernel usr1_pends (words 4196 65536 16 0 0) ≡ leaves usr1_pends (copied_out memory 65536 (set 0x8000)) (Value 0)
  unfolding rt_sigpending_row pending
  pending_shown room = simp room refl

  -- what an action ignores is removed
  action_ignoring : first_denied Load memory.pages 65536 24 ≡ None → bytes_at memory.pages 65536 24 ≡ u32 0 ++ u32 1 ++ set 0 → in_kernel usr1_pends (words 4194 16 65536 0 16) ≡ leaves (with_signals (record first_signals { actions = slice_set first_signals.actions 15 (record no_action { handler = 1 }) })) memory (Value 0)
  unfolding rt_sigaction_row set_action
  action_ignoring loaded held = simp (loaded, held) refl

  -- a standard signal that pends is sent no second time
  kill_again : in_kernel usr1_pends (words 4037 100 16 0 0) ≡ leaves usr1_pends memory (Value 0)
  unfolding kill_row kill post
  kill_again = refl

  -- 34 is bit 1 of the second word

  abbrev both_queued : Kernel
  both_queued = with_signals (with_pending first_signals thirty_four (scheduled_info thirty_four (Some 5) ∷ scheduled_info thirty_four (Some 6) ∷ []))

  pending_in_second_word : first_denied Store memory.pages 65536 16 ≡ None → in_kernel both_queued (words 4196 65536 16 0 0) ≡ leaves both_queued (copied_out memory 65536 (u32 0 ++ u32 2 ++ u32 0 ++ u32 0)) (Value 0)
  unfolding rt_sigpending_row pending thirty_four
  pending_in_second_word room = simp room refl

  pending_of_eight : called (words 4196 0 8 0 0) ≡ fails EINVAL
  unfolding rt_sigpending_row pending
  pending_of_eight = refl

  pending_at_null : get memory.pages 0 ≡ None → called (words 4196 0 16 0 0) ≡ fails EFAULT
  unfolding rt_sigpending_row pending first_denied refusal
  pending_at_null none = simp none refl

  -- sigaltstack, with the stack pointer here
  module _ (pointer : ℕ) (here : register processor 29 ≡ pointer) where
    abbrev stacked : SigStack → Kernel
    stacked stack = with_signals (record first_signals { stack = stack })

    abbrev large : SigStack
    large = record { sp = 0x10000; size = 2048; flags = 0 }

    -- the old one is disabled
    stack_set : first_denied Load memory.pages 65536 12 ≡ None → bytes_at memory.pages 65536 12 ≡ u32 0x10000 ++ u32 2048 ++ u32 0 → first_denied Store memory.pages 65792 12 ≡ None → called (words 4206 65536 65792 0 0) ≡ leaves (stacked large) (copied_out memory 65792 (u32 0 ++ u32 0 ++ u32 2)) (Value 0)
    unfolding sigaltstack_row set_stack
    stack_set loaded held room = simp (loaded, held, room) refl

    stack_too_small : first_denied Load memory.pages 65536 12 ≡ None → bytes_at memory.pages 65536 12 ≡ u32 0x10000 ++ u32 2047 ++ u32 0 → called (words 4206 65536 0 0 0) ≡ fails ENOMEM
    unfolding sigaltstack_row set_stack
    stack_too_small loaded held = simp (loaded, held) refl

    stack_with_flags : first_denied Load memory.pages 65536 12 ≡ None → bytes_at memory.pages 65536 12 ≡ u32 0x10000 ++ u32 2048 ++ u32 3 → called (words 4206 65536 0 0 0) ≡ fails EINVAL
    unfolding sigaltstack_row set_stack
    stack_with_flags loaded held = simp (loaded, held) refl

    stack_unread : get memory.pages 17 ≡ None → called (words 4206 69632 0 0 0) ≡ fails EFAULT
    unfolding sigaltstack_row set_stack first_denied refusal bytes_at
    stack_unread absent = simp absent refl

  -- while it is on the stack

  abbrev on_stack : Kernel
  on_stack = with_signals (record first_signals { stack = record { sp = 0x10000; size = 2048; flags = 0 } })

  stack_in_use : register processor 29 ≡ 0x10800 → first_denied Load memory.pages 65536 12 ≡ None → bytes_at memory.pages 65536 12 ≡ u32 0x20000 ++ u32 4096 ++ u32 0 → in_kernel on_stack (words 4206 65536 0 0 0) ≡ leaves on_stack memory (Error EPERM)
  unfolding sigaltstack_row set_stack
  stack_in_use here loaded held = simp (here, loaded, held) refl

  stack_in_use_shown : register processor 29 ≡ 0x10800 → first_denied Store memory.pages 65792 12 ≡ None → in_kernel on_stack (words 4206 0 65792 0 0) ≡ leaves on_stack (copied_out memory 65792 (u32 0x10000 ++ u32 2048 ++ u32 1)) (Value 0)
  unfolding sigaltstack_row set_stack
  stack_in_use_shown here room = simp (here, room) refl

  -- at its start it is not on it; a disabled stack has no place and no size, and needs none
  stack_disabled : register processor 29 ≡ 0x10000 → first_denied Load memory.pages 65536 12 ≡ None → bytes_at memory.pages 65536 12 ≡ u32 0x20000 ++ u32 5 ++ u32 2 → first_denied Store memory.pages 65792 12 ≡ None → in_kernel on_stack (words 4206 65536 65792 0 0) ≡ leaves (with_signals (record first_signals { stack = no_stack })) (copied_out memory 65792 (u32 0x10000 ++ u32 2048 ++ u32 0)) (Value 0)
  unfolding sigaltstack_row set_stack
  stack_disabled here loaded held room = simp (here, loaded, held, room) refl

  -- nor past its end; SS_ONSTACK is taken, and not kept
  stack_moved : register processor 29 ≡ 0x10801 → first_denied Load memory.pages 65536 12 ≡ None → bytes_at memory.pages 65536 12 ≡ u32 0x20000 ++ u32 4096 ++ u32 1 → first_denied Store memory.pages 65792 12 ≡ Some (record { addr = 65792; why = Forbidden }) → in_kernel on_stack (words 4206 65536 65792 0 0) ≡ leaves (with_signals (record first_signals { stack = record { sp = 0x20000; size = 4096; flags = 0 } })) memory (Error EFAULT)
  unfolding sigaltstack_row set_stack
  stack_moved here loaded held full_page = simp (here, loaded, held, full_page) refl

  -- pause and rt_sigsuspend: the set is the mask, KILL not in it, and the mask before is kept

  pausing : called (words 4029 1 2 3 4) ≡ leaves first memory (Sleep (wait_of (words 4029 1 2 3 4) (record { done = 0; until = None })))
  unfolding pause_row pause
  pausing = refl

  suspending : first_denied Load memory.pages 65536 16 ≡ None → bytes_at memory.pages 65536 16 ≡ set 0x102 → in_kernel (masks (4 ∷ 0 ∷ 0 ∷ 0 ∷ [])) (words 4199 65536 16 0 0) ≡ leaves (masks (2 ∷ 0 ∷ 0 ∷ 0 ∷ [])) memory
      (Sleep (record (wait_of (words 4199 65536 16 0 0) (record { done = 0; until = None })) { mask = Some (4 ∷ 0 ∷ 0 ∷ 0 ∷ []) }))
  unfolding rt_sigsuspend_row suspend
  suspending loaded held = simp (loaded, held) refl

  suspending_by_eight : called (words 4199 0x8000_0000 8 0 0) ≡ fails EINVAL
  unfolding rt_sigsuspend_row suspend
  suspending_by_eight = refl

  suspending_unread : get memory.pages 17 ≡ None → called (words 4199 69632 16 0 0) ≡ fails EFAULT
  unfolding rt_sigsuspend_row suspend first_denied refusal bytes_at
  suspending_unread absent = simp absent refl

  -- a null pointer is an address like any other
  suspending_at_null : get memory.pages 0 ≡ None → called (words 4199 0 16 0 0) ≡ fails EFAULT
  unfolding rt_sigsuspend_row suspend first_denied refusal bytes_at
  suspending_at_null none = simp none refl

  -- rt_sigtimedwait: of ALRM and USR1, 14 and 16, the lower

  abbrev both_pend : Kernel
  both_pend = with_signals (appended (appended first_signals (kill_info Usr1)) (kill_info Alrm))

  accept_lower : first_denied Load memory.pages 65536 16 ≡ None → bytes_at memory.pages 65536 16 ≡ set 0xA000 → in_kernel both_pend (words 4197 65536 0 0 16) ≡ leaves usr1_pends memory (Value 14)
  unfolding rt_sigtimedwait_row accept signals_from real_time real_time_if
  accept_lower loaded held = simp (loaded, held) refl

  accept_told : first_denied Load memory.pages 65536 16 ≡ None → bytes_at memory.pages 65536 16 ≡ set 0xA000 → first_denied Store memory.pages 65792 128 ≡ None → in_kernel usr1_pends (words 4197 65536 65792 0 16) ≡ leaves first (copied_out memory 65792 (u32 16 ++ u32 0 ++ u32 0 ++ u32 100 ++ replicate 112 0)) (Value 16)
  unfolding rt_sigtimedwait_row accept signals_from real_time real_time_if
  accept_told loaded held room = simp (loaded, held, room) refl

  -- the signal is gone all the same
  accept_untold : first_denied Load memory.pages 65536 16 ≡ None → bytes_at memory.pages 65536 16 ≡ set 0xA000 → first_denied Store memory.pages 65792 128 ≡ Some (record { addr = 65792; why = Forbidden }) → in_kernel usr1_pends (words 4197 65536 65792 0 16) ≡ leaves first memory (Error EFAULT)
  unfolding rt_sigtimedwait_row accept signals_from real_time real_time_if
  accept_untold loaded held full_page = simp (loaded, held, full_page) refl

  accept_waits : first_denied Load memory.pages 65536 16 ≡ None → bytes_at memory.pages 65536 16 ≡ set 0xA000 → called (words 4197 65536 0 0 16) ≡ leaves first memory (Sleep (wait_of (words 4197 65536 0 0 16) (record { done = 0; until = None })))
  unfolding rt_sigtimedwait_row accept signals_from real_time real_time_if
  accept_waits loaded held = simp (loaded, held) refl

  accept_at_once : first_denied Load memory.pages 65536 16 ≡ None → bytes_at memory.pages 65536 16 ≡ set 0xA000 → first_denied Load memory.pages 66048 8 ≡ None → bytes_at memory.pages 66048 8 ≡ u32 0 ++ u32 0 → called (words 4197 65536 0 66048 16) ≡ fails EAGAIN
  unfolding rt_sigtimedwait_row accept signals_from real_time real_time_if
  accept_at_once loaded held timed time = simp (loaded, held, timed, time) refl

  accept_limited : first_denied Load memory.pages 65536 16 ≡ None → bytes_at memory.pages 65536 16 ≡ set 0xA000 → first_denied Load memory.pages 66048 8 ≡ None → bytes_at memory.pages 66048 8 ≡ u32 1 ++ u32 2 → called (words 4197 65536 0 66048 16) ≡ leaves first memory (Sleep (wait_of (words 4197 65536 0 66048 16) (record { done = 0; until = Some 1_000_000_007 })))
  unfolding rt_sigtimedwait_row accept signals_from real_time real_time_if
  accept_limited loaded held timed time = simp (loaded, held, timed, time) refl

  accept_wrong_time : first_denied Load memory.pages 65536 16 ≡ None → bytes_at memory.pages 65536 16 ≡ set 0xA000 → first_denied Load memory.pages 66048 8 ≡ None → bytes_at memory.pages 66048 8 ≡ u32 0 ++ u32 1_000_000_000 → in_kernel usr1_pends (words 4197 65536 0 66048 16) ≡ leaves usr1_pends memory (Error EINVAL)
  unfolding rt_sigtimedwait_row accept signals_from real_time real_time_if
  accept_wrong_time loaded held timed time = simp (loaded, held, timed, time) refl

  accept_by_eight : called (words 4197 0x8000_0000 0 0 8) ≡ fails EINVAL
  unfolding rt_sigtimedwait_row accept
  accept_by_eight = refl

  accept_unread : get memory.pages 17 ≡ None → called (words 4197 69632 0 0 16) ≡ fails EFAULT
  unfolding rt_sigtimedwait_row accept first_denied refusal bytes_at
  accept_unread absent = simp absent refl

  -- the time is looked at before what pends
  accept_time_unread : first_denied Load memory.pages 65536 16 ≡ None → bytes_at memory.pages 65536 16 ≡ set 0xA000 → first_denied Load memory.pages 69632 8 ≡ Some (record { addr = 69632; why = Forbidden }) → in_kernel usr1_pends (words 4197 65536 0 69632 16) ≡ leaves usr1_pends memory (Error EFAULT)
  unfolding rt_sigtimedwait_row accept signals_from real_time real_time_if
  accept_time_unread loaded held denied = simp (loaded, held, denied) refl

  -- KILL and STOP can't be waited for
  accept_no_kill : first_denied Load memory.pages 65536 16 ≡ None → bytes_at memory.pages 65536 16 ≡ set 0x40_0100 → first_denied Load memory.pages 66048 8 ≡ None → bytes_at memory.pages 66048 8 ≡ u32 0 ++ u32 0 → in_kernel (with_signals (appended first_signals (kill_info Kill))) (words 4197 65536 0 66048 16) ≡ leaves (with_signals (appended first_signals (kill_info Kill))) memory (Error EAGAIN)
  unfolding rt_sigtimedwait_row accept signals_from real_time real_time_if
  accept_no_kill loaded held timed time = simp (loaded, held, timed, time) refl

  -- of two that are queued the first, with its value
  accept_queued : first_denied Load memory.pages 65536 16 ≡ None → bytes_at memory.pages 65536 16 ≡ u32 0 ++ u32 2 ++ u32 0 ++ u32 0 → first_denied Store memory.pages 65792 128 ≡ None → in_kernel both_queued (words 4197 65536 65792 0 16) ≡ leaves (with_signals (with_pending first_signals thirty_four (scheduled_info thirty_four (Some 6) ∷ []))) (copied_out memory 65792 (u32 34 ++ u32 0xFFFF_FFFF ++ u32 0 ++ u32 1 ++ u32 0 ++ u32 5 ++ replicate 104 0)) (Value 34)
  unfolding rt_sigtimedwait_row accept signals_from real_time real_time_if thirty_four
  accept_queued loaded held room = simp (loaded, held, room) refl

  -- returns: what the frame keeps, with a mask that loses KILL and STOP
  module _ (pointer : ℕ) (here : register processor 29 ≡ pointer) where
    sigreturn_reads : (bytes : List ℕ) → first_denied Load memory.pages pointer 632 ≡ None → bytes_at memory.pages pointer 632 ≡ bytes
        → called (words 4119 0 0 0 0)
        ≡ record (leaves (with_mask first (frame_mask bytes)) memory Frame) { processor = returned processor (frame_context bytes) }
    unfolding sigreturn_row
    sigreturn_reads bytes loaded held = simp (here, loaded, held) refl

    sigreturn_unread : (why : Denied) → first_denied Load memory.pages pointer 632 ≡ Some why → called (words 4119 0 0 0 0) ≡ leaves first memory BadFrame
    unfolding sigreturn_row
    sigreturn_unread why denied = simp (here, denied) refl

    rt_sigreturn_unread : (why : Denied) → first_denied Load memory.pages pointer 784 ≡ Some why → called (words 4193 0 0 0 0) ≡ leaves first memory BadFrame
    unfolding rt_sigreturn_row
    rt_sigreturn_unread why denied = simp (here, denied) refl

    -- with the alternate stack, as sigaltstack would set it
    rt_sigreturn_reads : (bytes : List ℕ) → first_denied Load memory.pages pointer 784 ≡ None → bytes_at memory.pages pointer 784 ≡ bytes
        → called (words 4193 0 0 0 0) ≡ record (leaves
        (with_frame_stack (with_mask first (rt_frame_mask bytes)) (returned processor (rt_frame_context bytes)) (rt_frame_stack bytes))
        memory Frame) { processor = returned processor (rt_frame_context bytes) }
    unfolding rt_sigreturn_row
    rt_sigreturn_reads bytes loaded held = simp (here, loaded, held) refl

    -- a stack that sigaltstack would refuse stays as it was
    wrong_stack : with_frame_stack first processor (record { sp = 0x10000; size = 2047; flags = 0 }) ≡ first
    unfolding set_stack
    wrong_stack = refl

    -- it is the stack pointer of the frame that says whether it is on the stack
    stack_of_the_frame : with_frame_stack on_stack (record processor { registers = replicate 29 0 ++ 0x10800 ∷ 0 ∷ 0 ∷ [] }) (record { sp = 0x20000; size = 4096; flags = 0 }) ≡ on_stack
    unfolding set_stack
    stack_of_the_frame = refl

    stack_off_the_frame : with_frame_stack on_stack (record processor { registers = replicate 29 0 ++ 0x10801 ∷ 0 ∷ 0 ∷ [] }) (record { sp = 0x20000; size = 4096; flags = 1 }) ≡ with_signals (record first_signals { stack = record { sp = 0x20000; size = 4096; flags = 0 } })
    unfolding set_stack
    stack_off_the_frame = refl

  -- how these waits end

  abbrev waits : ℕ → List ℕ → Option SignalSet → Wait
  waits nr words mask = record { nr = nr; words = words; deadline = None; done = 0; mask = mask }

  abbrev suspended : Wait
  suspended = waits 4199 (65536 ∷ 16 ∷ 0 ∷ 0 ∷ 0 ∷ 0 ∷ []) (Some (4 ∷ 0 ∷ 0 ∷ 0 ∷ []))

  suspended_handled : signal_wait_ended suspended Handler first memory ≡ ends_with (closes.Error EINTR) first memory
  suspended_handled = refl

  suspended_stopped : signal_wait_ended suspended Stopped first memory ≡ ends_with closes.Again (masks (4 ∷ 0 ∷ 0 ∷ 0 ∷ [])) memory
  suspended_stopped = refl

  paused_handled : signal_wait_ended (waits 4029 [] None) Handler first memory ≡ ends_with (closes.Error EINTR) first memory
  paused_handled = refl

  paused_stopped : signal_wait_ended (waits 4029 [] None) Stopped first memory ≡ ends_with closes.Again first memory
  paused_stopped = refl

  abbrev accepting : Wait
  accepting = waits 4197 (65536 ∷ 0 ∷ 0 ∷ 16 ∷ 0 ∷ 0 ∷ []) None

  accepting_handled : signal_wait_ended accepting Handler first memory ≡ ends_with (closes.Error EINTR) first memory
  accepting_handled = refl

  accepting_stopped : signal_wait_ended accepting Stopped first memory ≡ ends_with (closes.Error EINTR) first memory
  accepting_stopped = refl

  accepting_over : signal_wait_ended accepting Due first memory ≡ ends_with (closes.Error EAGAIN) first memory
  accepting_over = refl

  accepting_accepted : first_denied Load memory.pages 65536 16 ≡ None → bytes_at memory.pages 65536 16 ≡ set 0xA000
      → signal_wait_ended accepting Accepted both_pend memory ≡ ends_with (closes.Value 14) usr1_pends memory
  unfolding rt_sigtimedwait_row accept signals_from real_time real_time_if
  accepting_accepted loaded held = simp (loaded, held) refl

  -- the information can't be stored, and the signal is gone
  accepting_untold : first_denied Load memory.pages 65536 16 ≡ None → bytes_at memory.pages 65536 16 ≡ set 0xA000 → first_denied Store memory.pages 65792 128 ≡ Some (record { addr = 65792; why = Forbidden })
      → signal_wait_ended (waits 4197 (65536 ∷ 65792 ∷ 0 ∷ 16 ∷ 0 ∷ 0 ∷ []) None) Accepted usr1_pends memory ≡ ends_with (closes.Error EFAULT) first memory
  unfolding rt_sigtimedwait_row accept signals_from real_time real_time_if
  accepting_untold loaded held full_page = simp (loaded, held, full_page) refl

-- reads and writes of pipes

abbrev transfer : ℕ → Wait
transfer done = record { nr = 4004; words = []; deadline = None; done = done; mask = None }

transfer_restarted : transfer_ended true (transfer 0) Handler ≡ closes.Again
transfer_restarted = refl

transfer_interrupted : transfer_ended false (transfer 0) Handler ≡ closes.Error EINTR
transfer_interrupted = refl

transfer_stopped : transfer_ended false (transfer 0) Stopped ≡ closes.Again
transfer_stopped = refl

transfer_in_part : transfer_ended true (transfer 65_536) Handler ≡ closes.Value 65_536
transfer_in_part = refl

transfer_in_part_stopped : transfer_ended false (transfer 65_536) Stopped ≡ closes.Value 65_536
transfer_in_part_stopped = refl
