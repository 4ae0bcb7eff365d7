-- Worked rows on signals, from the first state of signals.
use Rattle.std.specs.Prelude.{◌≡◌, ℕ, pos, negsuc, true, false, List, [], ◌∷◌, replicate, Some, None, Ok, Err, refl}
use Rattle.kernel_core.specs.declared.error.Errno.TheVariants.{EAGAIN, EFAULT, EINVAL, ENOMEM, EPERM, ESRCH}
use Rattle.kernel_core.specs.declared.mask.MaskChange.TheVariants.{Block, Unblock}
use Rattle.kernel_core.specs.declared.signal.Sig.{Sig}
use Rattle.kernel_core.specs.declared.signal.Sig.TheVariants.{Hup, Kill, Stop, Cont, Chld, Usr1, Alrm, Term, RealTime}
use Rattle.kernel_model.specs.Begin.{first_signals}
use Rattle.kernel_model.specs.Came.{done, refused, waits}
use Rattle.kernel_model.specs.SignalRows.{post, posted, appended, with_pending, pending_at, pends, kill_info, scheduled_info, no_action, ignore_handler, after_action, action_at, kill, kill_thread, kill_thread_of, queue, Nothing, Signal, Unlisted, set_action, change_mask, pending, accept, suspend, set_stack, no_stack, with_signals}
use Rattle.kernel_model.specs.SignalSets.{has, only, union, without, no_signals, unblockable, blockable}
use Rattle.kernel_model.specs.State.{Kernel, Signals}
use Rattle.kernel_model.specs.declared.signal.SigStack.{SigStack}
use Rattle.kernel_model.specs.declared.signal.Post.TheVariants.{Queued, Dropped, Full}

-- Sets

hup_is_the_lowest_bit : only Hup ≡ 1 ∷ 0 ∷ 0 ∷ 0 ∷ []
hup_is_the_lowest_bit = refl

kill_and_stop : unblockable ≡ 0x400100 ∷ 0 ∷ 0 ∷ 0 ∷ []
kill_and_stop = refl

thirty_four : Sig
thirty_four = RealTime (record { number = 34; in_range = refl })

thirty_four_is_in_the_second_word : only thirty_four ≡ 0 ∷ 2 ∷ 0 ∷ 0 ∷ []
unfolding thirty_four
thirty_four_is_in_the_second_word = refl

in_a_union : has (union (only Hup) (only Term)) Term ≡ true
in_a_union = refl

not_in_what_is_left : has (without (union (only Hup) (only Term)) (only Term)) Term ≡ false
not_in_what_is_left = refl

-- Posting

blocks : List ℕ → Signals
blocks set = record first_signals { mask = set }

ignores_term : Signals
ignores_term = after_action first_signals Term (record no_action { handler = ignore_handler })

pends_once : (post (post first_signals (kill_info Term) false).signals (kill_info Term) false).post ≡ Dropped
unfolding post
pends_once = refl

queued_first : (post first_signals (kill_info Term) false).post ≡ Queued
unfolding post
queued_first = refl

-- ignored by an action
ignored : post ignores_term (kill_info Term) false ≡ posted ignores_term Dropped
unfolding post ignores_term
ignored = refl

-- a sigtimedwait waits for it
ignored_and_kept : (post ignores_term (kill_info Term) true).post ≡ Queued
unfolding post ignores_term
ignored_and_kept = refl

-- ignored by default
child : (post first_signals (kill_info Chld) false).post ≡ Dropped
unfolding post
child = refl

child_blocked : (post (blocks (only Chld)) (kill_info Chld) false).post ≡ Queued
unfolding post blocks
child_blocked = refl

-- a stop signal removes CONT, and CONT stop signals
stop_removes_continue : pends (post (post (blocks (only Cont)) (kill_info Cont) false).signals (kill_info Stop) false).signals Cont ≡ false
unfolding post blocks
stop_removes_continue = refl

continue_removes_stop : pends (post (post first_signals (kill_info Stop) false).signals (kill_info Cont) false).signals Stop ≡ false
unfolding post
continue_removes_stop = refl

-- real-time signals queue in order
two_queued : pending_at (post (post first_signals (scheduled_info thirty_four (Some 5)) false).signals (scheduled_info thirty_four (Some 6)) false).signals thirty_four
    ≡ scheduled_info thirty_four (Some 5) ∷ scheduled_info thirty_four (Some 6) ∷ []
unfolding post thirty_four
two_queued = refl

full : Signals
full = with_pending first_signals thirty_four (replicate 1024 (scheduled_info thirty_four None))

one_too_many : (post full (scheduled_info thirty_four None) false).post ≡ Full
unfolding post thirty_four full
one_too_many = refl

one_below : Signals
one_below = with_pending first_signals thirty_four (replicate 1023 (scheduled_info thirty_four None))

the_last_one : (post one_below (scheduled_info thirty_four None) false).post ≡ Queued
unfolding post thirty_four one_below
the_last_one = refl

module _ (kernel : Kernel) where
  -- Sending

  from : Kernel
  from = record kernel { signals = first_signals; clock = 5 }

  to_itself : kill from (pos 100) (Signal Term) ≡ done (with_signals from (appended first_signals (kill_info Term))) tt
  unfolding kill from post
  to_itself = refl

  to_its_group : kill from (pos 0) (Signal Term) ≡ kill from (negsuc 99) (Signal Term)
  unfolding kill from
  to_its_group = refl

  to_another : kill from (pos 101) Unlisted ≡ refused from ESRCH
  unfolding kill from
  to_another = refl

  no_signal : kill from (pos 100) Nothing ≡ done from tt
  unfolding kill from
  no_signal = refl

  too_high : kill from (pos 100) Unlisted ≡ refused from EINVAL
  unfolding kill from
  too_high = refl

  when_full : kill (record kernel { signals = full }) (pos 100) (Signal thirty_four) ≡ refused (record kernel { signals = full }) EAGAIN
  unfolding kill post full thirty_four
  when_full = refl

  thread_zero : kill_thread from (pos 0) (Signal Term) ≡ refused from EINVAL
  unfolding kill_thread from
  thread_zero = refl

  thread_other : kill_thread_of from (pos 100) (pos 99) (Signal Term) ≡ refused from ESRCH
  unfolding kill_thread_of from
  thread_other = refl

  queue_to_another : queue from (pos 0) Unlisted (Err EFAULT) ≡ refused from ESRCH
  unfolding queue from
  queue_to_another = refl

  queue_too_high : queue from (pos 100) Unlisted (Err EFAULT) ≡ refused from EINVAL
  unfolding queue from
  queue_too_high = refl

  queue_unreadable : queue from (pos 100) (Signal Term) (Err EFAULT) ≡ refused from EFAULT
  unfolding queue from
  queue_unreadable = refl

  -- Actions

  set_size_wrong : set_action from 8 None None ≡ refused from EINVAL
  unfolding set_action from
  set_size_wrong = refl

  action_for_kill : set_action from 16 (Some Kill) (Some (Err EFAULT)) ≡ refused from EINVAL
  unfolding set_action from
  action_for_kill = refl

  action_of_kill : set_action from 16 (Some Kill) None ≡ done from no_action
  unfolding set_action from
  action_of_kill = refl

  action_unreadable : set_action from 16 (Some Term) (Some (Err EFAULT)) ≡ refused from EFAULT
  unfolding set_action from
  action_unreadable = refl

  -- a new action that ignores removes what pends
  ignoring_removes : pends (after_action (appended first_signals (kill_info Term)) Term (record no_action { handler = ignore_handler })) Term ≡ false
  ignoring_removes = refl

  -- the mask of an action loses KILL
  mask_without_kill : (action_at (after_action first_signals Term (record no_action { mask = union (only Kill) (only Hup) })) Term).mask ≡ only Hup
  mask_without_kill = refl

  -- The mask

  block_two : change_mask from 16 (Some Block) (Some (Ok (union (only Hup) (only Kill)))) ≡ done (with_signals from (blocks (only Hup))) no_signals
  unfolding change_mask from blocks
  block_two = refl

  unblock : change_mask (with_signals from (blocks (union (only Hup) (only Term)))) 16 (Some Unblock) (Some (Ok (only Hup)))
      ≡ done (with_signals from (blocks (only Term))) (union (only Hup) (only Term))
  unfolding change_mask from blocks
  unblock = refl

  no_such_change : change_mask from 16 None (Some (Err EFAULT)) ≡ refused from EINVAL
  unfolding change_mask from
  no_such_change = refl

  no_change : change_mask from 16 None None ≡ done from no_signals
  unfolding change_mask from
  no_change = refl

  what_pends : pending (with_signals from (appended (appended first_signals (kill_info Term)) (scheduled_info thirty_four None))) 16
      ≡ done (with_signals from (appended (appended first_signals (kill_info Term)) (scheduled_info thirty_four None))) (0x4000 ∷ 2 ∷ 0 ∷ 0 ∷ [])
  unfolding pending from thirty_four
  what_pends = refl

  -- Accepting

  accept_first_of_order : accept (with_signals from (appended (appended first_signals (kill_info Usr1)) (kill_info Alrm))) (Alrm ∷ Usr1 ∷ []) blockable (Ok (union (only Usr1) (only Alrm))) None 16
      ≡ done (with_signals from (appended first_signals (kill_info Usr1))) (kill_info Alrm)
  unfolding accept from
  accept_first_of_order = refl

  -- STOP that pends, where a world takes it out of the set, and where not
  accept_without_stop : accept (with_signals from (appended first_signals (kill_info Stop))) (Stop ∷ Usr1 ∷ []) blockable (Ok (union (only Usr1) (only Stop))) None 16
      ≡ waits (with_signals from (appended first_signals (kill_info Stop))) None
  unfolding accept from
  accept_without_stop = refl

  accept_stop : accept (with_signals from (appended first_signals (kill_info Stop))) (Stop ∷ Usr1 ∷ []) (λ set. set) (Ok (union (only Usr1) (only Stop))) None 16
      ≡ done from (kill_info Stop)
  unfolding accept from
  accept_stop = refl

  accept_at_once : accept from (Alrm ∷ Usr1 ∷ []) blockable (Ok (only Usr1)) (Some (Ok (record { seconds = pos 0; nanoseconds = pos 0 }))) 16 ≡ refused from EAGAIN
  unfolding accept from
  accept_at_once = refl

  accept_waits : accept from (Alrm ∷ Usr1 ∷ []) blockable (Ok (only Usr1)) None 16 ≡ waits from None
  unfolding accept from
  accept_waits = refl

  accept_wrong_time : accept from [] blockable (Ok (only Usr1)) (Some (Ok (record { seconds = pos 0; nanoseconds = pos 1_000_000_000 }))) 16 ≡ refused from EINVAL
  unfolding accept from
  accept_wrong_time = refl

  accept_unreadable : accept from [] blockable (Err EFAULT) None 16 ≡ refused from EFAULT
  unfolding accept from
  accept_unreadable = refl

  suspended : suspend from 16 (Ok no_signals) ≡ waits from None
  unfolding suspend
  suspended = refl

  suspend_size : suspend from 8 (Err EFAULT) ≡ refused from EINVAL
  unfolding suspend
  suspend_size = refl

  -- The alternate stack

  stack : SigStack
  stack = record { sp = 0x1000; size = 0x2000; flags = 0 }

  disabled_at_first : set_stack from (Some 0x2000) None ≡ done from no_stack
  unfolding set_stack from
  disabled_at_first = refl

  stack_set : set_stack from (Some 0x2000) (Some (Ok stack)) ≡ done (with_signals from (record first_signals { stack = stack })) no_stack
  unfolding set_stack from stack
  stack_set = refl

  stack_in_use : set_stack (with_signals from (record first_signals { stack = stack })) (Some 0x2000) (Some (Ok no_stack))
      ≡ refused (with_signals from (record first_signals { stack = stack })) EPERM
  unfolding set_stack from stack
  stack_in_use = refl

  stack_shown_in_use : set_stack (with_signals from (record first_signals { stack = stack })) (Some 0x3000) None
      ≡ done (with_signals from (record first_signals { stack = stack })) (record { sp = 0x1000; size = 0x2000; flags = 1 })
  unfolding set_stack from stack
  stack_shown_in_use = refl

  -- its first byte isn't on it
  stack_below : set_stack (with_signals from (record first_signals { stack = stack })) (Some 0x1000) (Some (Ok no_stack))
      ≡ done (with_signals from first_signals) stack
  unfolding set_stack from stack
  stack_below = refl

  stack_flags : set_stack from None (Some (Ok (record { sp = 0; size = 0x2000; flags = 3 }))) ≡ refused from EINVAL
  unfolding set_stack from
  stack_flags = refl

  stack_small : set_stack from None (Some (Ok (record { sp = 0x1000; size = 2047; flags = 0 }))) ≡ refused from ENOMEM
  unfolding set_stack from
  stack_small = refl

  stack_unreadable : set_stack from None (Some (Err EFAULT)) ≡ refused from EFAULT
  unfolding set_stack from
  stack_unreadable = refl
