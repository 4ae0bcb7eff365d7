-- Worked rows on signals that a process sends itself, on the mask and on what pends, from the first state of signals.
use Rattle.std.specs.Prelude.{◌≡◌, pos, negsuc, true, false, replicate, Some, None, Ok, Err, refl}
use Rattle.kernel_core.specs.declared.error.Errno.TheVariants.{EAGAIN, EFAULT, EINVAL, ESRCH}
use Rattle.kernel_core.specs.declared.mask.MaskChange.TheVariants.{Block, Set}
use Rattle.kernel_core.specs.declared.signal.Sig.{Sig}
use Rattle.kernel_core.specs.declared.signal.Sig.TheVariants.{Kill, RealTime, Term}
use Rattle.kernel_model.specs.Begin.{first_signals}
use Rattle.kernel_model.specs.Came.{done, refused, waits}
use Rattle.kernel_model.specs.SignalRows.{Nothing, SentInfo, Signal, Unlisted, appended, change_mask, is_deliverable, kill_info, kill_thread, kill_thread_of, pause, pending, post, queue, queued_info, scheduled_info, suspend, tkill_info, with_pending, with_signals}
use Rattle.kernel_model.specs.SignalSets.{no_signals, only, union}
use Rattle.kernel_model.specs.State.{Kernel, Signals}

thirty_four : Sig
thirty_four = RealTime (record { number = 34; in_range = refl })

-- 1,024 signals are queued
full : Signals
full = with_pending first_signals thirty_four (replicate 1024 (scheduled_info thirty_four None))

-- what a structure of rt_sigqueueinfo(2) says: SI_QUEUE, with a value
sent : SentInfo
sent = record { code = negsuc 0; errno = pos 0; pid = 7; uid = 8; value = 9 }

-- whether a pending signal may be delivered

none_pends : is_deliverable first_signals ≡ false
none_pends = refl

one_pends : is_deliverable (appended first_signals (kill_info Term)) ≡ true
one_pends = refl

it_is_blocked : is_deliverable (record (appended first_signals (kill_info Term)) { mask = only Term }) ≡ false
it_is_blocked = refl

module _ (kernel : Kernel) where
  from : Kernel
  from = record kernel { signals = first_signals }

  from_full : Kernel
  from_full = record kernel { signals = full }

  -- tkill

  to_thread : kill_thread from (pos 100) (Signal Term) ≡ done (with_signals from (appended first_signals (tkill_info Term))) tt
  unfolding kill_thread from post
  to_thread = refl

  to_thread_nothing : kill_thread from (pos 100) Nothing ≡ done from tt
  unfolding kill_thread from
  to_thread_nothing = refl

  to_thread_unlisted : kill_thread from (pos 100) Unlisted ≡ refused from EINVAL
  unfolding kill_thread from
  to_thread_unlisted = refl

  to_other_thread : kill_thread from (pos 101) Unlisted ≡ refused from ESRCH
  unfolding kill_thread from
  to_other_thread = refl

  to_thread_when_full : kill_thread from_full (pos 100) (Signal thirty_four) ≡ refused from_full EAGAIN
  unfolding kill_thread from_full full thirty_four post
  to_thread_when_full = refl

  -- tgkill

  to_thread_of : kill_thread_of from (pos 100) (pos 100) (Signal Term) ≡ done (with_signals from (appended first_signals (tkill_info Term))) tt
  unfolding kill_thread_of from post
  to_thread_of = refl

  to_thread_zero_of : kill_thread_of from (pos 101) (pos 0) (Signal Term) ≡ refused from EINVAL
  unfolding kill_thread_of from
  to_thread_zero_of = refl

  to_thread_of_unlisted : kill_thread_of from (pos 100) (pos 100) Unlisted ≡ refused from EINVAL
  unfolding kill_thread_of from
  to_thread_of_unlisted = refl

  to_thread_of_when_full : kill_thread_of from_full (pos 100) (pos 100) (Signal thirty_four) ≡ refused from_full EAGAIN
  unfolding kill_thread_of from_full full thirty_four post
  to_thread_of_when_full = refl

  -- rt_sigqueueinfo keeps what the structure says

  queued : queue from (pos 100) (Signal Term) (Ok sent) ≡ done (with_signals from (appended first_signals (queued_info sent Term))) tt
  unfolding queue from post
  queued = refl

  queued_nothing : queue from (pos 100) Nothing (Ok sent) ≡ done from tt
  unfolding queue from
  queued_nothing = refl

  -- the structure is read all the same
  queued_nothing_unreadable : queue from (pos 100) Nothing (Err EFAULT) ≡ refused from EFAULT
  unfolding queue from
  queued_nothing_unreadable = refl

  queued_when_full : queue from_full (pos 100) (Signal thirty_four) (Ok sent) ≡ refused from_full EAGAIN
  unfolding queue from_full full thirty_four post
  queued_when_full = refl

  -- the mask

  mask_unreadable : change_mask from 16 (Some Block) (Some (Err EFAULT)) ≡ refused from EFAULT
  unfolding change_mask from
  mask_unreadable = refl

  mask_size : change_mask from 8 (Some Block) (Some (Err EFAULT)) ≡ refused from EINVAL
  unfolding change_mask from
  mask_size = refl

  -- the whole mask becomes the set, but for KILL
  mask_set : change_mask from 16 (Some Set) (Some (Ok (union (only Kill) (only Term)))) ≡ done (with_signals from (record first_signals { mask = only Term })) no_signals
  unfolding change_mask from
  mask_set = refl

  -- what pends

  pending_size : pending from 8 ≡ refused from EINVAL
  unfolding pending from
  pending_size = refl

  nothing_pends : pending from 16 ≡ done from no_signals
  unfolding pending from
  nothing_pends = refl

  -- sigsuspend and pause

  suspend_unreadable : suspend from 16 (Err EFAULT) ≡ refused from EFAULT
  unfolding suspend from
  suspend_unreadable = refl

  pauses : pause from ≡ waits from None
  unfolding pause from
  pauses = refl
