-- Rows on files as rows of the kernel, and rows of the kernel that leave files as they are.
use Rattle.std.proofs.Common.{◌≡◌, ℕ, ◌<◌, List, [], ◌∷◌, Bool, true, false, refl, sym, subst}
use Rattle.std.specs.Prelude.{All, Option, Some, None, nat_le, ℤ, if◌then◌else◌}
use Rattle.kernel_core.specs.FileSystem.{IsTime}
use Rattle.kernel_core.specs.declared.mask.MaskChange.{MaskChange}
use Rattle.kernel_core.specs.declared.resource.Resource.{Resource}
use Rattle.kernel_core.specs.declared.signal.Sig.{Sig}
use Rattle.kernel_core.specs.declared.signal.Sig.TheVariants as sigs
use Rattle.kernel_laws.proofs.Keeps.{Keeps, keeps, choice_keeps, transferring_keeps, waits_keeps}
use Rattle.kernel_laws.proofs.KernelParts.{with_files_kept, with_signals_kept}
use Rattle.kernel_laws.proofs.TransferEnds.{read_ends, write_ends}
use Rattle.kernel_laws.proofs.WriteKept.{write_keeps}
use Rattle.kernel_laws.specs.Ends.{AreSoundFiles, HasEndsOnce, IsSoundKernel}
use Rattle.kernel_model.proofs.Posting.{post_kept}
use Rattle.kernel_model.proofs.ReadKept.{read_kept}
use Rattle.kernel_model.specs.Always.{IsKernel}
use Rattle.kernel_model.specs.Came.{Came, Did, Done, Given, Refused, Waits}
use Rattle.kernel_model.specs.Clock.{TimerSetting, alarm, arm_timer, gone_off, now, read_clock, read_timer, resolution, sleep, waits_until}
use Rattle.kernel_model.specs.Readiness.{PollEntry, Sets, poll, select}
use Rattle.kernel_model.specs.Shared.{Info}
use Rattle.kernel_model.specs.SignalRows.{Named, Nothing, Signal, Unlisted, SentInfo, accept, accept_first, accept_signal, advance, after_expiry, change_mask, kill, kill_info, kill_thread, kill_thread_of, pause, pending, pending_at, post, queue, send_named, sent_as, set_action, set_action_to, set_stack, set_stack_to, suspend}
use Rattle.kernel_model.specs.SignalSets.{SignalSet}
use Rattle.kernel_model.specs.State.{Files, Kernel, Timer}
use Rattle.kernel_model.specs.System.{random_bytes, set_limit, set_limit_to}
use Rattle.kernel_model.specs.Transfers.{write}
use Rattle.kernel_model.specs.Whole.{is_broken_pipe, kernel_read, kernel_write, with_files, with_sigpipe}
use Rattle.kernel_model.specs.declared.limit.Limit.{Limit}
use Rattle.kernel_model.specs.declared.signal.Action.{Action}
use Rattle.kernel_model.specs.declared.signal.Post.{Post}
use Rattle.kernel_model.specs.declared.signal.Post.TheVariants as posts
use Rattle.kernel_model.specs.declared.signal.SigStack.{SigStack}
use Rattle.kernel_model.specs.declared.time.TimeSpec.{TimeSpec}

-- Reading and writing

sigpipe_kept : (kernel : Kernel) → IsKernel kernel → (came : Came ℕ) → IsKernel (with_sigpipe kernel came)
sigpipe_kept kernel is (Done count) = is
sigpipe_kept kernel is (Refused error) = by (is_broken_pipe error) where
  by : (b : Bool) → IsKernel (if b then record kernel { signals = (post kernel.signals (kill_info sigs.Pipe) false).signals } else kernel)
  by true = with_signals_kept kernel is _ (post_kept kernel.signals (kill_info sigs.Pipe) false is.signals)
  by false = is
sigpipe_kept kernel is (Waits wake) = is

sigpipe_files : (kernel : Kernel) (came : Came ℕ) → (with_sigpipe kernel came).files ≡ kernel.files
sigpipe_files kernel (Done count) = refl
sigpipe_files kernel (Refused error) = by (is_broken_pipe error) where
  by : (b : Bool) → (if b then record kernel { signals = (post kernel.signals (kill_info sigs.Pipe) false).signals } else kernel).files ≡ kernel.files
  by true = refl
  by false = refl
sigpipe_files kernel (Waits wake) = refl

pub sound_files : (kernel : Kernel) (files : Files) → IsSoundKernel kernel → AreSoundFiles files → IsSoundKernel (with_files kernel files)
sound_files kernel files is new = record { always = with_files_kept kernel is.always files new.always; ends = new.ends }

module _ (kernel : Kernel) (is : IsKernel kernel) where
  pub kernel_read_kept : (left : List ℕ) (fd : ℕ) (asked : Given ℕ) (room : ℕ) → IsKernel (kernel_read kernel left fd asked room).state.kernel
  unfolding kernel_read
  kernel_read_kept left fd asked room = with_files_kept kernel is _ (read_kept kernel.files is.files left fd asked room)

  pub kernel_write_kept : IsTime (now kernel) → (limit : Option ℕ) (fd : ℕ) (asked : Given ℕ) (bytes : List ℕ) → All (λ byte. byte < 256) bytes
      → IsKernel (kernel_write kernel limit fd asked bytes).state.kernel
  unfolding kernel_write
  kernel_write_kept time limit fd asked bytes are =
      sigpipe_kept (with_files kernel (write kernel.files limit (now kernel) fd asked bytes).state.files)
      (with_files_kept kernel is _ (write_keeps kernel.files is.files (now kernel) time limit bytes are fd asked).kept) (write kernel.files limit (now kernel) fd asked bytes).came

abbrev pub KernelEnds : Kernel → Type 0
KernelEnds kernel = HasEndsOnce kernel.files

module _ (kernel : Kernel) (once : HasEndsOnce kernel.files) where
  pub kernel_read_ends : (left : List ℕ) (fd : ℕ) (asked : Given ℕ) (room : ℕ) → HasEndsOnce (kernel_read kernel left fd asked room).state.kernel.files
  unfolding kernel_read
  kernel_read_ends left fd asked room = (read_ends kernel.files once left fd asked room).kept

  pub kernel_write_ends : (limit : Option ℕ) (fd : ℕ) (asked : Given ℕ) (bytes : List ℕ) → HasEndsOnce (kernel_write kernel limit fd asked bytes).state.kernel.files
  unfolding kernel_write
  kernel_write_ends limit fd asked bytes =
      subst HasEndsOnce (sym (sigpipe_files (with_files kernel (write kernel.files limit (now kernel) fd asked bytes).state.files) (write kernel.files limit (now kernel) fd asked bytes).came))
      (write_ends kernel.files once limit (now kernel) fd asked bytes).kept

  -- The other rows leave files as they are.

  pub advance_ends : (to : ℕ) (kept : Bool) → HasEndsOnce (advance kernel to kept).files
  unfolding advance
  advance_ends to kept = by (gone_off to kernel.timer) where
    by : (gone : Option Timer) → HasEndsOnce (after_expiry (record kernel { clock = to }) kept gone).files
    by None = once
    by (Some timer) = once

  until_ends : {V : Type 0} (until : Option ℕ) (ended : Did Kernel V) → Keeps KernelEnds ended → Keeps KernelEnds (waits_until kernel until ended)
  until_ends None ended h = waits_keeps KernelEnds kernel once None
  until_ends (Some until) ended h = choice_keeps KernelEnds (nat_le until kernel.clock) _ _ (λ e. h) (λ e. waits_keeps KernelEnds kernel once (Some until))

  action_to_ends : (signal : Sig) (action : Option Action) → Keeps KernelEnds (set_action_to kernel signal action)
  action_to_ends signal None = record { kept = once }
  action_to_ends signal (Some action) = record { kept = once }

  pub set_action_ends : (size : ℕ) (signal : Option Sig) (action : Option (Given Action)) → Keeps KernelEnds (set_action kernel size signal action)
  unfolding set_action
  set_action_ends size signal action = search (keeps, action_to_ends, once) depth 14

  pub change_mask_ends : (size : ℕ) (how : Option MaskChange) (set : Option (Given SignalSet)) → Keeps KernelEnds (change_mask kernel size how set)
  unfolding change_mask
  change_mask_ends size how None = search (keeps, once) depth 14
  change_mask_ends size how (Some set) = search (keeps, once) depth 14

  first_ends : (signal : Sig) (infos : List Info) (none : Did Kernel Info) → Keeps KernelEnds none → Keeps KernelEnds (accept_first kernel signal infos none)
  first_ends signal [] none h = h
  first_ends signal (info ∷ rest) none h = record { kept = once }

  signal_ends : (signal : Option Sig) (none : Did Kernel Info) → Keeps KernelEnds none → Keeps KernelEnds (accept_signal kernel signal none)
  signal_ends None none h = h
  signal_ends (Some signal) none h = first_ends signal (pending_at kernel.signals signal) none h

  pub accept_ends : (order : List Sig) (waitable : SignalSet → SignalSet) (set : Given SignalSet) (time : Option (Given TimeSpec)) (size : ℕ)
      → Keeps KernelEnds (accept kernel order waitable set time size)
  unfolding accept
  accept_ends order waitable set time size = search (keeps, signal_ends, until_ends, once) depth 14

  pub pending_ends : (size : ℕ) → Keeps KernelEnds (pending kernel size)
  unfolding pending
  pending_ends size = search (keeps, once) depth 14

  pub suspend_ends : (size : ℕ) (set : Given SignalSet) → Keeps KernelEnds (suspend kernel size set)
  unfolding suspend
  suspend_ends size set = search (keeps, once) depth 14

  pub pause_ends : Keeps KernelEnds (pause kernel)
  unfolding pause
  pause_ends = search (keeps, once) depth 14

  stack_to_ends : (sp : Option ℕ) (stack : Option SigStack) → Keeps KernelEnds (set_stack_to kernel sp stack)
  stack_to_ends sp None = search (keeps, once) depth 14
  stack_to_ends sp (Some stack) = search (keeps, once) depth 14

  pub set_stack_ends : (sp : Option ℕ) (stack : Option (Given SigStack)) → Keeps KernelEnds (set_stack kernel sp stack)
  unfolding set_stack
  set_stack_ends sp stack = search (keeps, stack_to_ends, once) depth 14

  sent_ends : (new : Kernel) (answer : Post) → HasEndsOnce new.files → Keeps KernelEnds (sent_as new answer)
  sent_ends new posts.Queued h = record { kept = h }
  sent_ends new posts.Dropped h = record { kept = h }
  sent_ends new posts.Full h = record { kept = h }

  named_ends : (signal : Named) (info : Sig → Info) → Keeps KernelEnds (send_named kernel signal info)
  named_ends Nothing info = record { kept = once }
  named_ends (Signal signal) info = sent_ends _ _ once
  named_ends Unlisted info = record { kept = once }

  pub kill_ends : (pid : ℤ) (signal : Named) → Keeps KernelEnds (kill kernel pid signal)
  unfolding kill
  kill_ends pid signal = search (keeps, named_ends, once) depth 14

  pub kill_thread_ends : (tid : ℤ) (signal : Named) → Keeps KernelEnds (kill_thread kernel tid signal)
  unfolding kill_thread
  kill_thread_ends tid signal = search (keeps, named_ends, once) depth 14

  pub kill_thread_of_ends : (pid tid : ℤ) (signal : Named) → Keeps KernelEnds (kill_thread_of kernel pid tid signal)
  unfolding kill_thread_of
  kill_thread_of_ends pid tid signal = search (keeps, named_ends, once) depth 14

  pub queue_ends : (pid : ℤ) (signal : Named) (sent : Given SentInfo) → Keeps KernelEnds (queue kernel pid signal sent)
  unfolding queue
  queue_ends pid signal sent = search (keeps, named_ends, once) depth 14

  pub arm_timer_ends : (which : ℕ) (setting : Option (Given TimerSetting)) → Keeps KernelEnds (arm_timer kernel which setting)
  unfolding arm_timer
  arm_timer_ends which None = search (keeps, once) depth 14
  arm_timer_ends which (Some setting) = search (keeps, once) depth 14

  pub alarm_ends : (seconds : ℕ) → Keeps KernelEnds (alarm kernel seconds)
  unfolding alarm
  alarm_ends seconds = search (keeps, once) depth 14

  pub read_clock_ends : (quanta id : ℕ) → Keeps KernelEnds (read_clock kernel quanta id)
  unfolding read_clock
  read_clock_ends quanta id = search (keeps, once) depth 14

  pub resolution_ends : (id : ℕ) → Keeps KernelEnds (resolution kernel id)
  unfolding resolution
  resolution_ends id = search (keeps, once) depth 14

  pub read_timer_ends : (which : ℕ) → Keeps KernelEnds (read_timer kernel which)
  unfolding read_timer
  read_timer_ends which = search (keeps, once) depth 14

  pub sleep_ends : (id : ℕ) (absolute : Option Bool) (time : Given TimeSpec) → Keeps KernelEnds (sleep kernel id absolute time)
  unfolding sleep
  sleep_ends id absolute time = search (keeps, until_ends, once) depth 14

  pub poll_ends : (wait : Given (Option ℕ)) (count : ℕ) (entries : Given (List PollEntry)) → Keeps KernelEnds (poll kernel wait count entries)
  unfolding poll
  poll_ends wait count entries = search (keeps, until_ends, once) depth 14

  pub select_ends : (wait : Given (Option ℕ)) (count : ℤ) (sets : Given Sets) → Keeps KernelEnds (select kernel wait count sets)
  unfolding select
  select_ends wait count sets = search (keeps, until_ends, once) depth 14

  limit_to_ends : (resource : Resource) (limit : Option Limit) → Keeps KernelEnds (set_limit_to kernel resource limit)
  limit_to_ends resource None = search (keeps, once) depth 14
  limit_to_ends resource (Some limit) = search (keeps, once) depth 14

  pub set_limit_ends : (pid : ℤ) (resource : Option Resource) (limit : Option (Given Limit)) → Keeps KernelEnds (set_limit kernel pid resource limit)
  unfolding set_limit
  set_limit_ends pid resource limit = search (keeps, limit_to_ends, once) depth 14

  pub random_bytes_ends : (asked room flags : ℕ) → Keeps KernelEnds (random_bytes kernel asked room flags)
  unfolding random_bytes
  random_bytes_ends asked room flags = search (keeps, transferring_keeps, once) depth 14
