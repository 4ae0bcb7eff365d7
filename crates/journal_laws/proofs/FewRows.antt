-- The rows of the kernel that may change which signals pend let no more pend than there may.
use Rattle.std.proofs.Common.{◌≡◌, ℕ, ◌≤◌, Bool, true, false, List, [], ◌∷◌, length, Option, Some, None, Ok, Err, refl, sym, subst, arith}
use Rattle.std.specs.Prelude.{ℤ, nat_le, slice_set, if◌then◌else◌}
use Rattle.kernel_core.specs.declared.error.Errno.{Errno}
use Rattle.kernel_core.specs.declared.mask.MaskChange.{MaskChange}
use Rattle.kernel_core.specs.declared.resource.Resource.{Resource}
use Rattle.kernel_core.specs.declared.signal.Sig.{Sig}
use Rattle.kernel_core.specs.declared.signal.Sig.TheVariants as sigs
use Rattle.kernel_model.specs.Came.{Came, Done, Refused, Waits, Did, Given, refused, refused_if, with_given, with_some}
use Rattle.kernel_model.specs.Clock.{TimerSetting, arm_timer, gone_off, read_clock, read_timer, resolution, sleep, waits_until}
use Rattle.kernel_model.specs.Readiness.{PollEntry, Sets, poll, poll_ready, select, select_of}
use Rattle.kernel_model.specs.Shared.{Info, PollSet}
use Rattle.kernel_model.specs.SignalRows.{Named, Nothing, Signal, Unlisted, SentInfo, accept, accept_first, accept_signal, advance, after_action, after_expiry, change_mask, ignores, kill, kill_info, kill_thread, kill_thread_of, pending, pending_at, post, queue, send_named, sent_as, set_action, set_action_to, set_stack, set_stack_to, suspend, timer_info, with_pending, with_signals}
use Rattle.kernel_model.specs.SignalSets.{SignalSet, blockable, place}
use Rattle.kernel_model.specs.State.{Kernel, Signals, Timer}
use Rattle.kernel_model.specs.System.{random_bytes, set_limit, set_limit_to}
use Rattle.kernel_model.specs.Whole.{is_broken_pipe, with_sigpipe}
use Rattle.kernel_model.specs.declared.limit.Limit.{Limit}
use Rattle.kernel_model.specs.declared.signal.Action.{Action}
use Rattle.kernel_model.specs.declared.signal.Post.{Post}
use Rattle.kernel_model.specs.declared.signal.Post.TheVariants as posts
use Rattle.kernel_model.specs.declared.signal.SigStack.{SigStack}
use Rattle.kernel_model.specs.declared.time.TimeSpec.{TimeSpec}
use Rattle.journal_laws.proofs.Pending.{Few, FewPend, either_few, fewer_pend, post_few}

-- How rows are written

-- the state after a row
pub record FewAfter {V : Type 0} (did : Did Kernel V) : Type 0 where
  pub few : Few did.state

pub after : {V : Type 0} (did : Did Kernel V) → Few did.state → FewAfter did
after did few = record { few = few }

pub either_row : {V : Type 0} (test : Bool) (one other : Did Kernel V) → FewAfter one → FewAfter other → FewAfter (if test then one else other)
either_row true one other first second = first
either_row false one other first second = second

pub unless_wrong : {V : Type 0} (wrong : Bool) (error : Errno) (kernel : Kernel) (rest : Did Kernel V) → Few kernel → FewAfter rest → FewAfter (refused_if wrong error kernel rest)
unless_wrong wrong error kernel rest few further = either_row wrong (refused kernel error) rest (after _ few) further

given_row : {V A : Type 0} (kernel : Kernel) (given : Given A) (rest : A → Did Kernel V) → Few kernel → ((value : A) → FewAfter (rest value)) → FewAfter (with_given kernel given rest)
given_row kernel (Err error) rest few further = after _ few
given_row kernel (Ok value) rest few further = further value

some_row : {V A : Type 0} (kernel : Kernel) (error : Errno) (some : Option A) (rest : A → Did Kernel V) → Few kernel → ((value : A) → FewAfter (rest value))
    → FewAfter (with_some kernel error some rest)
some_row kernel error None rest few further = after _ few
some_row kernel error (Some value) rest few further = further value

until_row : {V : Type 0} (kernel : Kernel) (until : Option ℕ) (ended : Did Kernel V) → Few kernel → FewAfter ended → FewAfter (waits_until kernel until ended)
until_row kernel None ended few further = after _ few
until_row kernel (Some until) ended few further = either_row (nat_le until kernel.clock) ended _ further (after _ few)

ruleset rows = (unless_wrong, given_row, some_row, until_row, either_row, after)

pub action_few : (signals : Signals) (signal : Sig) (action : Action) → FewPend signals.pending → FewPend (after_action signals signal action).pending
action_few signals signal action pend =
    let changed = record signals { actions = slice_set signals.actions (place signal) (record action { mask = blockable action.mask }) } in
    either_few (ignores signal action) (with_pending changed signal []) changed (fewer_pend signals.pending (place signal) [] (omega arith) pend) pend

module _ (kernel : Kernel) (few : Few kernel) where
  -- Limits and chance

  limit_to_few : (resource : Resource) (limit : Option Limit) → FewAfter (set_limit_to kernel resource limit)
  limit_to_few resource None = after _ few
  limit_to_few resource (Some limit) = search rows

  pub limit_few : (pid : ℤ) (resource : Option Resource) (limit : Option (Given Limit)) → FewAfter (set_limit kernel pid resource limit)
  unfolding set_limit
  limit_few pid resource limit = search (rows, limit_to_few)

  pub random_few : (asked room flags : ℕ) → FewAfter (random_bytes kernel asked room flags)
  unfolding random_bytes
  random_few asked room flags = search rows

  -- Time

  pub clock_few : (quanta id : ℕ) → FewAfter (read_clock kernel quanta id)
  unfolding read_clock
  clock_few quanta id = search rows

  pub resolution_few : (id : ℕ) → FewAfter (resolution kernel id)
  unfolding resolution
  resolution_few id = search rows

  pub sleep_few : (id : ℕ) (absolute : Option Bool) (time : Given TimeSpec) → FewAfter (sleep kernel id absolute time)
  unfolding sleep
  sleep_few id absolute time = search rows depth 9

  pub timer_few : (which : ℕ) (setting : Option (Given TimerSetting)) → FewAfter (arm_timer kernel which setting)
  unfolding arm_timer
  timer_few which None = search rows
  timer_few which (Some setting) = search rows depth 9

  pub read_timer_few : (which : ℕ) → FewAfter (read_timer kernel which)
  unfolding read_timer
  read_timer_few which = search rows

  -- Readiness

  poll_ready_few : (wait : Option ℕ) (events : List PollSet) → FewAfter (poll_ready kernel wait events)
  poll_ready_few wait events = search rows

  pub poll_few : (wait : Given (Option ℕ)) (count : ℕ) (entries : Given (List PollEntry)) → FewAfter (poll kernel wait count entries)
  unfolding poll
  poll_few wait count entries = search (rows, poll_ready_few)

  select_of_few : (wait : Option ℕ) (sets : Sets) → FewAfter (select_of kernel wait sets)
  select_of_few wait sets = search rows

  pub select_few : (wait : Given (Option ℕ)) (count : ℤ) (sets : Given Sets) → FewAfter (select kernel wait count sets)
  unfolding select
  select_few wait count sets = search (rows, select_of_few)

  -- Sending

  sent_few : (signals : Signals) (became : Post) → FewPend signals.pending → FewAfter (sent_as (with_signals kernel signals) became)
  sent_few signals posts.Queued pend = after _ pend
  sent_few signals posts.Dropped pend = after _ pend
  sent_few signals posts.Full pend = after _ pend

  named_few : (signal : Named) (info : Sig → Info) → FewAfter (send_named kernel signal info)
  named_few Nothing info = after _ few
  named_few (Signal signal) info =
      let answer = post kernel.signals (info signal) false in sent_few answer.signals answer.post (post_few kernel.signals (info signal) false few)
  named_few Unlisted info = after _ few

  pub kill_few : (pid : ℤ) (signal : Named) → FewAfter (kill kernel pid signal)
  unfolding kill
  kill_few pid signal = search (rows, named_few)

  pub kill_thread_few : (tid : ℤ) (signal : Named) → FewAfter (kill_thread kernel tid signal)
  unfolding kill_thread
  kill_thread_few tid signal = search (rows, named_few)

  pub kill_thread_of_few : (pid tid : ℤ) (signal : Named) → FewAfter (kill_thread_of kernel pid tid signal)
  unfolding kill_thread_of
  kill_thread_of_few pid tid signal = search (rows, named_few)

  pub queue_few : (pid : ℤ) (signal : Named) (sent : Given SentInfo) → FewAfter (queue kernel pid signal sent)
  unfolding queue
  queue_few pid signal sent = search (rows, named_few)

  pub sigpipe_few : (came : Came ℕ) → Few (with_sigpipe kernel came)
  sigpipe_few (Done count) = few
  sigpipe_few (Refused error) = by (is_broken_pipe error) where
    by : (broken : Bool) → Few (if broken then record kernel { signals = (post kernel.signals (kill_info sigs.Pipe) false).signals } else kernel)
    by true = post_few kernel.signals (kill_info sigs.Pipe) false few
    by false = few
  sigpipe_few (Waits wake) = few

  -- Actions, the mask, and what pends

  set_action_to_few : (signal : Sig) (action : Option Action) → FewAfter (set_action_to kernel signal action)
  set_action_to_few signal None = after _ few
  set_action_to_few signal (Some action) = after _ (action_few kernel.signals signal action few)

  pub set_action_few : (size : ℕ) (signal : Option Sig) (action : Option (Given Action)) → FewAfter (set_action kernel size signal action)
  unfolding set_action
  set_action_few size signal action = search (rows, set_action_to_few) depth 7

  pub mask_few : (size : ℕ) (how : Option MaskChange) (set : Option (Given SignalSet)) → FewAfter (change_mask kernel size how set)
  unfolding change_mask
  mask_few size how None = search rows
  mask_few size how (Some set) = search rows

  pub pending_few : (size : ℕ) → FewAfter (pending kernel size)
  unfolding pending
  pending_few size = search rows

  accept_first_few : (signal : Sig) (infos : List Info) (none : Did Kernel Info) → pending_at kernel.signals signal ≡ infos → FewAfter none
      → FewAfter (accept_first kernel signal infos none)
  accept_first_few signal [] none is further = further
  accept_first_few signal (info ∷ rest) none is further =
      after _ (fewer_pend kernel.signals.pending (place signal) rest (subst (λ (l : List Info). length rest ≤ length l) (sym is) (omega arith)) few)

  accept_signal_few : (signal : Option Sig) (none : Did Kernel Info) → FewAfter none → FewAfter (accept_signal kernel signal none)
  accept_signal_few None none further = further
  accept_signal_few (Some signal) none further = accept_first_few signal (pending_at kernel.signals signal) none refl further

  pub accept_few : (order : List Sig) (waitable : SignalSet → SignalSet) (set : Given SignalSet) (time : Option (Given TimeSpec)) (size : ℕ)
      → FewAfter (accept kernel order waitable set time size)
  unfolding accept
  accept_few order waitable set time size = search (rows, accept_signal_few) depth 7

  pub suspend_few : (size : ℕ) (set : Given SignalSet) → FewAfter (suspend kernel size set)
  unfolding suspend
  suspend_few size set = search rows

  stack_to_few : (sp : Option ℕ) (stack : Option SigStack) → FewAfter (set_stack_to kernel sp stack)
  stack_to_few sp None = after _ few
  stack_to_few sp (Some stack) = search rows

  pub stack_few : (sp : Option ℕ) (stack : Option (Given SigStack)) → FewAfter (set_stack kernel sp stack)
  unfolding set_stack
  stack_few sp stack = search (rows, stack_to_few)

  -- The clock moves

  expiry_few : (kept : Bool) (timer : Option Timer) → Few (after_expiry kernel kept timer)
  expiry_few kept None = few
  expiry_few kept (Some timer) = post_few kernel.signals timer_info kept few

pub advance_few : (kernel : Kernel) (to : ℕ) (kept : Bool) → Few kernel → Few (advance kernel to kept)
unfolding advance
advance_few kernel to kept few = expiry_few (record kernel { clock = to }) few kept (gone_off to kernel.timer)
