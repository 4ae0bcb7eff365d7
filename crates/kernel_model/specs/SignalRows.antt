-- Signals (signal(7)): posting, and the rows kill(2), tgkill(2), rt_sigqueueinfo(2), sigaction(2), sigprocmask(2), sigpending(2),
-- sigtimedwait(2), sigsuspend(2), sigaltstack(2).
use Rattle.std.specs.Prelude.{ℕ, ◌+◌, ◌*◌, ◌==◌, ℤ, pos, negsuc, neg_ℤ, int_lt, Bool, true, false, ◌&&◌, ◌||◌, not, List, [], ◌∷◌, ◌++◌, length, drop, find, sum_by, slice_index_or, slice_set, slice_range, Option, Some, None, is_some, nat_lt, nat_le, if◌then◌else◌}
use Rattle.std.specs.List.{list_any}
use Rattle.kernel_core.specs.NameCalls.{is_empty_list}
use Rattle.kernel_core.specs.declared.error.Errno.TheVariants.{EAGAIN, EINVAL, ENOMEM, EPERM, ESRCH}
use Rattle.kernel_core.specs.declared.mask.MaskChange.{MaskChange}
use Rattle.kernel_core.specs.declared.mask.MaskChange.TheVariants as changes
use Rattle.kernel_core.specs.declared.signal.Sig.{Sig}
use Rattle.kernel_core.specs.declared.signal.Sig.TheVariants as sigs
use Rattle.kernel_model.specs.Came.{Did, Given, done, refused, refused_if, with_given, with_some, given_or_none, waits}
use Rattle.kernel_model.specs.Clock.{length_of, checked_or_none, deadline, waits_until, gone_off}
use Rattle.kernel_model.specs.Shared.{Info}
use Rattle.kernel_model.specs.SignalSets.{SignalSet, place, standard_count, words, no_signals, has, union, without, unblockable, blockable}
use Rattle.kernel_model.specs.State.{Kernel, Signals, Timer}
use Rattle.kernel_model.specs.declared.signal.Action.{Action}
use Rattle.kernel_model.specs.declared.signal.Post.{Post}
use Rattle.kernel_model.specs.declared.signal.Post.TheVariants as posts
use Rattle.kernel_model.specs.declared.signal.SigStack.{SigStack}
use Rattle.kernel_model.specs.declared.time.TimeSpec.{TimeSpec}

-- Which signals do what

abbrev pub is_stop : Sig → Bool
is_stop sigs.Stop = true
is_stop sigs.Tstp = true
is_stop sigs.Ttin = true
is_stop sigs.Ttou = true
is_stop _ = false

abbrev pub is_continue : Sig → Bool
is_continue sigs.Cont = true
is_continue _ = false

-- ignored without an action
abbrev pub is_ignored_by_default : Sig → Bool
is_ignored_by_default sigs.Chld = true
is_ignored_by_default sigs.Urg = true
is_ignored_by_default sigs.Winch = true
is_ignored_by_default sigs.Cont = true
is_ignored_by_default _ = false

abbrev pub is_standard : Sig → Bool
is_standard signal = nat_lt (place signal) standard_count

-- SIG_DFL and SIG_IGN
abbrev pub default_handler : ℕ
default_handler = 0

abbrev pub ignore_handler : ℕ
ignore_handler = 1

abbrev pub ignores : Sig → Action → Bool
ignores signal action =
    (action.handler == ignore_handler) || (action.handler == default_handler) && is_ignored_by_default signal

abbrev pub no_action : Action
no_action = record {
  handler = default_handler;
  flags = record { nocldstop = false; siginfo = false; nocldwait = false; onstack = false; restart = false; nodefer = false; resethand = false };
  mask = no_signals;
}

abbrev pub action_at : Signals → Sig → Action
action_at signals signal = slice_index_or signals.actions (place signal) no_action

-- What pends

abbrev pub pending_at : Signals → Sig → List Info
pending_at signals signal = slice_index_or signals.pending (place signal) []

abbrev pub pends : Signals → Sig → Bool
pends signals signal = not (is_empty_list (pending_at signals signal))

abbrev pub with_pending : Signals → Sig → List Info → Signals
with_pending signals signal infos = record signals { pending = slice_set signals.pending (place signal) infos }

-- how many real-time signals are queued, and how many may be
abbrev pub queued : Signals → ℕ
queued signals = sum_by length (drop standard_count signals.pending)

abbrev pub queue_limit : ℕ
queue_limit = 1024

-- the set of the signals that pend, from the lists at their places
abbrev pub bits_of : List (List Info) → ℕ
bits_of [] = 0
bits_of (infos ∷ rest) = (if is_empty_list infos then 0 else 1) + 2 * bits_of rest

abbrev pub pending_set : Signals → SignalSet
pending_set signals = words (λ k. bits_of (slice_range signals.pending (32 * k) (32 * k + 32)))

-- Posting

-- a stop signal removes a pending CONT, and CONT removes pending stop signals
abbrev pub after_removal : Signals → Sig → Signals
after_removal signals signal =
    if is_stop signal then with_pending signals sigs.Cont []
    else (if is_continue signal
    then with_pending (with_pending (with_pending (with_pending signals sigs.Stop []) sigs.Tstp []) sigs.Ttin []) sigs.Ttou []
    else signals)

-- the signals after a post, and what became of it
pub record Posted : Type 0 where
  pub signals : Signals
  pub post : Post

abbrev pub posted : Signals → Post → Posted
posted signals post = record { signals = signals; post = post }

abbrev pub appended : Signals → Info → Signals
appended signals info = with_pending signals info.sig (pending_at signals info.sig ++ info ∷ [])

-- a signal that isn't dropped as ignored: a standard one pends once, real-time ones queue
abbrev pub enqueued : Signals → Info → Posted
enqueued signals info =
    if is_standard info.sig
    then (if pends signals info.sig then posted signals posts.Dropped else posted (appended signals info) posts.Queued)
    else (if nat_le queue_limit (queued signals) then posted signals posts.Full else posted (appended signals info) posts.Queued)

-- a signal that is ignored and not blocked is dropped, unless a sigtimedwait waits for it, which `kept` says
abbrev pub is_dropped : Signals → Sig → Bool → Bool
is_dropped signals signal kept = ignores signal (action_at signals signal) && not (has signals.mask signal) && not kept

abbrev pub posted_after : Signals → Info → Bool → Posted
posted_after signals info kept = if is_dropped signals info.sig kept then posted signals posts.Dropped else enqueued signals info

unfoldable pub post : Signals → Info → Bool → Posted
post signals info kept = posted_after (after_removal signals info.sig) info kept

-- Who sent it

-- SI_USER, SI_KERNEL, SI_QUEUE and SI_TKILL, which are the same in both worlds

abbrev pub si_user : ℤ
si_user = pos 0

abbrev pub si_kernel : ℤ
si_kernel = pos 0x80

abbrev pub si_queue : ℤ
si_queue = negsuc 0

abbrev pub si_tkill : ℤ
si_tkill = negsuc 5

abbrev pub info_of : Sig → ℤ → ℕ → ℕ → Info
info_of signal code pid value = record { sig = signal; code = code; errno = pos 0; pid = pid; uid = 0; value = value; addr = 0 }

-- the process has the id 100, and its parent 1
abbrev pub own_id : ℕ
own_id = 100

abbrev pub parent_id : ℕ
parent_id = 1

-- sent by the process itself by kill(2), and SIGPIPE too
abbrev pub kill_info : Sig → Info
kill_info signal = info_of signal si_user own_id 0

-- sent by tkill(2) and tgkill(2)
abbrev pub tkill_info : Sig → Info
tkill_info signal = info_of signal si_tkill own_id 0

-- sent from outside, by the schedule
abbrev pub scheduled_info : Sig → Option ℕ → Info
scheduled_info signal None = info_of signal si_user parent_id 0
scheduled_info signal (Some value) = info_of signal si_queue parent_id value

abbrev pub timer_info : Info
timer_info = info_of sigs.Alrm si_kernel 0 0

-- Sending

abbrev pub with_signals : Kernel → Signals → Kernel
with_signals kernel signals = record kernel { signals = signals }

-- a call that sends one signal more than may be queued is EAGAIN (own)
abbrev pub sent_as : Kernel → Post → Did Kernel (Unit {0})
sent_as kernel posts.Queued = done kernel tt
sent_as kernel posts.Dropped = done kernel tt
sent_as kernel posts.Full = refused kernel EAGAIN

abbrev pub send : Kernel → Info → Did Kernel (Unit {0})
send kernel info = let answer = post kernel.signals info false in sent_as (with_signals kernel answer.signals) answer.post

-- what a program names by a number: 0 names none, and a number above 128 is not listed
pub data Named : Type 0 where
  Nothing : Named
  Signal : Sig → Named
  Unlisted : Named

abbrev pub send_named : Kernel → Named → (Sig → Info) → Did Kernel (Unit {0})
send_named kernel Nothing info = done kernel tt
send_named kernel (Signal signal) info = send kernel (info signal)
send_named kernel Unlisted info = refused kernel EINVAL

abbrev pub is_id : ℤ → ℕ → Bool
is_id number id = not (int_lt number (pos id)) && not (int_lt (pos id) number)

-- itself by its id, as its group, or as a group by its id
abbrev pub names_itself : ℤ → Bool
names_itself pid = is_id pid own_id || is_id pid 0 || is_id (neg_ℤ pid) own_id

-- kill(2)
unfoldable pub kill : Kernel → ℤ → Named → Did Kernel (Unit {0})
kill kernel pid signal = refused_if (not (names_itself pid)) ESRCH kernel (send_named kernel signal kill_info)

-- tkill(2)
unfoldable pub kill_thread : Kernel → ℤ → Named → Did Kernel (Unit {0})
kill_thread kernel tid signal =
    refused_if (int_lt tid (pos 1)) EINVAL kernel (
    refused_if (not (is_id tid own_id)) ESRCH kernel (
    send_named kernel signal tkill_info))

-- tgkill(2)
unfoldable pub kill_thread_of : Kernel → ℤ → ℤ → Named → Did Kernel (Unit {0})
kill_thread_of kernel pid tid signal =
    refused_if (int_lt pid (pos 1) || int_lt tid (pos 1)) EINVAL kernel (
    refused_if (not (is_id pid own_id) || not (is_id tid own_id)) ESRCH kernel (
    send_named kernel signal tkill_info))

-- what rt_sigqueueinfo(2) keeps of its structure
pub record SentInfo : Type 0 where
  pub code : ℤ
  pub errno : ℤ
  pub pid : ℕ
  pub uid : ℕ
  pub value : ℕ

abbrev pub queued_info : SentInfo → Sig → Info
queued_info sent signal =
    record { sig = signal; code = sent.code; errno = sent.errno; pid = sent.pid; uid = sent.uid; value = sent.value; addr = 0 }

abbrev pub is_unlisted : Named → Bool
is_unlisted Nothing = false
is_unlisted (Signal signal) = false
is_unlisted Unlisted = true

-- rt_sigqueueinfo(2)
unfoldable pub queue : Kernel → ℤ → Named → Given SentInfo → Did Kernel (Unit {0})
queue kernel pid signal sent =
    refused_if (not (is_id pid own_id)) ESRCH kernel (
    refused_if (is_unlisted signal) EINVAL kernel (
    with_given kernel sent (λ sent.
    send_named kernel signal (queued_info sent))))

-- Actions, the mask and what pends. A set has 16 bytes, and another size is EINVAL.

abbrev pub set_size : ℕ
set_size = 16

abbrev pub is_unblockable : Sig → Bool
is_unblockable signal = has unblockable signal

-- a new action, which removes what pends where it ignores the signal
abbrev pub after_action : Signals → Sig → Action → Signals
after_action signals signal action =
    let changed = record signals { actions = slice_set signals.actions (place signal) (record action { mask = blockable action.mask }) } in
    if ignores signal action then with_pending changed signal [] else changed

abbrev pub set_action_to : Kernel → Sig → Option Action → Did Kernel Action
set_action_to kernel signal None = done kernel (action_at kernel.signals signal)
set_action_to kernel signal (Some action) =
    done (with_signals kernel (after_action kernel.signals signal action)) (action_at kernel.signals signal)

-- sigaction(2): the old action is given. KILL and STOP get no new one.
unfoldable pub set_action : Kernel → ℕ → Option Sig → Option (Given Action) → Did Kernel Action
set_action kernel size signal action =
    refused_if (not (size == set_size)) EINVAL kernel (
    with_some kernel EINVAL signal (λ signal.
    refused_if (is_some action && is_unblockable signal) EINVAL kernel (
    with_given kernel (given_or_none action) (λ action.
    set_action_to kernel signal action))))

abbrev pub changed_mask : MaskChange → SignalSet → SignalSet → SignalSet
changed_mask changes.Block mask set = union mask set
changed_mask changes.Unblock mask set = without mask set
changed_mask changes.Set mask set = set

abbrev pub with_mask : Kernel → SignalSet → Kernel
with_mask kernel mask = with_signals kernel (record kernel.signals { mask = blockable mask })

-- sigprocmask(2): the old mask is given. `how` is none where it is not listed, which is wrong only with a set.
unfoldable pub change_mask : Kernel → ℕ → Option MaskChange → Option (Given SignalSet) → Did Kernel SignalSet
change_mask kernel size how None =
    refused_if (not (size == set_size)) EINVAL kernel (done kernel kernel.signals.mask)
change_mask kernel size how (Some set) =
    refused_if (not (size == set_size)) EINVAL kernel (
    with_some kernel EINVAL how (λ how.
    with_given kernel set (λ set.
    done (with_mask kernel (changed_mask how kernel.signals.mask set)) kernel.signals.mask)))

-- sigpending(2)
unfoldable pub pending : Kernel → ℕ → Did Kernel SignalSet
pending kernel size = refused_if (not (size == set_size)) EINVAL kernel (done kernel (pending_set kernel.signals))

-- Accepting

abbrev pub accept_first : Kernel → Sig → List Info → Did Kernel Info → Did Kernel Info
accept_first kernel signal [] none = none
accept_first kernel signal (info ∷ rest) none = done (with_signals kernel (with_pending kernel.signals signal rest)) info

abbrev pub accept_signal : Kernel → Option Sig → Did Kernel Info → Did Kernel Info
accept_signal kernel None none = none
accept_signal kernel (Some signal) none = accept_first kernel signal (pending_at kernel.signals signal) none

-- the first signal of a set that pends, in an order of all signals
abbrev pub first_pending : Signals → List Sig → SignalSet → Option Sig
first_pending signals order set = find (λ signal. has set signal && pends signals signal) order

-- rt_sigtimedwait(2): of the set's signals that pend it takes the first in the order of a world's numbers. EAGAIN where none pends when
-- the time is over. `order` has all 128 signals, each once, by the world's numbers from the lowest on. `waitable` takes out of the set
-- what can't be waited for: one world takes out KILL and STOP (`blockable`), another nothing.
unfoldable pub accept : Kernel → List Sig → (SignalSet → SignalSet) → Given SignalSet → Option (Given TimeSpec) → ℕ → Did Kernel Info
accept kernel order waitable set time size =
    refused_if (not (size == set_size)) EINVAL kernel (
    with_given kernel set (λ set.
    with_given kernel (checked_or_none length_of time) (λ length.
    accept_signal kernel (first_pending kernel.signals order (waitable set)) (
    waits_until kernel (deadline kernel length) (refused kernel EAGAIN)))))

-- sigsuspend(2): it waits without end. That the mask stands while it does, and is put back, is with whoever ends the wait.
unfoldable pub suspend : Kernel → ℕ → Given SignalSet → Did Kernel (Unit {0})
suspend kernel size set =
    refused_if (not (size == set_size)) EINVAL kernel (
    with_given kernel set (λ _. waits kernel None))

-- pause(2)
unfoldable pub pause : Kernel → Did Kernel (Unit {0})
pause kernel = waits kernel None

-- The alternate stack

-- SS_ONSTACK and SS_DISABLE
abbrev pub ss_onstack : ℕ
ss_onstack = 1

abbrev pub ss_disable : ℕ
ss_disable = 2

-- MINSIGSTKSZ
abbrev pub least_stack : ℕ
least_stack = 2048

abbrev pub no_stack : SigStack
no_stack = record { sp = 0; size = 0; flags = ss_disable }

-- a stack pointer lies on the stack, which is enabled. Where no stack pointer is looked at, there is none.
abbrev pub is_on : SigStack → Option ℕ → Bool
is_on stack None = false
is_on stack (Some sp) = not (stack.flags == ss_disable) && nat_lt stack.sp sp && nat_le sp (stack.sp + stack.size)

-- the stack as it is shown: with SS_ONSTACK while the stack pointer is on it
abbrev pub shown_stack : SigStack → Option ℕ → SigStack
shown_stack stack sp = if is_on stack sp then record stack { flags = ss_onstack } else stack

-- the stack as it is kept: disabling makes its place and its size 0
abbrev pub kept_stack : SigStack → SigStack
kept_stack stack = if stack.flags == ss_disable then no_stack else record stack { flags = 0 }

abbrev pub with_stack : Kernel → SigStack → Kernel
with_stack kernel stack = with_signals kernel (record kernel.signals { stack = kept_stack stack })

abbrev pub set_stack_to : Kernel → Option ℕ → Option SigStack → Did Kernel SigStack
set_stack_to kernel sp None = done kernel (shown_stack kernel.signals.stack sp)
set_stack_to kernel sp (Some stack) =
    refused_if (is_on kernel.signals.stack sp) EPERM kernel (
    refused_if (nat_lt ss_disable stack.flags) EINVAL kernel (
    refused_if (not (stack.flags == ss_disable) && nat_lt stack.size least_stack) ENOMEM kernel (
    done (with_stack kernel stack) (shown_stack kernel.signals.stack sp))))

-- sigaltstack(2): the old stack is given
unfoldable pub set_stack : Kernel → Option ℕ → Option (Given SigStack) → Did Kernel SigStack
set_stack kernel sp stack = with_given kernel (given_or_none stack) (λ stack. set_stack_to kernel sp stack)

-- The clock moves

abbrev pub after_expiry : Kernel → Bool → Option Timer → Kernel
after_expiry kernel kept None = kernel
after_expiry kernel kept (Some timer) = record kernel { timer = timer; signals = (post kernel.signals timer_info kept).signals }

-- The clock goes to a time, and the interval timer, where it is due by then, posts ALRM once. `kept` says that a sigtimedwait waits for
-- ALRM.
unfoldable pub advance : Kernel → ℕ → Bool → Kernel
advance kernel to kept = after_expiry (record kernel { clock = to }) kept (gone_off to kernel.timer)

-- whether an unblocked signal pends
abbrev pub is_deliverable : Signals → Bool
is_deliverable signals = list_any (λ word. not (word == 0)) (without (pending_set signals) signals.mask)
