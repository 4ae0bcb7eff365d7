-- What the calls on time, signals and readiness leave of the kernel where they fail or wait.
use Rattle.std.proofs.Common.{◌≡◌, ◌==◌, ◌*◌, ℕ, Bool, true, false, List, [], refl}
use Rattle.std.specs.Prelude.{ℤ, Option, Some, None, Ok, Err, count_by, if◌then◌else◌}
use Rattle.kernel_core.specs.declared.error.Errno.TheVariants.{EINVAL}
use Rattle.kernel_model.proofs.refusals.ClockRefusals.{arm_timer_stays, sleep_stays}
use Rattle.kernel_model.proofs.refusals.OtherRefusals.{poll_stays, select_stays}
use Rattle.kernel_model.proofs.refusals.SendRefusals.{kill_stays, kill_thread_of_stays, kill_thread_stays, queue_stays}
use Rattle.kernel_model.proofs.refusals.SignalRefusals.{accept_stays, change_mask_stays, set_action_stays, set_stack_stays, suspend_stays}
use Rattle.kernel_model.specs.Came.{Came, Done, Refused, Waits, Did, Given, came_as, told_as, refused_if, with_some, done}
use Rattle.kernel_model.specs.Clock.{clock_time, read_clock, read_timer, resolution}
use Rattle.kernel_model.specs.Readiness.{counted_fds, is_any, masked_wait, poll, select, set_count}
use Rattle.kernel_model.specs.Shared.{Errno, Info}
use Rattle.kernel_model.specs.SignalRows.{pending, set_stack}
use Rattle.kernel_model.specs.State.{Kernel}
use Rattle.kernel_model.specs.declared.signal.SigStack.{SigStack}
use Rattle.native_calls.proofs.ClockPlain.{accept_plain, arm_timer_plain, change_mask_plain, kill_plain, kill_thread_of_plain, kill_thread_plain, masked_fine, pending_plain, poll_plain, queue_plain, read_clock_plain, read_timer_plain, resolution_plain, select_plain, set_action_plain, set_stack_idle, sleep_plain, suspend_plain, wait_fine}
use Rattle.native_calls.proofs.Leaves.{CallsLeave, ComesIdle, Leaves, gives_leaves, good_told_leaves, null_leaves, number_leaves, old_leaves, stores_leaves, structure_fine, told_at, told_good, told_leaves, unless_null_fine, zero_on_kernel}
use Rattle.native_calls.proofs.Plain.{FineGiven, FineUnlessNull, ok_fine, test_fine, told_plain}
use Rattle.native_calls.specs.Arguments.{argument, word, signed_word}
use Rattle.native_calls.specs.Clocks.{clock_calls, setting_at, setting_in, timer_bytes, nanosleep_row, getitimer_row, setitimer_row, clock_gettime_row, clock_getres_row, clock_nanosleep_row}
use Rattle.native_calls.specs.HostBytes.{read_as, structure, unless_null}
use Rattle.native_calls.specs.Laws.{Setitimer, Sigaction, Sigaltstack, Sigprocmask, Sigtimedwait}
use Rattle.native_calls.specs.Polls.{poll_calls, MaskArgument, SetPlaces, all_sets, entries_at, entries_in, fds_at, fds_in, mask_argument_at, mask_argument_in, masked_by, set_words, sets_at, wait_at, pselect_row, ppoll_row}
use Rattle.native_calls.specs.SignalBytes.{action_at, action_bytes, action_in, info_bytes, sent_in, set_at, set_bytes, set_in, stack_at, stack_bytes}
use Rattle.native_calls.specs.Signals.{signal_calls, kill_row, tkill_row, tgkill_row, sigaltstack_row, rt_sigsuspend_row, rt_sigaction_row, rt_sigprocmask_row, rt_sigpending_row, rt_sigtimedwait_row, rt_sigqueueinfo_row}
use Rattle.native_calls.specs.Step.{stores_unless_null}
use Rattle.native_calls.specs.Times.{time_at, time_bytes, time_in}
use Rattle.number_tables.specs.Signals.{native_signal}

-- Rows that change nothing

if_same : {V : Type 0} (wrong : Bool) (error : Errno) (kernel : Kernel) (value : V) → (refused_if wrong error kernel (done kernel value)).state ≡ kernel
if_same true error kernel value = refl
if_same false error kernel value = refl

some_same : {V : Type 0} (found : Option V) (error : Errno) (kernel : Kernel) → (with_some kernel error found (λ value. done kernel value)).state ≡ kernel
some_same None error kernel = refl
some_same (Some value) error kernel = refl

read_clock_same : (kernel : Kernel) (quanta id : ℕ) → (read_clock kernel quanta id).state ≡ kernel
unfolding read_clock
read_clock_same kernel quanta id = some_same (clock_time kernel quanta id) EINVAL kernel

resolution_same : (kernel : Kernel) (id : ℕ) → (resolution kernel id).state ≡ kernel
unfolding resolution
resolution_same kernel id = if_same _ EINVAL kernel _

read_timer_same : (kernel : Kernel) (which : ℕ) → (read_timer kernel which).state ≡ kernel
unfolding read_timer
read_timer_same kernel which = if_same _ EINVAL kernel _

pending_same : (kernel : Kernel) (size : ℕ) → (pending kernel size).state ≡ kernel
unfolding pending
pending_same kernel size = if_same _ EINVAL kernel _

-- The alternate stack

stack_idle : {V W : Type 0} (meaning : V → W) (did : Did Kernel V) → ComesIdle did.came → ComesIdle (told_as meaning did).came
stack_idle {V} {W} meaning did idle = by did.came idle where
  by : (came : Came V) → ComesIdle came → ComesIdle (came_as meaning came)
  by (Done found) idle = tt
  by (Refused error) idle = tt
  by (Waits wake) idle = idle

stack_leaves : (kernel : Kernel) (memory : List ℕ) (address : ℕ) (stack : Option (Given SigStack)) (left : List ℕ)
    → Leaves 132 kernel (stores_unless_null memory address (told_as stack_bytes (set_stack kernel None stack)) left)
stack_leaves kernel memory address stack left =
    let did = set_stack kernel None stack in
    told_leaves 132 1 (Sigaltstack refl refl) kernel memory address (λ bytes. bytes) (λ _. 0) (told_as stack_bytes did)
    (stores_unless_null memory address (told_as stack_bytes did) left) refl refl
    (record { stays = told_at stack_bytes kernel did.state did.came (set_stack_stays kernel None stack).stays })
    (stack_idle stack_bytes did (set_stack_idle kernel None stack)) (λ e. refl)

-- What select and poll read

wait_at_fine : (memory : List ℕ) (time : ℕ) → FineGiven (wait_at memory time)
wait_at_fine memory time = wait_fine (unless_null time (time_at memory time)) (unless_null_fine time (time_at memory time) (structure_fine time_in memory time 16))

entries_fine : (memory : List ℕ) (address count : ℕ) → FineGiven (entries_at memory address count)
entries_fine memory address count =
    test_fine (count == 0) (Ok []) (read_as (entries_in count) (structure memory address (count * 8))) (ok_fine [])
    (structure_fine (entries_in count) memory address (count * 8))

fds_fine : (memory : List ℕ) (count address : ℕ) → FineGiven (fds_at memory count address)
fds_fine memory count address =
    let read = read_as (fds_in count) (structure memory address (8 * set_words count)) in
    test_fine (count == 0) (Ok []) (if address == 0 then Ok [] else read) (ok_fine [])
    (test_fine (address == 0) (Ok []) read (ok_fine []) (structure_fine (fds_in count) memory address (8 * set_words count)))

all_fine : (first second third : Given (List ℕ)) → FineGiven first → FineGiven second → FineGiven third → FineGiven (all_sets first second third)
all_fine (Err error) second third f g h = record { fine = f.fine }
all_fine (Ok found) (Err error) third f g h = record { fine = g.fine }
all_fine (Ok found) (Ok other) (Err error) f g h = record { fine = h.fine }
all_fine (Ok found) (Ok other) (Ok last) f g h = ok_fine _

sets_fine : (memory : List ℕ) (count : ℕ) (places : SetPlaces) → FineGiven (sets_at memory count places)
sets_fine memory count places =
    all_fine (fds_at memory count places.read) (fds_at memory count places.write) (fds_at memory count places.except)
    (fds_fine memory count places.read) (fds_fine memory count places.write) (fds_fine memory count places.except)

by_argument_fine : (memory : List ℕ) (wait : Given (Option ℕ)) → FineGiven wait → (given : Option (Given MaskArgument)) → FineUnlessNull given
    → FineGiven (masked_by memory wait given)
by_argument_fine memory wait fine None other = fine
by_argument_fine memory wait fine (Some (Err error)) other = record { fine = other.fine.fine }
by_argument_fine memory wait fine (Some (Ok argument)) other =
    masked_fine wait argument.size _ fine (unless_null_fine argument.mask (set_at memory argument.mask) (structure_fine set_in memory argument.mask 16))

argument_fine : (memory : List ℕ) (time address : ℕ) → FineGiven (masked_by memory (wait_at memory time) (mask_argument_at memory address))
argument_fine memory time address =
    by_argument_fine memory (wait_at memory time) (wait_at_fine memory time) (mask_argument_at memory address)
    (unless_null_fine address _ (structure_fine mask_argument_in memory address 16))

pselect_leaves : (kernel : Kernel) (memory : List ℕ) (count : ℤ) (places : SetPlaces) (time argument : ℕ) (left : List ℕ)
    → Leaves 72 kernel (pselect_row kernel memory count places time argument left)
unfolding pselect_row
pselect_leaves kernel memory count places time argument left =
    let wait = masked_by memory (wait_at memory time) (mask_argument_at memory argument) in
    let sets = sets_at memory (counted_fds count) places in
    number_leaves 72 kernel set_count (select kernel wait count sets) _ refl refl (record {
      stays = select_stays kernel wait count sets;
      plain = select_plain kernel wait count sets (argument_fine memory time argument) (sets_fine memory (counted_fds count) places);
    })

ppoll_leaves : (kernel : Kernel) (memory : List ℕ) (address count time mask size : ℕ) (left : List ℕ)
    → Leaves 73 kernel (ppoll_row kernel memory address count time mask size left)
unfolding ppoll_row
ppoll_leaves kernel memory address count time mask size left =
    let given = unless_null mask (set_at memory mask) in
    let wait = masked_wait (wait_at memory time) size given in
    let entries = entries_at memory address count in
    number_leaves 73 kernel (count_by is_any) (poll kernel wait count entries) _ refl refl (record {
      stays = poll_stays kernel wait count entries;
      plain = poll_plain kernel wait count entries
          (masked_fine (wait_at memory time) size given (wait_at_fine memory time) (unless_null_fine mask (set_at memory mask) (structure_fine set_in memory mask 16)))
          (entries_fine memory address count);
    })

-- Calls of the table

pub clocks_leave : CallsLeave clock_calls
unfolding nanosleep_row getitimer_row setitimer_row clock_gettime_row clock_getres_row clock_nanosleep_row
clocks_leave = (
  record { leaves = λ args kernel memory left. gives_leaves 101 kernel memory _ left (zero_on_kernel kernel _ (sleep_stays kernel _ _ _) (sleep_plain kernel _ _ _ (structure_fine time_in memory (argument args 0) 16))) },
  (
    record { leaves = λ args kernel memory left. stores_leaves 102 kernel memory (argument args 1) _ left (read_timer_same kernel (word args 0)) (told_plain false timer_bytes _ (read_timer_plain kernel (word args 0))) },
    (
      record { leaves = λ args kernel memory left. old_leaves 103 2 (Setitimer refl refl) kernel memory (argument args 2) _ left (told_good timer_bytes kernel _ (record { stays = arm_timer_stays kernel _ _; plain = arm_timer_plain kernel _ _ (unless_null_fine (argument args 1) (setting_at memory (argument args 1)) (structure_fine setting_in memory (argument args 1) 32)) })) },
      (
        record { leaves = λ args kernel memory left. stores_leaves 113 kernel memory (argument args 1) _ left (read_clock_same kernel kernel.clock (word args 0)) (told_plain false time_bytes _ (read_clock_plain kernel kernel.clock (word args 0))) },
        (
          record { leaves = λ args kernel memory left. null_leaves 114 kernel memory (argument args 1) _ left (resolution_same kernel (word args 0)) (told_plain false time_bytes _ (resolution_plain kernel (word args 0))) },
          (
            record { leaves = λ args kernel memory left. gives_leaves 115 kernel memory _ left (zero_on_kernel kernel _ (sleep_stays kernel _ _ _) (sleep_plain kernel _ _ _ (structure_fine time_in memory (argument args 2) 16))) },
            tt,
          ),
        ),
      ),
    ),
  ),
)

pub signals_leave : CallsLeave signal_calls
unfolding kill_row tkill_row tgkill_row sigaltstack_row rt_sigsuspend_row rt_sigaction_row rt_sigprocmask_row rt_sigpending_row rt_sigtimedwait_row rt_sigqueueinfo_row
signals_leave = (
  record { leaves = λ args kernel memory left. gives_leaves 129 kernel memory _ left (zero_on_kernel kernel _ (kill_stays kernel _ _) (kill_plain kernel _ _)) },
  (
    record { leaves = λ args kernel memory left. gives_leaves 130 kernel memory _ left (zero_on_kernel kernel _ (kill_thread_stays kernel _ _) (kill_thread_plain kernel _ _)) },
    (
      record { leaves = λ args kernel memory left. gives_leaves 131 kernel memory _ left (zero_on_kernel kernel _ (kill_thread_of_stays kernel _ _ _) (kill_thread_of_plain kernel _ _ _)) },
      (
        record { leaves = λ args kernel memory left. stack_leaves kernel memory (argument args 1) (unless_null (argument args 0) (stack_at memory (argument args 0))) left },
        (
          record { leaves = λ args kernel memory left. gives_leaves 133 kernel memory _ left (zero_on_kernel kernel _ (suspend_stays kernel _ _) (suspend_plain kernel _ _ (structure_fine set_in memory (argument args 0) 16))) },
          (
            record { leaves = λ args kernel memory left. old_leaves 134 2 (Sigaction refl refl) kernel memory (argument args 2) _ left (told_good action_bytes kernel _ (record { stays = set_action_stays kernel _ _ _; plain = set_action_plain kernel _ _ _ (unless_null_fine (argument args 1) (action_at memory (argument args 1)) (structure_fine action_in memory (argument args 1) 32)) })) },
            (
              record { leaves = λ args kernel memory left. old_leaves 135 2 (Sigprocmask refl refl) kernel memory (argument args 2) _ left (told_good set_bytes kernel _ (record { stays = change_mask_stays kernel _ _ _; plain = change_mask_plain kernel _ _ _ (unless_null_fine (argument args 1) (set_at memory (argument args 1)) (structure_fine set_in memory (argument args 1) 16)) })) },
              (
                record { leaves = λ args kernel memory left. stores_leaves 136 kernel memory (argument args 0) _ left (pending_same kernel (argument args 1)) (told_plain false set_bytes _ (pending_plain kernel (argument args 1))) },
                (
                  record { leaves = λ args kernel memory left. good_told_leaves 137 1 (Sigtimedwait refl refl) kernel memory (argument args 1) info_bytes (λ (info : Info). native_signal info.sig) _ _ refl refl (record { stays = accept_stays kernel _ _ _ _ _; plain = accept_plain kernel _ _ _ _ _ (structure_fine set_in memory (argument args 0) 16) (unless_null_fine (argument args 2) (time_at memory (argument args 2)) (structure_fine time_in memory (argument args 2) 16)) }) },
                  (
                    record { leaves = λ args kernel memory left. gives_leaves 138 kernel memory _ left (zero_on_kernel kernel _ (queue_stays kernel _ _ _) (queue_plain kernel _ _ _ (structure_fine sent_in memory (argument args 2) 128))) },
                    tt,
                  ),
                ),
              ),
            ),
          ),
        ),
      ),
    ),
  ),
)

pub polls_leave : CallsLeave poll_calls
polls_leave = (
  record { leaves = λ args kernel memory left. pselect_leaves kernel memory (signed_word args 0) (record { read = argument args 1; write = argument args 2; except = argument args 3 }) (argument args 4) (argument args 5) left },
  (
    record { leaves = λ args kernel memory left. ppoll_leaves kernel memory (argument args 0) (word args 1) (argument args 2) (argument args 3) (argument args 4) left },
    tt,
  ),
)
