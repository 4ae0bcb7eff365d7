-- The calls on signals: kill(2), tkill(2), tgkill(2), rt_sigqueueinfo(2), sigaction(2), sigprocmask(2), sigpending(2), sigtimedwait(2),
-- sigsuspend(2), sigaltstack(2).
use Rattle.std.specs.Prelude.{ℕ, ℤ, List, [], ◌∷◌, filter_map, None}
use Rattle.host_mem.specs.Memory.{written}
use Rattle.kernel_core.specs.declared.signal.Sig.{Sig}
use Rattle.kernel_model.specs.Came.{Did, told_as, told_zero}
use Rattle.kernel_model.specs.Pipes.{nothing}
use Rattle.kernel_model.specs.Shared.{Info}
use Rattle.kernel_model.specs.SignalRows.{kill, kill_thread, kill_thread_of, queue, set_action, change_mask, pending, accept, suspend, set_stack}
use Rattle.kernel_model.specs.SignalSets.{signal_count}
use Rattle.kernel_model.specs.State.{Kernel}
use Rattle.layouts.specs.Termios.{count_up}
use Rattle.native_calls.specs.Arguments.{argument, word, signed_word}
use Rattle.native_calls.specs.HostBytes.{unless_null}
use Rattle.native_calls.specs.SignalBytes.{named_by, set_at, set_bytes, action_at, action_bytes, stack_at, stack_bytes, sent_at, info_bytes}
use Rattle.native_calls.specs.Step.{NativeStep, NativeCall, told_unless_null, reply_to, memory_after, gives, stores, stores_unless_null}
use Rattle.native_calls.specs.Times.{time_at}
use Rattle.number_tables.specs.MaskChanges.{mask_change_of_native}
use Rattle.number_tables.specs.Signals.{native_signal, signal_of_native}

-- Sending

unfoldable pub kill_row : Kernel → List ℕ → ℤ → ℕ → List ℕ → NativeStep
kill_row kernel memory pid number left = gives memory (told_zero (kill kernel pid (named_by number))) left

unfoldable pub tkill_row : Kernel → List ℕ → ℤ → ℕ → List ℕ → NativeStep
tkill_row kernel memory tid number left = gives memory (told_zero (kill_thread kernel tid (named_by number))) left

unfoldable pub tgkill_row : Kernel → List ℕ → ℤ → ℤ → ℕ → List ℕ → NativeStep
tgkill_row kernel memory pid tid number left = gives memory (told_zero (kill_thread_of kernel pid tid (named_by number))) left

unfoldable pub rt_sigqueueinfo_row : Kernel → List ℕ → ℤ → ℕ → ℕ → List ℕ → NativeStep
rt_sigqueueinfo_row kernel memory pid number info left =
    gives memory (told_zero (queue kernel pid (named_by number) (sent_at memory info))) left

-- Actions, the mask and what pends

unfoldable pub rt_sigaction_row : Kernel → List ℕ → ℕ → ℕ → ℕ → ℕ → List ℕ → NativeStep
rt_sigaction_row kernel memory number action old size left =
    stores_unless_null memory old
    (told_as action_bytes (set_action kernel size (signal_of_native number) (unless_null action (action_at memory action)))) left

unfoldable pub rt_sigprocmask_row : Kernel → List ℕ → ℕ → ℕ → ℕ → ℕ → List ℕ → NativeStep
rt_sigprocmask_row kernel memory how set old size left =
    stores_unless_null memory old
    (told_as set_bytes (change_mask kernel size (mask_change_of_native how) (unless_null set (set_at memory set)))) left

unfoldable pub rt_sigpending_row : Kernel → List ℕ → ℕ → ℕ → List ℕ → NativeStep
rt_sigpending_row kernel memory address size left = stores memory address (told_as set_bytes (pending kernel size)) left

-- Accepting: the lowest native number of a set comes first, and KILL and STOP can be accepted too (own)

-- all signals, by rising native number
unfoldable pub native_order : List Sig
native_order = filter_map signal_of_native (count_up 1 signal_count)

-- The reply is the signal's number; what is known of it is stored whole, unless the address is null. A signal is gone also where that could
-- not be stored.
abbrev pub accepts : List ℕ → ℕ → Did Kernel Info → List ℕ → NativeStep
accepts memory address did left = record {
  kernel = did.state;
  left = left;
  memory = memory_after (λ info. written memory address (info_bytes info)) memory did.came;
  sent = nothing;
  reply = reply_to (λ info. told_unless_null memory address (info_bytes info) (native_signal info.sig)) did.came;
}

unfoldable pub rt_sigtimedwait_row : Kernel → List ℕ → ℕ → ℕ → ℕ → ℕ → List ℕ → NativeStep
rt_sigtimedwait_row kernel memory set info time size left =
    accepts memory info
    (accept kernel native_order (λ set. set) (set_at memory set) (unless_null time (time_at memory time)) size) left

-- The mask is read and has no effect here: whoever makes the call sets it.
unfoldable pub rt_sigsuspend_row : Kernel → List ℕ → ℕ → ℕ → List ℕ → NativeStep
rt_sigsuspend_row kernel memory set size left = gives memory (told_zero (suspend kernel size (set_at memory set))) left

-- The alternate stack. No stack pointer is looked at, so the process is never on it (own).
unfoldable pub sigaltstack_row : Kernel → List ℕ → ℕ → ℕ → List ℕ → NativeStep
sigaltstack_row kernel memory stack old left =
    stores_unless_null memory old (told_as stack_bytes (set_stack kernel None (unless_null stack (stack_at memory stack)))) left

-- The numbers (Linux include/uapi/asm-generic/unistd.h)
abbrev pub signal_calls : List NativeCall
signal_calls =
    record { number = 129; step = λ args kernel memory. kill_row kernel memory (signed_word args 0) (word args 1) }
    ∷ record { number = 130; step = λ args kernel memory. tkill_row kernel memory (signed_word args 0) (word args 1) }
    ∷ record { number = 131; step = λ args kernel memory. tgkill_row kernel memory (signed_word args 0) (signed_word args 1) (word args 2) }
    ∷ record { number = 132; step = λ args kernel memory. sigaltstack_row kernel memory (argument args 0) (argument args 1) }
    ∷ record { number = 133; step = λ args kernel memory. rt_sigsuspend_row kernel memory (argument args 0) (argument args 1) }
    ∷ record {
      number = 134;
      step = λ args kernel memory. rt_sigaction_row kernel memory (word args 0) (argument args 1) (argument args 2) (argument args 3);
    }
    ∷ record {
      number = 135;
      step = λ args kernel memory. rt_sigprocmask_row kernel memory (word args 0) (argument args 1) (argument args 2) (argument args 3);
    }
    ∷ record { number = 136; step = λ args kernel memory. rt_sigpending_row kernel memory (argument args 0) (argument args 1) }
    ∷ record {
      number = 137;
      step = λ args kernel memory. rt_sigtimedwait_row kernel memory (argument args 0) (argument args 1) (argument args 2) (argument args 3);
    }
    ∷ record { number = 138; step = λ args kernel memory. rt_sigqueueinfo_row kernel memory (signed_word args 0) (word args 1) (argument args 2) }
    ∷ []
