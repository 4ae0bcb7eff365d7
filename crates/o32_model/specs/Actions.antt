-- Actions, the mask, what pends, and the alternate stack: rt_sigaction(2), rt_sigprocmask(2), rt_sigpending(2), sigaltstack(2).
use Rattle.std.specs.Prelude.{ℕ, pos, nat_abs, List, [], ◌∷◌, map, drop, slice_index, Option, Some}
use Rattle.guest_space.specs.Memory.{Memory}
use Rattle.kernel_model.specs.Came.{Given, told_as}
use Rattle.kernel_model.specs.SignalRows.{set_action, change_mask, pending, set_stack}
use Rattle.kernel_model.specs.State.{Kernel}
use Rattle.kernel_model.specs.declared.signal.Action.{Action}
use Rattle.kernel_model.specs.declared.signal.SigStack.{SigStack}
use Rattle.layouts.specs.O32.{sigaction, stack}
use Rattle.layouts.specs.Shape.{record_bytes, record_values}
use Rattle.mips_exec.specs.Processor.{register}
use Rattle.number_tables.specs.MaskChanges.{mask_change_of_o32}
use Rattle.number_tables.specs.SaNumbers.{o32_sa, o32_sa_read}
use Rattle.number_tables.specs.Signals.{signal_of_o32}
use Rattle.o32_calls.specs.Numbers.{signal_number}
use Rattle.o32_calls.specs.declared.signals.SignalCall.TheVariants.{RtSigaction, RtSigprocmask, RtSigpending, Sigaltstack}
use Rattle.o32_model.specs.GuestBytes.{structure, read_as, unless_null}
use Rattle.o32_model.specs.Masks.{set_at, set_bytes}
use Rattle.o32_model.specs.Small.{stores_unless_null}
use Rattle.o32_model.specs.Step.{Guest, O32Step, O32Row, stores}
use Rattle.o32_model.specs.Words.{argument, sp}

-- Actions: flags, the handler and a mask of four words. Bits of flags that are not listed are dropped.

abbrev pub action_of : List ℕ → Action
action_of fields = record { flags = o32_sa_read (slice_index fields 0); handler = slice_index fields 1; mask = drop 2 fields }

abbrev pub action_in : List ℕ → Action
action_in bytes = action_of (map nat_abs (record_values sigaction bytes))

abbrev pub action_at : Memory → ℕ → Option (Given Action)
action_at memory address = unless_null address (read_as action_in (structure memory address sigaction.size))

abbrev pub action_bytes : Action → List ℕ
action_bytes action = record_bytes sigaction (pos (o32_sa action.flags) ∷ pos action.handler ∷ map pos action.mask)

unfoldable pub rt_sigaction_row : Kernel → Guest → ℕ → ℕ → ℕ → ℕ → List ℕ → O32Step
rt_sigaction_row kernel guest number new old size left =
    stores_unless_null guest old
    (told_as action_bytes (set_action kernel size (signal_of_o32 number) (action_at guest.memory new))) left

-- The mask and what pends

unfoldable pub rt_sigprocmask_row : Kernel → Guest → ℕ → ℕ → ℕ → ℕ → List ℕ → O32Step
rt_sigprocmask_row kernel guest how new old size left =
    stores_unless_null guest old
    (told_as set_bytes (change_mask kernel size (mask_change_of_o32 how) (unless_null new (set_at guest.memory new)))) left

unfoldable pub rt_sigpending_row : Kernel → Guest → ℕ → ℕ → List ℕ → O32Step
rt_sigpending_row kernel guest address size left = stores guest address (told_as set_bytes (pending kernel size)) left

-- The alternate stack: its place, its size and flags (stack_t of Linux arch/mips/include/uapi/asm/signal.h)

abbrev pub stack_of : List ℕ → SigStack
stack_of fields = record { sp = slice_index fields 0; size = slice_index fields 1; flags = slice_index fields 2 }

abbrev pub stack_in : List ℕ → SigStack
stack_in bytes = stack_of (map nat_abs (record_values stack bytes))

abbrev pub stack_at : Memory → ℕ → Option (Given SigStack)
stack_at memory address = unless_null address (read_as stack_in (structure memory address stack.size))

abbrev pub stack_bytes : SigStack → List ℕ
stack_bytes kept = record_bytes stack (pos kept.sp ∷ pos kept.size ∷ pos kept.flags ∷ [])

unfoldable pub sigaltstack_row : Kernel → Guest → ℕ → ℕ → List ℕ → O32Step
sigaltstack_row kernel guest new old left =
    stores_unless_null guest old
    (told_as stack_bytes (set_stack kernel (Some (register guest.processor sp)) (stack_at guest.memory new))) left

-- The numbers (Linux arch/mips/include/uapi/asm/unistd.h, the o32 table)
abbrev pub action_calls : List O32Row
action_calls =
    record { number = signal_number RtSigaction; step = λ kernel guest. rt_sigaction_row kernel guest (argument guest.words 0) (argument guest.words 1) (argument guest.words 2) (argument guest.words 3) }
    ∷ record { number = signal_number RtSigprocmask; step = λ kernel guest. rt_sigprocmask_row kernel guest (argument guest.words 0) (argument guest.words 1) (argument guest.words 2) (argument guest.words 3) }
    ∷ record { number = signal_number RtSigpending; step = λ kernel guest. rt_sigpending_row kernel guest (argument guest.words 0) (argument guest.words 1) }
    ∷ record { number = signal_number Sigaltstack; step = λ kernel guest. sigaltstack_row kernel guest (argument guest.words 0) (argument guest.words 1) }
    ∷ []
