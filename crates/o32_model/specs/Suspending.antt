-- Waiting for signals: pause(2), rt_sigsuspend(2), rt_sigtimedwait(2).
use Rattle.std.specs.Prelude.{ℕ, zero, suc, ◌+◌, List, [], ◌∷◌, Some}
use Rattle.std.specs.List.{cons_option}
use Rattle.kernel_core.specs.declared.signal.Sig.{Sig}
use Rattle.kernel_model.specs.Came.{told_zero}
use Rattle.kernel_model.specs.Shared.{Info}
use Rattle.kernel_model.specs.SignalRows.{accept, pause, suspend}
use Rattle.kernel_model.specs.SignalSets.{blockable, signal_count}
use Rattle.kernel_model.specs.State.{Kernel}
use Rattle.layouts.specs.Frames.{siginfo_bytes}
use Rattle.number_tables.specs.Signals.{o32_signal, signal_of_o32}
use Rattle.o32_calls.specs.Numbers.{rt_sigtimedwait_number, signal_number}
use Rattle.o32_calls.specs.declared.signals.SignalCall.TheVariants.{Pause, RtSigsuspend}
use Rattle.o32_model.specs.GuestBytes.{unless_null}
use Rattle.o32_model.specs.Masks.{set_at, with_own_mask}
use Rattle.o32_model.specs.Results.{stores_result_unless_null}
use Rattle.o32_model.specs.Step.{Guest, O32Step, O32Row, gives}
use Rattle.o32_model.specs.Times.{spec_at}
use Rattle.o32_model.specs.Words.{argument}
use Rattle.signal_frames.specs.Entering.{information}

unfoldable pub pause_row : Kernel → Guest → List ℕ → O32Step
pause_row kernel guest left = gives guest (told_zero (pause kernel)) left

-- the set is the mask while the call waits
unfoldable pub rt_sigsuspend_row : Kernel → Guest → ℕ → ℕ → List ℕ → O32Step
rt_sigsuspend_row kernel guest address size left =
    let set = set_at guest.memory address in
    with_own_mask kernel (Some set) (gives guest (told_zero (suspend kernel size set)) left)

-- all signals, from a number on, by rising numbers
unfoldable pub signals_from : ℕ → ℕ → List Sig
signals_from number zero = []
signals_from number (suc more) = cons_option (signal_of_o32 number) (signals_from (number + 1) more)

abbrev pub all_signals : List Sig
all_signals = signals_from 1 signal_count

-- what is told of a signal that was accepted
abbrev pub info_bytes : Info → List ℕ
info_bytes info = siginfo_bytes (information info)

abbrev pub accepted_number : Info → ℕ
accepted_number info = o32_signal info.sig

-- KILL and STOP are taken out of the set; of those that pend the one of the lowest number is accepted
unfoldable pub rt_sigtimedwait_row : Kernel → Guest → ℕ → ℕ → ℕ → ℕ → List ℕ → O32Step
rt_sigtimedwait_row kernel guest set info time size left =
    stores_result_unless_null info_bytes accepted_number guest info
    (accept kernel all_signals blockable (set_at guest.memory set) (unless_null time (spec_at guest.memory time)) size) left

-- The numbers (Linux arch/mips/include/uapi/asm/unistd.h, the o32 table)
abbrev pub suspending_calls : List O32Row
suspending_calls =
    record { number = signal_number Pause; step = pause_row }
    ∷ record { number = rt_sigtimedwait_number; step = λ kernel guest. rt_sigtimedwait_row kernel guest (argument guest.words 0) (argument guest.words 1) (argument guest.words 2) (argument guest.words 3) }
    ∷ record { number = signal_number RtSigsuspend; step = λ kernel guest. rt_sigsuspend_row kernel guest (argument guest.words 0) (argument guest.words 1) }
    ∷ []
