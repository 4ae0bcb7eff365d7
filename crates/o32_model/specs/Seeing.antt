-- Calls that see more than the program and the kernel: how long instructions took (clock_gettime(2)), and the wait that
-- restart_syscall(2) goes on with.
use Rattle.std.specs.Prelude.{ℕ, List, [], ◌∷◌, Option, Some, None}
use Rattle.kernel_core.specs.declared.error.Errno.TheVariants.{EINTR}
use Rattle.kernel_model.specs.Came.{Did, done, refused}
use Rattle.kernel_model.specs.State.{Kernel}
use Rattle.o32_calls.specs.Numbers.{signal_number, time_number}
use Rattle.o32_calls.specs.declared.signals.SignalCall.TheVariants.{RestartSyscall}
use Rattle.o32_calls.specs.declared.times.TimeCall.TheVariants.{ClockGettime}
use Rattle.o32_model.specs.Clocks.{clock_gettime_row}
use Rattle.o32_model.specs.Step.{Guest, O32Step, comes_to}
use Rattle.o32_model.specs.Words.{argument}
use Rattle.o32_model.specs.declared.outcome.Outcome.TheVariants.{Sleep}
use Rattle.o32_model.specs.declared.wait.Seen.{Seen}
use Rattle.o32_model.specs.declared.wait.Wait.{Wait}

-- a call of the table: its number, and what it does by what it sees of the machine
pub record SeeingRow : Type 0 where
  pub number : ℕ
  pub step : Seen → Kernel → Guest → List ℕ → O32Step

-- the wait goes on, with its deadline, and nothing else is looked at
abbrev pub restarted : Kernel → Option Wait → Did Kernel Wait
restarted kernel None = refused kernel EINTR
restarted kernel (Some wait) = done kernel wait

unfoldable pub restart_syscall_row : Option Wait → Kernel → Guest → List ℕ → O32Step
restart_syscall_row restart kernel guest left = comes_to Sleep guest (restarted kernel restart) left

-- The numbers (Linux arch/mips/include/uapi/asm/unistd.h, the o32 table)

abbrev pub seeing_clock_calls : List SeeingRow
seeing_clock_calls =
    record { number = time_number ClockGettime; step = λ seen kernel guest. clock_gettime_row seen.quanta kernel guest (argument guest.words 0) (argument guest.words 1) }
    ∷ []

abbrev pub seeing_signal_calls : List SeeingRow
seeing_signal_calls =
    record { number = signal_number RestartSyscall; step = λ seen kernel guest. restart_syscall_row seen.restart kernel guest }
    ∷ []
