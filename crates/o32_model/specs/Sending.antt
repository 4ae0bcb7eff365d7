-- Sending signals: kill(2), tkill(2), tgkill(2), rt_sigqueueinfo(2).
use Rattle.std.specs.Prelude.{ℕ, ◌==◌, ℤ, pos, nat_abs, List, [], ◌∷◌, slice_index_or, Option, Some, None, if◌then◌else◌}
use Rattle.kernel_core.specs.declared.signal.Sig.{Sig}
use Rattle.kernel_model.specs.Came.{told_zero}
use Rattle.kernel_model.specs.SignalRows.{Named, Nothing, Signal, Unlisted, SentInfo, kill, kill_thread, kill_thread_of, queue}
use Rattle.kernel_model.specs.State.{Kernel}
use Rattle.layouts.specs.O32.{siginfo}
use Rattle.layouts.specs.Shape.{record_values}
use Rattle.number_tables.specs.Signals.{signal_of_o32}
use Rattle.o32_calls.specs.Numbers.{signal_number}
use Rattle.o32_calls.specs.declared.signals.SignalCall.TheVariants.{Kill, RtSigqueueinfo, Tkill, Tgkill}
use Rattle.o32_model.specs.GuestBytes.{structure, read_as}
use Rattle.o32_model.specs.Step.{Guest, O32Step, O32Row, gives}
use Rattle.o32_model.specs.Words.{argument, signed_argument}

-- a signal by its number; 0 names none, and signals have the numbers 1 to 128

abbrev pub listed : Option Sig → Named
listed None = Unlisted
listed (Some signal) = Signal signal

abbrev pub named : ℕ → Named
named number = if number == 0 then Nothing else listed (signal_of_o32 number)

unfoldable pub kill_row : Kernel → Guest → ℤ → ℕ → List ℕ → O32Step
kill_row kernel guest pid number left = gives guest (told_zero (kill kernel pid (named number))) left

unfoldable pub tkill_row : Kernel → Guest → ℤ → ℕ → List ℕ → O32Step
tkill_row kernel guest tid number left = gives guest (told_zero (kill_thread kernel tid (named number))) left

unfoldable pub tgkill_row : Kernel → Guest → ℤ → ℤ → ℕ → List ℕ → O32Step
tgkill_row kernel guest pid tid number left = gives guest (told_zero (kill_thread_of kernel pid tid (named number))) left

-- what is kept of a siginfo: its code, errno, pid, uid and value; its own number is not looked at

abbrev pub sent_of : List ℤ → SentInfo
sent_of values = record {
  code = slice_index_or values 1 (pos 0);
  errno = slice_index_or values 2 (pos 0);
  pid = nat_abs (slice_index_or values 3 (pos 0));
  uid = nat_abs (slice_index_or values 4 (pos 0));
  value = nat_abs (slice_index_or values 5 (pos 0));
}

abbrev pub sent_in : List ℕ → SentInfo
sent_in bytes = sent_of (record_values siginfo bytes)

unfoldable pub rt_sigqueueinfo_row : Kernel → Guest → ℤ → ℕ → ℕ → List ℕ → O32Step
rt_sigqueueinfo_row kernel guest pid number address left =
    gives guest (told_zero (queue kernel pid (named number) (read_as sent_in (structure guest.memory address siginfo.size)))) left

-- The numbers (Linux arch/mips/include/uapi/asm/unistd.h, the o32 table)
abbrev pub sending_calls : List O32Row
sending_calls =
    record { number = signal_number Kill; step = λ kernel guest. kill_row kernel guest (signed_argument guest.words 0) (argument guest.words 1) }
    ∷ record { number = signal_number RtSigqueueinfo; step = λ kernel guest. rt_sigqueueinfo_row kernel guest (signed_argument guest.words 0) (argument guest.words 1) (argument guest.words 2) }
    ∷ record { number = signal_number Tkill; step = λ kernel guest. tkill_row kernel guest (signed_argument guest.words 0) (argument guest.words 1) }
    ∷ record { number = signal_number Tgkill; step = λ kernel guest. tgkill_row kernel guest (signed_argument guest.words 0) (signed_argument guest.words 1) (argument guest.words 2) }
    ∷ []
