-- Signals in host memory: sets, actions, the alternate stack, and what is known of a signal (Linux include/uapi/asm-generic/signal.h and
-- siginfo.h).
use Rattle.std.specs.Prelude.{ℕ, ◌==◌, ℤ, pos, nat_abs, false, List, [], ◌∷◌, map, drop, slice_index, slice_index_or, Option, Some, None, if◌then◌else◌}
use Rattle.std.specs.List.{flat_map}
use Rattle.kernel_core.specs.declared.signal.Sig.{Sig}
use Rattle.kernel_model.specs.Came.{Given}
use Rattle.kernel_model.specs.Shared.{Info}
use Rattle.kernel_model.specs.SignalRows.{Named, Nothing, Signal, Unlisted, SentInfo, set_size}
use Rattle.kernel_model.specs.SignalSets.{SignalSet}
use Rattle.kernel_model.specs.declared.signal.Action.{Action}
use Rattle.kernel_model.specs.declared.signal.SigStack.{SigStack}
use Rattle.layouts.specs.Native.{sigaction, stack, siginfo}
use Rattle.layouts.specs.Number.{bytes_of, unsigned}
use Rattle.layouts.specs.Shape.{record_bytes, record_values}
use Rattle.native_calls.specs.Arguments.{low_word}
use Rattle.native_calls.specs.HostBytes.{structure, read_as}
use Rattle.number_tables.specs.Codes.{native_code, o32_code}
use Rattle.number_tables.specs.SaNumbers.{native_sa, native_sa_read}
use Rattle.number_tables.specs.Signals.{native_signal, signal_of_native}
use Rattle.signal_sets.specs.NativeSets.{native_of, set_of_native}

-- Sets: two numbers of 8 bytes

abbrev pub set_in : List ℕ → SignalSet
set_in bytes = set_of_native (unsigned false 8 bytes ∷ unsigned false 8 (drop 8 bytes) ∷ [])

abbrev pub set_at : List ℕ → ℕ → Given SignalSet
set_at memory address = read_as set_in (structure memory address set_size)

abbrev pub set_bytes : SignalSet → List ℕ
set_bytes set = flat_map (bytes_of false 8) (native_of set)

-- What a number names: 0 no signal, and one above 128 none that is listed

abbrev pub named_if : Option Sig → Named
named_if None = Unlisted
named_if (Some signal) = Signal signal

abbrev pub named_by : ℕ → Named
named_by number = if number == 0 then Nothing else named_if (signal_of_native number)

-- Actions. Flags that are not listed are dropped, and a handler other than SIG_DFL and SIG_IGN is a number that is kept.

abbrev pub action_of : List ℕ → Action
action_of fields = record {
  handler = slice_index fields 1;
  flags = native_sa_read (slice_index fields 0);
  mask = set_of_native (drop 2 fields);
}

abbrev pub action_in : List ℕ → Action
action_in bytes = action_of (map nat_abs (record_values sigaction bytes))

abbrev pub action_at : List ℕ → ℕ → Given Action
action_at memory address = read_as action_in (structure memory address sigaction.size)

abbrev pub action_bytes : Action → List ℕ
action_bytes action = record_bytes sigaction (map pos (native_sa action.flags ∷ action.handler ∷ native_of action.mask))

-- The alternate stack

abbrev pub stack_of : List ℕ → SigStack
stack_of fields = record { sp = slice_index fields 0; size = slice_index fields 1; flags = slice_index fields 2 }

abbrev pub stack_in : List ℕ → SigStack
stack_in bytes = stack_of (map nat_abs (record_values stack bytes))

abbrev pub stack_at : List ℕ → ℕ → Given SigStack
stack_at memory address = read_as stack_in (structure memory address stack.size)

abbrev pub stack_bytes : SigStack → List ℕ
stack_bytes kept = record_bytes stack (map pos (kept.sp ∷ kept.size ∷ kept.flags ∷ []))

-- What is known of a signal. The kernel keeps the code by its number for an o32 program, and of the value the low 32 bits (own).

abbrev pub sent_of : List ℤ → SentInfo
sent_of values = record {
  code = o32_code (slice_index_or values 1 (pos 0));
  errno = slice_index_or values 2 (pos 0);
  pid = nat_abs (slice_index_or values 3 (pos 0));
  uid = nat_abs (slice_index_or values 4 (pos 0));
  value = low_word (nat_abs (slice_index_or values 5 (pos 0)));
}

abbrev pub sent_in : List ℕ → SentInfo
sent_in bytes = sent_of (record_values siginfo bytes)

abbrev pub sent_at : List ℕ → ℕ → Given SentInfo
sent_at memory address = read_as sent_in (structure memory address siginfo.size)

abbrev pub info_bytes : Info → List ℕ
info_bytes info =
    record_bytes siginfo
    (pos (native_signal info.sig) ∷ native_code info.code ∷ info.errno ∷ pos info.pid ∷ pos info.uid ∷ pos info.value ∷ [])
