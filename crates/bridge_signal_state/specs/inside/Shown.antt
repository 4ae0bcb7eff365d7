-- What is read of host memory that a native call has filled (Linux include/uapi/asm-generic/signal.h and siginfo.h). (Where it lies is this
-- project's own.)
use Rattle.std.specs.Prelude.{ℕ, ℤ, pos, negsuc, nat_abs, List, ◌++◌, replicate, slice_index_or, Option, Some, None, option_map, Bool, true, false}
use Rattle.host_mem.specs.Memory.{bytes_at, first_address}
use Rattle.kernel_core.specs.declared.reply.Reply.{Reply}
use Rattle.kernel_core.specs.declared.reply.Reply.TheVariants as replies
use Rattle.kernel_core.specs.declared.signal.Sig.{Sig}
use Rattle.kernel_model.specs.Shared.{Info}
use Rattle.kernel_model.specs.SignalRows.{no_action, no_stack}
use Rattle.kernel_model.specs.SignalSets.{SignalSet, no_signals, only}
use Rattle.kernel_model.specs.declared.signal.Action.{Action}
use Rattle.kernel_model.specs.declared.signal.SigStack.{SigStack}
use Rattle.layouts.specs.Native.{siginfo}
use Rattle.layouts.specs.Shape.{record_values}
use Rattle.native_calls.specs.Arguments.{low_word}
use Rattle.native_calls.specs.SignalBytes.{action_in, set_bytes, set_in, stack_in}
use Rattle.number_tables.specs.Codes.{o32_code}
use Rattle.number_tables.specs.Signals.{signal_of_native}

-- what bytes mean that may not be there
abbrev pub found_in : {A : Type 0} → A → (List ℕ → A) → Option (List ℕ) → A
found_in none meaning None = none
found_in none meaning (Some bytes) = meaning bytes

-- At the beginning of host memory

abbrev pub set_shown : List ℕ → SignalSet
set_shown memory = found_in no_signals set_in (bytes_at memory first_address 16)

abbrev pub action_shown : List ℕ → Action
action_shown memory = found_in no_action action_in (bytes_at memory first_address 32)

abbrev pub stack_shown : List ℕ → SigStack
stack_shown memory = found_in no_stack stack_in (bytes_at memory first_address 24)

-- Of a signal that was taken: its set lies at the beginning, then what is known of it, then a time of 0.

abbrev pub taking_room : Sig → List ℕ
taking_room signal = set_bytes (only signal) ++ replicate 144 0

abbrev pub info_place : ℕ
info_place = 65552

abbrev pub time_place : ℕ
time_place = 65680

-- the numbers of all fields
abbrev pub info_with : List ℤ → Sig → Info
info_with values signal = record {
  sig = signal;
  code = o32_code (slice_index_or values 1 (pos 0));
  errno = slice_index_or values 2 (pos 0);
  pid = nat_abs (slice_index_or values 3 (pos 0));
  uid = nat_abs (slice_index_or values 4 (pos 0));
  value = low_word (nat_abs (slice_index_or values 5 (pos 0)));
  addr = 0;
}

abbrev pub info_of : List ℤ → Option Info
info_of values = option_map (info_with values) (signal_of_native (nat_abs (slice_index_or values 0 (pos 0))))

abbrev pub info_in : List ℕ → Option Info
info_in bytes = info_of (record_values siginfo bytes)

abbrev pub info_shown : List ℕ → Reply → Option Info
info_shown memory (replies.Done (pos number)) = found_in None info_in (bytes_at memory info_place 128)
info_shown memory (replies.Done (negsuc number)) = None
info_shown memory (replies.Sleep wake) = None

-- whether a reply is no error
abbrev pub is_fine : Reply → Bool
is_fine (replies.Done (pos number)) = true
is_fine (replies.Done (negsuc number)) = false
is_fine (replies.Sleep wake) = false
