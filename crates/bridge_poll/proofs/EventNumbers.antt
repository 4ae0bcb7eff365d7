-- Numbers of events and of entries read back.
use Rattle.std.proofs.Common.{◌≡◌, ℕ, ◌/◌, ◌%◌, ◌^◌, ◌<◌, Bool, true, false, List, ◌++◌, Some, None, ◌∙◌, arith, if◌then◌else◌}
use Rattle.byteorder.specs.Endian.{little_number}
use Rattle.byteorder.specs.Numbers.{little_from-bytes}
use Rattle.kernel_core.specs.inside.BitLaws.{one_if-le}
use Rattle.kernel_model.specs.Shared.{PollSet}
use Rattle.layouts.specs.Number.{bytes_of}
use Rattle.number_tables.specs.PollNumbers.{native_poll, native_poll_read, o32_poll}
use Rattle.number_tables.specs.inside.PollLaws.{native_poll_found}

pub number4 : (n : ℕ) (rest : List ℕ) → n < 2 ^ 32 → little_number 4 (bytes_of false 4 n ++ rest) ≡ n
number4 n rest small = little_from-bytes 4 0 n rest ∙ whole n small where
  whole : (n : ℕ) → n < 2 ^ 32 → n / 256 ^ 0 % 256 ^ 4 ≡ n
  whole n small = omega arith

pub number2 : (n : ℕ) (rest : List ℕ) → n < 2 ^ 16 → little_number 2 (bytes_of false 2 n ++ rest) ≡ n
number2 n rest small = little_from-bytes 2 0 n rest ∙ whole n small where
  whole : (n : ℕ) → n < 2 ^ 16 → n / 256 ^ 0 % 256 ^ 2 ≡ n
  whole n small = omega arith

-- ten bits, and nine
pub native_small : (events : PollSet) → native_poll events < 65536
native_small events = omega (arith, one_if-le)

pub o32_small : (events : PollSet) → o32_poll events < 65536
o32_small events = omega (arith, one_if-le)

events_if : (b : Bool) (read events : PollSet) → (if b then Some read else None) ≡ Some events → read ≡ events
events_if true read events found = cc
events_if false read events found = absurd cc

pub events_again : (events : PollSet) → native_poll_read (native_poll events) ≡ events
events_again events = events_if _ _ events (native_poll_found events)
