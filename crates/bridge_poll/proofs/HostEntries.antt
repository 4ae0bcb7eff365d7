-- The entries in host memory ask what those of the program ask.
use Rattle.std.proofs.Common.{◌≡◌, ℕ, zero, suc, ◌*◌, ◌^◌, ◌<◌, true, false, List, [], ◌∷◌, ◌++◌, length, drop, refl, ap, ◌∙◌, arith, ℤ, pos, negsuc, append_assoc, length-append}
use Rattle.std.specs.Prelude.{slice_index}
use Rattle.byteorder.specs.Endian.{big_number, little_number}
use Rattle.layouts.specs.Number.{bytes_of, value_of}
use Rattle.layouts.specs.O32.{pollfd}
use Rattle.layouts.specs.Shape.{record_values}
use Rattle.native_calls.specs.Polls as native
use Rattle.number_tables.specs.PollNumbers.{native_poll_read, o32_poll_read}
use Rattle.o32_model.specs.Polling as o32
use Rattle.kernel_model.specs.Readiness.{PollEntry}
use Rattle.kernel_model.specs.Shared.{PollSet}
use Rattle.bridge_poll.specs.inside.Entries.{native_entries, native_entry, native_events}
use Rattle.bridge_poll.proofs.EventNumbers.{events_again, native_small, number2, number4}

-- each is a byte
abbrev pub AreBytes : List ℕ → Type 0
AreBytes bytes = (place : ℕ) → slice_index bytes place < 256

word_small : (bytes : List ℕ) → AreBytes bytes → big_number 4 bytes < 2 ^ 32
word_small bytes are = omega (arith, are 0, are 1, are 2, are 3)

abbrev bytes_made : ℕ → ℕ → List ℕ
bytes_made word events = bytes_of false 4 word ++ bytes_of false 2 events ++ bytes_of false 2 0

word_there : (word events : ℕ) (rest : List ℕ) → word < 2 ^ 32 → little_number 4 (bytes_made word events ++ rest) ≡ word
word_there word events rest small = number4 word (bytes_of false 2 events ++ bytes_of false 2 0 ++ rest) small

events_there : (word events : ℕ) (rest : List ℕ) → events < 2 ^ 16 → little_number 2 (drop 4 (bytes_made word events ++ rest)) ≡ events
events_there word events rest small = number2 events (bytes_of false 2 0 ++ rest) small

abbrev made : ℕ → PollSet → PollEntry
made word events = record { fd = native.unless_negative (value_of true 4 word); events = events }

same_fd : (z : ℤ) → native.unless_negative z ≡ o32.descriptor_of z
same_fd (pos n) = refl
same_fd (negsuc n) = refl

entry_made : (word events : ℕ) (rest : List ℕ) → native.entry_of (record_values native.pollfd (bytes_made word events ++ rest))
    ≡ made (little_number 4 (bytes_made word events ++ rest)) (native_poll_read (little_number 2 (drop 4 (bytes_made word events ++ rest))))
entry_made word events rest = refl

first_entry : (bytes rest : List ℕ) → AreBytes bytes → native.entry_of (record_values native.pollfd (native_entry bytes ++ rest)) ≡ o32.entry_of (record_values pollfd bytes)
first_entry bytes rest are =
    let word = word_there (big_number 4 bytes) (native_events bytes) rest (word_small bytes are) in
    let events = events_there (big_number 4 bytes) (native_events bytes) rest (native_small (o32_poll_read (big_number 2 (drop 4 bytes)))) in
    entry_made (big_number 4 bytes) (native_events bytes) rest
    ∙ (λ i. made (word i) (native_poll_read (events i)))
    ∙ (λ i. record { fd = same_fd (value_of true 4 (big_number 4 bytes)) i; events = events_again (o32_poll_read (big_number 2 (drop 4 bytes))) i })

drop_are : (bytes : List ℕ) (n : ℕ) → AreBytes bytes → AreBytes (drop n bytes)
drop_are bytes zero are = are
drop_are [] (suc n) are = are
drop_are (byte ∷ bytes) (suc n) are = drop_are bytes n (λ place. are (suc place))

pub entries_same : (count : ℕ) (bytes rest : List ℕ) → AreBytes bytes → native.entries_in count (native_entries count bytes ++ rest) ≡ o32.entries_in count bytes
unfolding o32.entries_in native_entries
entries_same zero bytes rest are = refl
entries_same (suc more) bytes rest are =
    ap (λ (l : List ℕ). native.entries_in (suc more) l) (append_assoc (native_entry bytes) (native_entries more (drop 8 bytes)) rest)
    ∙ (λ i. first_entry bytes (native_entries more (drop 8 bytes) ++ rest) are i ∷ entries_same more (drop 8 bytes) rest (drop_are bytes 8 are) i)

pub length_entries : (count : ℕ) (bytes : List ℕ) → length (native_entries count bytes) ≡ count * 8
unfolding native_entries
length_entries zero bytes = refl
length_entries (suc more) bytes = omega (arith, length-append (native_entry bytes) (native_entries more (drop 8 bytes)), length_entries more (drop 8 bytes))
