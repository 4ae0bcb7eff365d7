-- What the kernel's row comes to, and the entries of both worlds.
use Rattle.std.proofs.Common.{◌≡◌, ℕ, zero, suc, ◌+◌, ◌-◌, ◌*◌, ◌/◌, ◌%◌, ◌<◌, ◌≤◌, Bool, true, false, List, [], ◌∷◌, ◌++◌, length, take, drop, Option, Some, None, Ok, Err, refl, sym, ap, ◌∙◌, arith, append_assoc, append-nil, length-append, if◌then◌else◌}
use Rattle.std.specs.Prelude.{◌==◌, is_none, nat_le, nat_lt}
use Rattle.std.specs.List.{list_any}
use Rattle.std.proofs.lemmas.Bool.Decides.{nat_tests}
use Rattle.std.proofs.lemmas.List.{drop-append-le, take-append-le}
use Rattle.guest_space.proofs.Prefixes.{first_denied-zero}
use Rattle.guest_space.specs.Access.{first_denied}
use Rattle.guest_space.specs.Bytes.{byte_at, bytes_at, page_byte}
use Rattle.guest_space.specs.Memory.{IsValid, MappedPage, Memory, Pages}
use Rattle.std.specs.FinMap.{get}
use Rattle.guest_space.specs.declared.access.Access.TheVariants.{Load}
use Rattle.guest_space.specs.declared.access.Denied.{Denied}
use Rattle.host_mem.specs.Memory.{end_address, is_inside, replaced, written}
use Rattle.kernel_core.specs.declared.error.Errno.TheVariants.{EFAULT, EINVAL}
use Rattle.kernel_model.specs.Came.{Came, Did, Done, Given, Refused, Waits}
use Rattle.kernel_model.specs.Clock.{deadline, waits_until}
use Rattle.kernel_model.specs.Readiness.{PollEntry, is_any, poll, poll_ready, returned}
use Rattle.kernel_model.specs.Shared.{PollSet}
use Rattle.kernel_model.specs.State.{Kernel}
use Rattle.native_calls.specs.HostBytes as host_bytes
use Rattle.native_calls.specs.Polls as native
use Rattle.o32_model.specs.GuestBytes.{given, read_as}
use Rattle.o32_model.specs.Polling as o32
use Rattle.bridge_poll.proofs.HostEntries.{AreBytes, entries_same, length_entries}
use Rattle.bridge_poll.proofs.Told.{bytes_behind}
use Rattle.bridge_poll.specs.declared.entries.Entries.{Entries}
use Rattle.bridge_poll.specs.inside.Entries.{bytes_put, memory_with, native_entries, place_of}

-- What the row comes to: the kernel stays, and events are those of entries that were read, which are not too many.

abbrev pub Fine : Kernel → ℕ → Given (List PollEntry) → Came (List PollSet) → Type 0
Fine kernel count entries (Done events) = (nat_lt 1024 count ≡ false) × (read : List PollEntry) × (entries ≡ Ok read) × (events ≡ returned kernel.files read)
Fine kernel count entries (Refused error) = Unit {0}
Fine kernel count entries (Waits wake) = wake.done ≡ 0

abbrev pub IsFine : Kernel → ℕ → Given (List PollEntry) → Did Kernel (List PollSet) → Type 0
IsFine kernel count entries did = (did.state ≡ kernel) × Fine kernel count entries did.came

pub poll_fine : (kernel : Kernel) (wait : Given (Option ℕ)) (count : ℕ) (entries : Given (List PollEntry)) → IsFine kernel count entries (poll kernel wait count entries)
unfolding poll
poll_fine kernel (Err error) count entries = (refl, tt)
poll_fine kernel (Ok wait) count (Err error) = by (nat_lt 1024 count) where
  by : (b : Bool) → IsFine kernel count (Err error) (if b then record { state = kernel; came = Refused EINVAL } else record { state = kernel; came = Refused error })
  by true = (refl, tt)
  by false = (refl, tt)
poll_fine kernel (Ok wait) count (Ok read) = by (nat_lt 1024 count) refl where
  over : (b : Bool) (until : ℕ) → nat_lt 1024 count ≡ false → IsFine kernel count (Ok read) (if b then record { state = kernel; came = Done (returned kernel.files read) } else record { state = kernel; came = Waits (record { done = 0; until = Some until }) })
  over true until few = (refl, (few, read, refl, refl))
  over false until few = (refl, refl)

  when : (until : Option ℕ) → nat_lt 1024 count ≡ false → IsFine kernel count (Ok read) (waits_until kernel until (record { state = kernel; came = Done (returned kernel.files read) }))
  when None few = (refl, refl)
  when (Some until) few = over (nat_le until kernel.clock) until few

  any : (b : Bool) → nat_lt 1024 count ≡ false
      → IsFine kernel count (Ok read) (if b then record { state = kernel; came = Done (returned kernel.files read) } else waits_until kernel (deadline kernel wait) (record { state = kernel; came = Done (returned kernel.files read) }))
  any true few = (refl, (few, read, refl, refl))
  any false few = when (deadline kernel wait) few

  by : (b : Bool) → nat_lt 1024 count ≡ b
      → IsFine kernel count (Ok read) (if b then record { state = kernel; came = Refused EINVAL } else poll_ready kernel wait (returned kernel.files read))
  by true many = (refl, tt)
  by false few = any (list_any is_any (returned kernel.files read)) few

-- entries that are too many are not looked at
pub poll_same : (kernel : Kernel) (wait : Given (Option ℕ)) (count : ℕ) (one other : Given (List PollEntry)) → (nat_lt 1024 count ≡ false → one ≡ other) → poll kernel wait count one ≡ poll kernel wait count other
unfolding poll
poll_same kernel (Err error) count one other same = refl
poll_same kernel (Ok wait) count one other same = by (nat_lt 1024 count) refl where
  by : (b : Bool) → nat_lt 1024 count ≡ b → poll kernel (Ok wait) count one ≡ poll kernel (Ok wait) count other
  by true many = rw many refl
  by false few = ap (poll kernel (Ok wait) count) (same few)

-- How many there are

length_read : (count : ℕ) (bytes : List ℕ) → length (o32.entries_in count bytes) ≡ count
unfolding o32.entries_in
length_read zero bytes = refl
length_read (suc more) bytes = ap suc (length_read more (drop 8 bytes))

-- Bytes of the program

bytes_small : (pages : Pages) → IsValid pages → (count a : ℕ) → AreBytes (bytes_at pages a count)
unfolding bytes_at byte_at IsValid
bytes_small pages valid zero a = λ place. omega arith
bytes_small pages valid (suc count) a = each (bytes_small pages valid count (a + 1)) where
  one : (o : Option MappedPage) → get pages (a / 4096) ≡ o → page_byte o (a % 4096) < 256
  one None found = omega arith
  one (Some page) found = (valid (a / 4096) page found).are_bytes (a % 4096)

  each : AreBytes (bytes_at pages (a + 1) count) → AreBytes (byte_at pages a ∷ bytes_at pages (a + 1) count)
  each later zero = one (get pages (a / 4096)) refl
  each later (suc place) = later place

-- What is put into host memory

abbrev pub bytes_of_all : Memory → Entries → List ℕ
bytes_of_all memory entries = bytes_at memory.pages entries.address (entries.count * 8)

abbrev denied_of : Memory → Entries → Option Denied
denied_of memory entries = first_denied Load memory.pages entries.address (entries.count * 8)

put_is : (memory : Memory) (entries : Entries) (o : Option Denied) → nat_lt 1024 entries.count ≡ false → denied_of memory entries ≡ o
    → bytes_put memory entries ≡ (if is_none o then Some (native_entries entries.count (bytes_of_all memory entries)) else None)
put_is memory entries o few is = rw (few, is) refl

-- where entries were read, they were put
pub entries_put : (memory : Memory) (entries : Entries) (read : List PollEntry) → nat_lt 1024 entries.count ≡ false → o32.entries_at memory entries.address entries.count ≡ Ok read
    → (bytes_put memory entries ≡ Some (native_entries entries.count (bytes_of_all memory entries))) × (length read ≡ entries.count)
entries_put memory entries read few is = by (denied_of memory entries) refl is where
  by : (o : Option Denied) → denied_of memory entries ≡ o → read_as (o32.entries_in entries.count) (given o (bytes_of_all memory entries)) ≡ Ok read
      → (bytes_put memory entries ≡ Some (native_entries entries.count (bytes_of_all memory entries))) × (length read ≡ entries.count)
  by None free found =
      let same : o32.entries_in entries.count (bytes_of_all memory entries) ≡ read = cc in (
        put_is memory entries None few free,
        ap (λ (l : List PollEntry). length l) (sym same) ∙ length_read entries.count (bytes_of_all memory entries),
      )
  by (Some denied) there found = absurd cc

-- the entries in host memory are those of the program

abbrev pub laid : List ℕ → ℕ → Option (List ℕ) → Given (List PollEntry)
laid room count put = native.entries_at (memory_with room put) (place_of room put) count

abbrev empty_or_fault : ℕ → Given (List PollEntry)
empty_or_fault count = if count == 0 then Ok [] else Err EFAULT

none_laid : (room : List ℕ) (count : ℕ) → laid room count None ≡ empty_or_fault count
none_laid room count = refl

some_laid : (room bytes : List ℕ) (count : ℕ) → AreBytes bytes → laid room count (Some (native_entries count bytes)) ≡ Ok (o32.entries_in count bytes)
unfolding o32.entries_in
some_laid room bytes count are = by (count == 0) refl where
  read : native.entries_in count (native_entries count bytes) ≡ o32.entries_in count bytes
  read = ap (native.entries_in count) (sym (append-nil (native_entries count bytes))) ∙ entries_same count bytes [] are

  none : (n : ℕ) → n ≡ 0 → [] ≡ o32.entries_in n bytes
  none zero is = refl
  none (suc n) is = absurd (omega (arith, is))

  by : (b : Bool) → (count == 0) ≡ b
      → (if b then Ok [] else host_bytes.read_as (native.entries_in count) (host_bytes.structure (room ++ native_entries count bytes) (end_address room) (count * 8))) ≡ Ok (o32.entries_in count bytes)
  by true is = ap (λ (l : List PollEntry). Ok l) (none count (grind (arith, nat_tests)))
  by false is =
      ap (λ (found : Option (List ℕ)). host_bytes.read_as (native.entries_in count) (host_bytes.given found))
      (bytes_behind room (native_entries count bytes) (end_address room) (count * 8) refl (length_entries count bytes))
      ∙ ap (λ (l : List PollEntry). Ok l) read

none_there : (pages : Pages) (address count : ℕ) (denied : Denied) → first_denied Load pages address (count * 8) ≡ Some denied → empty_or_fault count ≡ Err EFAULT
none_there pages address zero denied there = absurd (cc (first_denied-zero Load pages address))
none_there pages address (suc count) denied there =
    let some : (suc count == 0) ≡ false = grind (arith, nat_tests) in
    ap (λ (b : Bool). if b then Ok [] else Err EFAULT) some

pub entries_alike : (memory : Memory) (entries : Entries) (room : List ℕ) → IsValid memory.pages → nat_lt 1024 entries.count ≡ false
    → laid room entries.count (bytes_put memory entries) ≡ o32.entries_at memory entries.address entries.count
entries_alike memory entries room valid few = by (denied_of memory entries) refl where
  by : (o : Option Denied) → denied_of memory entries ≡ o → laid room entries.count (bytes_put memory entries) ≡ read_as (o32.entries_in entries.count) (given o (bytes_of_all memory entries))
  by None free = ap (laid room entries.count) (put_is memory entries None few free) ∙ some_laid room (bytes_of_all memory entries) entries.count (bytes_small memory.pages valid (entries.count * 8) entries.address)
  by (Some denied) there =
      ap (laid room entries.count) (put_is memory entries (Some denied) few there) ∙ none_laid room entries.count
      ∙ none_there memory.pages entries.address entries.count denied there

-- A write in the front of memory

module _ (front rest : List ℕ) (address : ℕ) (bytes : List ℕ) (inside : is_inside front address (length bytes) ≡ true) where
  place : ℕ
  place = address - 65536

  there : (65536 ≤ address) × (address + length bytes ≤ 65536 + length front)
  there = grind (arith, nat_tests)

  still_inside : is_inside (front ++ rest) address (length bytes) ≡ true
  still_inside =
      let all : length (front ++ rest) ≡ length front + length rest = length-append front rest in
      grind (arith, nat_tests, there)

  pub front_written : written (front ++ rest) address bytes ≡ written front address bytes ++ rest
  front_written =
      let low : address - 65536 ≤ length front = omega (arith, there.0, there.1) in
      let high : address - 65536 + length bytes ≤ length front = omega (arith, there.0, there.1) in
      ap (λ (b : Bool). if b then replaced (front ++ rest) (address - 65536) bytes else front ++ rest) still_inside
      ∙ (λ i. (take-append-le (address - 65536) front rest low i ++ bytes) ++ drop-append-le (address - 65536 + length bytes) front rest high i)
      ∙ sym (append_assoc (take (address - 65536) front ++ bytes) (drop (address - 65536 + length bytes) front) rest)
      ∙ sym (ap (λ (b : Bool). (if b then replaced front (address - 65536) bytes else front) ++ rest) inside)
