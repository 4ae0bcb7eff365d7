-- What the native call answers is what the program's row comes to.
use Rattle.std.proofs.Common.{◌≡◌, ℕ, ◌+◌, ◌-◌, ◌*◌, ◌%◌, ◌^◌, ◌<◌, Bool, true, false, List, [], ◌∷◌, ◌++◌, length, take, drop, Option, Some, None, Ok, Err, refl, sym, ap, subst, ◌∙◌, arith, append-nil}
use Rattle.std.specs.Prelude.{◌==◌, count_by, nat_lt, unwrap_or, if◌then◌else◌}
use Rattle.std.proofs.lemmas.List.{length-map}
use Rattle.std.proofs.lemmas.List.Sums.{count_by-le-length}
use Rattle.guest_space.specs.Memory.{IsValid, Memory}
use Rattle.host_mem.specs.Memory.{first_address, is_inside, written}
use Rattle.kernel_core.specs.declared.error.Errno.{Errno}
use Rattle.kernel_core.specs.declared.error.Errno.TheVariants.{EPERM}
use Rattle.kernel_core.specs.declared.reply.Reply.{Reply}
use Rattle.kernel_model.specs.Came.{Came, Did, Done, Given, Refused, Waits, done}
use Rattle.kernel_model.specs.Clock.{capped, checked_or_none, left_of_wait, length_of, time_left}
use Rattle.layouts.specs.Number.{bytes_of}
use Rattle.number_tables.specs.PollNumbers.{native_poll}
use Rattle.kernel_model.specs.Readiness.{PollEntry, is_any, masked_wait, poll, returned, told_at}
use Rattle.kernel_model.specs.Shared.{PollSet}
use Rattle.kernel_model.specs.State.{Kernel}
use Rattle.native_calls.proofs.Lengths.{written_length}
use Rattle.native_calls.specs.HostBytes.{given, read_as, unless_null}
use Rattle.native_calls.specs.Polls.{at_end, entries_at, polled, ppoll_row, wait_at, waits_for, with_left, with_time_left}
use Rattle.native_calls.specs.SignalBytes.{set_at}
use Rattle.native_calls.specs.Step as native
use Rattle.native_calls.specs.Table.{native_call}
use Rattle.native_calls.specs.Times.{time_bytes, time_in}
use Rattle.o32_model.specs.Polling as o32
use Rattle.bridge_limits.proofs.ShownTimes.{shows_left}
use Rattle.bridge_limits.specs.Limits.{ShowsLeft, given_mask}
use Rattle.bridge_limits.specs.Passed.{IsLook}
use Rattle.bridge_poll.proofs.HostEntries.{length_entries}
use Rattle.bridge_poll.proofs.Polling.{Fine, IsFine, bytes_of_all, entries_alike, entries_put, front_written, laid, poll_fine, poll_same}
use Rattle.bridge_poll.proofs.Told.{all_written, bytes_behind, length_told, told_there, with_told}
use Rattle.bridge_poll.specs.declared.asking.Came as asking
use Rattle.bridge_poll.specs.declared.asking.Came.TheVariants.{Ended}
use Rattle.bridge_poll.specs.declared.entries.Entries.{Entries}
use Rattle.bridge_poll.specs.declared.limited.Limits.{Limits}
use Rattle.bridge_poll.specs.inside.Asking.{Comes, came_of, polling, wait_of}
use Rattle.bridge_poll.specs.inside.Entries.{bytes_put, memory_with, native_entries, place_of}
use Rattle.bridge_poll.specs.inside.Telling.{told_all, told_bytes}

-- host memory with what was put behind it
pub with_put : (P : List ℕ → Type 0) (room : List ℕ) → ((behind : List ℕ) → P (room ++ behind)) → (put : Option (List ℕ)) → P (memory_with room put)
with_put P room each None = subst P (append-nil room) (each [])
with_put P room each (Some bytes) = each bytes

-- The call

abbrev pub reply_of : Came (List PollSet) → Reply
reply_of came = native.reply_to (λ events. native.value (count_by is_any events)) came

abbrev pub memory_of : Kernel → List ℕ → ℕ → ℕ → Came (List PollSet) → List ℕ
memory_of kernel memory place time came =
    at_end (with_time_left kernel time (wait_at memory time)) (native.memory_after (polled place memory) memory came) came

refused_came : (error : Errno) → came_of (native.failure error) ≡ Ended (Err error)
refused_came EPERM = refl
refused_came _ = refl

did_looks : (kernel : Kernel) (memory left : List ℕ) (place time : ℕ) (did : Did Kernel (List PollSet)) → did.state ≡ kernel
    → IsLook kernel (reply_of did.came) (memory_of kernel memory place time did.came) left
    (waits_for (polled place memory) (count_by is_any) (with_time_left kernel time (wait_at memory time)) memory did left)
did_looks kernel memory left place time did stays = record { kernel_stays = stays; left_stays = refl; sends = refl; replied = refl; stored = refl }

polled_length : (events : List PollSet) (place : ℕ) (memory : List ℕ) → length (polled place memory events) ≡ length memory
polled_length [] place memory = refl
polled_length (first ∷ more) place memory =
    polled_length more (place + 8) (written memory (place + 6) (bytes_of false 2 (native_poll first)))
    ∙ written_length memory (place + 6) (bytes_of false 2 (native_poll first))

-- The time stands in what is before the entries.

abbrev read_wait : Bool → Option (List ℕ) → Given (Option ℕ)
read_wait null found = checked_or_none length_of (if null then None else Some (read_as time_in (given found)))

some_there : (null inside : Bool) (bytes : List ℕ) (wait : ℕ) → read_wait null (if inside then Some bytes else None) ≡ Ok (Some wait) → inside ≡ true
some_there true inside bytes wait is = absurd cc
some_there false true bytes wait is = refl
some_there false false bytes wait is = absurd cc

-- memory with the time left, by what is behind it
record Fronted (room told after : List ℕ) : Type 0 where
  front : List ℕ
  whole : after ≡ front ++ told
  long : length front ≡ length room

fronted : (kernel : Kernel) (room told : List ℕ) (time : ℕ) (wait : Option ℕ) → wait_at room time ≡ Ok wait → Fronted room told (with_left (room ++ told) time (left_of_wait kernel kernel.clock wait))
fronted kernel room told time None read = record { front = room; whole = refl; long = refl }
fronted kernel room told time (Some wait) read =
    let bytes = time_bytes (time_left kernel.clock (capped (kernel.clock + wait))) in
    let inside : is_inside room time 16 ≡ true = some_there (time == 0) (is_inside room time 16) (take 16 (drop (time - first_address) room)) wait read in
    record {
      front = written room time bytes;
      whole = front_written room told time bytes inside;
      long = written_length room time bytes;
    }

module _ (kernel : Kernel) (guest : Memory) (entries : Entries) (limits : Limits) (room : List ℕ) (time mask count size : ℕ)
    (valid : IsValid guest.pages) (counts : count ≡ entries.count) (small : entries.count < 2 ^ 32) (sized : size ≡ limits.size)
    (times : (behind : List ℕ) → wait_at (room ++ behind) time ≡ Ok limits.wait)
    (masks : (behind : List ℕ) → unless_null mask (set_at (room ++ behind) mask) ≡ given_mask limits.own) where
  abbrev put : Option (List ℕ)
  put = bytes_put guest entries

  abbrev memory : List ℕ
  memory = memory_with room put

  abbrev place : ℕ
  place = place_of room put

  abbrev did : Did Kernel (List PollSet)
  did = polling kernel guest entries limits

  time_there : wait_at memory time ≡ Ok limits.wait
  time_there = with_put (λ (m : List ℕ). wait_at m time ≡ Ok limits.wait) room times put

  mask_there : unless_null mask (set_at memory mask) ≡ given_mask limits.own
  mask_there = with_put (λ (m : List ℕ). unless_null mask (set_at m mask) ≡ given_mask limits.own) room masks put

  count_there : count % 2 ^ 32 ≡ entries.count
  count_there = omega (arith, counts, small)

  same_did : poll kernel (masked_wait (wait_at memory time) size (unless_null mask (set_at memory mask))) (count % 2 ^ 32) (entries_at memory place (count % 2 ^ 32)) ≡ did
  same_did =
      (λ i. poll kernel (masked_wait (time_there i) (sized i) (mask_there i)) (count_there i) (entries_at memory place (count_there i)))
      ∙ poll_same kernel (wait_of limits) entries.count (laid room entries.count put) (o32.entries_at guest entries.address entries.count)
      (λ few. entries_alike guest entries room valid few)

  pub asked_looks : (left : List ℕ) → IsLook kernel (reply_of did.came) (memory_of kernel memory place time did.came) left (native_call 73 (place ∷ count ∷ time ∷ mask ∷ size ∷ 0 ∷ []) kernel memory left)
  unfolding ppoll_row
  asked_looks left =
      subst (λ (d : Did Kernel (List PollSet)). IsLook kernel (reply_of did.came) (memory_of kernel memory place time did.came) left
      (waits_for (polled place memory) (count_by is_any) (with_time_left kernel time (wait_at memory time)) memory d left)) (sym same_did)
      (did_looks kernel memory left place time did (poll_fine kernel (wait_of limits) entries.count (o32.entries_at guest entries.address entries.count)).0)

  abbrev time_is : Option ℕ
  time_is = left_of_wait kernel kernel.clock limits.wait

  abbrev source : Given (List PollEntry)
  source = o32.entries_at guest entries.address entries.count

  left_there : (after : List ℕ) → with_time_left kernel time (wait_at memory time) after ≡ with_left after time time_is
  left_there after = ap (λ (w : Given (Option ℕ)). with_time_left kernel time w after) time_there

  shown : (after : List ℕ) → length after ≡ length memory → ShowsLeft (with_time_left kernel time (wait_at memory time) after) time time_is
  shown after long =
      subst (λ (m : List ℕ). ShowsLeft m time time_is) (sym (left_there after)) (shows_left kernel memory after time limits.wait time_there long)

  time_before : wait_at room time ≡ Ok limits.wait
  time_before = with_put (λ (m : List ℕ). wait_at m time ≡ Ok limits.wait) room times None

  -- events that were found
  module _ (events : List PollSet) (read : List PollEntry) (few : nat_lt 1024 entries.count ≡ false) (is : source ≡ Ok read) (told : events ≡ returned kernel.files read) where
    abbrev laid_bytes : List ℕ
    laid_bytes = native_entries entries.count (bytes_of_all guest entries)

    long_events : length events ≡ entries.count
    long_events = ap (λ (l : List PollSet). length l) told ∙ length-map read (λ (e : PollEntry). told_at kernel.files e.events e.fd) ∙ (entries_put guest entries read few is).1

    whole : length laid_bytes ≡ length events * 8
    whole = length_entries entries.count (bytes_of_all guest entries) ∙ ap (λ (n : ℕ). n * 8) (sym long_events)

    abbrev after : List ℕ
    after = memory_of kernel memory place time (Done events)

    put_there : put ≡ Some laid_bytes
    put_there = (entries_put guest entries read few is).0

    after_is : after ≡ with_left (room ++ with_told laid_bytes events) time time_is
    after_is =
        left_there (polled place memory events)
        ∙ (λ i. with_left (polled (place_of room (put_there i)) (memory_with room (put_there i)) events) time time_is)
        ∙ ap (λ (m : List ℕ). with_left m time time_is) (all_written events room laid_bytes whole)

    parts : Fronted room (with_told laid_bytes events) (with_left (room ++ with_told laid_bytes events) time time_is)
    parts = fronted kernel room (with_told laid_bytes events) time limits.wait time_before

    place_is : place ≡ 65536 + length parts.front
    place_is = ap (place_of room) put_there ∙ ap (λ (n : ℕ). 65536 + n) (sym parts.long)

    told_is : told_bytes after place entries.count ≡ with_told laid_bytes events
    told_is =
        ap (λ (m : List ℕ). told_bytes m place entries.count) (after_is ∙ parts.whole)
        ∙ ap (λ (o : Option (List ℕ)). unwrap_or o [])
        (bytes_behind parts.front (with_told laid_bytes events) place (entries.count * 8) place_is (length_told events laid_bytes whole ∙ ap (λ (n : ℕ). n * 8) long_events))

    all_told : told_all entries.count (told_bytes after place entries.count) ≡ events
    all_told =
        ap (told_all entries.count) told_is ∙ ap (λ (n : ℕ). told_all n (with_told laid_bytes events)) (sym long_events)
        ∙ told_there events laid_bytes whole

    number_small : count_by is_any events % 2 ^ 32 ≡ count_by is_any events
    number_small = omega (arith, count_by-le-length is_any events, long_events, small)

    pub done_comes : did ≡ done kernel events → Comes kernel limits.wait did entries.count (came_of (reply_of (Done events))) place time after
    done_comes row = (
      record {
        row = row ∙ ap (λ (e : List PollSet). done kernel e) (sym all_told);
        counted = number_small ∙ ap (λ (e : List PollSet). count_by is_any e) (sym all_told);
      },
      shown (polled place memory events) (polled_length events place memory),
    )

  pub answered : Comes kernel limits.wait did entries.count (came_of (reply_of did.came)) place time (memory_of kernel memory place time did.came)
  answered = by did.came refl fine.1 where
    fine : IsFine kernel entries.count source did
    fine = poll_fine kernel (wait_of limits) entries.count source

    row : (came : Came (List PollSet)) → did.came ≡ came → did ≡ record { state = kernel; came = came }
    row came is = λ i. record { state = fine.0 i; came = is i }

    by : (came : Came (List PollSet)) → did.came ≡ came → Fine kernel entries.count source came
        → Comes kernel limits.wait did entries.count (came_of (reply_of came)) place time (memory_of kernel memory place time came)
    by (Done events) is found = done_comes events found.1 found.0 found.2 found.3 (row (Done events) is)
    by (Refused error) is found =
        subst (λ (c : asking.Came). Comes kernel limits.wait did entries.count c place time (memory_of kernel memory place time (Refused error))) (sym (refused_came error))
        (row (Refused error) is, shown memory refl)
    by (Waits wake) is none = row (Waits wake) is ∙ ap (λ (n : ℕ). record { state = kernel; came = Waits (record { done = n; until = wake.until }) }) none

  -- the same where what was put is another word for it

  pub looks_there : (there : List ℕ) (at : ℕ) → there ≡ memory → at ≡ place → (left : List ℕ)
      → IsLook kernel (reply_of did.came) (memory_of kernel memory place time did.came) left (native_call 73 (at ∷ count ∷ time ∷ mask ∷ size ∷ 0 ∷ []) kernel there left)
  looks_there there at put_so placed left =
      subst (λ (m : List ℕ). IsLook kernel (reply_of did.came) (memory_of kernel memory place time did.came) left (native_call 73 (at ∷ count ∷ time ∷ mask ∷ size ∷ 0 ∷ []) kernel m left)) (sym put_so)
      (subst (λ (p : ℕ). IsLook kernel (reply_of did.came) (memory_of kernel memory place time did.came) left (native_call 73 (p ∷ count ∷ time ∷ mask ∷ size ∷ 0 ∷ []) kernel memory left)) (sym placed)
      (asked_looks left))

  pub answered_there : (came : asking.Came) (reply : Reply) (at : ℕ) (after : List ℕ) → came ≡ came_of reply → reply ≡ reply_of did.came → at ≡ place → after ≡ memory_of kernel memory place time did.came
      → Comes kernel limits.wait did entries.count came at time after
  answered_there came reply at after is replied placed stored =
      subst (λ (c : asking.Came). Comes kernel limits.wait did entries.count c at time after) (sym (is ∙ ap came_of replied))
      (subst (λ (p : ℕ). Comes kernel limits.wait did entries.count (came_of (reply_of did.came)) p time after) (sym placed)
      (subst (λ (m : List ℕ). Comes kernel limits.wait did entries.count (came_of (reply_of did.came)) place time m) (sym stored) answered))
