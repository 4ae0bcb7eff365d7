-- What the native call finds, replies and leaves in host memory.
use Rattle.std.proofs.Common.{◌≡◌, ◌⊎◌, ℕ, ℤ, suc, ◌+◌, ◌*◌, ◌^◌, ◌<◌, ◌≤◌, Bool, true, false, List, [], ◌∷◌, ◌++◌, length, refl, sym, ap, ◌∙◌, inl, inr, arith, append-nil}
use Rattle.std.specs.Prelude.{Option, Some, None, Ok, filter, if◌then◌else◌}
use Rattle.host_mem.specs.Memory.{bytes_at, end_address, written}
use Rattle.kernel_model.specs.Came.{Did, Given}
use Rattle.kernel_model.specs.Readiness.{Sets, counted_fds, first_fds, masked_wait, select, set_count}
use Rattle.kernel_model.specs.SignalSets.{SignalSet}
use Rattle.kernel_model.specs.State.{Kernel}
use Rattle.layouts.specs.Termios.{count_up}
use Rattle.native_calls.proofs.Lengths.{written_length}
use Rattle.native_calls.specs.HostBytes.{unless_null}
use Rattle.native_calls.specs.Polls as native
use Rattle.native_calls.specs.Polls.{MaskArgument, SetPlaces, after_argument, mask_argument_at, masked_by, pselect_row, selected, set_words, wait_at, waits_for, with_left, with_time_left}
use Rattle.native_calls.specs.SignalBytes.{set_at}
use Rattle.native_calls.specs.Times.{time_bytes}
use Rattle.o32_model.specs.GuestBytes.{read_as}
use Rattle.o32_model.specs.Selecting as o32
use Rattle.o32_model.specs.Selecting.{Asked, sets_at, word_count, word_of}
use Rattle.guest_space.specs.Memory.{Memory}
use Rattle.bridge_select.specs.inside.Handing.{FindsSet, Laid, Placed}
use Rattle.bridge_select.specs.declared.rooms.Places.{Places}
use Rattle.bridge_select.specs.inside.Telling.{ShowsSet, ShowsSets}
use Rattle.bridge_select.proofs.Fds.{word_among}
use Rattle.bridge_select.proofs.HostSets.{others_stay, stored_there, written_nowhere}
use Rattle.bridge_select.proofs.Selects.{Rises, SetsRise, select_same, sets_same}
use Rattle.bridge_select.proofs.Words.{length-up, length_told, told_word}

abbrev pub places_of : Places → SetPlaces
places_of places = record { read = places.read; write = places.write; except = places.except }

-- The row

module _ (kernel : Kernel) (program : Memory) (asked : Asked) (places : Places) (memory left : List ℕ) (wait : Option ℕ) (size : ℕ) (mask : Option (Given SignalSet)) (argument : MaskArgument)
    (time : wait_at memory places.time ≡ Ok wait) (pair : mask_argument_at memory places.pair ≡ Some (Ok argument)) (sized : argument.size ≡ size)
    (masked : unless_null argument.mask (set_at memory argument.mask) ≡ mask)
    (read : FindsSet memory (counted_fds asked.count) places.read (o32.fds_at program (word_count asked.count) asked.read))
    (write : FindsSet memory (counted_fds asked.count) places.write (o32.fds_at program (word_count asked.count) asked.write))
    (except : FindsSet memory (counted_fds asked.count) places.except (o32.fds_at program (word_count asked.count) asked.except)) where
  abbrev fds : ℕ
  fds = counted_fds asked.count

  abbrev pub selecting : Did Kernel Sets
  selecting = select kernel (masked_wait (Ok wait) size mask) asked.count (sets_at program asked)

  wait_is : masked_by memory (wait_at memory places.time) (mask_argument_at memory places.pair) ≡ masked_wait (Ok wait) size mask
  wait_is =
      ap (λ (given : Option (Given MaskArgument)). masked_by memory (wait_at memory places.time) given) pair
      ∙ ap (λ (given : Given (Option ℕ)). masked_wait given argument.size (unless_null argument.mask (set_at memory argument.mask))) time
      ∙ ap (λ (n : ℕ). masked_wait (Ok wait) n (unless_null argument.mask (set_at memory argument.mask))) sized
      ∙ ap (λ (m : Option (Given SignalSet)). masked_wait (Ok wait) size m) masked

  time_is : after_argument (mask_argument_at memory places.pair) (wait_at memory places.time) ≡ Ok wait
  time_is = ap (λ (given : Option (Given MaskArgument)). after_argument given (wait_at memory places.time)) pair ∙ time

  here : (place : ℕ) (given : Given (List ℕ)) → FindsSet memory fds place given
      → read_as (first_fds fds) (native.fds_at memory fds place) ≡ read_as (first_fds fds) given
  here place given finds = ap (λ (m : List ℕ). read_as (first_fds fds) (native.fds_at m fds place)) (sym (append-nil memory)) ∙ finds []

  did_is : select kernel (masked_by memory (wait_at memory places.time) (mask_argument_at memory places.pair)) asked.count (native.sets_at memory fds (places_of places)) ≡ selecting
  did_is =
      ap (λ (given : Given (Option ℕ)). select kernel given asked.count (native.sets_at memory fds (places_of places))) wait_is
      ∙ select_same kernel (masked_wait (Ok wait) size mask) asked.count (native.sets_at memory fds (places_of places)) (sets_at program asked)
      (sets_same fds (o32.fds_at program (word_count asked.count) asked.read) (o32.fds_at program (word_count asked.count) asked.write) (o32.fds_at program (word_count asked.count) asked.except)
      (native.fds_at memory fds places.read) (native.fds_at memory fds places.write) (native.fds_at memory fds places.except)
      (here places.read _ read) (here places.write _ write) (here places.except _ except))

  pub row_is : pselect_row kernel memory asked.count (places_of places) places.time places.pair left
      ≡ waits_for (selected fds (places_of places) memory) set_count (with_time_left kernel places.time (Ok wait)) memory selecting left
  unfolding pselect_row
  row_is =
      ap (λ (given : Given (Option ℕ)). waits_for (selected fds (places_of places) memory) set_count (with_time_left kernel places.time given) memory
      (select kernel (masked_by memory (wait_at memory places.time) (mask_argument_at memory places.pair)) asked.count (native.sets_at memory fds (places_of places))) left) time_is
      ∙ ap (λ (did : Did Kernel Sets). waits_for (selected fds (places_of places) memory) set_count (with_time_left kernel places.time (Ok wait)) memory did left) did_is

-- The sets that are left

set_room : (count : ℕ) → count ≤ 1024 → 8 * set_words count ≤ 128
set_room count few = omega arith

module _ (address place low high count words : ℕ) (fds : List ℕ) (few : count ≤ 1024) (enough : words ≤ 2 * set_words count) (rises : Rises count fds) where
  -- a set that was stored, with nothing stored there afterwards
  shown : (memory after : List ℕ) → Placed address place low high → 65536 ≤ low → high ≤ end_address memory
      → (low ≤ place → place + 128 ≤ high → bytes_at after place 128 ≡ bytes_at (written memory place (native.fds_bytes count fds)) place 128)
      → ShowsSet address place words fds after
  shown memory after (inl none) low_enough high_enough same = λ there. absurd (there none.0)
  shown memory after (inr at) low_enough high_enough same = λ there.
      let long : length (native.fds_bytes count fds) ≡ 8 * set_words count = length_told fds count in
      let stored = stored_there memory (native.fds_bytes count fds) place 128 (omega (arith, at.1.0)) (omega (arith, long)) (omega (arith, at.1.1)) in (
        native.fds_bytes count fds ++ stored.0,
        (same at.1.0 at.1.1 ∙ stored.1, λ k below. told_word fds stored.0 count k (omega arith) ∙ sym (word_among rises.test count k fds rises.is)),
      )

-- what is stored of another set, and of the time, stays away from it

beside : (memory bytes : List ℕ) (address place low high at : ℕ) → Placed address place low high → length bytes ≤ 128 → (high ≤ at) ⊎ (at + 128 ≤ low) → bytes_at (written memory place bytes) at 128 ≡ bytes_at memory at 128
beside memory bytes address place low high at (inl none) short apart = ap (λ (m : List ℕ). bytes_at m at 128) (written_nowhere memory bytes place (omega (arith, none.1)))
beside memory bytes address place low high at (inr placed) short (inl behind) = others_stay memory bytes place at 128 (inl (omega (arith, placed.1.0, placed.1.1)))
beside memory bytes address place low high at (inr placed) short (inr before) = others_stay memory bytes place at 128 (inr (omega (arith, placed.1.0, placed.1.1)))

time_beside : (memory : List ℕ) (time at : ℕ) (left : Option ℕ) → time + 16 ≤ at → bytes_at (with_left memory time left) at 128 ≡ bytes_at memory at 128
time_beside memory time at None before = refl
time_beside memory time at (Some left) before = others_stay memory (time_bytes left) time at 128 (inl before)

module _ (asked : Asked) (places : Places) (memory : List ℕ) (sets : Sets) (left : Option ℕ) (laid : Laid asked places memory) (rise : SetsRise (counted_fds asked.count) sets) where
  abbrev count : ℕ
  count = counted_fds asked.count

  abbrev bytes : List ℕ → List ℕ
  bytes fds = native.fds_bytes count fds

  short : (fds : List ℕ) → length (bytes fds) ≤ 128
  short fds = omega (arith, length_told fds count)

  abbrev first : List ℕ
  first = written memory places.read (bytes sets.read)

  abbrev second : List ℕ
  second = written first places.write (bytes sets.write)

  abbrev after : List ℕ
  after = with_left (written second places.except (bytes sets.except)) places.time left

  words_enough : word_count asked.count ≤ 2 * set_words count
  words_enough = omega arith

  first_long : length first ≡ length memory
  first_long = written_length memory places.read (bytes sets.read)

  second_long : length second ≡ length memory
  second_long = written_length first places.write (bytes sets.write) ∙ first_long

  shows_read : ShowsSet asked.read places.read (word_count asked.count) sets.read after
  shows_read =
      shown asked.read places.read laid.first laid.second count (word_count asked.count) sets.read (omega arith) words_enough rise.read memory after laid.read laid.low (omega (arith, laid.rising.1.0, laid.rising.1.1))
      (λ low high.
      time_beside (written second places.except (bytes sets.except)) places.time places.read left (omega (arith, laid.time))
      ∙ beside second (bytes sets.except) asked.except places.except laid.third (end_address memory) places.read laid.except (short sets.except) (inr (omega (arith, laid.rising.1.0)))
      ∙ beside first (bytes sets.write) asked.write places.write laid.second laid.third places.read laid.write (short sets.write) (inr (omega arith)))

  shows_write : ShowsSet asked.write places.write (word_count asked.count) sets.write after
  shows_write =
      shown asked.write places.write laid.second laid.third count (word_count asked.count) sets.write (omega arith) words_enough rise.write first after laid.write (omega (arith, laid.low, laid.rising.0))
      (omega (arith, laid.rising.1.1, first_long))
      (λ low high.
      time_beside (written second places.except (bytes sets.except)) places.time places.write left (omega (arith, laid.time, laid.rising.0))
      ∙ beside second (bytes sets.except) asked.except places.except laid.third (end_address memory) places.write laid.except (short sets.except) (inr (omega arith)))

  shows_except : ShowsSet asked.except places.except (word_count asked.count) sets.except after
  shows_except =
      shown asked.except places.except laid.third (end_address memory) count (word_count asked.count) sets.except (omega arith) words_enough rise.except second after laid.except
      (omega (arith, laid.low, laid.rising.0, laid.rising.1.0)) (omega (arith, second_long))
      (λ low high. time_beside (written second places.except (bytes sets.except)) places.time places.except left (omega (arith, laid.time, laid.rising.0, laid.rising.1.0)))

  pub shows_sets : ShowsSets asked places sets after
  shows_sets = record { read = shows_read; write = shows_write; except = shows_except }

  pub sets_long : length (selected count (places_of places) memory sets) ≡ length memory
  sets_long = written_length second places.except (bytes sets.except) ∙ second_long

-- How many there are

filter_few : (p : ℕ → Bool) (xs : List ℕ) → length (filter p xs) ≤ length xs
filter_few p [] = omega arith
filter_few p (x ∷ xs) = by (p x) (filter_few p xs) where
  by : (b : Bool) → length (filter p xs) ≤ length xs → length (if b then x ∷ filter p xs else filter p xs) ≤ suc (length xs)
  by true few = omega arith
  by false few = omega arith

rises_few : (count : ℕ) (fds : List ℕ) → Rises count fds → length fds ≤ count
rises_few count fds rises = omega (arith, ap (λ (l : List ℕ). length l) rises.is, filter_few rises.test (count_up 0 count), length-up 0 count)

pub counted_well : (count : ℤ) (sets : Sets) → SetsRise (counted_fds count) sets → set_count sets < 2 ^ 32
counted_well count sets rise =
    omega (
      arith,
      rises_few (counted_fds count) sets.read rise.read,
      rises_few (counted_fds count) sets.write rise.write,
      rises_few (counted_fds count) sets.except rise.except,
    )
