-- The bytes of a vector's buffers, one buffer after the other.
use Rattle.std.proofs.Common.{ℕ, ◌≡◌, ◌+◌, ◌-◌, ◌≤◌, ◌<◌, Bool, true, false, nat_eq, if◌then◌else◌, min, List, [], ◌∷◌, ◌++◌, length, take, drop, None, is_none, inl, inr, get_or, add-one, drop-cons, refl, sym, ap, subst, ◌∙◌, arith}
use Rattle.std.proofs.Math.ListN.{drop_of_length-le}
use Rattle.std.proofs.lemmas.Bool.{cases_lt}
use Rattle.std.proofs.lemmas.Bool.Decides.{nat_tests}
use Rattle.std.proofs.lemmas.List.{length-append, length-take-le, length-drop, take_min}
use Rattle.guest_space.specs.Access.{first_denied, readable_prefix, writable_prefix, bytes_before}
use Rattle.guest_space.specs.Bytes.{bytes_at, with_bytes, copied_out}
use Rattle.guest_space.specs.Memory.{Memory, Pages}
use Rattle.guest_space.specs.declared.access.Access.TheVariants.{Load, Store}
use Rattle.guest_space.proofs.ByteLemmas.{length-bytes_at, bytes_at-zero, bytes_at-same}
use Rattle.guest_space.proofs.Uses.{prefix-part, readable_prefix-le, writable_prefix-le, first_denied-with_bytes}
use Rattle.o32_model.specs.GuestBytes.{all_accessible, all_loadable, all_copied_out, with_stored}
use Rattle.o32_model.specs.declared.range.Range.{Range}
use Rattle.bridge_mem.specs.inside.Lengths.{all_readable}

-- A number is the one that is asked for, or not.

data Same (n m : ℕ) : Type 0 where
  Is : n ≡ m → nat_eq n m ≡ true → Same n m
  Not : (n ≡ m → ⊥) → nat_eq n m ≡ false → Same n m

same : (n m : ℕ) → Same n m
same n m = by_test (nat_eq n m) refl
  where
    equal : nat_eq n m ≡ true → n ≡ m
    equal is = grind (arith, nat_tests)

    unequal : nat_eq n m ≡ false → n ≡ m → ⊥
    unequal is e = grind (arith, nat_tests)

    by_test : (b : Bool) → nat_eq n m ≡ b → Same n m
    by_test true is = Is (equal is) is
    by_test false is = Not (unequal is) is

is_same : (n m : ℕ) → n ≡ m → nat_eq n m ≡ true
is_same n m is = grind (arith, nat_tests)

pub prefix-loads : (pages : Pages) (a n k : ℕ) → k ≤ readable_prefix pages a n → first_denied Load pages a k ≡ None
unfolding readable_prefix
prefix-loads pages a n k within = prefix-part Load pages n a k within

pub prefix-stores : (pages : Pages) (a n k : ℕ) → k ≤ writable_prefix pages a n → first_denied Store pages a k ≡ None
unfolding writable_prefix
prefix-stores pages a n k within = prefix-part Store pages n a k within

-- Reading

module _ (memory : Memory) where
  -- the bytes of the first buffer, and what comes behind it
  pub loadable-is : (range : Range) (ranges : List Range) → all_loadable memory (range ∷ ranges)
      ≡ bytes_at memory.pages range.address (readable_prefix memory.pages range.address range.length)
      ++ (if nat_eq (readable_prefix memory.pages range.address range.length) range.length then all_loadable memory ranges else [])
  loadable-is range ranges =
      let there = readable_prefix memory.pages range.address range.length in
      ap (λ n. bytes_at memory.pages range.address there ++ (if nat_eq n range.length then all_loadable memory ranges else []))
      (length-bytes_at memory.pages there range.address)

  length_by : (there more : ℕ) (bytes : List ℕ) (b : Bool) → length bytes ≡ more → there + length (if b then bytes else []) ≡ (if b then there + more else there)
  length_by there more bytes true long = ap (λ n. there + n) long
  length_by there more bytes false long = omega arith

  pub length-all_loadable : (ranges : List Range) → length (all_loadable memory ranges) ≡ all_readable memory ranges
  length-all_loadable [] = refl
  length-all_loadable (range ∷ ranges) =
      let there = readable_prefix memory.pages range.address range.length in
      let bytes = bytes_at memory.pages range.address there in
      ap length (loadable-is range ranges)
      ∙ length-append bytes (if nat_eq there range.length then all_loadable memory ranges else [])
      ∙ ap (λ n. n + length (if nat_eq there range.length then all_loadable memory ranges else [])) (length-bytes_at memory.pages there range.address)
      ∙ length_by there (all_readable memory ranges) (all_loadable memory ranges) (nat_eq there range.length) (length-all_loadable ranges)

-- a list from a place on is the element there and the rest
pub split : (ranges : List Range) (i : ℕ) (d : Range) → i < length ranges → drop i ranges ≡ get_or ranges i d ∷ drop (i + 1) ranges
split ranges i d below = rw add-one (drop-cons ranges i d below)

-- what is still to be read where so many of the bytes were, and how many bytes that are: nothing once they were all

abbrev pub to_come : Memory → List Range → ℕ → ℕ → List ℕ
to_come memory ranges done all = if nat_eq done all then [] else all_loadable memory ranges

abbrev pub count_to_come : Memory → List Range → ℕ → ℕ → ℕ
count_to_come memory ranges done all = if nat_eq done all then 0 else all_readable memory ranges

none_left : (xs : List ℕ) → length xs ≡ 0 → xs ≡ []
none_left [] none = refl
none_left (x ∷ xs) none = absurd (omega arith)

pub all-begin : (memory : Memory) (ranges : List Range) (all : ℕ) → all ≡ all_readable memory ranges → all_loadable memory ranges ≡ to_come memory ranges 0 all
all-begin memory ranges all count = by_case (same 0 all)
  where
    by_case : Same 0 all → all_loadable memory ranges ≡ to_come memory ranges 0 all
    by_case (Is none test) = none_left (all_loadable memory ranges) (omega (arith, length-all_loadable memory ranges)) ∙ ap (λ b. if b then [] else all_loadable memory ranges) (sym test)
    by_case (Not some test) = ap (λ b. if b then [] else all_loadable memory ranges) (sym test)

pub count-begin : (memory : Memory) (ranges : List Range) (all : ℕ) → all ≡ all_readable memory ranges → 0 + count_to_come memory ranges 0 all ≡ all
count-begin memory ranges all count = by_case (same 0 all)
  where
    by_case : Same 0 all → 0 + count_to_come memory ranges 0 all ≡ all
    by_case (Is none test) = ap (λ b. 0 + (if b then 0 else all_readable memory ranges)) test ∙ omega arith
    by_case (Not some test) = ap (λ b. 0 + (if b then 0 else all_readable memory ranges)) test ∙ omega arith

-- what the next buffer, with others behind it, gives: `size` bytes, and then what comes of the others
pub record Step (memory : Memory) (range : Range) (ranges later : List Range) (done all size : ℕ) : Type 0 where
  pub within : size ≤ readable_prefix memory.pages range.address range.length
  pub bytes : to_come memory ranges done all ≡ bytes_at memory.pages range.address size ++ to_come memory later (done + size) all
  pub count : done + size + count_to_come memory later (done + size) all ≡ all

-- The next buffer is read: so many of its bytes as are still to be read.
module _ (memory : Memory) (range : Range) (ranges : List Range) (done all size : ℕ) (sums : done + count_to_come memory (range ∷ ranges) done all ≡ all)
    (size_is : size ≡ min (all - done) range.length) where
  there : ℕ
  there = readable_prefix memory.pages range.address range.length

  -- all bytes were read
  finished : done ≡ all → nat_eq done all ≡ true → Step memory range (range ∷ ranges) ranges done all size
  finished is test =
      let none : size ≡ 0 = omega (arith, size_is) in
      let still : nat_eq (done + size) all ≡ true = ap (λ n. nat_eq n all) (let e : done + size ≡ done = omega arith in e) ∙ test in
      record {
        within = omega arith;
        bytes =
            ap (λ b. if b then [] else all_loadable memory (range ∷ ranges)) test
            ∙ (λ i. sym (bytes_at-same memory.pages {a = range.address} refl none ∙ bytes_at-zero memory.pages range.address) i ++ (if sym still i then [] else all_loadable memory ranges));
        count = ap (λ b. done + size + (if b then 0 else all_readable memory ranges)) still ∙ omega arith;
      }

  left : nat_eq done all ≡ false → done + all_readable memory (range ∷ ranges) ≡ all
  left test = ap (λ b. done + (if b then 0 else all_readable memory (range ∷ ranges))) (sym test) ∙ sums

  -- the buffer's bytes may not all be loaded
  cut : nat_eq done all ≡ false → (there ≡ range.length → ⊥) → nat_eq there range.length ≡ false → Step memory range (range ∷ ranges) ranges done all size
  unfolding there
  cut test apart short =
      let last : all_readable memory (range ∷ ranges) ≡ there = ap (λ b. if b then there + all_readable memory ranges else there) short in
      let small : there ≤ range.length = readable_prefix-le memory.pages range.length range.address in
      let size_there : size ≡ there = omega (arith, left test, last, size_is) in
      let end : done + size ≡ all = omega (arith, left test, last) in
      let stop : nat_eq (done + size) all ≡ true = is_same (done + size) all end in
      record {
        within = omega arith;
        bytes =
            ap (λ b. if b then [] else all_loadable memory (range ∷ ranges)) test
            ∙ loadable-is memory range ranges
            ∙ (λ i. bytes_at memory.pages range.address (sym size_there i) ++ (if short i then all_loadable memory ranges else []))
            ∙ ap (λ b. bytes_at memory.pages range.address size ++ (if b then [] else all_loadable memory ranges)) (sym stop);
        count = ap (λ b. done + size + (if b then 0 else all_readable memory ranges)) stop ∙ omega arith;
      }

  -- they may
  whole : nat_eq done all ≡ false → there ≡ range.length → nat_eq there range.length ≡ true → Step memory range (range ∷ ranges) ranges done all size
  unfolding there
  whole test exact long =
      let more : all_readable memory (range ∷ ranges) ≡ there + all_readable memory ranges = ap (λ b. if b then there + all_readable memory ranges else there) long in
      let size_there : size ≡ there = omega (arith, left test, more, size_is) in
      record {
        within = omega arith;
        bytes =
            ap (λ b. if b then [] else all_loadable memory (range ∷ ranges)) test
            ∙ loadable-is memory range ranges
            ∙ (λ i. bytes_at memory.pages range.address (sym size_there i) ++ (if long i then all_loadable memory ranges else []))
            ∙ ap (λ s. bytes_at memory.pages range.address size ++ s) (rest (same (done + size) all) (omega (arith, left test, more)));
        count = counted (same (done + size) all) (omega (arith, left test, more));
      }
    where
      rest : Same (done + size) all → done + size + all_readable memory ranges ≡ all → all_loadable memory ranges ≡ to_come memory ranges (done + size) all
      rest (Is end stop) sum =
          none_left (all_loadable memory ranges) (omega (arith, length-all_loadable memory ranges)) ∙ ap (λ b. if b then [] else all_loadable memory ranges) (sym stop)
      rest (Not apart go) sum = ap (λ b. if b then [] else all_loadable memory ranges) (sym go)

      counted : Same (done + size) all → done + size + all_readable memory ranges ≡ all → done + size + count_to_come memory ranges (done + size) all ≡ all
      counted (Is end stop) sum = ap (λ b. done + size + (if b then 0 else all_readable memory ranges)) stop ∙ omega arith
      counted (Not apart go) sum = ap (λ b. done + size + (if b then 0 else all_readable memory ranges)) go ∙ sum

  next : Step memory range (range ∷ ranges) ranges done all size
  next = by_case (same done all) (same there range.length)
    where
      by_case : Same done all → Same there range.length → Step memory range (range ∷ ranges) ranges done all size
      by_case (Is end test) whichever = finished end test
      by_case (Not apart test) (Is exact long) = whole test exact long
      by_case (Not apart test) (Not unequal short) = cut test unequal short

pub next_of : (memory : Memory) (ranges : List Range) (i done all size : ℕ) (d : Range) → i < length ranges
    → done + count_to_come memory (drop i ranges) done all ≡ all → size ≡ min (all - done) (get_or ranges i d).length
    → Step memory (get_or ranges i d) (drop i ranges) (drop (i + 1) ranges) done all size
next_of memory ranges i done all size d below sums size_is =
    let parts = split ranges i d below in
    subst (λ s. Step memory (get_or ranges i d) s (drop (i + 1) ranges) done all size) (sym parts)
    (next memory (get_or ranges i d) (drop (i + 1) ranges) done all size (ap (λ s. done + count_to_come memory s done all) (sym parts) ∙ sums) size_is)

pub length_mid : (xs : List ℕ) (a k : ℕ) → a + k ≤ length xs → length (take (a + k - a) (drop a xs)) ≡ k
length_mid xs a k room = length-take-le (a + k - a) (drop a xs) (omega (arith, length-drop a xs)) ∙ omega arith

-- Writing

module _ (pages : Pages) (address : ℕ) (bytes : List ℕ) where
  writable-with_bytes : (a n : ℕ) → writable_prefix (with_bytes pages address bytes) a n ≡ writable_prefix pages a n
  unfolding writable_prefix
  writable-with_bytes a n = ap (bytes_before a n) (first_denied-with_bytes Store bytes pages address n a)

module _ (memory : Memory) (address : ℕ) (bytes : List ℕ) where
  -- what is written changes no byte's access
  pub accessible-copied_out : (ranges : List Range) → all_accessible (copied_out memory address bytes) ranges ≡ all_accessible memory ranges
  unfolding copied_out
  accessible-copied_out [] = refl
  accessible-copied_out (range ∷ ranges) =
      (λ i. let there = writable-with_bytes memory.pages address bytes range.address range.length i in
      if nat_eq there range.length then there + accessible-copied_out ranges i else there)

drop-least : (xs : List ℕ) (n k : ℕ) → k ≡ min (length xs) n → drop k xs ≡ drop n xs
drop-least xs n k least = elim (cases_lt n (length xs)) [ inl below ↦ ap (λ m. drop m xs) (omega (arith, least)) | inr above ↦ drop_of_length-le xs (omega (arith, least)) ∙ sym (drop_of_length-le xs above) ]

-- the memory so far, with the rest of the bytes in the buffers to come, is the memory with all bytes in all buffers; and the rest may be stored
pub record Scattered (before now : Memory) (ranges later : List Range) (bytes rest : List ℕ) : Type 0 where
  pub all : all_copied_out now later rest ≡ all_copied_out before ranges bytes
  pub room : length rest ≤ all_accessible now later

stored_if : (now after : Memory) (address : ℕ) (piece : List ℕ) → first_denied Store now.pages address (length piece) ≡ None → after ≡ with_stored now address piece → after ≡ copied_out now address piece
stored_if now after address piece free stored = stored ∙ ap (λ o. if is_none o then copied_out now address piece else now) free

-- The next buffer is written: as many of the bytes as it has, or all that are left.
module _ (before now after : Memory) (ranges later : List Range) (range : Range) (bytes rest piece more : List ℕ) (size : ℕ)
    (so_far : Scattered before now ranges (range ∷ later) bytes rest) (size_is : size ≡ min (length rest) range.length)
    (front : piece ≡ take size rest) (back : more ≡ drop size rest) (stored : after ≡ with_stored now range.address piece) where
  room : ℕ
  room = writable_prefix now.pages range.address range.length

  record Fits : Type 0 where
    pub here : size ≤ writable_prefix now.pages range.address range.length
    pub there : length rest - size ≤ all_accessible now later

  fits : Same room range.length → Fits
  unfolding room
  fits (Is exact long) =
      let all : all_accessible now (range ∷ later) ≡ room + all_accessible now later = ap (λ b. if b then room + all_accessible now later else room) long in
      record { here = omega (arith, size_is); there = omega (arith, size_is, all, so_far.room) }
  fits (Not apart short) =
      let all : all_accessible now (range ∷ later) ≡ room = ap (λ b. if b then room + all_accessible now later else room) short in
      let small : room ≤ range.length = writable_prefix-le now.pages range.length range.address in
      record { here = omega (arith, size_is, all, so_far.room); there = omega (arith, size_is, all, so_far.room) }

  long : length piece ≡ size
  long = ap length front ∙ length-take-le size rest (omega (arith, size_is))

  written : after ≡ copied_out now range.address piece
  written =
      stored_if now after range.address piece
      (ap (first_denied Store now.pages range.address) long ∙ prefix-stores now.pages range.address range.length size (fits (same room range.length)).here) stored

  pub scattered-next : Scattered before after ranges later bytes more
  scattered-next = record {
    all =
        (λ i. all_copied_out (written i) later more)
        ∙ (λ i. all_copied_out (copied_out now range.address (taken i)) later (dropped i))
        ∙ so_far.all;
    room = omega (arith, ap length back, length-drop size rest, (fits (same room range.length)).there, ap (λ m. all_accessible m later) written, accessible-copied_out now range.address piece later);
  }
    where
      taken : piece ≡ take range.length rest
      taken = front ∙ ap (λ n. take n rest) (let e : size ≡ min range.length (length rest) = omega (arith, size_is) in e) ∙ take_min range.length rest

      dropped : more ≡ drop range.length rest
      dropped = back ∙ drop-least rest range.length size size_is
