-- Entries one after the other, and memory with what is told of them.
use Rattle.std.proofs.Common.{◌≡◌, ℕ, suc, ◌+◌, ◌-◌, ◌*◌, ◌<◌, ◌≤◌, Bool, true, false, List, ◌++◌, length, take, drop, sym, ap, ◌∙◌, arith}
use Rattle.std.specs.Prelude.{count_by, nat_le, if◌then◌else◌}
use Rattle.std.proofs.lemmas.Bool.{and_from, and_parts, le-leb, leb-true}
use Rattle.std.proofs.lemmas.List.{drop-drop, drop-take, length-append, length-drop, length-take-le}
use Rattle.std.proofs.lemmas.Slice.{drop-append-drop}
use Rattle.host_mem.specs.Memory.{end_address, first_address, is_inside, replaced, written}
use Rattle.kernel_core.specs.Bits.{one_if}
use Rattle.kernel_model.specs.Readiness.{is_any, returned}
use Rattle.kernel_model.specs.State.{Files}
use Rattle.layouts.specs.Number.{bytes_of}
use Rattle.native_calls.specs.Polls.{entries_in, polled}
use Rattle.native_polls.proofs.Lists.{count_next}
use Rattle.native_polls.specs.inside.Entries.{entry_bytes, told_from, told_in}
use Rattle.number_tables.specs.PollNumbers.{native_poll}

-- Bytes that are there

pub inside_from : (memory : List ℕ) (address count : ℕ) → is_inside memory address count ≡ true → first_address ≤ address
inside_from memory address count inside = leb-true first_address address (and_parts (nat_le first_address address) (nat_le (address + count) (end_address memory)) inside).0

pub inside_to : (memory : List ℕ) (address count : ℕ) → is_inside memory address count ≡ true → address + count ≤ end_address memory
inside_to memory address count inside =
    leb-true (address + count) (end_address memory) (and_parts (nat_le first_address address) (nat_le (address + count) (end_address memory)) inside).1

pub ruleset inside_bounds = (inside_from, inside_to)

inside_is : (memory : List ℕ) (address count : ℕ) → first_address ≤ address → address + count ≤ end_address memory → is_inside memory address count ≡ true
inside_is memory address count from to =
    and_from (nat_le first_address address) (nat_le (address + count) (end_address memory)) (le-leb first_address address from) (le-leb (address + count) (end_address memory) to)

-- Memory after a write

front_length : (memory bytes : List ℕ) (place : ℕ) → place + length bytes ≤ length memory → length (take place memory ++ bytes) ≡ place + length bytes
front_length memory bytes place inside = omega (arith, length-append (take place memory) bytes, length-take-le place memory (omega arith))

length-replaced : (memory bytes : List ℕ) (place : ℕ) → place + length bytes ≤ length memory → length (replaced memory place bytes) ≡ length memory
length-replaced memory bytes place inside =
    omega (
      arith,
      length-append (take place memory ++ bytes) (drop (place + length bytes) memory),
      front_length memory bytes place inside,
      length-drop (place + length bytes) memory,
    )

drop-replaced : (memory bytes : List ℕ) (place n : ℕ) → place + length bytes ≤ length memory → place + length bytes ≤ n → drop n (replaced memory place bytes) ≡ drop n memory
drop-replaced memory bytes place n inside past =
    drop-append-drop (place + length bytes) memory (take place memory ++ bytes) n past (front_length memory bytes place inside)

-- The first of so many entries

module _ (files : Files) (memory : List ℕ) (address more : ℕ) (inside : is_inside memory address (suc more * 8) ≡ true) where
  abbrev bytes : List ℕ
  bytes = bytes_of false 2 (native_poll (told_in files (entry_bytes memory address (suc more))))

  abbrev next : List ℕ
  next = written memory (address + 6) bytes

  from : first_address ≤ address
  from = inside_from memory address (suc more * 8) inside

  to : address + suc more * 8 ≤ first_address + length memory
  to = inside_to memory address (suc more * 8) inside

  next_is : next ≡ replaced memory (address + 6 - first_address) bytes
  next_is =
      ap (λ (b : Bool). if b then replaced memory (address + 6 - first_address) bytes else memory)
      (inside_is memory (address + 6) 2 (omega (arith, from)) (omega (arith, to)))

  length_next : length next ≡ length memory
  length_next = ap (λ (m : List ℕ). length m) next_is ∙ length-replaced memory bytes (address + 6 - first_address) (omega (arith, from, to))

  drop_next : drop (address + 8 - first_address) next ≡ drop (address + 8 - first_address) memory
  drop_next =
      ap (λ (m : List ℕ). drop (address + 8 - first_address) m) next_is
      ∙ drop-replaced memory bytes (address + 6 - first_address) (address + 8 - first_address) (omega (arith, from, to)) (omega (arith, from))

  -- the bytes of those behind it are as they were
  rest : drop 8 (entry_bytes memory address (suc more)) ≡ entry_bytes next (address + 8) more
  rest =
      let size : suc more * 8 ≡ 8 + more * 8 = omega arith in
      let place : address - first_address + 8 ≡ address + 8 - first_address = omega (arith, from) in
      ap (λ (n : ℕ). drop 8 (take n (drop (address - first_address) memory))) size
      ∙ drop-take 8 (more * 8) (drop (address - first_address) memory)
      ∙ ap (λ (bs : List ℕ). take (more * 8) bs)
      (drop-drop 8 (address - first_address) memory ∙ ap (λ (n : ℕ). drop n memory) place ∙ sym drop_next)

  told_next : told_from files next (address + 8) more ≡ told_from files memory address (suc more)
  told_next = ap (λ (bs : List ℕ). polled (address + 8) next (returned files (entries_in more bs))) (sym rest)

  inside_next : is_inside next (address + 8) (more * 8) ≡ true
  inside_next = inside_is next (address + 8) (more * 8) (omega (arith, from)) (omega (arith, to, length_next))

-- the step of a loop that stores what is told of one entry after the other
module _ (files : Files) (memory next final : List ℕ) (place count done : ℕ) (below : done < count)
    (inside : is_inside memory place ((count - done) * 8) ≡ true)
    (is : next ≡ written memory (place + 6) (bytes_of false 2 (native_poll (told_in files (entry_bytes memory place (count - done)))))) where
  at : (n : ℕ) → count - done ≡ n
      → (is_inside memory place (n * 8) ≡ true)
      × (next ≡ written memory (place + 6) (bytes_of false 2 (native_poll (told_in files (entry_bytes memory place n)))))
  at n e = (
    ap (λ (k : ℕ). is_inside memory place (k * 8)) (sym e) ∙ inside,
    is ∙ ap (λ (k : ℕ). written memory (place + 6) (bytes_of false 2 (native_poll (told_in files (entry_bytes memory place k))))) e,
  )

  left : count - done ≡ suc (count - (done + 1))
  left = omega arith

  pub stored_more : told_from files memory place (count - done) ≡ final → told_from files next (place + 8) (count - (done + 1)) ≡ final
  stored_more all =
      let parts = at (suc (count - (done + 1))) left in
      ap (λ (m : List ℕ). told_from files m (place + 8) (count - (done + 1))) parts.1
      ∙ told_next files memory place (count - (done + 1)) parts.0
      ∙ ap (λ (n : ℕ). told_from files memory place n) (sym left)
      ∙ all

  pub inside_more : is_inside next (place + 8) ((count - (done + 1)) * 8) ≡ true
  inside_more =
      let parts = at (suc (count - (done + 1))) left in
      ap (λ (m : List ℕ). is_inside m (place + 8) ((count - (done + 1)) * 8)) parts.1
      ∙ inside_next files memory place (count - (done + 1)) parts.0

-- Counting

-- the step of a loop that counts the entries of which any event is told
pub counted_more : (files : Files) (bytes : List ℕ) (count done told now all : ℕ) (any : Bool) → done < count
    → any ≡ is_any (told_in files (drop (done * 8) bytes))
    → now ≡ told + one_if any
    → told + count_by is_any (returned files (entries_in (count - done) (drop (done * 8) bytes))) ≡ all
    → now + count_by is_any (returned files (entries_in (count - (done + 1)) (drop ((done + 1) * 8) bytes))) ≡ all
counted_more files bytes count done told now all any below is_told becomes sum =
    let left : count - done ≡ suc (count - (done + 1)) = omega arith in
    let place : done * 8 + 8 ≡ (done + 1) * 8 = omega arith in
    let rest : drop 8 (drop (done * 8) bytes) ≡ drop ((done + 1) * 8) bytes = drop-drop 8 (done * 8) bytes ∙ ap (λ (n : ℕ). drop n bytes) place in
    let bit : one_if any ≡ one_if (is_any (told_in files (drop (done * 8) bytes))) = ap one_if is_told in
    let split : count_by is_any (returned files (entries_in (count - done) (drop (done * 8) bytes)))
    ≡ one_if (is_any (told_in files (drop (done * 8) bytes))) + count_by is_any (returned files (entries_in (count - (done + 1)) (drop ((done + 1) * 8) bytes))) =
    ap (λ (n : ℕ). count_by is_any (returned files (entries_in n (drop (done * 8) bytes)))) left
    ∙ count_next is_any (told_in files (drop (done * 8) bytes))
    (returned files (entries_in (count - (done + 1)) (drop 8 (drop (done * 8) bytes))))
    ∙ ap (λ (bs : List ℕ). one_if (is_any (told_in files (drop (done * 8) bytes))) + count_by is_any (returned files (entries_in (count - (done + 1)) bs))) rest in
    omega (arith, sum, split, becomes, bit)
