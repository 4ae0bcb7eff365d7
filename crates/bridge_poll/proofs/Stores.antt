-- Entries in the program's memory, one stored after the other.
use Rattle.std.proofs.Common.{◌≡◌, ◌≢◌, ℕ, zero, suc, ◌+◌, ◌-◌, ◌/◌, ◌%◌, ◌<◌, ◌≤◌, Bool, true, false, cond, List, [], ◌∷◌, ◌++◌, length, drop, Option, Some, None, refl, sym, ap, ◌∙◌, arith, if◌then◌else◌}
use borrow.Rule.Slice.PartMut.{mid_of, put_mid}
use Rattle.std.specs.Prelude.{is_none}
use Rattle.std.proofs.lemmas.Bool.Decides.{nat_tests}
use Rattle.std.proofs.lemmas.List.{get_or-set_other}
use Rattle.std.proofs.lemmas.Map.Lookups.{exact_unsigned}
use Rattle.std.proofs.lemmas.Map.Views.{tells_apart}
use Rattle.std.specs.Ordering.{nat_cmp, eq_by_cmp}
use Rattle.std.specs.Cmp.{nat_cmp_total}
use Rattle.std.specs.FinMap.{get, get-insert}
use Rattle.guest_space.proofs.Prefixes.{first_denied-suc, first_denied-zero, none_denied-within}
use Rattle.guest_space.specs.declared.access.Denied.{Denied}
use Rattle.guest_space.specs.declared.access.Why.{Why}
use Rattle.guest_space.specs.Access.{denied_or, first_denied, page_refusal, refusal, user_end}
use Rattle.guest_space.specs.Bytes.{byte_at, bytes_at, page_byte, page_with_byte, pages_with_byte, with_byte, with_bytes, copied_out}
use Rattle.guest_space.specs.Memory.{MappedPage, Memory, Pages}
use Rattle.guest_space.specs.declared.access.Access.TheVariants.{Load, Store}
use Rattle.kernel_model.specs.Shared.{PollSet}
use Rattle.layouts.specs.Number.{bytes_of}
use Rattle.number_tables.specs.PollNumbers.{o32_poll}
use Rattle.o32_model.specs.Polling.{entry_pieces}
use Rattle.o32_model.specs.GuestBytes.{is_storable, with_stored}
use Rattle.o32_model.specs.Results.{Piece, all_fit, fits, with_pieces}
use Rattle.bridge_limits.proofs.Storing.{piece_not_put, piece_put, piece_put_fits, piece_unfit}
use Rattle.bridge_poll.specs.inside.Telling.{piece_of, told_all, told_of}

-- A byte elsewhere

module _ (pages : Pages) (a x b : ℕ) (apart : x ≢ a) where
  here : (page : MappedPage) (same : Bool) → eq_by_cmp nat_cmp (x / 4096) (a / 4096) ≡ same → get pages (a / 4096) ≡ Some page
      → page_byte (cond same (Some (page_with_byte page (a % 4096) b)) (get pages (x / 4096))) (x % 4096) ≡ page_byte (get pages (x / 4096)) (x % 4096)
  here page false is found = refl
  here page true is found =
      let at : x / 4096 ≡ a / 4096 = tells_apart exact_unsigned (x / 4096) (a / 4096) is in
      let other : x % 4096 ≢ a % 4096 = λ same. apart (omega (arith, at, same)) in
      get_or-set_other page.bytes (a % 4096) (x % 4096) b 0 other
      ∙ ap (λ (o : Option MappedPage). page_byte o (x % 4096)) (sym found ∙ ap (get pages) (sym at))

  by : (o : Option MappedPage) → get pages (a / 4096) ≡ o → page_byte (get (pages_with_byte pages (a / 4096) o (a % 4096) b) (x / 4096)) (x % 4096) ≡ page_byte (get pages (x / 4096)) (x % 4096)
  by None found = refl
  by (Some page) found =
      ap (λ (o : Option MappedPage). page_byte o (x % 4096)) (get-insert nat_cmp_total pages (a / 4096) (page_with_byte page (a % 4096) b) (x / 4096))
      ∙ here page _ refl found

  byte_other : byte_at (with_byte pages a b) x ≡ byte_at pages x
  unfolding byte_at with_byte
  byte_other = by (get pages (a / 4096)) refl

byte_before : (bytes : List ℕ) (pages : Pages) (a x : ℕ) → a + length bytes ≤ x → byte_at (with_bytes pages a bytes) x ≡ byte_at pages x
unfolding with_bytes
byte_before [] pages a x past = refl
byte_before (b ∷ bytes) pages a x past =
    byte_before bytes (with_byte pages a b) (a + 1) x (omega (arith, past)) ∙ byte_other pages a x b (λ same. omega (arith, past, same))

bytes_same : (count : ℕ) (one other : Pages) (a : ℕ) → ((x : ℕ) → a ≤ x → byte_at one x ≡ byte_at other x) → bytes_at one a count ≡ bytes_at other a count
unfolding bytes_at
bytes_same zero one other a same = refl
bytes_same (suc count) one other a same = λ i. same a (omega arith) i ∷ bytes_same count one other (a + 1) (λ x past. same x (omega (arith, past))) i

abbrev piece_at : ℕ → PollSet → List ℕ → Piece
piece_at address events six = record { address = address; bytes = six ++ bytes_of true 2 (o32_poll events) }

pieces_same : (events : List PollSet) (one other : Memory) (a : ℕ) → ((x : ℕ) → a ≤ x → byte_at one.pages x ≡ byte_at other.pages x) → entry_pieces one a events ≡ entry_pieces other a events
pieces_same [] one other a same = refl
pieces_same (first ∷ more) one other a same =
    λ i. piece_at a first (bytes_same 6 one.pages other.pages a same i) ∷ pieces_same more one other (a + 8) (λ x past. same x (omega (arith, past))) i

-- the entries behind one that was stored
pub pieces_behind : (events : List PollSet) (memory : Memory) (a : ℕ) (bytes : List ℕ) → length bytes ≡ 8 → entry_pieces (copied_out memory a bytes) (a + 8) events ≡ entry_pieces memory (a + 8) events
unfolding copied_out
pieces_behind events memory a bytes size = pieces_same events (record memory { pages = with_bytes memory.pages a bytes }) memory (a + 8) (λ x past. byte_before bytes memory.pages a x (omega (arith, past, size)))

-- What can be stored can be loaded.

allowed : (o : Option MappedPage) → page_refusal Store o ≡ None → page_refusal Load o ≡ None
allowed None free = absurd cc
allowed (Some page) free = grind (arith, nat_tests)

loads_one : (pages : Pages) (a : ℕ) → refusal Store pages a ≡ None → refusal Load pages a ≡ None
unfolding refusal
loads_one pages a free = grind (arith, nat_tests, allowed)

loads_all : (count : ℕ) (pages : Pages) (a : ℕ) → first_denied Store pages a count ≡ None → first_denied Load pages a count ≡ None
loads_all zero pages a free = first_denied-zero Load pages a
loads_all (suc count) pages a free = by (refusal Store pages a) refl (sym (first_denied-suc Store pages a count) ∙ free) (λ rest. loads_all count pages (a + 1) rest) where
  by : (o : Option Why) → refusal Store pages a ≡ o → denied_or a o (first_denied Store pages (a + 1) count) ≡ None → (first_denied Store pages (a + 1) count ≡ None → first_denied Load pages (a + 1) count ≡ None)
      → first_denied Load pages a (suc count) ≡ None
  by None one rest later =
      first_denied-suc Load pages a count ∙ ap (λ (o : Option Why). denied_or a o (first_denied Load pages (a + 1) count)) (loads_one pages a one)
      ∙ later rest
  by (Some why) one rest later = absurd cc

none_of : (o : Option Denied) → is_none o ≡ true → o ≡ None
none_of None is = refl
none_of (Some denied) is = absurd cc

pub stored_loads : (memory : Memory) (a : ℕ) → is_storable memory a 8 ≡ true → first_denied Load memory.pages a 8 ≡ None
stored_loads memory a there = loads_all 8 memory.pages a (none_of (first_denied Store memory.pages a 8) there)

pub stored_inside : (memory : Memory) (a : ℕ) → is_storable memory a 8 ≡ true → a + 8 ≤ user_end
stored_inside memory a there = none_denied-within Store memory.pages 8 a (none_of (first_denied Store memory.pages a 8) there) (omega arith)

-- an entry with what is told of it, made of its eight bytes
abbrev pub made_of : List ℕ → ℕ → List ℕ
made_of old number = put_mid 6 2 old (bytes_of true 2 number ++ drop 2 (mid_of 6 2 old))

made_here : (memory : Memory) (a number : ℕ) → made_of (bytes_at memory.pages a 8) number ≡ bytes_at memory.pages a 6 ++ bytes_of true 2 number
unfolding bytes_at
made_here memory a number = refl

pub entry_made : (memory : Memory) (a number : ℕ) (events : PollSet) (old : List ℕ) → old ≡ bytes_at memory.pages a 8 → number ≡ o32_poll events → made_of old number ≡ piece_of memory a events
entry_made memory a number events old is same =
    ap (λ (l : List ℕ). made_of l number) is ∙ made_here memory a number ∙ ap (λ (n : ℕ). bytes_at memory.pages a 6 ++ bytes_of true 2 n) same

pub length_piece : (memory : Memory) (a : ℕ) (events : PollSet) → length (piece_of memory a events) ≡ 8
unfolding bytes_at
length_piece memory a events = refl

-- bytes that are stored where they can be are those of the entry
pub stored_so : (memory : Memory) (a : ℕ) (events : PollSet) (bytes : List ℕ) → length bytes ≡ 8 → (is_storable memory a 8 ≡ true → bytes ≡ piece_of memory a events)
    → with_stored memory a bytes ≡ with_stored memory a (piece_of memory a events)
stored_so memory a events bytes size is =
    ap (λ (n : ℕ). if is_storable memory a n then copied_out memory a bytes else memory) size
    ∙ by (is_storable memory a 8) refl
    ∙ ap (λ (n : ℕ). if is_storable memory a n then copied_out memory a (piece_of memory a events) else memory) (sym (length_piece memory a events)) where
      by : (b : Bool) → is_storable memory a 8 ≡ b → (if b then copied_out memory a bytes else memory) ≡ (if b then copied_out memory a (piece_of memory a events) else memory)
      by true there = ap (copied_out memory a) (is there)
      by false there = refl

-- the step of a loop that stores one entry after the other

abbrev pub pieces_from : Memory → ℕ → ℕ → List ℕ → List Piece
pieces_from memory a count told = entry_pieces memory a (told_all count told)

abbrev first_piece : Memory → ℕ → List ℕ → Piece
first_piece memory a told = record { address = a; bytes = piece_of memory a (told_of told) }

first_fits : (memory : Memory) (a : ℕ) (told : List ℕ) (stored : Bool) → is_storable memory a 8 ≡ stored → fits memory (first_piece memory a told) ≡ stored
first_fits memory a told stored is = ap (is_storable memory a) (length_piece memory a (told_of told)) ∙ is

module _ (memory after : Memory) (a count done : ℕ) (told : List ℕ) (below : done < count) (put : after ≡ with_stored memory a (piece_of memory a (told_of told))) where
  more : ℕ
  more = count - (done + 1)

  left : count - done ≡ suc (count - (done + 1))
  left = omega (arith, below)

  abbrev rest : List Piece
  rest = pieces_from memory (a + 8) (count - (done + 1)) (drop 8 told)

  split : pieces_from memory a (count - done) told ≡ first_piece memory a told ∷ rest
  unfolding told_all
  split = ap (λ (n : ℕ). pieces_from memory a n told) left

  behind : is_storable memory a 8 ≡ true → pieces_from after (a + 8) (count - (done + 1)) (drop 8 told) ≡ rest
  behind there =
      ap (λ (m : Memory). pieces_from m (a + 8) (count - (done + 1)) (drop 8 told))
      (put ∙ ap (λ (b : Bool). if b then copied_out memory a (piece_of memory a (told_of told)) else memory) (first_fits memory a told true there))
      ∙ pieces_behind (told_all (count - (done + 1)) (drop 8 told)) memory a (piece_of memory a (told_of told)) (length_piece memory a (told_of told))

  pub one_fits : is_storable memory a 8 ≡ true → all_fit memory (pieces_from memory a (count - done) told) ≡ all_fit after (pieces_from after (a + 8) (count - (done + 1)) (drop 8 told))
  one_fits there =
      ap (all_fit memory) split ∙ piece_put_fits memory after (first_piece memory a told) rest (first_fits memory a told true there) put
      ∙ ap (all_fit after) (sym (behind there))

  pub one_stored : is_storable memory a 8 ≡ true → with_pieces memory (pieces_from memory a (count - done) told) ≡ with_pieces after (pieces_from after (a + 8) (count - (done + 1)) (drop 8 told))
  one_stored there =
      ap (with_pieces memory) split ∙ piece_put memory after (first_piece memory a told) rest (first_fits memory a told true there) put
      ∙ ap (with_pieces after) (sym (behind there))

  pub one_unfit : is_storable memory a 8 ≡ false → all_fit memory (pieces_from memory a (count - done) told) ≡ false
  one_unfit there = ap (all_fit memory) split ∙ piece_unfit memory (first_piece memory a told) rest (first_fits memory a told false there)

  pub one_refused : is_storable memory a 8 ≡ false → after ≡ with_pieces memory (pieces_from memory a (count - done) told)
  one_refused there = piece_not_put memory after (first_piece memory a told) rest (first_fits memory a told false there) put ∙ ap (with_pieces memory) (sym split)

pub all_done : (memory : Memory) (a number : ℕ) (told : List ℕ) → number ≡ 0 → (all_fit memory (pieces_from memory a number told) ≡ true) × (with_pieces memory (pieces_from memory a number told) ≡ memory)
unfolding told_all
all_done memory a number told none = (
  ap (λ (n : ℕ). all_fit memory (pieces_from memory a n told)) none,
  ap (λ (n : ℕ). with_pieces memory (pieces_from memory a n told)) none,
)
