-- A journal read from its first byte to its last: what it keeps, or the offset of the first field that breaks the form of this
-- project's own, or the length where the bytes end early. A reader takes the length of the whole file and the bytes that are
-- left, and gives a value and the bytes behind it.
use Rattle.std.specs.Prelude.{ℕ, zero, suc, ◌+◌, ◌-◌, Bool, true, false, not, ◌&&◌, ◌||◌, ◌==◌, nat_lt, nat_le, List, [], ◌∷◌, ◌++◌, length, take, drop, Option, Some, None, Result, Ok, Err, if◌then◌else◌}
use Rattle.std.specs.List.{list_any}
use Rattle.std.specs.Str.{bytes_eq, is_utf8}
use Rattle.byteorder.specs.Endian.{big_number}
use Rattle.kernel_core.specs.declared.record.Record.{Record}
use Rattle.kernel_core.specs.declared.record.Effect.{Effect}
use Rattle.kernel_core.specs.declared.record.Effect.TheVariants.{Register, Write, Map, Unmap, Protect, Output}
use Rattle.kernel_core.specs.declared.finish.Finish.{Finish}
use Rattle.kernel_core.specs.declared.finish.Finish.TheVariants.{Exited, Killed, Budget, Blocked}
use Rattle.journal.specs.declared.turns.Front.{Front}
use Rattle.journal.specs.Text.{Kept, magic}
use Rattle.journal.specs.Form.{greatest_turn, user_pages, idle_kind, end_kind, no_words, front_of, none_before, follows_in_turn, has_ended_turn}

infixl 10 ◌>>=◌
abbrev pub ◌>>=◌ : {A B : Type 0} → Result A ℕ → (A → Result B ℕ) → Result B ℕ
(Ok x) >>= next = next x
(Err at) >>= next = Err at

-- Fields

-- the offset of what is left of a file
abbrev pub place : ℕ → List ℕ → ℕ
place file rest = file - length rest

-- so many bytes; bad at the file's length where fewer are left
abbrev pub bytes_at : ℕ → ℕ → List ℕ → Result (List ℕ × List ℕ) ℕ
bytes_at count file rest = if nat_lt (length rest) count then Err file else Ok (take count rest, drop count rest)

-- a number in so many bytes
abbrev pub number_at : ℕ → ℕ → List ℕ → Result (ℕ × List ℕ) ℕ
number_at width file rest = if nat_lt (length rest) width then Err file else Ok (big_number width rest, drop width rest)

-- a number that keeps the form
abbrev pub number_by : (ℕ → Bool) → ℕ → ℕ → List ℕ → Result (ℕ × List ℕ) ℕ
number_by breaks width file rest = do
  number ← number_at width file rest
  if breaks number.0 then Err (place file rest) else Ok number

-- bytes that keep the form
abbrev pub bytes_by : (List ℕ → Bool) → ℕ → ℕ → List ℕ → Result (List ℕ × List ℕ) ℕ
bytes_by breaks count file rest = do
  bytes ← bytes_at count file rest
  if breaks bytes.0 then Err (place file rest) else Ok bytes

-- so many of a kind, one after the other
unfoldable pub many : {A : Type 0} → (ℕ → List ℕ → Result (A × List ℕ) ℕ) → ℕ → ℕ → List ℕ → Result (List A × List ℕ) ℕ
many read zero file rest = Ok ([], rest)
many read (suc more) file rest = do
  next ← read file rest
  others ← many read more file next.1
  Ok (next.0 ∷ others.0, others.1)

-- Texts

-- a text is UTF-8 without NUL
abbrev pub breaks_text : List ℕ → Bool
breaks_text bytes = not (is_utf8 bytes) || list_any (λ byte. byte == 0) bytes

unfoldable pub text_at : ℕ → List ℕ → Result (List ℕ × List ℕ) ℕ
text_at file rest = do
  count ← number_at 4 file rest
  bytes_by breaks_text count.0 file count.1

-- Effects

unfoldable pub register_at : ℕ → List ℕ → Result (Effect × List ℕ) ℕ
register_at file rest = do
  r ← number_by (λ n. nat_lt n 1 || nat_lt 35 n) 1 file rest
  value ← number_at 4 file r.1
  Ok (Register r.0 value.0, value.1)

unfoldable pub write_at : ℕ → List ℕ → Result (Effect × List ℕ) ℕ
write_at file rest = do
  address ← number_at 4 file rest
  count ← number_at 4 file address.1
  bytes ← bytes_at count.0 file count.1
  Ok (Write address.0 bytes.0, bytes.1)

-- a first page and a count: a page that may not be is bad at the first page where it is that, else at the count
unfoldable pub pages_at : ℕ → List ℕ → Result ((ℕ × ℕ) × List ℕ) ℕ
pages_at file rest = do
  first ← number_by (λ n. not (nat_lt n user_pages)) 4 file rest
  count ← number_by (λ n. nat_lt user_pages (first.0 + n)) 4 file first.1
  Ok ((first.0, count.0), count.1)

abbrev pub protection_at : ℕ → List ℕ → Result (ℕ × List ℕ) ℕ
protection_at file rest = number_by (λ n. nat_lt 7 n) 1 file rest

unfoldable pub map_at : ℕ → List ℕ → Result (Effect × List ℕ) ℕ
map_at file rest = do
  pages ← pages_at file rest
  prot ← protection_at file pages.1
  Ok (Map pages.0.0 pages.0.1 prot.0, prot.1)

unfoldable pub unmap_at : ℕ → List ℕ → Result (Effect × List ℕ) ℕ
unmap_at file rest = do
  pages ← pages_at file rest
  Ok (Unmap pages.0.0 pages.0.1, pages.1)

unfoldable pub protect_at : ℕ → List ℕ → Result (Effect × List ℕ) ℕ
protect_at file rest = do
  pages ← pages_at file rest
  prot ← protection_at file pages.1
  Ok (Protect pages.0.0 pages.0.1 prot.0, prot.1)

unfoldable pub output_at : ℕ → List ℕ → Result (Effect × List ℕ) ℕ
output_at file rest = do
  stream ← number_by (λ n. nat_lt n 1 || nat_lt 2 n) 1 file rest
  count ← number_at 4 file stream.1
  bytes ← bytes_at count.0 file count.1
  Ok (Output stream.0 bytes.0, bytes.1)

-- what stands behind a tag
abbrev pub fields_at : ℕ → ℕ → List ℕ → Result (Effect × List ℕ) ℕ
fields_at tag file rest =
    if tag == 1 then register_at file rest else if tag == 2 then write_at file rest else if tag == 3 then map_at file rest
    else if tag == 4 then unmap_at file rest else if tag == 5 then protect_at file rest else output_at file rest

unfoldable pub effect_at : ℕ → List ℕ → Result (Effect × List ℕ) ℕ
effect_at file rest = do
  tag ← number_by (λ n. nat_lt n 1 || nat_lt 6 n) 1 file rest
  fields_at tag.0 file tag.1

-- Records

-- a turn is none: it falls, or is above 10^12
abbrev pub breaks_turn : Front → ℕ → Bool
breaks_turn before turn = nat_lt turn before.turn || nat_lt greatest_turn turn

-- a kind is none, or comes out of order within its turn
abbrev pub breaks_kind : Front → ℕ → ℕ → Bool
breaks_kind before turn kind = nat_lt kind 1 || (nat_lt end_kind kind || ((turn == before.turn) && not (follows_in_turn before.kind kind)))

-- a turn and a kind that keep the order; turn 0 with a kind other than the end is bad at the turn
abbrev pub ordered : Front → ℕ → List ℕ → List ℕ → ℕ → ℕ → List ℕ → Result (Front × List ℕ) ℕ
ordered before file from_turn from_kind turn kind rest =
    if (turn == 0) && not (kind == end_kind) then Err (place file from_turn)
    else if breaks_kind before turn kind then Err (place file from_kind) else Ok (record { turn = turn; kind = kind }, rest)

-- the turn and the kind of a record
unfoldable pub front_at : Front → ℕ → List ℕ → Result (Front × List ℕ) ℕ
front_at before file rest = do
  turn ← number_by (breaks_turn before) 8 file rest
  kind ← number_at 1 file turn.1
  ordered before file rest turn.1 turn.0 kind.0 kind.1

-- pc, $v0, $a0, $a1, $a2, $a3
unfoldable pub words_at : ℕ → List ℕ → Result (List ℕ × List ℕ) ℕ
words_at file rest = do
  pc ← number_at 4 file rest
  v0 ← number_at 4 file pc.1
  a0 ← number_at 4 file v0.1
  a1 ← number_at 4 file a0.1
  a2 ← number_at 4 file a1.1
  a3 ← number_at 4 file a2.1
  Ok (pc.0 ∷ v0.0 ∷ a0.0 ∷ a1.0 ∷ a2.0 ∷ a3.0 ∷ [], a3.1)

-- words and effects, which a turn without an instruction has none of
unfoldable pub changes_at : Front → ℕ → List ℕ → Result (Record × List ℕ) ℕ
changes_at front file rest = do
  words ← words_at file rest
  count ← number_by (λ n. (front.kind == idle_kind) && not (n == 0)) 4 file words.1
  effects ← many effect_at count.0 file count.1
  Ok (record { turn = front.turn; kind = front.kind; words = words.0; effects = effects.0; finish = None }, effects.1)

-- how a run is over, by its number and its value
abbrev pub finish_of : ℕ → ℕ → Finish
finish_of number value =
    if number == 1 then Exited value else if number == 2 then Killed value else if number == 3 then Budget else Blocked

-- a number is no finish, or a signal ended a run in a turn that has a call or no instruction
abbrev pub breaks_finish : Front → ℕ → ℕ → Bool
breaks_finish before turn number = nat_lt number 1 || (nat_lt 4 number || ((number == 2) && has_ended_turn before turn))

unfoldable pub end_at : Front → Front → ℕ → List ℕ → Result (Record × List ℕ) ℕ
end_at before front file rest = do
  number ← number_by (breaks_finish before front.turn) 1 file rest
  value ← number_by (λ n. nat_lt 2 number.0 && not (n == 0)) 1 file number.1
  Ok (record { turn = front.turn; kind = front.kind; words = no_words; effects = []; finish = Some (finish_of number.0 value.0) }, value.1)

unfoldable pub record_at : Front → ℕ → List ℕ → Result (Record × List ℕ) ℕ
record_at before file rest = do
  front ← front_at before file rest
  if front.0.kind == end_kind then end_at before front.0 file front.1 else changes_at front.0 file front.1

-- the end is the last record; bytes behind it are bad at the first
abbrev pub ended : Record → ℕ → List ℕ → Result (List Record) ℕ
ended entry file [] = Ok (entry ∷ [])
ended entry file (byte ∷ rest) = Err (place file (byte ∷ rest))

-- records up to the end, no more than the first number says
unfoldable pub records_at : ℕ → Front → ℕ → List ℕ → Result (List Record) ℕ
records_at zero before file rest = Err file
records_at (suc more) before file rest = do
  next ← record_at before file rest
  if next.0.kind == end_kind then ended next.0 file next.1 else do
    others ← records_at more (front_of next.0) file next.1
    Ok (next.0 ∷ others)

-- The whole file

-- the first bytes, and the counts of the arguments and of the texts of the environment
unfoldable pub counts_at : ℕ → List ℕ → Result ((ℕ × ℕ) × List ℕ) ℕ
counts_at file bytes = do
  front ← bytes_by (λ found. not (bytes_eq found magic)) 8 file bytes
  args ← number_by (λ n. n == 0) 4 file front.1
  env ← number_at 4 file args.1
  Ok ((args.0, env.0), env.1)

-- what a file keeps, or where it is bad; a record takes a byte at least, so there are no more records than bytes
unfoldable pub reading_of : List ℕ → Result Kept ℕ
reading_of bytes =
    let file = length bytes in do
      counts ← counts_at file bytes
      args ← many text_at counts.0.0 file counts.1
      env ← many text_at counts.0.1 file args.1
      random ← bytes_at 16 file env.1
      records ← records_at file none_before file random.1
      Ok (record { args = args.0; env = env.0; random = random.0; records = records })
