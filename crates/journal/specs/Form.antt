-- The form of a journal: which texts, records and orders of records one may have. This project's own.
use Rattle.std.specs.Prelude.{◌≡◌, ◌<◌, ◌≤◌, ◌^◌, ◌+◌, ℕ, Bool, true, false, ◌&&◌, ◌||◌, not, ◌==◌, nat_lt, List, [], ◌∷◌, length, All, Option, Some, None}
use Rattle.std.specs.List.{list_any}
use Rattle.std.specs.Str.{is_utf8}
use Rattle.kernel_core.specs.declared.record.Record.{Record}
use Rattle.kernel_core.specs.declared.record.Effect.{Effect}
use Rattle.kernel_core.specs.declared.record.Effect.TheVariants.{Register, Write, Map, Unmap, Protect, Output}
use Rattle.kernel_core.specs.declared.finish.Finish.{Finish}
use Rattle.kernel_core.specs.declared.finish.Finish.TheVariants.{Exited, Killed, Budget, Blocked}
use Rattle.journal.specs.declared.turns.Front.{Front}
use Rattle.journal.specs.Text.{Kept}

-- 10^12
abbrev pub greatest_turn : ℕ
greatest_turn = 1_000_000_000_000

-- the number of the first page behind those that an o32 program may have
abbrev pub user_pages : ℕ
user_pages = 524_280

-- the kinds of records: before an instruction, a call, a turn without an instruction, the end
abbrev pub before_kind : ℕ
before_kind = 1

abbrev pub call_kind : ℕ
call_kind = 2

abbrev pub idle_kind : ℕ
idle_kind = 3

abbrev pub end_kind : ℕ
end_kind = 4

-- Texts

-- a text's length fits its field, and no byte is NUL
pub record IsText (bytes : List ℕ) : Type 0 where
  pub short : length bytes < 2 ^ 32
  pub no_nul : list_any (λ byte. byte == 0) bytes ≡ false

-- at least one argument; the counts fit their fields
pub record AreTexts (args env : List (List ℕ)) : Type 0 where
  pub some : 1 ≤ length args
  pub few_args : length args < 2 ^ 32
  pub few_env : length env < 2 ^ 32
  pub args_texts : All IsText args
  pub env_texts : All IsText env

-- Records by themselves. Definitions range over all numbers, so each is said to fit its field.

-- pages that an o32 program may have
pub record ArePages (first count : ℕ) : Type 0 where
  pub begins : first < user_pages
  pub ends : first + count ≤ user_pages

abbrev pub IsEffect : Effect → Type 0
IsEffect (Register r value) = (1 ≤ r) × (r ≤ 35) × (value < 2 ^ 32)
IsEffect (Write address bytes) = (address < 2 ^ 32) × (length bytes < 2 ^ 32)
IsEffect (Map first count prot) = ArePages first count × (prot ≤ 7)
IsEffect (Unmap first count) = ArePages first count
IsEffect (Protect first count prot) = ArePages first count × (prot ≤ 7)
IsEffect (Output stream bytes) = (1 ≤ stream) × (stream ≤ 2) × (length bytes < 2 ^ 32)

-- a status and a signal are bytes
abbrev pub IsFinish : Finish → Type 0
IsFinish (Exited status) = status < 256
IsFinish (Killed signal) = signal < 256
IsFinish Budget = Unit {0}
IsFinish Blocked = Unit {0}

-- the words of an end
abbrev pub no_words : List ℕ
no_words = 0 ∷ 0 ∷ 0 ∷ 0 ∷ 0 ∷ 0 ∷ []

abbrev pub AreSixWords : List ℕ → Type 0
AreSixWords words = (length words ≡ 6) × All (λ word. word < 2 ^ 32) words

-- what a record of a kind has: an end its finish alone, a turn without an instruction no effects
abbrev pub IsBody : ℕ → Option Finish → List ℕ → List Effect → Type 0
IsBody kind (Some finish) words effects = (kind ≡ end_kind) × IsFinish finish × (words ≡ no_words) × (effects ≡ [])
IsBody kind None words effects =
    (1 ≤ kind) × (kind < end_kind) × AreSixWords words × (length effects < 2 ^ 32) × All IsEffect effects × (kind ≡ idle_kind → effects ≡ [])

-- only an end has turn 0
pub record IsRecord (entry : Record) : Type 0 where
  pub turn : entry.turn ≤ greatest_turn
  pub zero : entry.turn ≡ 0 → entry.kind ≡ end_kind
  pub body : IsBody entry.kind entry.finish entry.words entry.effects

-- The order of records. `before` is the turn and the kind of the record before, zeros where there is none.

abbrev pub front_of : Record → Front
front_of entry = record { turn = entry.turn; kind = entry.kind }

abbrev pub none_before : Front
none_before = record { turn = 0; kind = 0 }

-- in a turn come 1, then 2 or 3, then an end
abbrev pub follows_in_turn : ℕ → ℕ → Bool
follows_in_turn before kind = nat_lt before kind && not ((before == call_kind) && (kind == idle_kind))

-- the turn has a record of kind 2 or 3
abbrev pub has_ended_turn : Front → ℕ → Bool
has_ended_turn before turn = (before.turn == turn) && ((before.kind == call_kind) || (before.kind == idle_kind))

-- turns never fall; where a signal ended the run its turn has no record of kind 2 or 3
pub record Follows (before : Front) (entry : Record) : Type 0 where
  pub turn : before.turn ≤ entry.turn
  pub kind : entry.turn ≡ before.turn → follows_in_turn before.kind entry.kind ≡ true
  pub killed : (signal : ℕ) → entry.finish ≡ Some (Killed signal) → has_ended_turn before entry.turn ≡ false

-- records in their order, of which the last is the end, and no other
abbrev pub AreRecords : Front → List Record → Type 0
AreRecords before [] = ⊥
AreRecords before (entry ∷ []) = IsRecord entry × Follows before entry × (entry.kind ≡ end_kind)
AreRecords before (entry ∷ next ∷ left) = IsRecord entry × Follows before entry × (entry.kind < end_kind) × AreRecords (front_of entry) (next ∷ left)

-- The whole journal

pub record IsJournal (j : Kept) : Type 0 where
  pub texts : AreTexts j.args j.env
  pub args_utf8 : All (λ text. is_utf8 text ≡ true) j.args
  pub env_utf8 : All (λ text. is_utf8 text ≡ true) j.env
  pub random : length j.random ≡ 16
  pub records : AreRecords none_before j.records
