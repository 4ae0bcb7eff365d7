-- What comes for the bytes of a file: what it keeps, or where it is bad. This project's own format.
use Rattle.std.specs.Prelude.{◌≡◌, ℕ, List, map, string_bytes, Option, Some, None, Result, Ok, Err}
use Rattle.journal.specs.declared.kept.Journal.{Journal}
use Rattle.journal.specs.declared.refusal.JournalError.{JournalError}
use Rattle.journal.specs.declared.refusal.JournalError.TheVariants.{Bad, NoMemory}
use Rattle.journal.specs.Text.{Kept}
use Rattle.journal.specs.Reading.{reading_of}

-- what a journal keeps
abbrev pub kept : Journal → Kept
kept j = record { args = map string_bytes j.args.items; env = map string_bytes j.env.items; random = j.random; records = j.records }

abbrev pub fault_in : {A : Type 0} → Result A ℕ → Option ℕ
fault_in (Ok value) = None
fault_in (Err at) = Some at

-- where a file is bad; None for the text of a journal
abbrev pub first_fault : List ℕ → Option ℕ
first_fault bytes = fault_in (reading_of bytes)

-- an answer, seen by `view`, is what is meant; want of memory says nothing
abbrev pub Fails : {B : Type 0} → JournalError → Result B ℕ → Type 0
Fails (Bad at) meant = meant ≡ Err at
Fails NoMemory meant = Unit {0}

abbrev pub GivesBy : {A B : Type 0} → (A → B) → Result A JournalError → Result B ℕ → Type 0
GivesBy view (Ok value) meant = meant ≡ Ok (view value)
GivesBy view (Err error) meant = Fails error meant

-- an error is the first fault; want of memory says nothing
abbrev pub IsCause : Option ℕ → JournalError → Type 0
IsCause fault (Bad at) = fault ≡ Some at
IsCause fault NoMemory = Unit {0}
