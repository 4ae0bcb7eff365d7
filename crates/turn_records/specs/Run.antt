-- The journal of a run. (The journal is this project's own.)
use Rattle.std.specs.Prelude.{◌≡◌, ℕ, zero, suc, List, [], ◌∷◌, ◌++◌, Option, Some, None}
use Rattle.journal.specs.Form.{IsJournal, end_kind, no_words}
use Rattle.journal.specs.Text.{Kept}
use Rattle.kernel_core.specs.declared.finish.Finish.{Finish}
use Rattle.kernel_core.specs.declared.record.Record.{Record}
use Rattle.o32_turns.specs.Machine.{Machine}
use Rattle.o32_turns.specs.Runs.{IsOverAt, reached}
use Rattle.turn_records.specs.Turn.{AreRecordsOf}

-- The records of the first k turns: those of each turn, in order

pub record OneMore (Before : List Record → Type 0) (Last : List Record → Type 0) (records : List Record) : Type 0 where
  pub before : List Record
  pub last : List Record
  pub whole : records ≡ before ++ last
  pub earlier : Before before
  pub latest : Last last

-- a process that has ended has no further turn, and none of its records
abbrev pub unless_ended : Option Finish → List Record → Type 0 → Type 0
unless_ended (Some finish) records AreRecords = records ≡ []
unless_ended None records AreRecords = AreRecords

unfoldable pub AreRecordsUpTo : ℕ → Machine → List ℕ → ℕ → List Record → Type 0
AreRecordsUpTo quantum machine left zero records = records ≡ []
AreRecordsUpTo quantum machine left (suc k) records =
    let before = reached quantum machine left k in
    OneMore (AreRecordsUpTo quantum machine left k)
    (λ last. unless_ended before.over last (AreRecordsOf quantum (suc k) before.machine before.left last)) records

-- the end: how many turns are finished, and how the run is over
abbrev pub end_of : ℕ → Finish → Record
end_of turns finish = record { turn = turns; kind = end_kind; words = no_words; effects = []; finish = Some finish }

-- the records of the run for a budget, which is over so after k turns
pub record AreRecordsOfRun (quantum : ℕ) (machine : Machine) (left : List ℕ) (budget k : ℕ) (finish : Finish) (records : List Record) : Type 0 where
  pub over : IsOverAt quantum machine left budget k finish
  pub turns : List Record
  pub so_far : AreRecordsUpTo quantum machine left k turns
  pub whole : records ≡ turns ++ end_of k finish ∷ []

-- The journal of that run, whose program began with these arguments, environment and random bytes: it has the form of a journal.
pub record IsJournalOfRun (quantum : ℕ) (machine : Machine) (left : List ℕ) (budget k : ℕ) (finish : Finish) (args env : List (List ℕ)) (random : List ℕ) (j : Kept) : Type 0 where
  pub form : IsJournal j
  pub with_args : j.args ≡ args
  pub with_env : j.env ≡ env
  pub with_random : j.random ≡ random
  pub records : AreRecordsOfRun quantum machine left budget k finish j.records
