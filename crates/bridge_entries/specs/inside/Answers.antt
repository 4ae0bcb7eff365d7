-- What the program's getdents(2) comes to. (The form is this project's own.)
use Rattle.std.specs.Prelude.{◌≡◌, ℕ, List, length, Option, Some, None, nat_lt, sum_by, if◌then◌else◌}
use Rattle.std.specs.List.{flat_map}
use Rattle.kernel_core.specs.declared.error.Errno.{Errno}
use Rattle.kernel_core.specs.declared.error.Errno.TheVariants.{EFAULT}
use Rattle.kernel_model.specs.Came.{Came, Done, Refused, came_as}
use Rattle.kernel_model.specs.ContentRows.{Entry, Records, entries_refusal, fitting, position_after, record_length}
use Rattle.o32_model.specs.Entries.{entry_form}
use Rattle.o32_model.specs.Step.{outcome_of, value}
use Rattle.o32_model.specs.declared.call_words.CallWords.{CallWords}
use Rattle.bridge_entries.specs.declared.answers.Answer.{Answer}
use Rattle.bridge_entries.specs.inside.Listed.{listed_of}

abbrev pub narrow : Records
narrow = entry_form.records

-- these entries are given, or their records have no room in so many bytes
abbrev pub if_room : ℕ → List Entry → Came (List Entry)
if_room room given = if nat_lt room (sum_by (record_length narrow) given) then Refused EFAULT else Done given

abbrev pub came_of : ℕ → Option Errno → List Entry → Came (List Entry)
came_of room (Some error) given = Refused error
came_of room None given = if_room room given

-- the entries behind a position, asked for with so many bytes of which so many can be stored
abbrev pub came_by : ℕ → ℕ → List Entry → Came (List Entry)
came_by size room found = came_of room (entries_refusal narrow size found) (fitting narrow size found)

-- the answer to a call behind this position
pub record IsAnswer (words : CallWords) (position : ℕ) (came : Came (List Entry)) (answer : Answer) : Type 0 where
  pub outcome : answer.outcome ≡ outcome_of (λ (bytes : List ℕ). value (length bytes)) words (came_as (flat_map entry_form.bytes) came)
  pub bytes : answer.bytes.items ≡ flat_map entry_form.bytes (listed_of came)
  pub place : answer.place ≡ Some (position_after position (listed_of came))

-- what is known of it once the position is where it has to be
pub record IsGiven (words : CallWords) (came : Came (List Entry)) (answer : Answer) : Type 0 where
  pub outcome : answer.outcome ≡ outcome_of (λ (bytes : List ℕ). value (length bytes)) words (came_as (flat_map entry_form.bytes) came)
  pub bytes : answer.bytes.items ≡ flat_map entry_form.bytes (listed_of came)
