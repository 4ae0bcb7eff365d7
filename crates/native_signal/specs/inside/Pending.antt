-- What pends, as lists by the places of their signals, and what is kept beside them, for the crate's own
-- functions (this project's own rule).
use Rattle.std.specs.Prelude.{◌≡◌, ℕ, ◌+◌, ◌*◌, ◌/◌, ◌%◌, ◌^◌, Bool, not, List, [], length, drop, sum_by, slice_index, slice_index_or, slice_range, slice_set, if◌then◌else◌, bit_and, bit_or, ◌-◌}
use Rattle.kernel_core.specs.NameCalls.{is_empty_list}
use Rattle.kernel_model.specs.Shared.{Info}
use Rattle.kernel_model.specs.SignalRows.{bits_of}
use Rattle.kernel_model.specs.SignalSets.{SignalSet, signal_count, standard_count, words}

-- what pends at a place, and whether anything does
abbrev pub queue_at : List (List Info) → ℕ → List Info
queue_at pending place = slice_index_or pending place []

abbrev pub pends_at : List (List Info) → ℕ → Bool
pends_at pending place = not (is_empty_list (queue_at pending place))

-- the set of the places where something pends
abbrev pub set_of : List (List Info) → SignalSet
set_of pending = words (λ k. bits_of (slice_range pending (32 * k) (32 * k + 32)))

-- how many real-time signals are queued
abbrev pub queued_in : List (List Info) → ℕ
queued_in pending = sum_by length (drop standard_count pending)

-- a set with a place more, and one less
abbrev pub with_place : SignalSet → ℕ → SignalSet
with_place set place =
    slice_set set (place / 32) (bit_or (slice_index set (place / 32)) (2 ^ (place % 32)))

abbrev pub without_place : SignalSet → ℕ → SignalSet
without_place set place =
    slice_set set (place / 32) (bit_and (slice_index set (place / 32)) (2 ^ 32 - 1 - 2 ^ (place % 32)))

-- a set with a place, or without it
abbrev pub marked : SignalSet → ℕ → Bool → SignalSet
marked set place pends = if pends then with_place set place else without_place set place

-- there is a list for each signal; the set and the count are those of the lists
pub record IsCounted (pending : List (List Info)) (marks : SignalSet) (count : ℕ) : Type 0 where
  pub places : length pending ≡ signal_count
  pub set : marks ≡ set_of pending
  pub queued : count ≡ queued_in pending
