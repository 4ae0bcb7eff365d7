-- The ranges of a schedule's numbers, and the schedules that reading a text gives. This project's own
-- format.
use Rattle.std.specs.Prelude.{ℕ, ◌-◌, ◌≤◌, ◌^◌, length, All}
use Rattle.std.specs.List.Sorted.{IsNonDecreasingBy}
use Rattle.schedule.specs.declared.Schedule.{Schedule}
use Rattle.schedule.specs.declared.events.Due.{Due}
use Rattle.schedule.specs.declared.text.Bounds.{Bounds}

abbrev pub between : ℕ → ℕ → Bounds
between least most = record { least = least; most = most }

-- nanoseconds a turn
abbrev pub quantum_range : Bounds
quantum_range = between 1 1000000

-- seconds of the epoch, and nanoseconds below a second
abbrev pub seconds_range : Bounds
seconds_range = between 0 (2 ^ 40)

abbrev pub nanoseconds_range : Bounds
nanoseconds_range = between 0 999999999

-- rows and columns of a terminal
abbrev pub side_range : Bounds
side_range = between 0 65535

-- the time of an event in nanoseconds, the number of its signal by o32, and the value that is queued
abbrev pub time_range : Bounds
time_range = between 0 (2 ^ 60)

abbrev pub signal_range : Bounds
signal_range = between 1 128

abbrev pub value_range : Bounds
value_range = between 0 (2 ^ 32 - 1)

-- the greatest count of bytes that stand for chance
abbrev pub most_bytes : ℕ
most_bytes = 4096

pub record IsWithin (bounds : Bounds) (number : ℕ) : Type 0 where
  pub least : bounds.least ≤ number
  pub most : number ≤ bounds.most

pub record IsDueInRange (due : Due) : Type 0 where
  pub time : IsWithin time_range due.time
  pub signal : IsWithin signal_range due.sig

pub record IsInRange (schedule : Schedule) : Type 0 where
  pub quantum : IsWithin quantum_range schedule.quantum
  pub seconds : IsWithin seconds_range schedule.epoch_s
  pub nanoseconds : IsWithin nanoseconds_range schedule.epoch_n
  pub bytes : IsWithin (between 1 most_bytes) (length schedule.random)
  pub events : All IsDueInRange schedule.events

-- a schedule that reading a text gives, wherever its cursor stands
pub record IsGivenSchedule (schedule : Schedule) : Type 0 where
  pub in_range : IsInRange schedule
  pub ordered : IsNonDecreasingBy (λ due. due.time) schedule.events
  pub cursor : schedule.at ≤ length schedule.events
