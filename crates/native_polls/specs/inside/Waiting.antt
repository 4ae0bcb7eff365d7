-- Waiting for descriptors, by the files and the clock alone. (The forms are this project's own.)
use Rattle.std.specs.Prelude.{◌≡◌, ℕ, ◌+◌, ℤ, pos, int_lt, Bool, List, Option, Some, None, Result, Ok, Err, option_map, nat_lt, nat_le, if◌then◌else◌}
use Rattle.std.specs.List.{list_any}
use Rattle.kernel_core.specs.declared.error.Errno.{Errno}
use Rattle.kernel_core.specs.declared.error.Errno.TheVariants.{EBADF, EINVAL}
use Rattle.kernel_model.specs.Came.{Came, Done, Refused, Waits, Given, came_as}
use Rattle.kernel_model.specs.Clock.{capped, time_left}
use Rattle.kernel_model.specs.Readiness.{PollEntry, Sets, counted_fds, counted_sets, entry_limit, is_any, names_any_closed, ready_sets, returned, set_count}
use Rattle.kernel_model.specs.Shared.{PollSet}
use Rattle.kernel_model.specs.State.{Files}
use Rattle.native_calls.specs.Polls.{with_left}
use Rattle.native_calls.specs.Step.{memory_after}
use Rattle.native_polls.specs.declared.ends.Found.{Found}
use Rattle.native_polls.specs.declared.ends.Found.TheVariants as found

-- when a wait of a length ends, and how long that is
abbrev pub end_of_wait : ℕ → Option ℕ → Option ℕ
end_of_wait clock length = option_map (λ n. capped (clock + n)) length

abbrev pub left_at : ℕ → Option ℕ → Option ℕ
left_at clock length = option_map (λ until. time_left clock until) (end_of_wait clock length)

-- memory with the time left, where the time was accepted
abbrev pub left_stored : ℕ → ℕ → Given (Option ℕ) → List ℕ → List ℕ
left_stored clock time (Err error) memory = memory
left_stored clock time (Ok length) memory = with_left memory time (left_at clock length)

-- a wait until a time of the clock, or without end; where the time is not past the clock this was found
abbrev pub found_until : {V : Type 0} → ℕ → Option ℕ → V → Came V
found_until clock None value = Waits (record { done = 0; until = None })
found_until clock (Some until) value =
    if nat_le until clock then Done value else Waits (record { done = 0; until = Some until })

-- what was found, at once where there is any of it
abbrev pub found_or_wait : {V : Type 0} → ℕ → Option ℕ → Bool → V → Came V
found_or_wait clock length any value = if any then Done value else found_until clock (end_of_wait clock length) value

-- poll

abbrev pub poll_entries : Files → ℕ → Option ℕ → Given (List PollEntry) → Came (List PollSet)
poll_entries files clock wait (Err error) = Refused error
poll_entries files clock wait (Ok entries) =
    found_or_wait clock wait (list_any is_any (returned files entries)) (returned files entries)

abbrev pub poll_waiting : Files → ℕ → Given (Option ℕ) → ℕ → Given (List PollEntry) → Came (List PollSet)
poll_waiting files clock (Err error) count entries = Refused error
poll_waiting files clock (Ok wait) count entries =
    if nat_lt entry_limit count then Refused EINVAL else poll_entries files clock wait entries

-- select

abbrev pub select_counted : Files → ℕ → Option ℕ → Sets → Came Sets
select_counted files clock wait sets =
    if names_any_closed files sets then Refused EBADF
    else found_or_wait clock wait (nat_lt 0 (set_count (ready_sets files sets))) (ready_sets files sets)

abbrev pub select_sets : Files → ℕ → Option ℕ → ℕ → Given Sets → Came Sets
select_sets files clock wait count (Err error) = Refused error
select_sets files clock wait count (Ok sets) = select_counted files clock wait (counted_sets count sets)

abbrev pub select_waiting : Files → ℕ → Given (Option ℕ) → ℤ → Given Sets → Came Sets
select_waiting files clock (Err error) count sets = Refused error
select_waiting files clock (Ok wait) count sets =
    if int_lt count (pos 0) then Refused EINVAL else select_sets files clock wait (counted_fds count) sets

-- what code came to: how many were found, an error, or a wait

abbrev pub came_of : Result Found Errno → Came ℕ
came_of (Ok (found.Told count)) = Done count
came_of (Ok (found.Waits wake)) = Waits wake
came_of (Err error) = Refused error

-- it came to what the row came to, and memory has what was found
pub record Finds {V : Type 0} (store : V → List ℕ) (count : V → ℕ) (came : Came V) (result : Result Found Errno) (old new : List ℕ)
    : Type 0 where
  pub answered : came_of result ≡ came_as count came
  pub stored : new ≡ memory_after store old came

-- memory after a call that came to this: `new` with what was found, or else as it was
abbrev pub stored_if : Came ℕ → List ℕ → List ℕ → List ℕ
stored_if came old new = memory_after (λ _. new) old came
