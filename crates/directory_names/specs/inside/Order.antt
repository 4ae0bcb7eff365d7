-- The order of a directory's entries by their cookies. A seat is a cookie with the index at which the map of names keeps the
-- entry.
use Rattle.std.specs.Prelude.{ℕ, Bool, true, false, not, ◌==◌, List, map, filter, Option, option_map, nat_lt, if◌then◌else◌, None, Some}
use Rattle.std.specs.List.{find}

-- whether a seat more takes no memory, and the seats by rising cookie
pub record Order : Type 0 where
  pub has_room : Bool
  pub seats : List (ℕ × ℕ)

-- the index of the seat of the least cookie above this one
abbrev pub index_after : List (ℕ × ℕ) → ℕ → Option ℕ
index_after seats cookie = option_map (λ seat. seat.1) (find (λ seat. nat_lt cookie seat.0) seats)

-- the seats without that of a cookie
abbrev pub without_seat : List (ℕ × ℕ) → ℕ → List (ℕ × ℕ)
without_seat seats cookie = filter (λ seat. not (cookie == seat.0)) seats

-- a seat, at another index where it is the cookie's
abbrev pub seat_at : ℕ → ℕ → ℕ × ℕ → ℕ × ℕ
seat_at cookie index seat = if cookie == seat.0 then (seat.0, index) else seat

-- the seats, with that of a cookie at another index
abbrev pub with_index : List (ℕ × ℕ) → ℕ → ℕ → List (ℕ × ℕ)
with_index seats cookie index = map (seat_at cookie index) seats
