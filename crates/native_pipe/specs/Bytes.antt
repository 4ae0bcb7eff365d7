-- The bytes that a pipe holds (pipe(7)), from the first that was written on.
use Rattle.std.specs.Prelude.{ℕ, ◌-◌, List, length}

-- the most bytes that a pipe holds: 65,536, as since Linux 2.6.11
abbrev pub pipe_size : ℕ
pipe_size = 65536

-- for how many more bytes there is room
abbrev pub room : List ℕ → ℕ
room bytes = pipe_size - length bytes
