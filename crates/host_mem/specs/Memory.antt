-- Host memory: the structures that one call of the native kernel reads and writes, as a list of bytes from an address on.
-- (Where it begins and how it is filled is this project's own.)
use Rattle.std.specs.Prelude.{ℕ, ◌+◌, ◌-◌, ◌%◌, Bool, ◌&&◌, List, ◌++◌, length, take, drop, replicate, Option, Some, None, nat_lt, nat_le, if◌then◌else◌}

-- the address of the first byte
abbrev pub first_address : ℕ
first_address = 65536

-- the address past the last byte
abbrev pub end_address : List ℕ → ℕ
end_address memory = first_address + length memory

-- whether the `count` bytes from an address on are there; no byte is, wherever its place is none before the first or past the end
abbrev pub is_inside : List ℕ → ℕ → ℕ → Bool
is_inside memory address count = nat_le first_address address && nat_le (address + count) (end_address memory)

-- how many bytes are there from an address on
abbrev pub room_from : List ℕ → ℕ → ℕ
room_from memory address = if nat_lt address first_address then 0 else end_address memory - address

-- the bytes from an address on, where they are there
abbrev pub bytes_at : List ℕ → ℕ → ℕ → Option (List ℕ)
bytes_at memory address count =
    if is_inside memory address count then Some (take count (drop (address - first_address) memory)) else None

-- the list with these bytes in place of those from a place on
abbrev pub replaced : List ℕ → ℕ → List ℕ → List ℕ
replaced memory place bytes = take place memory ++ bytes ++ drop (place + length bytes) memory

-- memory after a write, which changes nothing where the bytes are not all there
abbrev pub written : List ℕ → ℕ → List ℕ → List ℕ
written memory address bytes =
    if is_inside memory address (length bytes) then replaced memory (address - first_address) bytes else memory

-- memory with zeros up to a length that is a multiple of 8
abbrev pub padded : List ℕ → List ℕ
padded memory = memory ++ replicate ((8 - length memory % 8) % 8) 0
