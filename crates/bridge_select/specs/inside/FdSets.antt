-- Sets of descriptors in code: thirty-two words of 32 bits. (The forms are this project's own.)
use Rattle.std.specs.Prelude.{ℕ, ◌/◌, ◌%◌, ◌^◌, Bool, true, List, take, filter, slice_index}
use Rattle.std.specs.List.{flat_map}
use Rattle.kernel_core.specs.Bits.{has}
use Rattle.layouts.specs.Number.{bytes_of}
use Rattle.layouts.specs.Termios.{count_up}

-- whether a set has the bit of a descriptor
abbrev pub has_bit : List ℕ → ℕ → Bool
has_bit set fd = has (slice_index set (fd / 32)) (2 ^ (fd % 32))

-- the descriptors of a set that are below a number
abbrev pub fds_of : ℕ → List ℕ → List ℕ
fds_of count set = filter (has_bit set) (count_up 0 count)

-- the bytes of the first words of a set in the program's memory
abbrev pub words_bytes : ℕ → List ℕ → List ℕ
words_bytes words set = flat_map (bytes_of true 4) (take words set)
