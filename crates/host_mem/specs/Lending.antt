-- What host memory ends as, once a `&mut` to its bytes has ended. (This project's own.)
use Rattle.std.specs.Prelude.{ℕ, List, ◌++◌, length, take, drop}
use Rattle.std.specs.Borrow.{Fml, MutBor, Lends, Array, u8}
use Rattle.host_mem.specs.contracts.memory.HostMem.{the_row}

-- memory with these bytes in place of its first ones; its length stays
abbrev pub overwritten : List ℕ → List ℕ → List ℕ
overwritten memory bytes = take (length memory) (bytes ++ drop (length bytes) memory)

-- memory ends with the bytes that were left behind the loan
abbrev pub lends_bytes : MutBor (List ℕ) → MutBor (List ℕ) → Fml
lends_bytes memory loan = Lends the_row (Array u8 0) memory loan (overwritten memory.now)
