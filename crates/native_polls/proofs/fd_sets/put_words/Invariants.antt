use Rattle.std.proofs.Common.{◌≡◌, ◌*◌, ◌++◌, false, take, drop}
use Rattle.std.specs.List.{flat_map}
use Rattle.layouts.specs.Number.{bytes_of}
use Rattle.native_polls.proofs.fd_sets.put_words.Given as goal

-- the bytes of the words so far, and the others as they were
abbrev pub invariant-loop-k : goal.invariant-loop-k
invariant-loop-k l = l.bytes ≡ flat_map (bytes_of false 8) (take l.k l.words) ++ drop (8 * l.k) l.fn.bytes
