use Rattle.std.proofs.Common.{◌≡◌, map, take}
use Rattle.bridge_io.specs.inside.Stores.{byte_from}
use Rattle.bridge_io.proofs.structures.rearrange.Given as goal

-- the bytes so far are set
abbrev pub invariant-loop-k : goal.invariant-loop-k
invariant-loop-k l = take l.k l.bytes ≡ map (byte_from l.from) (take l.k l.places)
