use Rattle.std.proofs.Common.{◌≡◌, ◌-◌, ◌≤◌, None, position, vec_len}
use Rattle.guest_space.specs.Bytes.{bytes_at}
use Rattle.o32_model.specs.Paths.{is_nul}
use Rattle.bridge_mem.proofs.paths.path.Given as goal

-- the bytes so far are the first ones, and none of them is NUL
abbrev pub invariant-loop-bytes : goal.invariant-loop-bytes
invariant-loop-bytes l = record {
  first : l.bytes.items ≡ bytes_at l.space.pages l.addr (vec_len l.bytes);
  plain : position is_nul l.bytes.items ≡ None;
  within : vec_len l.bytes ≤ l.room;
}

abbrev pub decreases-loop-bytes : goal.decreases-loop-bytes
decreases-loop-bytes l = l.room - vec_len l.bytes
