use Rattle.std.proofs.Common.{◌≡◌, ◌+◌, ◌-◌, ◌*◌, ◌^◌, ◌<◌, length}
use Rattle.o32_model.specs.GuestBytes.{structure, read_as, ranges_in}
use Rattle.bridge_mem.proofs.Iovecs.{with_more}
use Rattle.bridge_mem.proofs.vectors.push_ranges.Given as goal

-- with those of the structures to come, the buffers so far are all
abbrev pub invariant-loop-done : goal.invariant-loop-done
invariant-loop-done l = record {
  all : with_more l.space (l.address + l.done * 8) (l.count - l.done) l.ranges.items ≡ read_as (ranges_in l.count) (structure l.space l.address (l.count * 8));
  count : length l.ranges.items ≡ l.done;
  inside : l.address + l.done * 8 < 2 ^ 32;
}
