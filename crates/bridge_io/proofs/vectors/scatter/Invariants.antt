use Rattle.std.proofs.Common.{◌≡◌, ◌≤◌, drop, length}
use Rattle.kernel_model.specs.Pipes.{Sent}
use Rattle.mips_exec.specs.Processor.{Processor}
use Rattle.o32_model.specs.Effects.{Effected}
use Rattle.o32_model.specs.GuestBytes.{all_accessible}
use Rattle.bridge_log.specs.Keeping.{reached}
use Rattle.bridge_log.proofs.Memory.{Scattered}
use Rattle.bridge_io.proofs.vectors.scatter.Given as goal

-- where all bytes may be stored, the memory so far with the rest in the buffers to come is the memory with all of them; and the effects so far
-- lead to it
abbrev pub invariant-loop-range : goal.invariant-loop-range
invariant-loop-range l = record {
  stored : length l.bytes ≤ all_accessible l.fn.space l.ranges → Scattered l.fn.space l.space l.ranges (drop l.range-index l.ranges) l.bytes l.rest;
  effects : (processor : Processor) (sent : Sent) → Effected l.fn.log.effects l.log.effects (reached processor l.fn.space.pages sent) (reached processor l.space.pages sent);
  native : l.log.native ≡ l.fn.log.native;
}
