use Rattle.std.proofs.Common.{◌≡◌, ◌-◌}
use Rattle.kernel_model.specs.Pipes.{Sent}
use Rattle.mips_exec.specs.Processor.{Processor}
use Rattle.o32_model.specs.Effects.{Effected}
use Rattle.o32_model.specs.Results.{all_fit, with_pieces}
use Rattle.bridge_limits.specs.Passed.{reached}
use Rattle.bridge_poll.proofs.Stores.{pieces_from}
use Rattle.bridge_poll.specs.inside.Telling.{pieces_told}
use Rattle.bridge_poll.proofs.telling.store_told.Given as goal

-- with the entries to come, all comes to what it will
abbrev pub invariant-loop-done : goal.invariant-loop-done
invariant-loop-done l = record {
  answer : all_fit l.fn.space (pieces_told l.fn.space l.fn.entries l.fn.told) ≡ all_fit l.space (pieces_from l.space l.at (l.fn.entries.count - l._done) l.rest);
  stored : with_pieces l.fn.space (pieces_told l.fn.space l.fn.entries l.fn.told) ≡ with_pieces l.space (pieces_from l.space l.at (l.fn.entries.count - l._done) l.rest);
  effects : (processor : Processor) (sent : Sent) → Effected l.fn.log.effects l.log.effects (reached processor l.fn.space.pages sent) (reached processor l.space.pages sent);
  native : l.log.native ≡ l.fn.log.native;
}
