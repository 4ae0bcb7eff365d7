use Rattle.std.proofs.Common.{arith}
use Rattle.signal_sets.proofs.GatherLaws.{more_small, more_gathered, all_small}
use Rattle.signal_sets.proofs.sets.gathered.Goals as goal

pub overflow_add-bits : goal.overflow_add-bits
overflow_add-bits c = omega (arith, more_small c.args.word c.args.places.now c.loop-k.k c.loop-k.bits (omega arith) (omega arith) c.loop-k.invariant)

pub loop-k-preserved : goal.loop-k-preserved
loop-k-preserved c = more_gathered c.args.word c.args.places.now c.loop-k.k c.loop-k.bits (omega arith) (omega arith) c.loop-k.invariant

pub returns-clause-small : goal.returns-clause-small
returns-clause-small c = all_small c.args.word c.args.places.now c.loop-k.k c.loop-k.bits (omega arith) c.loop-k.invariant
