use Rattle.std.proofs.Common.{rules, arith, refl}
use Rattle.native_vfs.proofs.tables.Tables.{links-there, step-with_value}
use Rattle.native_vfs.proofs.steps.add_link.Goals as goal

pub overflow_add-node : goal.overflow_add-node
overflow_add-node c = let is = links-there c.args.table.now c.args.key c.index_mut-node.result.now c.requires.distinct c.index_mut-node.ensures.value in let bound = c.requires.few in omega (arith, is, bound)

pub returns : goal.returns
returns c = record { step = step-with_value c.args.table.now c.args.key c.index_mut-node.result.now _ _ c.index_mut-node.ensures.value c.requires.distinct refl (search rules) (λ h. h) (λ h. h) }
