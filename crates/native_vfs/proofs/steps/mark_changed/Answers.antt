use Rattle.std.proofs.Common.{rules, refl}
use Rattle.native_vfs.proofs.tables.Tables.{step-with_value}
use Rattle.native_vfs.proofs.steps.mark_changed.Goals as goal

pub returns : goal.returns
returns c = record { step = step-with_value c.args.table.now c.args.key c.index_mut-node.result.now _ _ c.index_mut-node.ensures.value c.requires.distinct refl (search rules) (λ h. h) (λ h. h) }
