use Rattle.std.proofs.Common.{subst}
use Rattle.native_vfs.specs.inside.Steps.{IsUnnamed}
use Rattle.native_vfs.specs.inside.Stored.{nodes_of}
use Rattle.native_vfs.proofs.tables.Moves.{removal}
use Rattle.native_vfs.proofs.tables.Tables.{number-there}
use Rattle.native_vfs.proofs.steps.remove.Goals as goal

pub returns : goal.returns
returns c = record {
  removal = removal c.args.table.now c.remove.new.self c.args.key c.remove.result c.remove.ensures.value c.remove.ensures.updates c.requires.distinct
      (subst (IsUnnamed (nodes_of c.args.table.now)) (number-there c.args.table.now c.args.key c.remove.result c.remove.ensures.value) c.requires.unnamed);
}
