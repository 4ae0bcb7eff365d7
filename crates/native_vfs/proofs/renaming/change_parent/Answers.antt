use Rattle.std.proofs.Common.{◌∙◌, sym}
use Rattle.native_vfs.proofs.renames.Renames.{linked-distinct, parent-becomes, parent-few}
use Rattle.native_vfs.proofs.renaming.change_parent.Goals as goal

pub add_link-requires-clause-few : goal.add_link-requires-clause-few
add_link-requires-clause-few c = parent-few c.args.table.now c.drop_link.new.table c.args.from c.args.to c.drop_link.ensures.step c.requires.few

pub reparent-requires-clause-distinct : goal.reparent-requires-clause-distinct
reparent-requires-clause-distinct c = linked-distinct c.args.table.now c.drop_link.new.table c.add_link.new.table c.args.from c.args.to c.drop_link.ensures.step c.add_link.ensures.step c.requires.distinct

pub returns-then-is_directory : goal.returns-then-is_directory
returns-then-is_directory c = record {
  becomes = parent-becomes c.args.table.now c.drop_link.new.table c.add_link.new.table c.args.from c.args.to c.drop_link.ensures.step c.add_link.ensures.step
      c.reparent.new.table c.args.moved c.number.result c.reparent.ensures.step c.number.ensures (sym c.is_directory.ensures ∙ c.if-is_directory.true);
}
