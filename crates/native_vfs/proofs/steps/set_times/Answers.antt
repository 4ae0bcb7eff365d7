use Rattle.std.proofs.Common.{◌≡◌, ap, ◌∙◌}
use Rattle.std.specs.Int.{w128}
use Rattle.std.specs.Option.{unwrap_or}
use Rattle.std.proofs.Math.Facts.{to_z-of_z}
use Rattle.native_vfs.specs.inside.Stored.{inode_of}
use Rattle.native_vfs.specs.declared.stored.Stored.{Stored}
use Rattle.native_vfs.proofs.tables.Tables.{step-with_value}
use Rattle.native_vfs.proofs.steps.set_times.Goals as goal

pub returns : goal.returns
returns c =
    let old : Stored = c.index_mut-node.result.now in
    let is : c.give_times.new.node ≡ record old { access = unwrap_or c.args.access old.access; modified = unwrap_or c.args.modified old.modified; changed = c.args.now } =
    c.give_times.ensures ∙ ap (λ t. record old { access = unwrap_or c.args.access old.access; modified = unwrap_or c.args.modified old.modified; changed = t }) (to_z-of_z {w = w128} {z = c.args.now} c.ranges.now) in
    record {
      step = step-with_value c.args.table.now c.args.key old c.give_times.new.node _ c.index_mut-node.ensures.value c.requires.distinct
          (ap (λ (n : Stored). n.number) is) (ap inode_of is) (rw is (λ h. h)) (rw is (λ h. h));
    }
