use Rattle.std.proofs.Common.{arith}
use Rattle.std.specs.Int.{w128}
use Rattle.std.proofs.Math.Facts.{to_z-of_z}
use Rattle.kernel_core.specs.NameCalls.{relisted, with_entry, without_entry, changed_at}
use Rattle.native_vfs.proofs.renames.Renames.{addition-at, name-distinct, added-distinct, added-links, parent-distinct, entry-moved}
use Rattle.native_vfs.proofs.removals.Stages.{at-time}
use Rattle.native_vfs.proofs.renaming.move_name.Goals as goal

pub add_name-requires-clause-distinct : goal.add_name-requires-clause-distinct
add_name-requires-clause-distinct c =
    name-distinct c.args.table.now c.take_name.new.table c.args.from.now.dir _ c.take_name.ensures.step c.requires.distinct

pub change_parent-requires-clause-distinct : goal.change_parent-requires-clause-distinct
change_parent-requires-clause-distinct c =
    added-distinct c.args.table.now c.take_name.new.table c.add_name.new.table c.args.from.now.dir c.args.moved c.args.dir c.args.from.now.name c.as_slice.result.now c.args.name
    c.number.result c.args.now c.as_slice.ensures c.number.ensures
    (at-time c.args.table.now c.take_name.new.table c.args.from.now.dir (λ time. relisted time (without_entry c.as_slice.result.now)) _ c.args.now
    (to_z-of_z {w = w128} {z = c.args.now} c.ranges.now) c.take_name.ensures.step)
    (addition-at c.take_name.new.table c.add_name.new.table c.args.dir (λ time. relisted time (with_entry c.args.name c.number.result)) _ c.args.now
    (to_z-of_z {w = w128} {z = c.args.now} c.ranges.now) c.add_name.ensures.step)
    c.requires.distinct

pub change_parent-requires-clause-some : goal.change_parent-requires-clause-some
change_parent-requires-clause-some c =
    let same = added-links c.args.table.now c.take_name.new.table c.add_name.new.table c.args.from.now.dir c.args.moved c.args.dir c.args.from.now.name c.as_slice.result.now c.args.name
    c.number.result c.args.now c.as_slice.ensures c.number.ensures
    (at-time c.args.table.now c.take_name.new.table c.args.from.now.dir (λ time. relisted time (without_entry c.as_slice.result.now)) _ c.args.now
    (to_z-of_z {w = w128} {z = c.args.now} c.ranges.now) c.take_name.ensures.step)
    (addition-at c.take_name.new.table c.add_name.new.table c.args.dir (λ time. relisted time (with_entry c.args.name c.number.result)) _ c.args.now
    (to_z-of_z {w = w128} {z = c.args.now} c.ranges.now) c.add_name.ensures.step)
    c.args.from.now.dir in let some = c.requires.some in omega (arith, same, some)

pub change_parent-requires-clause-few : goal.change_parent-requires-clause-few
change_parent-requires-clause-few c =
    let same = added-links c.args.table.now c.take_name.new.table c.add_name.new.table c.args.from.now.dir c.args.moved c.args.dir c.args.from.now.name c.as_slice.result.now c.args.name
    c.number.result c.args.now c.as_slice.ensures c.number.ensures
    (at-time c.args.table.now c.take_name.new.table c.args.from.now.dir (λ time. relisted time (without_entry c.as_slice.result.now)) _ c.args.now
    (to_z-of_z {w = w128} {z = c.args.now} c.ranges.now) c.take_name.ensures.step)
    (addition-at c.take_name.new.table c.add_name.new.table c.args.dir (λ time. relisted time (with_entry c.args.name c.number.result)) _ c.args.now
    (to_z-of_z {w = w128} {z = c.args.now} c.ranges.now) c.add_name.ensures.step)
    c.args.dir in let few = c.requires.few in omega (arith, same, few)

pub mark_changed-requires-clause-distinct : goal.mark_changed-requires-clause-distinct
mark_changed-requires-clause-distinct c =
    parent-distinct c.args.table.now c.take_name.new.table c.add_name.new.table c.args.from.now.dir c.args.moved c.args.dir c.args.from.now.name c.as_slice.result.now c.args.name
    c.number.result c.args.now c.as_slice.ensures c.number.ensures
    (at-time c.args.table.now c.take_name.new.table c.args.from.now.dir (λ time. relisted time (without_entry c.as_slice.result.now)) _ c.args.now
    (to_z-of_z {w = w128} {z = c.args.now} c.ranges.now) c.take_name.ensures.step)
    (addition-at c.take_name.new.table c.add_name.new.table c.args.dir (λ time. relisted time (with_entry c.args.name c.number.result)) _ c.args.now
    (to_z-of_z {w = w128} {z = c.args.now} c.ranges.now) c.add_name.ensures.step)
    c.change_parent.new.table c.change_parent.ensures.becomes c.requires.distinct

pub returns : goal.returns
returns c = record {
  becomes = entry-moved c.args.table.now c.take_name.new.table c.add_name.new.table c.args.from.now.dir c.args.moved c.args.dir c.args.from.now.name c.as_slice.result.now c.args.name
      c.number.result c.args.now c.as_slice.ensures c.number.ensures
      (at-time c.args.table.now c.take_name.new.table c.args.from.now.dir (λ time. relisted time (without_entry c.as_slice.result.now)) _ c.args.now
      (to_z-of_z {w = w128} {z = c.args.now} c.ranges.now) c.take_name.ensures.step)
      (addition-at c.take_name.new.table c.add_name.new.table c.args.dir
      (λ time. relisted time (with_entry c.args.name c.number.result)) _ c.args.now (to_z-of_z {w = w128} {z = c.args.now} c.ranges.now) c.add_name.ensures.step)
      c.change_parent.new.table c.change_parent.ensures.becomes c.mark_changed.new.table
      (at-time c.change_parent.new.table c.mark_changed.new.table c.args.moved changed_at _ c.args.now (to_z-of_z {w = w128} {z = c.args.now} c.ranges.now) c.mark_changed.ensures.step);
}
