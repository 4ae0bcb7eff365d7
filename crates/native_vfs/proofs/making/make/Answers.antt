use Rattle.std.proofs.Common.{refl, sym, ap, subst, ◌∙◌, is_some}
use Rattle.std.specs.Int.{w128}
use Rattle.std.proofs.Math.Facts.{to_z-of_z}
use Rattle.kernel_core.specs.NameCalls as names
use Rattle.native_vfs.proofs.tables.Reasons.{live-dir}
use Rattle.native_vfs.proofs.tables.Kept.{same-distinct, same-pool, same-blocks}
use Rattle.native_vfs.proofs.tables.Tables.{distinct-kept, content-leads, leads-kept}
use Rattle.kernel_core.specs.ValidTree.{IsName}
use Rattle.native_vfs.specs.inside.Stored.{nodes_of, content_of, AgreesPool}
use Rattle.native_vfs.proofs.additions.MadeNodes.{not-all_taken, few-nodes, listing-dir, same-same, right-name, can-insert, new-number, on-err, made, made-distinct, made-pool, made-blocks}
use Rattle.native_vfs.proofs.making.make.Goals as goal

pub free_place-place-requires : goal.free_place-place-requires
free_place-place-requires c whole all =
    not-all_taken _ c.args.inodes.now.numbers c.args.inodes.now.pool whole (few-nodes c.args.inodes.now.table c.args.at.now c.requires.agrees c.requires.free) all

pub reserve_name-requires-clause-live : goal.reserve_name-requires-clause-live
reserve_name-requires-clause-live c = live-dir c.args.inodes.now.table c.args.at.now c.requires.agrees

pub reserve_name-requires-clause-directory : goal.reserve_name-requires-clause-directory
reserve_name-requires-clause-directory c = ap is_some (listing-dir c.args.inodes.now.table c.args.at.now c.requires.agrees)

pub insert-requires-clause-distinct : goal.insert-requires-clause-distinct
insert-requires-clause-distinct c = distinct-kept c.args.inodes.now.table c.reserve_name.new.table c.reserve_name.ensures.same.numbers c.args.inodes.now.distinct

pub insert-requires-clause-leads : goal.insert-requires-clause-leads
insert-requires-clause-leads c =
    content-leads c.args.inodes.now.table c.reserve_name.new.table (leads-kept c.args.inodes.now.table c.reserve_name.new.table c.reserve_name.ensures.same.numbers) c.args.node.content c.requires.leads

pub returns-in_err-key-clause-same : goal.returns-in_err-key-clause-same
returns-in_err-key-clause-same c =
    on-err c.from_residual-in_err-key.result
    (same-same c.args.inodes.now.table c.reserve_name.new.table c.insert.new.table c.reserve_name.ensures.same c.in_err-key.ensures.err)

pub add_name-requires-clause-name : goal.add_name-requires-clause-name
add_name-requires-clause-name c =
    subst IsName (sym (c.in_ok-name.ensures ∙ c.as_slice.ensures)) (right-name c.args.inodes.now.table c.args.at.now c.requires.agrees _ c.requires.free)

pub add_name-requires-clause-can : goal.add_name-requires-clause-can
add_name-requires-clause-can c =
    can-insert c.args.inodes.now.table c.reserve_name.new.table c.insert.new.table c.in_ok-key.key _ c.args.at.now c.in_ok-name.name _ c.requires.agrees c.requires.free c.reserve_name.ensures.same
    c.in_ok-key.ensures.ok
    (new-number (nodes_of c.args.inodes.now.table) c.args.inodes.now.numbers c.args.inodes.now.pool c.free_place-place.ensures.whole c.free_place-place.result _ c.free_place-place.ensures.least
    c.number_of-number.ensures).unused
    (c.in_ok-name.ensures ∙ c.as_slice.ensures)

pub invariant_of-inodes : goal.invariant_of-inodes
invariant_of-inodes c = record {
  distinct = same-distinct c.args.inodes.now.table c.reserve_name.new.table c.reserve_name.ensures.same c.args.inodes.now.distinct;
  pool = same-pool c.args.inodes.now.table c.reserve_name.new.table c.reserve_name.ensures.same c.args.inodes.now.numbers c.args.inodes.now.pool;
  block_total = same-blocks c.args.inodes.now.table c.reserve_name.new.table c.reserve_name.ensures.same c.args.inodes.now.blocks c.args.inodes.now.block_total;
}

pub invariant_of-inodes-in-Break-branch-3 : goal.invariant_of-inodes-in-Break-branch-3
invariant_of-inodes-in-Break-branch-3 c =
    let same = same-same c.args.inodes.now.table c.reserve_name.new.table c.insert.new.table c.reserve_name.ensures.same c.in_err-key.ensures.err in
    record {
      distinct = same-distinct c.args.inodes.now.table c.insert.new.table same c.args.inodes.now.distinct;
      pool = same-pool c.args.inodes.now.table c.insert.new.table same c.args.inodes.now.numbers c.args.inodes.now.pool;
      block_total = same-blocks c.args.inodes.now.table c.insert.new.table same c.args.inodes.now.blocks c.args.inodes.now.block_total;
    }

pub invariant_of-inodes-2 : goal.invariant_of-inodes-2
invariant_of-inodes-2 c = record {
  distinct = made-distinct c.args.inodes.now.table c.reserve_name.new.table c.insert.new.table c.in_ok-key.key _ c.args.at.now.dir (live-dir c.args.inodes.now.table c.args.at.now c.requires.agrees) c.reserve_name.ensures.same
      (rw (to_z-of_z {w = w128} {z = c.args.now} c.ranges.now) at c.in_ok-key.ensures.ok) c.add_name.new.table c.args.now c.args.at.now refl
      c.in_ok-name.name (c.in_ok-name.ensures ∙ c.as_slice.ensures) (rw (to_z-of_z {w = w128} {z = c.args.now} c.ranges.now) at c.add_name.ensures.step) c.args.inodes.now.numbers
      c.free_place-place.result c.args.inodes.now.distinct c.args.inodes.now.pool c.free_place-place.ensures.whole c.free_place-place.ensures.least c.number_of-number.ensures;
  pool = subst (AgreesPool (nodes_of c.add_name.new.table)) (sym c.take.ensures.taken)
      (made-pool c.args.inodes.now.table c.reserve_name.new.table c.insert.new.table c.in_ok-key.key _ c.args.at.now.dir (live-dir c.args.inodes.now.table c.args.at.now c.requires.agrees) c.reserve_name.ensures.same
      (rw (to_z-of_z {w = w128} {z = c.args.now} c.ranges.now) at c.in_ok-key.ensures.ok) c.add_name.new.table c.args.now c.args.at.now refl
      c.in_ok-name.name (c.in_ok-name.ensures ∙ c.as_slice.ensures) (rw (to_z-of_z {w = w128} {z = c.args.now} c.ranges.now) at c.add_name.ensures.step) c.args.inodes.now.numbers
      c.free_place-place.result c.args.inodes.now.distinct c.args.inodes.now.pool c.free_place-place.ensures.whole c.free_place-place.ensures.least c.number_of-number.ensures);
  block_total = made-blocks c.args.inodes.now.table c.add_name.new.table c.in_ok-key.key c.args.at.now
      (names.new_inode c.args.node.mode c.args.node.links (content_of c.args.node.content) c.args.now) c.args.now c.requires.no_blocks
      (made c.args.inodes.now.table c.reserve_name.new.table c.insert.new.table c.in_ok-key.key _ c.args.at.now.dir (live-dir c.args.inodes.now.table c.args.at.now c.requires.agrees) c.reserve_name.ensures.same
      (rw (to_z-of_z {w = w128} {z = c.args.now} c.ranges.now) at c.in_ok-key.ensures.ok) c.add_name.new.table c.args.now c.args.at.now refl
      c.in_ok-name.name (c.in_ok-name.ensures ∙ c.as_slice.ensures) (rw (to_z-of_z {w = w128} {z = c.args.now} c.ranges.now) at c.add_name.ensures.step) c.args.inodes.now.numbers
      c.free_place-place.result c.args.inodes.now.distinct c.args.inodes.now.pool c.free_place-place.ensures.whole c.free_place-place.ensures.least c.number_of-number.ensures) c.args.inodes.now.blocks c.args.inodes.now.block_total;
}

pub returns-clause-made : goal.returns-clause-made
returns-clause-made c =
    made c.args.inodes.now.table c.reserve_name.new.table c.insert.new.table c.in_ok-key.key _ c.args.at.now.dir (live-dir c.args.inodes.now.table c.args.at.now c.requires.agrees) c.reserve_name.ensures.same
    (rw (to_z-of_z {w = w128} {z = c.args.now} c.ranges.now) at c.in_ok-key.ensures.ok) c.add_name.new.table c.args.now c.args.at.now refl
    c.in_ok-name.name (c.in_ok-name.ensures ∙ c.as_slice.ensures) (rw (to_z-of_z {w = w128} {z = c.args.now} c.ranges.now) at c.add_name.ensures.step) c.args.inodes.now.numbers
    c.free_place-place.result c.args.inodes.now.distinct c.args.inodes.now.pool c.free_place-place.ensures.whole c.free_place-place.ensures.least c.number_of-number.ensures
