use Rattle.std.proofs.Common.{refl, sym, ap, subst, ◌∙◌, is_some}
use Rattle.std.specs.Int.{w128}
use Rattle.std.proofs.Math.Facts.{to_z-of_z}
use Rattle.kernel_core.specs.NameCalls.{with_entry}
use Rattle.kernel_core.specs.Totals.{live_blocks}
use Rattle.kernel_core.specs.ValidTree.{IsName}
use Rattle.file_system_laws.proofs.Counts.{live_blocks-relisted}
use Rattle.native_vfs.specs.Keyed.{place_at}
use Rattle.native_vfs.specs.inside.Stored.{nodes_of, keyed_of, number_of_key}
use Rattle.native_vfs.proofs.additions.MadeNodes.{listing-dir, right-name}
use Rattle.native_vfs.proofs.additions.NamedAgain.{link-free, few-links, can-again, named-again}
use Rattle.native_vfs.proofs.tables.Kept.{same-distinct, same-pool, same-blocks, step-distinct, pool-numbers, pool-stepped, blocks-stepped}
use Rattle.native_vfs.proofs.tables.Reasons.{live-dir}
use Rattle.native_vfs.proofs.tables.Tables.{distinct-kept}
use Rattle.native_vfs.proofs.making.name_again.Goals as goal

pub reserve_name-requires-clause-live : goal.reserve_name-requires-clause-live
reserve_name-requires-clause-live c = live-dir c.args.inodes.now.table c.args.at.now c.requires.agrees

pub reserve_name-requires-clause-directory : goal.reserve_name-requires-clause-directory
reserve_name-requires-clause-directory c = ap is_some (listing-dir c.args.inodes.now.table c.args.at.now c.requires.agrees)

pub link-requires-clause-distinct : goal.link-requires-clause-distinct
link-requires-clause-distinct c = distinct-kept c.args.inodes.now.table c.reserve_name.new.table c.reserve_name.ensures.same.numbers c.args.inodes.now.distinct

pub link-requires-clause-few : goal.link-requires-clause-few
link-requires-clause-few c = few-links c.args.inodes.now.table c.reserve_name.new.table c.args.node c.reserve_name.ensures.same c.args.inodes.now.distinct c.requires.system c.requires.live

pub add_name-requires-clause-distinct : goal.add_name-requires-clause-distinct
add_name-requires-clause-distinct c =
    distinct-kept c.reserve_name.new.table c.link.new.table c.link.ensures.step.numbers
    (distinct-kept c.args.inodes.now.table c.reserve_name.new.table c.reserve_name.ensures.same.numbers c.args.inodes.now.distinct)

pub add_name-requires-clause-name : goal.add_name-requires-clause-name
add_name-requires-clause-name c =
    subst IsName (sym (c.in_ok-name.ensures ∙ c.as_slice.ensures))
    (right-name c.args.inodes.now.table c.args.at.now c.requires.agrees _
    (link-free (nodes_of c.args.inodes.now.table) (number_of_key c.args.inodes.now.table c.args.node) (place_at (keyed_of c.args.inodes.now.table) c.args.at.now) c.requires.free))

pub add_name-requires-clause-can : goal.add_name-requires-clause-can
add_name-requires-clause-can c =
    can-again c.args.inodes.now.table c.reserve_name.new.table c.link.new.table c.args.node _ c.reserve_name.ensures.same c.link.ensures.step c.args.at.now c.in_ok-name.name
    (c.in_ok-name.ensures ∙ c.as_slice.ensures) c.requires.agrees c.requires.free

pub invariant_of-inodes : goal.invariant_of-inodes
invariant_of-inodes c = record {
  distinct = same-distinct c.args.inodes.now.table c.reserve_name.new.table c.reserve_name.ensures.same c.args.inodes.now.distinct;
  pool = same-pool c.args.inodes.now.table c.reserve_name.new.table c.reserve_name.ensures.same c.args.inodes.now.numbers c.args.inodes.now.pool;
  block_total = same-blocks c.args.inodes.now.table c.reserve_name.new.table c.reserve_name.ensures.same c.args.inodes.now.blocks c.args.inodes.now.block_total;
}

pub invariant_of-inodes-2 : goal.invariant_of-inodes-2
invariant_of-inodes-2 c =
    let distinct = step-distinct c.reserve_name.new.table c.link.new.table c.args.node _ c.link.ensures.step (same-distinct c.args.inodes.now.table c.reserve_name.new.table c.reserve_name.ensures.same c.args.inodes.now.distinct) in
    record {
      distinct = distinct-kept c.link.new.table c.add_name.new.table c.add_name.ensures.step.numbers distinct;
      pool = pool-numbers c.link.new.table c.add_name.new.table c.add_name.ensures.step.numbers distinct c.args.inodes.now.numbers
          (pool-stepped c.reserve_name.new.table c.link.new.table c.args.node _ c.link.ensures.step c.args.inodes.now.numbers (same-pool c.args.inodes.now.table c.reserve_name.new.table c.reserve_name.ensures.same c.args.inodes.now.numbers c.args.inodes.now.pool));
      block_total = blocks-stepped c.reserve_name.new.table c.link.new.table c.args.node _ c.link.ensures.step (λ i. refl) c.args.inodes.now.blocks (same-blocks c.args.inodes.now.table c.reserve_name.new.table c.reserve_name.ensures.same c.args.inodes.now.blocks c.args.inodes.now.block_total)
          ∙ sym (ap live_blocks c.add_name.ensures.step.nodes ∙ live_blocks-relisted (nodes_of c.link.new.table) (number_of_key c.link.new.table c.args.at.now.dir) _ (with_entry c.in_ok-name.name c.number-number.result));
    }

pub returns-clause-named : goal.returns-clause-named
returns-clause-named c =
    named-again c.args.inodes.now.table c.reserve_name.new.table c.link.new.table c.args.node c.args.now c.reserve_name.ensures.same
    (rw (to_z-of_z {w = w128} {z = c.args.now} c.ranges.now) at c.link.ensures.step) c.args.at.now c.in_ok-name.name
    (c.in_ok-name.ensures ∙ c.as_slice.ensures) c.add_name.new.table c.number-number.result c.number-number.ensures
    (rw (to_z-of_z {w = w128} {z = c.args.now} c.ranges.now) at c.add_name.ensures.step)
