use Rattle.std.proofs.Common.{◌≡◌, ◌≤◌, ℕ, Some, true, ◌∙◌, arith}
use Rattle.slab.specs.Slab.{get as slab_get}
use Rattle.std.specs.FinMap.{get}
use Rattle.kernel_core.specs.Nodes.{is_unused}
use Rattle.native_vfs.specs.inside.Stored.{Table, nodes_of, number_of_key, HasDistinctNumbers}
use Rattle.native_vfs.specs.declared.stored.Stored.{Stored}
use Rattle.native_vfs.proofs.removals.Settling.{used-settled, unused-there, linked-used, held-used, free-unused, removed-settled, removed-pool, removed-blocks}
use Rattle.native_vfs.proofs.settle.settle.Goals as goal
use Rattle.native_vfs.proofs.settle.settle.Goals.{then-node-gt0-via-then-node-gt0, then-node-gt0-via-else-node-gt0+then-node-gt0-2}

unused : (table : Table) (key : ℕ) (node : Stored) → HasDistinctNumbers table → slab_get table key ≡ Some node → node.links ≤ 0 → node.holds ≤ 0
    → is_unused (get (nodes_of table) (number_of_key table key)) ≡ true
unused table key node distinct at no_link no_hold = unused-there table key node distinct at ∙ free-unused node no_link no_hold

pub returns-then-node-gt0-clause-settled : goal.returns-then-node-gt0-clause-settled
returns-then-node-gt0-clause-settled c =
    used-settled c.args.inodes.now.table c.args.key c.args.inodes.now.distinct
    (unused-there c.args.inodes.now.table c.args.key c.index-node.result.now c.args.inodes.now.distinct c.index-node.ensures ∙ elim c.then-node-gt0.branch [
      | then-node-gt0-via-then-node-gt0 w ↦ linked-used c.index-node.result.now w.if-node-gt0.true
      | then-node-gt0-via-else-node-gt0+then-node-gt0-2 w ↦ held-used c.index-node.result.now w.if-node-gt0-2.true
    ])

pub remove-requires-clause-unnamed : goal.remove-requires-clause-unnamed
remove-requires-clause-unnamed c =
    c.requires.unnamed (unused c.args.inodes.now.table c.args.key c.index-node.result.now c.args.inodes.now.distinct c.index-node.ensures c.if-node-gt0.false c.if-node-gt0-2.false)

pub overflow_sub-inodes : goal.overflow_sub-inodes
overflow_sub-inodes c =
    let all = removed-blocks c.args.inodes.now.table c.remove.new.table c.args.key c.index-node.result.now c.index-node.ensures c.args.inodes.now.distinct c.remove.ensures.removal in
    let kept = c.kept_blocks-kept.ensures in
    let counted = c.args.inodes.now.block_total in
    omega (arith, all, kept, counted)

pub returns-clause-settled : goal.returns-clause-settled
returns-clause-settled c =
    removed-settled c.args.inodes.now.table c.remove.new.table c.args.key c.index-node.result.now c.index-node.ensures c.args.inodes.now.distinct c.remove.ensures.removal
    (unused c.args.inodes.now.table c.args.key c.index-node.result.now c.args.inodes.now.distinct c.index-node.ensures c.if-node-gt0.false c.if-node-gt0-2.false)

pub invariant_of-inodes : goal.invariant_of-inodes
invariant_of-inodes c =
    let all = removed-blocks c.args.inodes.now.table c.remove.new.table c.args.key c.index-node.result.now c.index-node.ensures c.args.inodes.now.distinct c.remove.ensures.removal in
    let kept = c.kept_blocks-kept.ensures in
    let counted = c.args.inodes.now.block_total in
    record {
      distinct = c.remove.ensures.removal.distinct;
      pool = removed-pool c.args.inodes.now.table c.remove.new.table c.args.key c.index-node.result.now c.index-node.ensures c.args.inodes.now.distinct c.remove.ensures.removal
          c.args.inodes.now.numbers c.give_back.new.numbers c.args.inodes.now.pool c.give_back.ensures;
      block_total = omega (arith, all, kept, counted);
    }
