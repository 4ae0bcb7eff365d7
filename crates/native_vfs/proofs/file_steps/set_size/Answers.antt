use Rattle.std.proofs.Common.{◌≡◌, ℕ, Some, is_some, IsSome, sym, ap, subst, ◌∙◌, arith}
use Rattle.std.specs.Int.{w128}
use Rattle.std.proofs.Math.Facts.{to_z-of_z}
use Rattle.slab.specs.Slab.{get as slab_get}
use Rattle.kernel_core.specs.FileContent.{resized}
use Rattle.kernel_core.specs.NodeCalls.{modified_at}
use Rattle.kernel_core.specs.Nodes.{file_at, file_in}
use Rattle.native_vfs.specs.inside.Steps.{IsFileChange}
use Rattle.native_vfs.specs.inside.Stored.{Table, nodes_of, content_of, number_of_key, HasDistinctNumbers}
use Rattle.native_vfs.specs.declared.stored.Stored.{Stored}
use Rattle.native_vfs.proofs.contents.Files.{file-there, distinct-there, pool-there, blocks-there, blocks-counted, file-step}
use Rattle.native_vfs.proofs.file_steps.set_size.Goals as goal

file : (table : Table) (key : ℕ) (node : Stored) → slab_get table key ≡ Some node → HasDistinctNumbers table → IsSome (file_at (nodes_of table) (number_of_key table key)) → IsSome (file_in (content_of node.content))
file table key node at distinct some = sym (ap is_some (file-there table key node at distinct)) ∙ some

pub resize_node-requires-clause-file : goal.resize_node-requires-clause-file
resize_node-requires-clause-file c = file c.args.inodes.now.table c.args.key c.index_mut-node.result.now c.index_mut-node.ensures.value c.args.inodes.now.distinct c.requires.file

pub resize_node-requires-clause-kept : goal.resize_node-requires-clause-kept
resize_node-requires-clause-kept c =
    let most = blocks-there c.args.inodes.now.table c.args.key c.index_mut-node.result.now c.index_mut-node.ensures.value
    c.args.inodes.now.distinct in let counted = c.args.inodes.now.block_total in omega (arith, most, counted)

pub invariant_of-inodes : goal.invariant_of-inodes
invariant_of-inodes c = record {
  distinct = distinct-there c.args.inodes.now.table c.args.key c.index_mut-node.result.now c.index_mut-node.ensures.value c.args.inodes.now.distinct c.resize_node.new.node c.resize_node.ensures.resized.number;
  pool = pool-there c.args.inodes.now.table c.args.key c.index_mut-node.result.now c.index_mut-node.ensures.value c.args.inodes.now.distinct c.resize_node.new.node c.resize_node.ensures.resized.number
      c.args.inodes.now.numbers c.args.inodes.now.pool;
  block_total = blocks-counted c.args.inodes.now.table c.args.key c.index_mut-node.result.now c.index_mut-node.ensures.value c.args.inodes.now.distinct c.resize_node.new.node
      c.args.inodes.now.blocks c.resize_node.new.blocks c.resize_node.ensures.resized.number c.args.inodes.now.block_total c.resize_node.ensures.counted;
}

pub returns-clause-step : goal.returns-clause-step
returns-clause-step c =
    let counted = blocks-counted c.args.inodes.now.table c.args.key c.index_mut-node.result.now c.index_mut-node.ensures.value c.args.inodes.now.distinct
    c.resize_node.new.node c.args.inodes.now.blocks c.resize_node.new.blocks c.resize_node.ensures.resized.number c.args.inodes.now.block_total c.resize_node.ensures.counted in
    let fewer = c.resize_node.ensures.fewer in
    let before = c.args.inodes.now.block_total in
    let few = c.requires.few in
    file-step c.args.inodes.now.table c.args.key c.index_mut-node.result.now c.index_mut-node.ensures.value c.args.inodes.now.distinct c.resize_node.new.node (modified_at c.args.now (λ content. resized content c.args.to))
    (subst (λ t. IsFileChange c.index_mut-node.result.now c.resize_node.new.node (modified_at t (λ content. resized content c.args.to))) (to_z-of_z {w = w128} {z = c.args.now} c.ranges.now) c.resize_node.ensures.resized)
    (file c.args.inodes.now.table c.args.key c.index_mut-node.result.now c.index_mut-node.ensures.value c.args.inodes.now.distinct c.requires.file) (omega (arith, counted, fewer, before, few))
