use Rattle.std.proofs.Common.{◌≡◌, ℕ, ◌-◌, ◌≤◌, length, take, Option, Some, None, is_some, IsSome, IfSome, sym, ap, subst, ◌∙◌, arith}
use Rattle.std.specs.Int.{w128}
use Rattle.std.proofs.Math.Facts.{to_z-of_z}
use Rattle.slab.specs.Slab.{get as slab_get, with_value}
use Rattle.kernel_core.specs.FileContent.{FileContent, longest_write}
use Rattle.kernel_core.specs.NodeCalls.{write_length}
use Rattle.kernel_core.specs.Nodes.{Nodes, file_at, file_in}
use Rattle.kernel_core.specs.Totals.{live_blocks}
use Rattle.kernel_core.specs.ValidTree.{block_limit}
use Rattle.native_vfs.specs.inside.Steps.{IsFileStep, IsFileChange, file_written, content_written}
use Rattle.native_vfs.specs.inside.Stored.{Table, nodes_of, content_of, number_of_key, HasDistinctNumbers}
use Rattle.native_vfs.specs.declared.stored.Stored.{Stored}
use Rattle.native_vfs.proofs.contents.Files.{file-there, distinct-there, pool-there, blocks-there, blocks-counted, file-step}
use Rattle.std.specs.Prelude.{Result, Ok, Err, IfOk, OnErr}
use Rattle.kernel_core.specs.declared.core_error.NoMemory.{NoMemory}
use Rattle.native_vfs.proofs.file_steps.write.Goals as goal

file : (table : Table) (key : ℕ) (node : Stored) → slab_get table key ≡ Some node → HasDistinctNumbers table → IsSome (file_at (nodes_of table) (number_of_key table key)) → IsSome (file_in (content_of node.content))
file table key node at distinct some = sym (ap is_some (file-there table key node at distinct)) ∙ some

ok_from : (r : Result ℕ NoMemory) (P Q : ℕ → Type 0) → ((n : ℕ) → P n → Q n) → IfOk r P → IfOk r Q
ok_from (Ok n) P Q f h = f n h
ok_from (Err e) P Q f h = h

err_from : (r : Result ℕ NoMemory) (P Q : Type 0) → (P → Q) → OnErr r P → OnErr r Q
err_from (Ok n) P Q f h = h
err_from (Err e) P Q f h = f h

some_from : (o : Option FileContent) (P Q : FileContent → Type 0) → ((c : FileContent) → P c → Q c) → IfSome o P → IfSome o Q
some_from None P Q f h = h
some_from (Some c) P Q f h = f c h

pub write_node-requires-clause-file : goal.write_node-requires-clause-file
write_node-requires-clause-file c = file c.args.inodes.now.table c.args.key c.index_mut-node.result.now c.index_mut-node.ensures.value c.args.inodes.now.distinct c.requires.file

pub write_node-requires-clause-kept : goal.write_node-requires-clause-kept
write_node-requires-clause-kept c =
    let most = blocks-there c.args.inodes.now.table c.args.key c.index_mut-node.result.now c.index_mut-node.ensures.value
    c.args.inodes.now.distinct in let counted = c.args.inodes.now.block_total in omega (arith, most, counted)

pub invariant_of-inodes : goal.invariant_of-inodes
invariant_of-inodes c = record {
  distinct = distinct-there c.args.inodes.now.table c.args.key c.index_mut-node.result.now c.index_mut-node.ensures.value c.args.inodes.now.distinct c.write_node.new.node c.write_node.ensures.number;
  pool = pool-there c.args.inodes.now.table c.args.key c.index_mut-node.result.now c.index_mut-node.ensures.value c.args.inodes.now.distinct c.write_node.new.node c.write_node.ensures.number
      c.args.inodes.now.numbers c.args.inodes.now.pool;
  block_total = blocks-counted c.args.inodes.now.table c.args.key c.index_mut-node.result.now c.index_mut-node.ensures.value c.args.inodes.now.distinct c.write_node.new.node
      c.args.inodes.now.blocks c.write_node.new.blocks c.write_node.ensures.number c.args.inodes.now.block_total c.write_node.ensures.counted;
}

-- all files keep no more blocks than they may
few : (c : goal.After-inodes-2-1) → live_blocks (nodes_of (with_value c.args.inodes.now.table c.args.key c.write_node.new.node)) ≤ block_limit
few c =
    let counted = blocks-counted c.args.inodes.now.table c.args.key c.index_mut-node.result.now c.index_mut-node.ensures.value c.args.inodes.now.distinct
    c.write_node.new.node c.args.inodes.now.blocks c.write_node.new.blocks c.write_node.ensures.number c.args.inodes.now.block_total c.write_node.ensures.counted in
    let most = c.write_node.ensures.few in
    omega (arith, counted, most)

pub returns-clause-count : goal.returns-clause-count
returns-clause-count c =
    subst (λ o. IfSome o (λ content. IfOk c.write_node.result (λ n. n ≡ write_length
    (nodes_of c.args.inodes.now.table) content c.args.at (length c.args.bytes.now))))
    (sym (file-there c.args.inodes.now.table c.args.key c.index_mut-node.result.now c.index_mut-node.ensures.value c.args.inodes.now.distinct))
    (subst (λ b. IfSome (file_in (content_of c.index_mut-node.result.now.content)) (λ content. IfOk c.write_node.result (λ n. n ≡ longest_write content.blocks c.args.at (length c.args.bytes.now) (block_limit - b))))
    c.args.inodes.now.block_total c.write_node.ensures.count)

pub returns-clause-ok : goal.returns-clause-ok
returns-clause-ok c =
    ok_from c.write_node.result
    (λ n. IsFileChange c.index_mut-node.result.now c.write_node.new.node (file_written c.args.at (take n c.args.bytes.now) c.args.now))
    (λ n. IsFileStep c.args.inodes.now.table (with_value c.args.inodes.now.table c.args.key c.write_node.new.node) c.args.key (file_written c.args.at (take n c.args.bytes.now) c.args.now))
    (λ n changes. file-step c.args.inodes.now.table c.args.key c.index_mut-node.result.now c.index_mut-node.ensures.value c.args.inodes.now.distinct
    c.write_node.new.node (file_written c.args.at (take n c.args.bytes.now) c.args.now) changes
    (file c.args.inodes.now.table c.args.key c.index_mut-node.result.now c.index_mut-node.ensures.value c.args.inodes.now.distinct c.requires.file) (few c))
    (subst (λ t. IfOk c.write_node.result (λ n. IsFileChange c.index_mut-node.result.now c.write_node.new.node (file_written c.args.at (take n c.args.bytes.now) t)))
    (to_z-of_z {w = w128} {z = c.args.now} c.ranges.now) c.write_node.ensures.ok)

pub returns-clause-err : goal.returns-clause-err
returns-clause-err c =
    let node : Stored = c.index_mut-node.result.now in
    let nodes : Nodes = nodes_of c.args.inodes.now.table in
    let new : Table = with_value c.args.inodes.now.table c.args.key c.write_node.new.node in
    let Part : FileContent → Type 0 = λ content. (k : ℕ) × (k ≤ write_length nodes content c.args.at (length c.args.bytes.now))
    × IsFileChange node c.write_node.new.node (content_written c.args.at (take k c.args.bytes.now)) in
    let After : FileContent → Type 0 = λ content. (k : ℕ) × (k ≤ write_length nodes content c.args.at (length c.args.bytes.now))
    × IsFileStep c.args.inodes.now.table new c.args.key (content_written c.args.at (take k c.args.bytes.now)) in
    subst (λ o. IfSome o (λ content. OnErr c.write_node.result (After content))) (sym (file-there c.args.inodes.now.table c.args.key c.index_mut-node.result.now c.index_mut-node.ensures.value c.args.inodes.now.distinct))
    (some_from (file_in (content_of node.content)) (λ content. OnErr c.write_node.result (Part content)) (λ content. OnErr c.write_node.result (After content))
    (λ content h. err_from c.write_node.result (Part content) (After content)
    (λ w. (
      w.0,
      w.1,
      file-step c.args.inodes.now.table c.args.key c.index_mut-node.result.now c.index_mut-node.ensures.value c.args.inodes.now.distinct
          c.write_node.new.node (content_written c.args.at (take w.0 c.args.bytes.now)) w.2
          (file c.args.inodes.now.table c.args.key c.index_mut-node.result.now c.index_mut-node.ensures.value c.args.inodes.now.distinct c.requires.file) (few c),
    )) h)
    (subst (λ b. IfSome (file_in (content_of node.content)) (λ content. OnErr c.write_node.result ((k : ℕ) × (k ≤ longest_write content.blocks c.args.at (length c.args.bytes.now) (block_limit - b))
    × IsFileChange node c.write_node.new.node (content_written c.args.at (take k c.args.bytes.now))))) c.args.inodes.now.block_total c.write_node.ensures.err))
