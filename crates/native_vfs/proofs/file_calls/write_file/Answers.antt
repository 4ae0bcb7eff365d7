use Rattle.std.proofs.Common.{◌≡◌, length, Option, Some, None, IfSome, sym, ap, ◌∙◌}
use Rattle.std.proofs.lemmas.Bool.{eqb-true}
use Rattle.kernel_core.specs.FileContent.{FileContent}
use Rattle.kernel_core.specs.NodeCalls.{write_length}
use Rattle.kernel_core.specs.Nodes.{file_at}
use Rattle.kernel_core.specs.Totals.{spare_blocks}
use Rattle.file_blocks.proofs.Spare.{longest_write-zero}
use Rattle.native_vfs.specs.inside.Stored.{nodes_of, number_of_key}
use Rattle.native_vfs.proofs.contents.Files.{same-file-step}
use Rattle.native_vfs.proofs.file_calls.write_file.Goals as goal

some_all : (o : Option FileContent) (P : FileContent → Type 0) → ((c : FileContent) → P c) → IfSome o P
some_all None P all = tt
some_all (Some c) P all = all c

pub returns-then-is_empty-clause-count : goal.returns-then-is_empty-clause-count
returns-then-is_empty-clause-count c =
    let none : length c.args.bytes.now ≡ 0 = eqb-true (length c.args.bytes.now) 0 (sym c.if-is_empty.ensures) in
    some_all (file_at (nodes_of c.args.inodes.now.table) (number_of_key c.args.inodes.now.table c.args.key))
    (λ content. 0 ≡ write_length (nodes_of c.args.inodes.now.table) content c.args.at (length c.args.bytes.now))
    (λ content. sym (ap (λ n. write_length (nodes_of c.args.inodes.now.table) content c.args.at n) none
    ∙ longest_write-zero content.blocks c.args.at (spare_blocks (nodes_of c.args.inodes.now.table))))

pub returns-then-is_empty-clause-ok : goal.returns-then-is_empty-clause-ok
returns-then-is_empty-clause-ok c = same-file-step c.args.inodes.now.table c.args.key c.requires.content c.requires.few

pub returns-then-ends_past-clause-err : goal.returns-then-ends_past-clause-err
returns-then-ends_past-clause-err c = some_all _ _ (λ content. same-file-step c.args.inodes.now.table c.args.key c.requires.content c.requires.few)

pub returns-then-is_full-clause-err : goal.returns-then-is_full-clause-err
returns-then-is_full-clause-err c = some_all _ _ (λ content. same-file-step c.args.inodes.now.table c.args.key c.requires.content c.requires.few)
