use Rattle.std.proofs.Common.{◌≡◌, ℕ, ◌/◌, ◌<◌, ◌≤◌, ◌==◌, false, not, List, Option, Some, None, is_some, IfSome, refl, sym, ap, subst, ◌∙◌, arith, inl, inr}
use Rattle.std.proofs.lemmas.Bool.{ne_eqb, eq-eqb}
use Rattle.std.specs.FinMap.{get}
use Rattle.kernel_core.specs.FileContent.{FileContent, longest_write}
use Rattle.kernel_core.specs.NodeCalls.{write_length}
use Rattle.kernel_core.specs.Nodes.{Nodes, file_in}
use Rattle.kernel_core.specs.Totals.{live_blocks, spare_blocks}
use Rattle.kernel_core.specs.ValidTree.{block_limit}
use Rattle.file_blocks.proofs.Spare.{longest_write-none}
use Rattle.native_vfs.specs.inside.Stored.{nodes_of, content_of}
use Rattle.native_vfs.proofs.tables.Facts.{no-file}
use Rattle.native_vfs.proofs.contents.Files.{file-there}
use Rattle.native_vfs.proofs.contents.Room.{length-some}
use Rattle.native_vfs.proofs.file_steps.is_full.Goals as goal

some_all : (o : Option FileContent) (P : FileContent → Type 0) → ((c : FileContent) → P c) → IfSome o P
some_all None P all = tt
some_all (Some c) P all = all c

not_zero : (n : ℕ) → 1 ≤ n → (n == 0) ≡ false
not_zero n some = ne_eqb n 0 (λ none. omega (arith, some, none))

-- with a block to spare a byte can be written
spared : (nodes : Nodes) (blocks at : ℕ) → blocks ≡ live_blocks nodes → blocks < block_limit → (content : FileContent) (count : ℕ) → 0 < count
    → false ≡ (write_length nodes content at count == 0)
spared nodes blocks at counted few content count some =
    sym (not_zero (write_length nodes content at count) (length-some content.blocks at count (spare_blocks nodes) some (inl (omega (arith, counted, few)))))

-- with none to spare, just where its block is kept
unspared : (nodes : Nodes) (blocks at : ℕ) → blocks ≡ live_blocks nodes → block_limit ≤ blocks → (content : FileContent) (count : ℕ) → 0 < count
    → (o : Option (List ℕ)) → get content.blocks (at / 4096) ≡ o → not (is_some o) ≡ (write_length nodes content at count == 0)
unspared nodes blocks at counted full content count some None is =
    let none : spare_blocks nodes ≡ 0 = omega (arith, counted, full) in
    sym (eq-eqb (write_length nodes content at count) 0 (ap (longest_write content.blocks at count) none ∙ longest_write-none content.blocks at count is))
unspared nodes blocks at counted full content count some (Some block) is =
    sym (not_zero (write_length nodes content at count) (length-some content.blocks at count (spare_blocks nodes) some (inr (ap is_some is))))

pub unreachable-requires : goal.unreachable-requires
unreachable-requires c =
    no-file c.index.result.now.content c.in_default.not-File
    (sym (ap is_some (file-there c.args.inodes.now.table c.args.key c.index.result.now c.index.ensures c.args.inodes.now.distinct)) ∙ c.requires.file)

pub returns-then-inodes-lt-BLOCK_LIMIT : goal.returns-then-inodes-lt-BLOCK_LIMIT
returns-then-inodes-lt-BLOCK_LIMIT c = some_all _ _ (spared (nodes_of c.args.inodes.now.table) c.args.inodes.now.blocks c.args.at c.args.inodes.now.block_total c.if-inodes-lt-BLOCK_LIMIT.true)

pub returns : goal.returns
returns c =
    let content : FileContent = c.in-File.content in
    let found = file-there c.args.inodes.now.table c.args.key c.index.result.now c.index.ensures c.args.inodes.now.distinct ∙ ap (λ c. file_in (content_of c)) c.in-File.is in
    subst (λ o. IfSome o (λ content. (count : ℕ) → 0 < count → not c.keeps_block.result ≡ (write_length (nodes_of c.args.inodes.now.table) content c.args.at count == 0))) (sym found)
    (λ count some.
    ap not c.keeps_block.ensures
    ∙ unspared (nodes_of c.args.inodes.now.table) c.args.inodes.now.blocks c.args.at c.args.inodes.now.block_total c.if-inodes-lt-BLOCK_LIMIT.false content count some
    (get content.blocks (c.args.at / 4096)) refl)
