use Rattle.std.proofs.Common.{ap, ◌∙◌}
use Rattle.std.specs.FinMap.{get, insert}
use Rattle.paged_bytes.specs.Pages.{put_at}
use Rattle.file_blocks.proofs.PieceLemmas.{zero_page-block, writes_kept, writes_new, not_written}
use Rattle.file_blocks.proofs.walk.write_piece.Goals as goal

pub returns-then-write-clause-ok : goal.returns-then-write-clause-ok
returns-then-write-clause-ok c = writes_kept _ _ _ _ _ _ c.if-write.ensures.is_kept c.write.ensures.written

pub insert-requires : goal.insert-requires
insert-requires c =
    let before = not_written _ _ _ _ _ c.if-write.ensures.is_kept c.write.ensures.written in
    ap (λ m. get m c.args.index) before.0 ∙ before.1

pub returns-clause-ok : goal.returns-clause-ok
returns-clause-ok c =
    let before = not_written _ _ _ _ _ c.if-write.ensures.is_kept c.write.ensures.written in
    let block = c.write-2.ensures ∙ ap (λ b. put_at b c.args.place c.args.piece.now) (c.in_ok-block.ensures ∙ zero_page-block) in
    writes_new c.args.blocks.now c.args.index c.args.place c.args.piece.now _ _ _ c.if-write.ensures.is_kept before.0 (c.in_ok-insert.ensures.ok ∙ ap (insert c.write.new.self c.args.index) block) c.if-spare-eq0.false
