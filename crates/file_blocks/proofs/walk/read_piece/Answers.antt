use Rattle.std.proofs.Common.{◌≡◌, ◌/◌, ap, sym, ◌∙◌, take, drop, length, Some, None}
use Rattle.std.specs.FinMap.{get}
use Rattle.file_blocks.proofs.ByteLemmas.{bytes_at-block, bytes_at-absent}
use Rattle.file_blocks.proofs.walk.read_piece.Goals as goal

pub returns-in-Some : goal.returns-in-Some
returns-in-Some c =
    let size = length c.args.piece.now in
    let found : get c.args.blocks.now (c.args.at / 4096) ≡ Some c.in-Some.block.now =
    ap (get c.args.blocks.now) (sym c.index_of.ensures) ∙ sym c.in-Some.ensures in
    c.read.ensures.part
    ∙ ap (λ p. take size (drop p c.in-Some.block.now)) c.place_in_page.ensures.place
    ∙ sym (bytes_at-block _ _ _ _ found c.requires.room c.read.ensures.whole)

pub returns-in-None : goal.returns-in-None
returns-in-None c =
    let missing : get c.args.blocks.now (c.args.at / 4096) ≡ None =
    ap (get c.args.blocks.now) (sym c.index_of.ensures) ∙ sym c.in-None.ensures in
    c.fill.ensures.after (λ y h. h) ∙ sym (bytes_at-absent _ _ _ missing c.requires.room)
