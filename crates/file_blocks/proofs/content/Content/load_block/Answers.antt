use Rattle.std.proofs.Common.{◌≡◌, ◌≤◌, ◌+◌, ap, sym, ◌∙◌, subst, arith, cond, is_some, Bool, true, false, ℕ}
use Rattle.std.specs.Cmp.{nat_cmp_total}
use Rattle.std.specs.FinMap.{get, insert, len, len-insert}
use Rattle.kernel_core.specs.FileContent.{Blocks, FileContent, IsContent, IsBlock}
use Rattle.file_blocks.proofs.PieceLemmas.{whole_piece}
use Rattle.file_blocks.proofs.Validity.{AreBlocks, insert-valid, whole_or_zeros}
use Rattle.file_blocks.proofs.content.Content.load_block.Goals as goal

stored : (c : goal.In_ok-write_piece) → c.write_piece.new.blocks ≡ insert c.self.inside.blocks c.args.index c.args.bytes.now
stored c =
    whole_piece c.self.inside.blocks c.write_piece.new.blocks c.args.index c.args.bytes.now _ c.requires.block.whole
    (whole_or_zeros c.self.inside.size c.self.inside.blocks c.args.index c.self.invariant.0.blocks) c.in_ok-write_piece.ensures.ok

valid : (c : goal.In_ok-write_piece) → IsContent (record { size = c.self.inside.size; blocks = c.write_piece.new.blocks })
valid c =
    let block = subst (λ n. IsBlock n c.args.index c.args.bytes.now) (sym (ap (λ (m : FileContent). m.size) c.self.view_is)) c.requires.block in
    record {
      small = c.self.invariant.0.small;
      blocks = subst (AreBlocks c.self.inside.size) (sym (stored c)) (insert-valid _ _ _ _ c.self.invariant.0.blocks block);
    }

one_more : (b : Bool) (n : ℕ) → cond b n (n + 1) ≤ n + 1
one_more true n = omega arith
one_more false n = omega arith

pub invariant_of-self-2 : goal.invariant_of-self-2
invariant_of-self-2 c =
    let before : len c.self.inside.blocks ≡ len c.args.self.now.blocks = ap (λ (m : FileContent). len m.blocks) c.self.view_is in
    let grown = ap len (stored c) ∙ len-insert nat_cmp_total c.self.inside.blocks c.args.index c.args.bytes.now in
    let most = one_more (is_some (get c.self.inside.blocks c.args.index)) (len c.self.inside.blocks) in
    (valid c, omega (arith, grown, most, before, c.requires.room))

pub returns-clause-ok : goal.returns-clause-ok
returns-clause-ok c =
    ap (λ (m : Blocks). record { size = c.self.inside.size; blocks = m }) (stored c)
    ∙ ap (λ (m : FileContent). record { size = m.size; blocks = insert m.blocks c.args.index c.args.bytes.now }) c.self.view_is

pub returns-clause-valid : goal.returns-clause-valid
returns-clause-valid c = valid c
