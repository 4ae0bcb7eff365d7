use Rattle.std.proofs.Common.{sym, ap, ◌∙◌}
use Rattle.std.specs.Option.{is_some}
use Rattle.file_blocks.specs.inside.Pieces.{with_kept_piece}
use Rattle.file_blocks.proofs.StoreLaws.{seen_at}
use Rattle.file_blocks.proofs.block_store.BlockStore.write.Goals as goal

pub write-requires-clause-valid : goal.write-requires-clause-valid
write-requires-clause-valid c = c.self.invariant.0

pub invariant_of-self : goal.invariant_of-self
invariant_of-self c = (c.write.ensures.valid, c.self.invariant.1 ∙ sym c.write.ensures.count)

pub returns-clause-is_kept : goal.returns-clause-is_kept
returns-clause-is_kept c = c.write.ensures.is_kept ∙ ap is_some (seen_at _ _ c.args.index c.self.invariant.0 c.self.view_is)

pub returns-clause-written : goal.returns-clause-written
returns-clause-written c =
    let seen = seen_at _ _ c.args.index c.self.invariant.0 c.self.view_is in
    c.write.ensures.written ∙ (λ i. with_kept_piece (c.self.view_is i) c.args.index (seen i) c.args.place c.args.bytes.now)
