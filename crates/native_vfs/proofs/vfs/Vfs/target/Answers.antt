use Rattle.std.proofs.Common.{sym, ap, ◌∙◌}
use Rattle.std.specs.Prelude.{is_some, Some}
use Rattle.kernel_core.specs.Nodes.{target_in}
use Rattle.native_vfs.proofs.tables.Facts.{no-link, part-seen, target-seen}
use Rattle.native_vfs.proofs.tables.Kept.{live-seen}
use Rattle.native_vfs.proofs.vfs.Vfs.target.Goals as goal

pub index-requires : goal.index-requires
index-requires c = live-seen c.self.inside.inodes.table c.args.self.now c.self.view_is c.args.node c.requires.live

pub unreachable-requires : goal.unreachable-requires
unreachable-requires c =
    no-link c.index.result.now.content c.in_default.not-Link (sym
    (ap is_some (part-seen c.self.inside.inodes.table c.args.self.now c.self.view_is c.self.inside.inodes.distinct c.args.node c.index.result.now
    c.index.ensures target_in)) ∙ c.requires.link)

pub returns : goal.returns
returns c =
    target-seen c.self.inside.inodes.table c.args.self.now c.self.view_is c.self.inside.inodes.distinct c.args.node c.index.result.now c.index.ensures c.in-Link.target c.in-Link.is
    ∙ ap (λ t. Some t) (sym c.as_slice.ensures)
