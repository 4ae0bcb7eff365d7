use Rattle.std.proofs.Common.{IsSome, sym, subst}
use Rattle.std.specs.Int.{w128}
use Rattle.std.specs.Prelude.{OnOk}
use Rattle.std.proofs.Math.Facts.{to_z-of_z}
use Rattle.kernel_core.specs.FileContent.{resized}
use Rattle.kernel_core.specs.NodeCalls.{modified_at}
use Rattle.kernel_core.specs.Nodes.{file_at}
use Rattle.native_vfs.specs.inside.Steps.{IsFileStep}
use Rattle.native_vfs.proofs.contents.FileKept.{whole-resized, nodes-resized, keys-resized, kept-at}
use Rattle.native_vfs.proofs.tables.Kept.{whole-of, kept-of, IsWhole, live-seen, valid-view, are-keys-view}
use Rattle.native_vfs.proofs.tables.HeldKeys.{held-resized}
use Rattle.native_vfs.specs.inside.Stored.{IsKept}
use Rattle.native_vfs.proofs.vfs.Vfs.set_size.Goals as goal

pub resize_file-requires-clause-live : goal.resize_file-requires-clause-live
resize_file-requires-clause-live c = live-seen c.self.inside.inodes.table c.args.self.now c.self.view_is c.args.node c.requires.live

pub resize_file-requires-clause-file : goal.resize_file-requires-clause-file
resize_file-requires-clause-file c = kept-at c.self.inside.inodes.table c.args.self.now c.self.view_is c.args.node (λ nodes n. IsSome (file_at nodes n)) c.requires.file

ok : (c : goal.After-resize_file) → OnOk c.resize_file.result (IsFileStep c.self.inside.inodes.table c.resize_file.new.inodes.table c.args.node (modified_at c.args.now (λ content. resized content c.args.to)))
ok c = subst (λ t. OnOk c.resize_file.result (IsFileStep c.self.inside.inodes.table c.resize_file.new.inodes.table c.args.node (modified_at t (λ content. resized content c.args.to))))
    (to_z-of_z {w = w128} {z = c.args.now} c.ranges.now) c.resize_file.ensures.ok

whole : (c : goal.After-resize_file) → IsWhole c.resize_file.new.inodes.table c.self.inside.inodes.numbers c.self.inside.inodes.entries c.resize_file.new.inodes.blocks c.self.inside.root
whole c =
    whole-resized c.self.inside.inodes.table c.resize_file.new.inodes.table c.args.node c.args.to c.args.now c.resize_file.result
    (ok c) c.resize_file.ensures.err c.self.inside.inodes.numbers c.self.inside.inodes.entries c.self.inside.inodes.blocks c.resize_file.new.inodes.blocks c.self.inside.root (whole-of c.self.inside.inodes c.self.inside.root c.self.invariant)
    (kept-at c.self.inside.inodes.table c.args.self.now c.self.view_is c.args.node (λ nodes n. IsSome (file_at nodes n)) c.requires.file) c.requires.time c.resize_file.new.inodes.block_total

pub invariant_of-self : goal.invariant_of-self
invariant_of-self c = subst (λ n. IsKept c.resize_file.new.inodes.table n c.self.inside.root) (sym c.resize_file.ensures.entries) (kept-of _ _ _ _ _ (whole c))

pub returns-clause-ok : goal.returns-clause-ok
returns-clause-ok c = nodes-resized c.self.inside.inodes.table c.resize_file.new.inodes.table c.args.node c.args.to c.args.now c.resize_file.result (ok c) c.resize_file.ensures.err c.args.self.now c.self.view_is

pub returns-clause-same : goal.returns-clause-same
returns-clause-same c = keys-resized c.self.inside.inodes.table c.resize_file.new.inodes.table c.args.node c.args.to c.args.now c.resize_file.result (ok c) c.resize_file.ensures.err c.args.self.now c.self.view_is

pub returns-clause-valid : goal.returns-clause-valid
returns-clause-valid c = valid-view _ _ _ _ _ (whole c)

pub returns-clause-keys : goal.returns-clause-keys
returns-clause-keys c = are-keys-view _ _ _ _ _ (whole c)

pub returns-clause-held : goal.returns-clause-held
returns-clause-held c =
    held-resized c.self.inside.inodes.table c.resize_file.new.inodes.table c.args.node c.args.self.now c.self.view_is c.args.to c.args.now c.requires.time c.resize_file.result (ok c) c.resize_file.ensures.err
