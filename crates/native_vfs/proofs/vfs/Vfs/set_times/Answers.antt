use Rattle.std.proofs.Common.{◌≡◌, ℤ, Option, Some, IfSome, refl, subst}
use Rattle.kernel_core.specs.FileSystem.{IsTime}
use Rattle.kernel_core.specs.NodeCalls.{with_times}
use Rattle.file_system_laws.proofs.NodeLaws.{times_keep}
use Rattle.std.specs.Int.{w128}
use Rattle.std.proofs.Math.Facts.{to_z-of_z}
use Rattle.native_vfs.specs.inside.Stored.{IsStep, number_of_key, nodes_of, keyed_of}
use Rattle.native_vfs.proofs.tables.Kept.{step-distinct, pool-stepped, blocks-stepped, whole-of, kept-of, IsWhole, live-seen, nodes-stepped, keys-stepped, whole-step, valid-view, are-keys-view}
use Rattle.file_system_laws.proofs.HeldNodes.{keeps-lost, times_lose}
use Rattle.native_vfs.proofs.tables.HeldKeys.{held-same_keys}
use Rattle.native_vfs.specs.Keyed.{number_at}
use Rattle.native_vfs.proofs.vfs.Vfs.set_times.Goals as goal

given : (o : Option ℤ) → IfSome o IsTime → (time : ℤ) → o ≡ Some time → IsTime time
given o is time same = subst (λ o. IfSome o IsTime) same is

pub set_times-requires-clause-live : goal.set_times-requires-clause-live
set_times-requires-clause-live c = live-seen c.self.inside.inodes.table c.args.self.now c.self.view_is c.args.node c.requires.live

step : (c : goal.After-self-1) → IsStep c.self.inside.inodes.table c.set_times.new.table c.args.node (with_times c.args.access c.args.modified c.args.now)
step c = subst (λ t. IsStep c.self.inside.inodes.table c.set_times.new.table c.args.node (with_times c.args.access c.args.modified t)) (to_z-of_z {w = w128} {z = c.args.now} c.ranges.now) c.set_times.ensures.step

whole : (c : goal.After-self-1) → IsWhole c.set_times.new.table c.self.inside.inodes.numbers c.self.inside.inodes.entries c.self.inside.inodes.blocks c.self.inside.root
whole c =
    whole-step c.self.inside.inodes.table c.set_times.new.table c.args.node (with_times c.args.access c.args.modified c.args.now)
    (step c) c.self.inside.inodes.numbers c.self.inside.inodes.entries c.self.inside.inodes.blocks c.self.inside.root (whole-of c.self.inside.inodes c.self.inside.root c.self.invariant)
    (times_keep (nodes_of c.self.inside.inodes.table) (number_of_key c.self.inside.inodes.table c.args.node) c.self.invariant.sound.system c.args.access c.args.modified
    c.args.now (given c.args.access c.requires.access) (given c.args.modified c.requires.modified) c.requires.time)
    (λ i. refl)

pub invariant_of-self-inside : goal.invariant_of-self-inside
invariant_of-self-inside c = record {
  distinct = step-distinct c.self.inside.inodes.table c.set_times.new.table c.args.node _ c.set_times.ensures.step c.self.inside.inodes.distinct;
  pool = pool-stepped c.self.inside.inodes.table c.set_times.new.table c.args.node _ c.set_times.ensures.step c.self.inside.inodes.numbers c.self.inside.inodes.pool;
  block_total = blocks-stepped c.self.inside.inodes.table c.set_times.new.table c.args.node _ c.set_times.ensures.step (λ i. refl) c.self.inside.inodes.blocks c.self.inside.inodes.block_total;
}

pub invariant_of-self : goal.invariant_of-self
invariant_of-self c = kept-of _ _ _ _ _ (whole c)

pub returns-clause-nodes : goal.returns-clause-nodes
returns-clause-nodes c = nodes-stepped c.self.inside.inodes.table c.set_times.new.table c.args.node (with_times c.args.access c.args.modified c.args.now) (step c) c.args.self.now c.self.view_is

pub returns-clause-same : goal.returns-clause-same
returns-clause-same c = keys-stepped c.self.inside.inodes.table c.set_times.new.table c.args.node (with_times c.args.access c.args.modified c.args.now) (step c) c.args.self.now c.self.view_is

pub returns-clause-valid : goal.returns-clause-valid
returns-clause-valid c = valid-view _ _ _ _ _ (whole c)

pub returns-clause-keys : goal.returns-clause-keys
returns-clause-keys c = are-keys-view _ _ _ _ _ (whole c)

pub returns-clause-held : goal.returns-clause-held
returns-clause-held c =
    held-same_keys c.args.self.now (keyed_of c.set_times.new.table) _ (returns-clause-nodes c)
    (keeps-lost _ _ (times_lose c.args.self.now.nodes (number_at c.args.self.now c.args.node) c.args.access c.args.modified c.args.now)) (returns-clause-same c)
