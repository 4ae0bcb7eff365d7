use Rattle.std.proofs.Common.{ℕ, ◌≡◌, ◌+◌, ◌<◌, ◌^◌, Option, Some, None, IfSome, refl, ap, arith, is_some}
use Rattle.kernel_core.specs.NodeCalls.{held}
use Rattle.kernel_core.specs.Nodes.{Inode}
use Rattle.file_system_laws.proofs.NodeLaws.{hold_keeps}
use Rattle.native_vfs.specs.inside.Steps.{holds_in, holds_at}
use Rattle.native_vfs.specs.Keyed.{Keyed, inode_at}
use Rattle.native_vfs.specs.inside.Stored.{number_of_key, nodes_of, keyed_of, Table}
use Rattle.native_vfs.proofs.tables.Kept.{step-distinct, pool-stepped, blocks-stepped, whole-of, kept-of, IsWhole, live-seen, holds-seen, nodes-stepped, keys-stepped, whole-step, valid-view, are-keys-view, inode-alive}
use Rattle.native_vfs.proofs.tables.HeldKeys.{held-hold}
use Rattle.native_vfs.proofs.vfs.Vfs.hold.Goals as goal

few_holds : (o : Option Inode) → IfSome o (λ i. i.holds + 1 < 2 ^ 32) → holds_in o + 1 < 2 ^ 32
few_holds None few = omega arith
few_holds (Some i) few = few

few : (table : Table) (system : Keyed) (key : ℕ) → keyed_of table ≡ system → IfSome (inode_at system key) (λ i. i.holds + 1 < 2 ^ 32) → holds_at table key + 1 < 2 ^ 32
few table system key view free =
    let bound = few_holds (inode_at system key) free in
    let is = holds-seen table system view key in
    omega (arith, bound, is)

pub hold-requires-clause-live : goal.hold-requires-clause-live
hold-requires-clause-live c = live-seen c.self.inside.inodes.table c.args.self.now c.self.view_is c.args.node c.requires.live

pub hold-requires-clause-few : goal.hold-requires-clause-few
hold-requires-clause-few c = few c.self.inside.inodes.table c.args.self.now c.args.node c.self.view_is c.requires.few

whole : (c : goal.After-self-1) → IsWhole c.hold.new.table c.self.inside.inodes.numbers c.self.inside.inodes.entries c.self.inside.inodes.blocks c.self.inside.root
whole c =
    whole-step c.self.inside.inodes.table c.hold.new.table c.args.node held c.hold.ensures.step c.self.inside.inodes.numbers c.self.inside.inodes.entries c.self.inside.inodes.blocks c.self.inside.root (whole-of c.self.inside.inodes c.self.inside.root c.self.invariant)
    (hold_keeps (nodes_of c.self.inside.inodes.table) (number_of_key c.self.inside.inodes.table c.args.node) c.self.invariant.sound.system
    (λ i found. let e = ap holds_in found in let h = few c.self.inside.inodes.table c.args.self.now c.args.node c.self.view_is c.requires.few in omega (arith, e, h)))
    (λ i. refl)

pub invariant_of-self-inside : goal.invariant_of-self-inside
invariant_of-self-inside c = record {
  distinct = step-distinct c.self.inside.inodes.table c.hold.new.table c.args.node _ c.hold.ensures.step c.self.inside.inodes.distinct;
  pool = pool-stepped c.self.inside.inodes.table c.hold.new.table c.args.node _ c.hold.ensures.step c.self.inside.inodes.numbers c.self.inside.inodes.pool;
  block_total = blocks-stepped c.self.inside.inodes.table c.hold.new.table c.args.node _ c.hold.ensures.step (λ i. refl) c.self.inside.inodes.blocks c.self.inside.inodes.block_total;
}

pub invariant_of-self : goal.invariant_of-self
invariant_of-self c = kept-of _ _ _ _ _ (whole c)

pub returns-clause-nodes : goal.returns-clause-nodes
returns-clause-nodes c = nodes-stepped c.self.inside.inodes.table c.hold.new.table c.args.node held c.hold.ensures.step c.args.self.now c.self.view_is

pub returns-clause-same : goal.returns-clause-same
returns-clause-same c = keys-stepped c.self.inside.inodes.table c.hold.new.table c.args.node held c.hold.ensures.step c.args.self.now c.self.view_is

pub returns-clause-valid : goal.returns-clause-valid
returns-clause-valid c = valid-view _ _ _ _ _ (whole c)

pub returns-clause-keys : goal.returns-clause-keys
returns-clause-keys c = are-keys-view _ _ _ _ _ (whole c)

pub returns-clause-held : goal.returns-clause-held
returns-clause-held c =
    let alive = inode-alive c.self.inside.inodes.table c.args.self.now c.self.view_is c.self.inside.inodes.distinct c.args.node c.requires.live in
    held-hold c.args.self.now (keyed_of c.hold.new.table) c.args.node (ap is_some alive.2) (returns-clause-nodes c) (returns-clause-same c)
