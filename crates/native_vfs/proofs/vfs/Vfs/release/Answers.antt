use Rattle.std.proofs.Common.{◌≡◌, ◌<◌, IfSome, refl, sym, ap, subst, ◌∙◌, arith}
use Rattle.kernel_core.specs.NodeCalls.{let_go}
use Rattle.native_vfs.specs.inside.Steps.{holds_in, holds_at}
use Rattle.native_vfs.specs.inside.Stored.{nodes_of, number_of_key, keyed_of, IsKept}
use Rattle.native_vfs.proofs.tables.Kept.{whole-of, kept-of, IsWhole, live-seen, inode-alive, holds-seen, pool-stepped, valid-view, are-keys-view, step-distinct, blocks-stepped}
use Rattle.native_vfs.proofs.removals.Release.{let_go-unnamed, nodes-released-seen, keys-released, whole-released}
use Rattle.native_vfs.proofs.tables.Tables.{live-kept}
use Rattle.native_vfs.proofs.tables.HeldKeys.{held-release}
use Rattle.native_vfs.proofs.vfs.Vfs.release.Goals as goal

pub let_go-requires-clause-live : goal.let_go-requires-clause-live
let_go-requires-clause-live c = live-seen c.self.inside.inodes.table c.args.self.now c.self.view_is c.args.node c.requires.live

pub let_go-requires-clause-some : goal.let_go-requires-clause-some
let_go-requires-clause-some c =
    let alive = inode-alive c.self.inside.inodes.table c.args.self.now c.self.view_is c.self.inside.inodes.distinct c.args.node c.requires.live in
    let held : 0 < alive.0.holds = subst (λ o. IfSome o (λ i. 0 < i.holds)) alive.2 c.requires.held in
    let is : holds_at c.self.inside.inodes.table c.args.node ≡ alive.0.holds =
    holds-seen c.self.inside.inodes.table c.args.self.now c.self.view_is c.args.node ∙ ap holds_in alive.2 in
    omega (arith, held, is)

pub settle-requires-clause-live : goal.settle-requires-clause-live
settle-requires-clause-live c =
    live-kept c.self.inside.inodes.table c.let_go.new.table c.let_go.ensures.step.numbers c.args.node
    (live-seen c.self.inside.inodes.table c.args.self.now c.self.view_is c.args.node c.requires.live)

pub settle-requires-clause-unnamed : goal.settle-requires-clause-unnamed
settle-requires-clause-unnamed c = let_go-unnamed c.self.inside.inodes.table c.let_go.new.table c.args.node c.let_go.ensures.step c.self.invariant.sound.system

pub invariant_of-self-inside : goal.invariant_of-self-inside
invariant_of-self-inside c = record {
  distinct = step-distinct c.self.inside.inodes.table c.let_go.new.table c.args.node let_go c.let_go.ensures.step c.self.inside.inodes.distinct;
  pool = pool-stepped c.self.inside.inodes.table c.let_go.new.table c.args.node let_go c.let_go.ensures.step c.self.inside.inodes.numbers c.self.inside.inodes.pool;
  block_total = blocks-stepped c.self.inside.inodes.table c.let_go.new.table c.args.node let_go c.let_go.ensures.step (λ i. refl) c.self.inside.inodes.blocks c.self.inside.inodes.block_total;
}

whole : (c : goal.After-settle) → IsWhole c.settle.new.inodes.table c.settle.new.inodes.numbers c.self.inside.inodes.entries c.settle.new.inodes.blocks c.self.inside.root
whole c =
    whole-released c.self.inside.inodes.table c.let_go.new.table c.args.node c.let_go.ensures.step c.settle.new.inodes.table c.settle.ensures.settled c.self.inside.inodes.numbers c.settle.new.inodes.numbers
    c.self.inside.inodes.entries c.self.inside.inodes.blocks c.settle.new.inodes.blocks c.self.inside.root (whole-of c.self.inside.inodes c.self.inside.root c.self.invariant) c.settle.new.inodes.pool c.settle.new.inodes.block_total

pub invariant_of-self : goal.invariant_of-self
invariant_of-self c = subst (λ n. IsKept c.settle.new.inodes.table n c.self.inside.root) (sym c.settle.ensures.entries) (kept-of _ _ _ _ _ (whole c))

pub returns-clause-nodes : goal.returns-clause-nodes
returns-clause-nodes c =
    nodes-released-seen c.self.inside.inodes.table c.let_go.new.table c.args.node c.let_go.ensures.step c.settle.new.inodes.table c.settle.ensures.settled c.args.self.now c.self.view_is

pub returns-clause-kept : goal.returns-clause-kept
returns-clause-kept c =
    keys-released c.self.inside.inodes.table c.let_go.new.table c.args.node c.let_go.ensures.step c.settle.new.inodes.table c.settle.ensures.settled c.args.self.now c.self.view_is

pub returns-clause-valid : goal.returns-clause-valid
returns-clause-valid c = valid-view _ _ _ _ _ (whole c)

pub returns-clause-keys : goal.returns-clause-keys
returns-clause-keys c = are-keys-view _ _ _ _ _ (whole c)

pub returns-clause-held : goal.returns-clause-held
returns-clause-held c = held-release c.args.self.now (keyed_of c.settle.new.inodes.table) c.args.node (returns-clause-nodes c) (returns-clause-kept c)
