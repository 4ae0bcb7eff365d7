use Rattle.std.proofs.Common.{sym, ap, subst, ◌∙◌, refl}
use Rattle.std.specs.Int.{w128}
use Rattle.std.proofs.Math.Facts.{to_z-of_z}
use Rattle.kernel_core.specs.NameCalls.{rmdir_refusal, after_rmdir}
use Rattle.native_vfs.specs.Keyed.{AgreesAt, place_at}
use Rattle.native_vfs.specs.inside.Stored.{nodes_of, keyed_of, number_of_key}
use Rattle.native_vfs.proofs.removals.Ends.{seen-at, valid-seen, are-keys-seen, after-seen, keeps-seen, kept-lost, rmdir-may}
use Rattle.native_vfs.proofs.tables.Kept.{valid-sound}
use Rattle.native_vfs.proofs.removals.Stages.{named-node}
use Rattle.file_system_laws.proofs.HeldNodes.{keeps-lost, rmdir_loses}
use Rattle.native_vfs.proofs.tables.HeldKeys.{held-same, held-kept, loses-with_node}
use Rattle.native_vfs.proofs.tables.Tables.{AreKeys-table}
use Rattle.native_vfs.proofs.vfs.Vfs.rmdir.Goals as goal

pub returns-in-Some-clause-answer : goal.returns-in-Some-clause-answer
returns-in-Some-clause-answer c = sym (seen-at c.self.inside.inodes.table c.args.self.now c.self.view_is rmdir_refusal c.args.at.now) ∙ sym c.rmdir_refusal.ensures ∙ c.in-Some.is

pub returns-in-Some-clause-valid : goal.returns-in-Some-clause-valid
returns-in-Some-clause-valid c = valid-seen c.self.inside.inodes.table c.args.self.now c.self.view_is c.self.inside.inodes.entries c.self.invariant.sound

pub returns-in-Some-clause-keys : goal.returns-in-Some-clause-keys
returns-in-Some-clause-keys c = are-keys-seen c.self.inside.inodes.table c.args.self.now c.self.view_is c.self.inside.inodes.distinct

pub rmdir_at-requires-clause-entry : goal.rmdir_at-requires-clause-entry
rmdir_at-requires-clause-entry c =
    (rmdir-may (nodes_of c.self.inside.inodes.table) (place_at (keyed_of c.self.inside.inodes.table) c.args.at.now) (number_of_key c.self.inside.inodes.table c.in-Some-node.node)
    (named-node c.self.inside.inodes.table c.args.at.now (subst (λ s. AgreesAt s c.args.at.now) (sym c.self.view_is) c.requires.agrees) c.in-Some-node.node c.in-Some-node.is)
    (sym c.rmdir_refusal.ensures ∙ c.in_default.is)).plain

pub rmdir_at-requires-clause-directory : goal.rmdir_at-requires-clause-directory
rmdir_at-requires-clause-directory c =
    (rmdir-may (nodes_of c.self.inside.inodes.table) (place_at (keyed_of c.self.inside.inodes.table) c.args.at.now) (number_of_key c.self.inside.inodes.table c.in-Some-node.node)
    (named-node c.self.inside.inodes.table c.args.at.now (subst (λ s. AgreesAt s c.args.at.now) (sym c.self.view_is) c.requires.agrees) c.in-Some-node.node c.in-Some-node.is)
    (sym c.rmdir_refusal.ensures ∙ c.in_default.is)).kind

pub rmdir_at-requires-clause-empty : goal.rmdir_at-requires-clause-empty
rmdir_at-requires-clause-empty c =
    (rmdir-may (nodes_of c.self.inside.inodes.table) (place_at (keyed_of c.self.inside.inodes.table) c.args.at.now) (number_of_key c.self.inside.inodes.table c.in-Some-node.node)
    (named-node c.self.inside.inodes.table c.args.at.now (subst (λ s. AgreesAt s c.args.at.now) (sym c.self.view_is) c.requires.agrees) c.in-Some-node.node c.in-Some-node.is)
    (sym c.rmdir_refusal.ensures ∙ c.in_default.is)).empty

pub invariant_of-self : goal.invariant_of-self
invariant_of-self c =
    kept-lost c.self.inside.inodes.table c.rmdir_at.new.inodes.table c.in-Some-node.node c.self.inside.inodes.entries c.rmdir_at.new.inodes.entries c.self.inside.root
    c.self.invariant c.rmdir_at.ensures.sound c.rmdir_at.ensures.loss

pub returns-clause-answer : goal.returns-clause-answer
returns-clause-answer c = sym (seen-at c.self.inside.inodes.table c.args.self.now c.self.view_is rmdir_refusal c.args.at.now) ∙ sym c.rmdir_refusal.ensures ∙ c.in_default.is

pub returns-clause-ok : goal.returns-clause-ok
returns-clause-ok c =
    after-seen c.self.inside.inodes.table c.args.self.now c.self.view_is (λ nodes place node. after_rmdir nodes place node c.args.now) c.args.at.now
    c.in-Some-node.node c.in-Some-node.is c.rmdir_at.new.inodes.table
    (c.rmdir_at.ensures.nodes ∙ ap (after_rmdir (nodes_of c.self.inside.inodes.table) (place_at (keyed_of c.self.inside.inodes.table) c.args.at.now) (number_of_key c.self.inside.inodes.table c.in-Some-node.node))
    (to_z-of_z {w = w128} {z = c.args.now} c.ranges.now))

pub returns-clause-kept : goal.returns-clause-kept
returns-clause-kept c = keeps-seen c.self.inside.inodes.table c.args.self.now c.self.view_is c.rmdir_at.new.inodes.table c.rmdir_at.ensures.loss.keys

pub returns-clause-valid : goal.returns-clause-valid
returns-clause-valid c = valid-sound _ _ c.rmdir_at.ensures.sound

pub returns-clause-keys : goal.returns-clause-keys
returns-clause-keys c = AreKeys-table _ c.rmdir_at.new.inodes.distinct

pub returns-in-Some-clause-held : goal.returns-in-Some-clause-held
returns-in-Some-clause-held c = held-same c.args.self.now c.args.self.now refl

pub returns-clause-held : goal.returns-clause-held
returns-clause-held c =
    held-kept c.args.self.now (keyed_of c.rmdir_at.new.inodes.table) _ (returns-clause-ok c)
    (keeps-lost _ _ (loses-with_node (place_at c.args.self.now c.args.at.now).node c.args.self.now.nodes _ (λ node. rmdir_loses c.args.self.now.nodes (place_at c.args.self.now c.args.at.now) node c.args.now)))
    (returns-clause-kept c)
