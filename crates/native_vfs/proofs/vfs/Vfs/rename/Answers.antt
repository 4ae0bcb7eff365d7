use Rattle.std.proofs.Common.{◌∙◌, sym, ap, subst, refl}
use Rattle.std.specs.Int.{w128}
use Rattle.std.proofs.lemmas.Result.{err_from_is_err_and}
use Rattle.std.proofs.Math.Facts.{to_z-of_z}
use Rattle.kernel_core.specs.NameCalls.{rename_refusal, after_move}
use Rattle.native_vfs.specs.Keyed.{Keyed, AgreesAt, place_at, number_at}
use Rattle.native_vfs.proofs.removals.Ends.{valid-seen, are-keys-seen}
use Rattle.native_vfs.proofs.tables.Reasons.{live-node}
use Rattle.native_vfs.proofs.renames.RenameEnds.{seen-both, seen-node, keeps-seen-same, renamed-same, renamed-moved}
use Rattle.file_system_laws.proofs.HeldNodes.{keeps-lost, rename_loses}
use Rattle.native_vfs.proofs.tables.HeldKeys.{held-same, held-kept, loses-with_node}
use Rattle.native_vfs.proofs.vfs.Vfs.rename.Goals as goal

pub returns-in-Some-clause-answer : goal.returns-in-Some-clause-answer
returns-in-Some-clause-answer c = sym (seen-both c.self.inside.inodes.table c.args.self.now c.self.view_is rename_refusal c.args.from.now c.args.to.now) ∙ sym c.rename_refusal.ensures ∙ c.in-Some.is

pub returns-in-Some-clause-valid : goal.returns-in-Some-clause-valid
returns-in-Some-clause-valid c = valid-seen c.self.inside.inodes.table c.args.self.now c.self.view_is c.self.inside.inodes.entries c.self.invariant.sound

pub returns-in-Some-clause-keys : goal.returns-in-Some-clause-keys
returns-in-Some-clause-keys c = are-keys-seen c.self.inside.inodes.table c.args.self.now c.self.view_is c.self.inside.inodes.distinct

pub stands_for-requires-clause-live : goal.stands_for-requires-clause-live
stands_for-requires-clause-live c =
    live-node c.self.inside.inodes.table c.args.from.now c.in-Some-node.moved (subst (λ (s : Keyed). AgreesAt s c.args.from.now) (sym c.self.view_is) c.requires.from) c.in-Some-node.is

pub returns-then-stands_for-clause-answer : goal.returns-then-stands_for-clause-answer
returns-then-stands_for-clause-answer c = sym (seen-both c.self.inside.inodes.table c.args.self.now c.self.view_is rename_refusal c.args.from.now c.args.to.now) ∙ sym c.rename_refusal.ensures ∙ c.in_default.is

pub returns-then-stands_for-clause-ok : goal.returns-then-stands_for-clause-ok
returns-then-stands_for-clause-ok c =
    renamed-same c.args.self.now c.args.from.now c.args.to.now c.in-Some-node.moved c.in-Some-node.is c.args.now
    (sym (seen-node c.self.inside.inodes.table c.args.self.now c.self.view_is c.args.to.now c.in-Some-node.moved) ∙ sym c.stands_for.ensures ∙ c.if-stands_for.true)

pub returns-then-stands_for-clause-kept : goal.returns-then-stands_for-clause-kept
returns-then-stands_for-clause-kept c = keeps-seen-same c.self.inside.inodes.table c.args.self.now c.self.view_is c.self.inside.inodes.distinct

pub returns-then-stands_for-clause-valid : goal.returns-then-stands_for-clause-valid
returns-then-stands_for-clause-valid c = valid-seen c.self.inside.inodes.table c.args.self.now c.self.view_is c.self.inside.inodes.entries c.self.invariant.sound

pub returns-then-stands_for-clause-keys : goal.returns-then-stands_for-clause-keys
returns-then-stands_for-clause-keys c = are-keys-seen c.self.inside.inodes.table c.args.self.now c.self.view_is c.self.inside.inodes.distinct

pub move_entry-requires-clause-other : goal.move_entry-requires-clause-other
move_entry-requires-clause-other c = sym (seen-node c.self.inside.inodes.table c.args.self.now c.self.view_is c.args.to.now c.in-Some-node.moved) ∙ sym c.stands_for.ensures ∙ c.if-stands_for.false

pub move_entry-requires-clause-allowed : goal.move_entry-requires-clause-allowed
move_entry-requires-clause-allowed c = sym (seen-both c.self.inside.inodes.table c.args.self.now c.self.view_is rename_refusal c.args.from.now c.args.to.now) ∙ sym c.rename_refusal.ensures ∙ c.in_default.is

pub returns-clause-answer : goal.returns-clause-answer
returns-clause-answer c = sym (seen-both c.self.inside.inodes.table c.args.self.now c.self.view_is rename_refusal c.args.from.now c.args.to.now) ∙ sym c.rename_refusal.ensures ∙ c.in_default.is

pub returns-clause-ok : goal.returns-clause-ok
returns-clause-ok c =
    c.in_ok-move_entry.ensures.ok
    ∙ ap (after_move c.args.self.now.nodes (place_at c.args.self.now c.args.from.now) (place_at c.args.self.now c.args.to.now) (number_at c.args.self.now c.in-Some-node.moved))
    (to_z-of_z {w = w128} {z = c.args.now} c.ranges.now)
    ∙ renamed-moved c.args.self.now c.args.from.now c.args.to.now c.in-Some-node.moved c.in-Some-node.is c.args.now
    (sym (seen-node c.self.inside.inodes.table c.args.self.now c.self.view_is c.args.to.now c.in-Some-node.moved) ∙ sym c.stands_for.ensures ∙ c.if-stands_for.false)

pub returns-in_err-move_entry-clause-answer : goal.returns-in_err-move_entry-clause-answer
returns-in_err-move_entry-clause-answer c =
    let p = err_from_is_err_and c.from_residual.result c.from_residual.ensures.1 in
    rw (p.1, p.2) (sym (seen-both c.self.inside.inodes.table c.args.self.now c.self.view_is rename_refusal c.args.from.now c.args.to.now) ∙ sym c.rename_refusal.ensures ∙ c.in_default.is)

pub returns-in-Some-clause-held : goal.returns-in-Some-clause-held
returns-in-Some-clause-held c = held-same c.args.self.now c.args.self.now refl

pub returns-then-stands_for-clause-held : goal.returns-then-stands_for-clause-held
returns-then-stands_for-clause-held c = held-same c.args.self.now c.args.self.now refl

pub returns-clause-held : goal.returns-clause-held
returns-clause-held c =
    held-kept c.args.self.now c.move_entry.new.self _ (returns-clause-ok c)
    (keeps-lost _ _ (loses-with_node (place_at c.args.self.now c.args.from.now).node c.args.self.now.nodes _
    (λ moved. rename_loses c.args.self.now.nodes (place_at c.args.self.now c.args.from.now) (place_at c.args.self.now c.args.to.now) moved c.args.now)))
    c.in_ok-move_entry.ensures.kept

pub returns-in_err-move_entry-clause-held : goal.returns-in_err-move_entry-clause-held
returns-in_err-move_entry-clause-held c = held-same c.args.self.now c.move_entry.new.self c.in_err-move_entry.ensures.err
