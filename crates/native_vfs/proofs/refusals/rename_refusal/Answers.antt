use Rattle.std.proofs.Common.{◌∙◌, true, false, refl, sym, ap}
use Rattle.kernel_core.specs.NameCalls.{is_no_entry}
use Rattle.native_vfs.proofs.tables.Reasons.{live-node}
use Rattle.native_vfs.proofs.removals.RemovalReasons.{rename-refused, both-proper}
use Rattle.native_vfs.proofs.refusals.rename_refusal.Goals as goal

pub stands_for-requires-clause-live : goal.stands_for-requires-clause-live
stands_for-requires-clause-live c = live-node c.args.inodes.now.table c.args.from.now c.in-Some.moved c.requires.from c.in-Some.is

pub move_refusal-requires-clause-live : goal.move_refusal-requires-clause-live
move_refusal-requires-clause-live c = live-node c.args.inodes.now.table c.args.from.now c.in-Some.moved c.requires.from c.in-Some.is

pub returns-then-stands_for : goal.returns-then-stands_for
returns-then-stands_for c =
    rename-refused c.args.inodes.now.table c.args.from.now c.args.to.now c.requires.from c.in-Some.moved c.in-Some.is false true _
    (both-proper _ _ (ap is_no_entry (sym c.as_slice.ensures) ∙ sym c.is_no_entry.ensures ∙ c.if-is_no_entry.false)
    (ap is_no_entry (sym c.as_slice-else-is_no_entry.ensures) ∙ sym c.is_no_entry-else-is_no_entry.ensures ∙ c.if-is_no_entry-2.false))
    (sym c.stands_for.ensures ∙ c.if-stands_for.true) refl

pub returns : goal.returns
returns c =
    rename-refused c.args.inodes.now.table c.args.from.now c.args.to.now c.requires.from c.in-Some.moved c.in-Some.is false false c.move_refusal.result
    (both-proper _ _ (ap is_no_entry (sym c.as_slice.ensures) ∙ sym c.is_no_entry.ensures ∙ c.if-is_no_entry.false)
    (ap is_no_entry (sym c.as_slice-else-is_no_entry.ensures) ∙ sym c.is_no_entry-else-is_no_entry.ensures ∙ c.if-is_no_entry-2.false))
    (sym c.stands_for.ensures ∙ c.if-stands_for.false) (sym c.move_refusal.ensures)
