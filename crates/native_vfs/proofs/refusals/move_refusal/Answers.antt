use Rattle.std.proofs.Common.{◌∙◌, Some, None, true, false, refl, sym}
use Rattle.native_vfs.proofs.tables.Reasons.{live-dir, live-node}
use Rattle.native_vfs.proofs.removals.RemovalReasons.{move-refused, stays-outside, stays-file, goes-inside, replaces-some, replaces-none}
use Rattle.native_vfs.proofs.refusals.move_refusal.Goals as goal
use Rattle.native_vfs.proofs.refusals.move_refusal.Goals.{else-is_directory-via-then-is_directory+else-is_in_subtree, else-is_directory-via-else-is_directory, in-Some+in_default-replace_refusal, in_default}

pub is_in_subtree-requires-clause-dir : goal.is_in_subtree-requires-clause-dir
is_in_subtree-requires-clause-dir c = live-dir c.args.inodes.now.table c.args.to.now c.requires.to

pub replace_refusal-requires-clause-old : goal.replace_refusal-requires-clause-old
replace_refusal-requires-clause-old c = live-node c.args.inodes.now.table c.args.to.now c.in-Some.old c.requires.to c.in-Some.is

pub is_orphan-requires : goal.is_orphan-requires
is_orphan-requires c = record { live = live-dir c.args.inodes.now.table c.args.to.now c.requires.to }

pub lacks_cookie-requires : goal.lacks_cookie-requires
lacks_cookie-requires c = record { live = live-dir c.args.inodes.now.table c.args.to.now c.requires.to }

pub returns-then-is_in_subtree : goal.returns-then-is_in_subtree
returns-then-is_in_subtree c =
    move-refused c.args.inodes.now.table c.args.moved c.args.to.now true _ _ _
    (goes-inside c.args.inodes.now.table c.args.moved c.args.to.now (sym c.is_directory.ensures ∙ c.if-is_directory.true) (sym c.is_in_subtree.ensures ∙ c.if-is_in_subtree.true)) refl refl refl

pub returns-in-Some-replace_refusal : goal.returns-in-Some-replace_refusal
returns-in-Some-replace_refusal c =
    move-refused c.args.inodes.now.table c.args.moved c.args.to.now false (Some c.in-Some-replace_refusal.error) _ _
    (elim c.else-is_directory.branch [
      | else-is_directory-via-then-is_directory+else-is_in_subtree w ↦ stays-outside c.args.inodes.now.table c.args.moved c.args.to.now (sym w.is_in_subtree.ensures ∙ w.if-is_in_subtree.false)
      | else-is_directory-via-else-is_directory w ↦ stays-file c.args.inodes.now.table c.args.moved c.args.to.now (sym c.is_directory.ensures ∙ w.if-is_directory.false)
    ])
    (replaces-some c.args.inodes.now.table c.args.moved c.args.to.now c.in-Some.old c.in-Some.is ∙ sym c.replace_refusal.ensures ∙ c.in-Some-replace_refusal.is) refl refl

pub returns-then-is_orphan : goal.returns-then-is_orphan
returns-then-is_orphan c =
    move-refused c.args.inodes.now.table c.args.moved c.args.to.now false None true _
    (elim c.else-is_directory.branch [
      | else-is_directory-via-then-is_directory+else-is_in_subtree w ↦ stays-outside c.args.inodes.now.table c.args.moved c.args.to.now (sym w.is_in_subtree.ensures ∙ w.if-is_in_subtree.false)
      | else-is_directory-via-else-is_directory w ↦ stays-file c.args.inodes.now.table c.args.moved c.args.to.now (sym c.is_directory.ensures ∙ w.if-is_directory.false)
    ])
    (elim c.match-to.branch [
      | in-Some+in_default-replace_refusal w ↦ replaces-some c.args.inodes.now.table c.args.moved c.args.to.now w.in-Some.old w.in-Some.is ∙ sym w.replace_refusal.ensures ∙ w.in_default-replace_refusal.is
      | in_default w ↦ replaces-none c.args.inodes.now.table c.args.moved c.args.to.now w.in_default.is
    ])
    (sym c.is_orphan.ensures ∙ c.if-is_orphan.true) refl

pub returns-then-lacks_cookie : goal.returns-then-lacks_cookie
returns-then-lacks_cookie c =
    move-refused c.args.inodes.now.table c.args.moved c.args.to.now false None false true
    (elim c.else-is_directory.branch [
      | else-is_directory-via-then-is_directory+else-is_in_subtree w ↦ stays-outside c.args.inodes.now.table c.args.moved c.args.to.now (sym w.is_in_subtree.ensures ∙ w.if-is_in_subtree.false)
      | else-is_directory-via-else-is_directory w ↦ stays-file c.args.inodes.now.table c.args.moved c.args.to.now (sym c.is_directory.ensures ∙ w.if-is_directory.false)
    ])
    (elim c.match-to.branch [
      | in-Some+in_default-replace_refusal w ↦ replaces-some c.args.inodes.now.table c.args.moved c.args.to.now w.in-Some.old w.in-Some.is ∙ sym w.replace_refusal.ensures ∙ w.in_default-replace_refusal.is
      | in_default w ↦ replaces-none c.args.inodes.now.table c.args.moved c.args.to.now w.in_default.is
    ])
    (sym c.is_orphan.ensures ∙ c.if-is_orphan.false) (sym c.lacks_cookie.ensures ∙ c.if-lacks_cookie.true)

pub returns : goal.returns
returns c =
    move-refused c.args.inodes.now.table c.args.moved c.args.to.now false None false false
    (elim c.else-is_directory.branch [
      | else-is_directory-via-then-is_directory+else-is_in_subtree w ↦ stays-outside c.args.inodes.now.table c.args.moved c.args.to.now (sym w.is_in_subtree.ensures ∙ w.if-is_in_subtree.false)
      | else-is_directory-via-else-is_directory w ↦ stays-file c.args.inodes.now.table c.args.moved c.args.to.now (sym c.is_directory.ensures ∙ w.if-is_directory.false)
    ])
    (elim c.match-to.branch [
      | in-Some+in_default-replace_refusal w ↦ replaces-some c.args.inodes.now.table c.args.moved c.args.to.now w.in-Some.old w.in-Some.is ∙ sym w.replace_refusal.ensures ∙ w.in_default-replace_refusal.is
      | in_default w ↦ replaces-none c.args.inodes.now.table c.args.moved c.args.to.now w.in_default.is
    ])
    (sym c.is_orphan.ensures ∙ c.if-is_orphan.false) (sym c.lacks_cookie.ensures ∙ c.if-lacks_cookie.false)
