use Rattle.std.proofs.Common.{true, false, refl, sym, ap, ◌∙◌}
use Rattle.native_vfs.proofs.tables.Reasons.{live-dir, name-refused, in_order, is_full, no_room}
use Rattle.native_vfs.proofs.refusals.name_refusal.Goals as goal
use Rattle.native_vfs.proofs.refusals.name_refusal.Goals.{then-full-via-then-full, then-full-via-else-full+then-lacks_cookie}

pub is_orphan-requires : goal.is_orphan-requires
is_orphan-requires c = record { live = live-dir c.args.inodes.now.table c.args.at.now c.requires.agrees }

pub lacks_cookie-requires : goal.lacks_cookie-requires
lacks_cookie-requires c = record { live = live-dir c.args.inodes.now.table c.args.at.now c.requires.agrees }

pub returns-then-is_orphan : goal.returns-then-is_orphan
returns-then-is_orphan c =
    name-refused c.args.inodes.now.table c.args.at.now c.args.full false true _ (sym c.is_some.ensures ∙ c.if-is_some.false)
    (sym c.is_orphan.ensures ∙ c.if-is_orphan.true) refl

pub returns-then-full : goal.returns-then-full
returns-then-full c = elim c.then-full.branch [
  | then-full-via-then-full w ↦
      is_full c.args.full _ w.if-full.true
      ∙ name-refused c.args.inodes.now.table c.args.at.now c.args.full false false _ (sym c.is_some.ensures ∙ c.if-is_some.false)
      (sym c.is_orphan.ensures ∙ c.if-is_orphan.false) refl
  | then-full-via-else-full+then-lacks_cookie w ↦
      no_room c.args.full
      ∙ name-refused c.args.inodes.now.table c.args.at.now c.args.full false false true (sym c.is_some.ensures ∙ c.if-is_some.false)
      (sym c.is_orphan.ensures ∙ c.if-is_orphan.false) (sym w.lacks_cookie.ensures ∙ w.if-lacks_cookie.true)
]

pub returns : goal.returns
returns c =
    ap (λ b. in_order b false false false) (sym c.if-full.false)
    ∙ name-refused c.args.inodes.now.table c.args.at.now c.args.full false false false (sym c.is_some.ensures ∙ c.if-is_some.false)
    (sym c.is_orphan.ensures ∙ c.if-is_orphan.false) (sym c.lacks_cookie.ensures ∙ c.if-lacks_cookie.false)
