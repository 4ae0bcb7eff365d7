use Rattle.std.proofs.Common.{sym}
use Rattle.native_vfs.specs.inside.Texts.{texts}
use Rattle.native_vfs.proofs.walks.TextLemmas.{is-empty, left-later, interrupted}
use Rattle.native_vfs.proofs.path.interrupt.Goals as goal

pub returns-then-is_empty-clause-ok : goal.returns-then-is_empty-clause-ok
returns-then-is_empty-clause-ok c =
    sym (left-later c.args.text.now (texts c.args.later.now.items) (is-empty c.is_empty.result c.args.text.now c.is_empty.ensures c.if-is_empty.true))

pub returns-clause-ok : goal.returns-clause-ok
returns-clause-ok c = interrupted c.args.later.now.items c.push.new.self.items c.args.text c.in_ok-push.ensures.items
