use Rattle.std.proofs.Common.{sym, subst}
use Rattle.std.specs.Prelude.{Result}
use Rattle.kernel_core.specs.PathWalk.{Place}
use Rattle.kernel_core.specs.declared.error.Errno.{Errno}
use Rattle.native_files.specs.Answers.{base_of}
use Rattle.native_files.specs.inside.Walks.{LeadsTo}
use Rattle.native_files.proofs.Walked.{not-empty, other-begins, slash-begins, walk_in-base, walk_in-slash, walked-leads}
use Rattle.native_files.proofs.walking.walk.Goals as goal
use Rattle.native_vfs.specs.Keyed.{number_at}

pub returns-then-path-eq47 : goal.returns-then-path-eq47
returns-then-path-eq47 c =
    let vfs = c.args.vfs.now in
    let home = number_at vfs c.args.directory in
    let path = c.args.from.path.now in
    let slash = slash-begins path (not-empty path c.if-is_empty.ensures) c.if-path-eq47.true in
    subst (λ (w : Result Place Errno). LeadsTo vfs w c.walk.result)
    (sym (walk_in-slash vfs.nodes c.args.table.now home (base_of c.args.from.base) c.args.follow path home slash))
    (walked-leads vfs home path c.args.follow c.walk.result c.walk.ensures)

pub returns-in-Ok : goal.returns-in-Ok
returns-in-Ok c =
    let vfs = c.args.vfs.now in
    let home = number_at vfs c.args.directory in
    let from = number_at vfs c.in-Ok.start in
    let path = c.args.from.path.now in
    let some = not-empty path c.if-is_empty.ensures in
    let other = other-begins path some c.if-path-eq47.false in
    subst (λ (w : Result Place Errno). LeadsTo vfs w c.walk-in-Ok.result)
    (sym (walk_in-base vfs.nodes c.args.table.now home (base_of c.args.from.base) c.args.follow path from some other c.in-Ok.ensures.0))
    (walked-leads vfs from path c.args.follow c.walk-in-Ok.result c.walk-in-Ok.ensures)
