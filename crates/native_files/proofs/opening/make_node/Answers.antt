use Rattle.std.proofs.Common.{ℤ, SFits, not, of_z, rules, subst, to_z}
use Rattle.std.proofs.Math.Facts.{to_z-of_z}
use Rattle.std.specs.Int.{w128}
use Rattle.std.specs.Prelude.{Err, Result, if◌then◌else◌}
use Rattle.kernel_core.specs.NameCalls.{after_create, make_refusal}
use Rattle.kernel_core.specs.Queries.{new_number}
use Rattle.kernel_core.specs.declared.error.Errno.{Errno}
use Rattle.kernel_core.specs.declared.error.Errno.TheVariants.{ENOENT}
use Rattle.kernel_model.specs.Paths.{is_missing_before_slash}
use Rattle.native_files.specs.inside.Openings.{Opened, Opens, unless_refused}
use Rattle.native_files.proofs.Made.{made-opens}
use Rattle.native_files.proofs.opening.make_node.Goals as goal
use Rattle.native_vfs.specs.Keyed.{place_at}

pub returns-clause-opened : goal.returns-clause-opened
returns-clause-opened c =
    let vfs = c.args.vfs.now in
    let place = place_at vfs c.args.at.now in
    let refusal = make_refusal vfs.nodes place in
    let made : ℤ → Result Opened Errno = λ time.
    unless_refused refusal (record { nodes = after_create vfs.nodes place (new_number vfs.nodes) c.args.how.mode time; node = new_number vfs.nodes }) in
    let fits : SFits w128 c.args.how.now = search rules in
    subst (λ b. Opens vfs.nodes (if not b then Err ENOENT else (if is_missing_before_slash c.args.path.now place then Err ENOENT else made c.args.how.now)) c.create.result c.create.new.self)
    c.if-not-creat.ensures
    (subst (λ b. Opens vfs.nodes (if b then Err ENOENT else made c.args.how.now) c.create.result c.create.new.self)
    (c.if-is_missing_before_slash.ensures vfs)
    (subst (λ time. Opens vfs.nodes (made time) c.create.result c.create.new.self) (to_z-of_z {w = w128} {z = c.args.how.now} fits)
    (made-opens vfs c.create.new.self refusal (λ number. after_create vfs.nodes place number c.args.how.mode (to_z w128 (of_z w128 c.args.how.now))) c.create.result c.create.ensures.answer c.create.ensures.made c.create.ensures.err)))
