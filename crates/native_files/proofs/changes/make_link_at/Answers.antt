use Rattle.std.proofs.Common.{of_z, subst, to_z}
use Rattle.std.proofs.Math.Facts.{to_z-of_z}
use Rattle.std.specs.Int.{w128}
use Rattle.kernel_core.specs.NameCalls as names
use Rattle.kernel_core.specs.Queries.{new_number}
use Rattle.kernel_core.specs.declared.error.Errno.TheVariants.{ENOENT}
use Rattle.native_files.specs.inside.Changes.{Changes, first_reason}
use Rattle.native_files.proofs.Made.{made-changes}
use Rattle.native_files.proofs.changes.make_link_at.Goals as goal
use Rattle.native_vfs.specs.Keyed.{place_at}

pub returns-clause-changed : goal.returns-clause-changed
returns-clause-changed c =
    let vfs = c.args.vfs.now in
    let place = place_at vfs c.args.at.now in
    let target = c.args.target.now in
    let refusal = names.symlink_refusal vfs.nodes place target in
    subst (λ b. Changes vfs.nodes (first_reason b ENOENT refusal) (names.after_symlink vfs.nodes place (new_number vfs.nodes) target c.args.now) c.symlink.result c.symlink.new.self.nodes)
    (c.if-is_missing_before_slash.ensures vfs)
    (subst (λ time. Changes vfs.nodes refusal (names.after_symlink vfs.nodes place (new_number vfs.nodes) target time) c.symlink.result c.symlink.new.self.nodes)
    (to_z-of_z {w = w128} {z = c.args.now} c.ranges.now)
    (made-changes vfs c.symlink.new.self refusal (λ number. names.after_symlink vfs.nodes place number target (to_z w128 (of_z w128 c.args.now))) c.symlink.result
    c.symlink.ensures.answer c.symlink.ensures.made c.symlink.ensures.err))
