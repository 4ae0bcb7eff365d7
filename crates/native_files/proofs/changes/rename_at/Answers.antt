use Rattle.std.proofs.Common.{ap, of_z, subst, to_z}
use Rattle.std.proofs.Math.Facts.{to_z-of_z}
use Rattle.std.specs.Int.{w128}
use Rattle.std.specs.Prelude.{option_map}
use Rattle.kernel_core.specs.NameCalls as names
use Rattle.kernel_core.specs.declared.error.Errno.TheVariants.{ENOENT}
use Rattle.native_files.specs.inside.Changes.{Changes, first_reason}
use Rattle.native_files.proofs.Made.{moved-changes}
use Rattle.native_files.proofs.changes.rename_at.Goals as goal
use Rattle.native_vfs.specs.Keyed.{number_at, place_at}

pub returns-clause-changed : goal.returns-clause-changed
returns-clause-changed c =
    let vfs = c.args.vfs.now in
    let from = place_at vfs c.args.from.now in
    let to = place_at vfs c.args.to.now in
    let moved = number_at vfs c.args.moved in
    let refusal = names.rename_refusal vfs.nodes from to in
    subst (λ b. Changes vfs.nodes (first_reason b ENOENT refusal) (names.after_rename vfs.nodes from to moved c.args.now) c.rename.result c.rename.new.self.nodes)
    c.if-makes_file_before_slash.ensures
    (subst (λ time. Changes vfs.nodes refusal (names.after_rename vfs.nodes from to moved time) c.rename.result c.rename.new.self.nodes)
    (to_z-of_z {w = w128} {z = c.args.now} c.ranges.now)
    (moved-changes vfs c.rename.new.self refusal from.node moved (ap (option_map (number_at vfs)) c.requires.node)
    (λ node. names.after_rename vfs.nodes from to node (to_z w128 (of_z w128 c.args.now))) c.rename.result c.rename.ensures.answer c.rename.ensures.ok c.rename.ensures.err))
