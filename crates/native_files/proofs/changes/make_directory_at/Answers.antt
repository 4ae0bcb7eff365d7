use Rattle.std.proofs.Common.{ap, ◌∙◌}
use Rattle.std.proofs.Math.Facts.{to_z-of_z}
use Rattle.std.specs.Int.{w128}
use Rattle.kernel_core.specs.NameCalls as names
use Rattle.kernel_core.specs.Queries.{new_number}
use Rattle.native_files.proofs.Made.{made-nodes}
use Rattle.native_files.proofs.changes.make_directory_at.Goals as goal
use Rattle.native_vfs.specs.Keyed.{place_at}

pub returns-in-Ok-clause-changed : goal.returns-in-Ok-clause-changed
returns-in-Ok-clause-changed c =
    let vfs = c.args.vfs.now in
    let place = place_at vfs c.args.at.now in (
      c.in-Ok.ensures.answer,
      made-nodes vfs c.mkdir.new.self c.in-Ok.field-0 (λ number. names.after_mkdir vfs.nodes place number c.args.mode _) c.in-Ok.ensures.made
          ∙ ap (names.after_mkdir vfs.nodes place (new_number vfs.nodes) c.args.mode) (to_z-of_z {w = w128} {z = c.args.now} c.ranges.now),
    )
