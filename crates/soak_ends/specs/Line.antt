-- The two ends of a run of the soak program for so many numbers: its plan, and the line on the tree of files that it leaves. This
-- project's own.
use Rattle.std.specs.Prelude.{ℕ, List, Option, Some, None}
use Rattle.kernel_core.specs.declared.tree.Tree.{Tree}
use Rattle.soak_program.specs.Line.{soak_line}
use Rattle.soak_ends.specs.Written.{written_in}
use Rattle.soak_ends.specs.declared.written.Written.{Written}
-- the plan that a loader makes of the program, passed on for those who run it
pub use Rattle.soak_laws.specs.Plan.{soak_plan}

abbrev pub line_with : ℕ → ℕ → Option Written → Option (List ℕ)
line_with count turns None = None
line_with count turns (Some written) = Some (soak_line count turns written.bytes written.sum)

-- the line on a run that exited with 0 after these turns and left this tree; none where the tree has no such file
abbrev pub line_on : ℕ → ℕ → Tree → Option (List ℕ)
line_on count turns tree = line_with count turns (written_in tree)
