-- The kinds of nodes by the numbers in their fronts. The numbers are this project's own.
use Rattle.std.specs.Prelude.{ℕ}
use Rattle.fs_image.specs.declared.kinds.KindCode.{KindCode}
use Rattle.fs_image.specs.declared.kinds.KindCode.TheVariants as code

abbrev pub code_number : KindCode → ℕ
code_number code.File = 1
code_number code.Dir = 2
code_number code.Link = 3
