-- What a link that a path names says.
use Rattle.std.specs.Prelude.{ℕ, false, List, take}
use Rattle.kernel_core.specs.Nodes.{target_at}
use Rattle.kernel_core.specs.declared.error.Errno.TheVariants.{EINVAL}
use Rattle.kernel_model.specs.Came.{Did, done, with_given, with_some}
use Rattle.kernel_model.specs.Paths.{Base, walk_to_node}
use Rattle.kernel_model.specs.State.{Files}

-- as many bytes as are asked for
abbrev pub read_target : Files → Base → List ℕ → ℕ → Did Files (List ℕ)
read_target files base path most =
    with_given files (walk_to_node files base path false) (λ node.
    with_some files EINVAL (target_at files.nodes node) (λ target.
    done files (take most target)))
