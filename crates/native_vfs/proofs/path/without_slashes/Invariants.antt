use Rattle.std.proofs.Common.{◌≡◌, false, length}
use Rattle.std.specs.List.{list_any}
use Rattle.kernel_core.specs.PathWalk.{components}
use Rattle.native_vfs.specs.inside.Texts.{is_nul}
use Rattle.native_vfs.proofs.path.without_slashes.Given as goal

abbrev pub invariant-loop-rest : goal.invariant-loop-rest
invariant-loop-rest l = record {
  same : components l.rest ≡ components l.text;
  plain : list_any is_nul l.text ≡ false → list_any is_nul l.rest ≡ false;
}

abbrev pub decreases-loop-rest : goal.decreases-loop-rest
decreases-loop-rest l = length l.rest
