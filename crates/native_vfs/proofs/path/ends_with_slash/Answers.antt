use Rattle.std.proofs.Common.{ap, sym, ◌∙◌}
use Rattle.std.proofs.lemmas.List.{nil_from_length}
use Rattle.kernel_core.specs.PathWalk.{ends_with_slash}
use Rattle.native_vfs.proofs.walks.Components.{ends-last, ends-none}
use Rattle.native_vfs.proofs.path.ends_with_slash.Goals as goal

pub returns-in-Some : goal.returns-in-Some
returns-in-Some c = sym (ap ends_with_slash c.in-Some.ensures.cases.0 ∙ ends-last _ _)

pub returns-in-None : goal.returns-in-None
returns-in-None c = sym (ap ends_with_slash (nil_from_length c.args.text.now c.in-None.ensures.cases) ∙ ends-none)
