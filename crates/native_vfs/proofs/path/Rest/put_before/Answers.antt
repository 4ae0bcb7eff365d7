use Rattle.std.proofs.Common.{ap, sym, ◌∙◌, ◌++◌}
use Rattle.kernel_core.specs.PathWalk.{components}
use Rattle.native_vfs.proofs.walks.TextLemmas.{is-empty, components-none}
use Rattle.native_vfs.proofs.path.Rest.put_before.Goals as goal

pub returns-then-is_empty : goal.returns-then-is_empty
returns-then-is_empty c =
    let text = c.without_slashes-target.result.now in
    ap (λ cs. cs ++ c.args.self.now)
    (sym components-none
    ∙ sym (ap components (is-empty c.is_empty.result text c.is_empty.ensures c.if-is_empty.true))
    ∙ c.without_slashes-target.ensures.same)
