use Rattle.std.proofs.Common.{ap, ◌∙◌, ◌++◌}
use Rattle.std.proofs.lemmas.List.{append-nil}
use Rattle.kernel_core.specs.PathWalk.{components}
use Rattle.native_vfs.specs.inside.Texts.{texts, stacked}
use Rattle.native_vfs.proofs.walks.TextLemmas.{stacked-none}
use Rattle.native_vfs.proofs.path.Rest.new.Goals as goal

pub returns : goal.returns
returns c =
    ap (λ l. components c.without_slashes.result.now ++ stacked (texts l)) c.new.ensures.items
    ∙ ap (λ s. components c.without_slashes.result.now ++ s) stacked-none
    ∙ append-nil (components c.without_slashes.result.now)
    ∙ c.without_slashes.ensures.same
