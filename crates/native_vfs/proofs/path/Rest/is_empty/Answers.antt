use Rattle.std.proofs.Common.{sym, ◌∙◌}
use Rattle.native_vfs.specs.inside.Texts.{texts}
use Rattle.native_vfs.proofs.walks.TextLemmas.{is-empty, empty-is, left-none, none-left}
use Rattle.native_vfs.proofs.path.Rest.is_empty.Goals as goal

pub returns : goal.returns
returns c =
    let text = c.self.inside.text.now in
    let later = texts c.self.inside.later.items in (
      λ empty. sym c.self.view_is ∙ left-none text later c.self.invariant (is-empty c.is_empty.result text c.is_empty.ensures empty),
      λ none. empty-is c.is_empty.result text c.is_empty.ensures (none-left text later c.self.invariant (c.self.view_is ∙ none)),
    )
