use Rattle.std.proofs.Common.{sym, ◌∙◌}
use Rattle.native_vfs.specs.inside.Texts.{texts}
use Rattle.native_vfs.proofs.walks.TextLemmas.{is-empty, left-none}
use Rattle.native_vfs.proofs.path.Rest.next_component.Goals as goal

pub returns-then-is_empty-clause-taken : goal.returns-then-is_empty-clause-taken
returns-then-is_empty-clause-taken c =
    let text = c.self.inside.text.now in
    sym c.self.view_is
    ∙ left-none text (texts c.self.inside.later.items) c.self.invariant (is-empty c.is_empty.result text c.is_empty.ensures c.if-is_empty.true)
