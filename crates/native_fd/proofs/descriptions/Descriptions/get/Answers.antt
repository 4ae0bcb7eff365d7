use Rattle.std.proofs.Common.{ap, sym, ◌∙◌}
use Rattle.kernel_model.specs.Table.{slot}
use Rattle.native_fd.proofs.DescriptionLemmas.{seen-no_key}
use Rattle.native_fd.proofs.descriptions.Descriptions.get.Goals as goal

pub returns-in_err-key : goal.returns-in_err-key
returns-in_err-key g c =
    let none = ap (λ l. slot l c.args.number) (sym c.deref.ensures.value) ∙ sym c.in_err-key.ensures in
    c.from_residual.ensures
    ∙ sym (seen-no_key c.self.inside.items c.self.inside.keys.items c.self.invariant c.args.number none)
    ∙ ap (λ l. slot l c.args.number) c.self.view_is
