use Rattle.std.proofs.Common.{None, ap, sym, subst, ◌∙◌, ◌≡◌}
use Rattle.kernel_model.specs.Table.{slot, with_slot}
use Rattle.native_fd.proofs.DescriptionLemmas.{AreKept-removed, seen-no_key, seen-removed, seen-unkeyed}
use Rattle.native_fd.proofs.descriptions.Descriptions.remove.Goals as goal

pub returns-in_err-key-clause-removed : goal.returns-in_err-key-clause-removed
returns-in_err-key-clause-removed g c =
    let none = ap (λ l. slot l c.args.number) (sym c.deref.ensures.value) ∙ sym c.in_err-key.ensures in
    c.from_residual.ensures
    ∙ sym (seen-no_key c.self.inside.items c.self.inside.keys.items c.self.invariant c.args.number none)
    ∙ ap (λ l. slot l c.args.number) c.self.view_is

pub returns-in_err-key-clause-left : goal.returns-in_err-key-clause-left
returns-in_err-key-clause-left g c =
    subst (λ l. l ≡ with_slot l c.args.number None) c.self.view_is
    (seen-unkeyed c.self.inside.items c.self.inside.keys.items c.self.invariant c.args.number
    (ap (λ l. slot l c.args.number) (sym c.deref.ensures.value) ∙ sym c.in_err-key.ensures))

pub invariant_of-self : goal.invariant_of-self
invariant_of-self g c =
    AreKept-removed c.self.inside.items c.self.inside.keys.items c.self.invariant c.args.number c.in_ok-key.key
    (ap (λ l. slot l c.args.number) (sym c.deref.ensures.value) ∙ sym c.in_ok-key.ensures) c.try_remove.new.self c.try_remove.ensures.updates

pub returns-clause-left : goal.returns-clause-left
returns-clause-left g c =
    seen-removed c.self.inside.items c.self.inside.keys.items c.self.invariant c.args.number c.in_ok-key.key
    (ap (λ l. slot l c.args.number) (sym c.deref.ensures.value) ∙ sym c.in_ok-key.ensures) c.try_remove.new.self c.try_remove.ensures.updates
    ∙ ap (λ l. with_slot l c.args.number None) c.self.view_is
