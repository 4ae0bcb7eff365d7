use Rattle.std.proofs.Common.{◌≡◌, Some, None, true, false, ap, sym, ◌∙◌}
use Rattle.std.specs.Prelude.{is_some}
use Rattle.kernel_model.specs.Table.{slot, with_slot}
use Rattle.native_fd.proofs.DescriptionLemmas.{seen-changed, seen-no_key}
use Rattle.native_fd.proofs.descriptions.Descriptions.set.Goals as goal

pub returns-in-Some : goal.returns-in-Some
returns-in-Some g c =
    seen-changed c.self.inside.items c.self.inside.keys.items c.self.invariant c.args.number c.in-Some.key
    (ap (λ l. slot l c.args.number) (sym c.deref.ensures.value) ∙ sym c.in-Some.ensures) c.args.item
    ∙ ap (λ l. with_slot l c.args.number (Some c.args.item)) c.self.view_is

pub returns-in_default : goal.returns-in_default
returns-in_default g c =
    let none = ap (λ l. slot l c.args.number) (sym c.deref.ensures.value) ∙ sym c.in_default.ensures in
    let gone : slot c.args.self.now c.args.number ≡ None =
    ap (λ l. slot l c.args.number) (sym c.self.view_is) ∙ seen-no_key c.self.inside.items c.self.inside.keys.items c.self.invariant c.args.number none in
    absurd (let bad : true ≡ false = sym c.requires.there ∙ ap (λ o. is_some o) gone in cc)
