-- The bytes that are told.
use Rattle.std.proofs.Common.{◌≡◌, List, ℕ, OnOk, sym, ap, subst, ◌∙◌}
use Rattle.bridge_system.specs.declared.telling.Told.{Told}
use Rattle.bridge_system.specs.inside.Tells.{bytes_told}
use Rattle.o32_model.specs.GuestBytes.{with_stored}
use Rattle.o32_model.specs.Small.{limit_bytes}
use Rattle.bridge_system.proofs.telling.tell_bytes.Goals as goal

pub returns-in-WideLimits-clause-stored : goal.returns-in-WideLimits-clause-stored
returns-in-WideLimits-clause-stored c =
    let same : c.limit_bytes.result ≡ bytes_told c.args.to.told c.args.mem.now =
    c.limit_bytes.ensures ∙ ap limit_bytes c.limit_there-in-WideLimits.ensures ∙ sym (ap (λ (t : Told). bytes_told t c.args.mem.now) c.in-WideLimits.is) in
    subst (λ (b : List ℕ). OnOk c.store-in-WideLimits.result (c.store-in-WideLimits.new.space ≡ with_stored c.args.space.now c.args.to.address b)) same c.store-in-WideLimits.ensures.stored
