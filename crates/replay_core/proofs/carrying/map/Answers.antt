use Rattle.std.proofs.Common.{◌≡◌, ◌∙◌, Ok, Err, Result, refl, ap, sym}
use Rattle.guest_space.specs.Memory.{Memory, Pages}
use Rattle.guest_space.specs.Mapping.{page_limit}
use Rattle.o32_model.specs.Effects.{Difference}
use Rattle.o32_model.specs.Ranges.{count_with}
use Rattle.replay_core.proofs.PageEffects.{full_so, mapped_so, same_others}
use Rattle.replay_core.proofs.carrying.map.Goals as goal

pub returns-in-Ok : goal.returns-in-Ok
returns-in-Ok c =
    let fits = mapped_so c.args.space.now.pages c.args.first c.args.count c.args.prot (λ more. let not = c.in-Ok.ensures.full.1 more in cc) in
    (fits ∙ ap (λ (m : Memory). let r : Result Pages Difference = Ok m.pages in r) (sym c.in-Ok.ensures.ok), same_others c.args.space.now c.map.new.self _ c.in-Ok.ensures.ok)

pub returns-in-Err-Full : goal.returns-in-Err-Full
returns-in-Err-Full c =
    let full = rw c.in-Err-Full.field-0-is at c.in-Err-Full.ensures in
    let more = full.full.0 refl in
    let same : c.map.new.self ≡ c.args.space.now = full.err in
    rw c.passes_limit.ensures (full_so c.args.space.now.pages c.args.first c.args.count c.args.prot more
    ∙ ap (λ (m : Memory). let r : Result Pages Difference = Err (record { wanted = page_limit; found = count_with m.pages c.args.first c.args.count }) in r) (sym same))
