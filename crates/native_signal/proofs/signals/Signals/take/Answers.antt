use Rattle.std.proofs.Common.{◌≡◌, List, ap, ◌∙◌}
use Rattle.kernel_model.specs.Shared.{Info}
use Rattle.native_signal.specs.contracts.signals.Signals.{the_view}
use Rattle.native_signal.proofs.SetLaws.{none_taken}
use Rattle.native_signal.proofs.Soundness.{pop_sound}
use Rattle.native_signal.proofs.signals.Signals.take.Goals as goal

pub returns-clause-none : goal.returns-clause-none
returns-clause-none c =
    none_taken c.args.self.now _ c.self.inside.pending c.pop.new.self c.place_of.result c.pop.result c.pop.ensures.first c.pop.ensures.rest
    (λ (e : c.pop.new.self ≡ c.self.inside.pending). ap (λ (p : List (List Info)). the_view (record c.self.inside { pending = p })) e ∙ c.self.view_is)

pub invariant_of-self : goal.invariant_of-self
invariant_of-self c =
    let inside = c.self.inside in (
      c.self.invariant.0,
      pop_sound inside.actions.items inside.pending c.pop.new.self inside.mask inside.stack c.place_of.result c.self.invariant.1 c.pop.ensures.rest,
    )
