use Rattle.std.proofs.Common.{◌∙◌}
use Rattle.std.proofs.lemmas.List.{length-set}
use Rattle.kernel_model.specs.declared.signal.Action.{Action}
use Rattle.native_signal.proofs.Soundness.{action_sound, clear_sound}
use Rattle.native_signal.proofs.signals.Signals.set_action.Goals as goal

pub invariant_of-self : goal.invariant_of-self
invariant_of-self c =
    let inside = c.self.inside in
    let action : Action = record { handler = c.args.to.handler; flags = c.args.to.flags; mask = c.blockable.result } in (
      length-set inside.actions.items c.place_of-place.result action ∙ c.self.invariant.0,
      clear_sound _ inside.pending c.clear.new.self inside.mask inside.stack c.place_of-place.result
          (action_sound inside.actions.items inside.pending inside.mask inside.stack c.place_of-place.result action c.self.invariant.1 c.blockable.ensures.mask) c.clear.ensures,
    )

pub invariant_of-self-else-ignores : goal.invariant_of-self-else-ignores
invariant_of-self-else-ignores c =
    let inside = c.self.inside in
    let action : Action = record { handler = c.args.to.handler; flags = c.args.to.flags; mask = c.blockable.result } in (
      length-set inside.actions.items c.place_of-place.result action ∙ c.self.invariant.0,
      action_sound inside.actions.items inside.pending inside.mask inside.stack c.place_of-place.result action c.self.invariant.1 c.blockable.ensures.mask,
    )
