use Rattle.std.proofs.Common.{◌∙◌, ap, length}
use Rattle.std.proofs.lemmas.List.{length-replicate}
use Rattle.kernel_model.specs.SignalRows.{no_action}
use Rattle.kernel_model.specs.declared.signal.Action.{Action}
use Rattle.native_signal.proofs.Soundness.{first_sound}
use Rattle.native_signal.proofs.signals.Signals.new.Goals as goal

pub invariant_of-result : goal.invariant_of-result
invariant_of-result c = (
  ap length c.in_ok-default_actions.ensures ∙ length-replicate {A = Action} 128 no_action,
  first_sound c.in_ok-default_actions.field-0.items c.in_ok-new.field-0 _ c.in_ok-default_actions.ensures c.in_ok-new.ensures,
)
