-- A signal is named that the set has.
use Rattle.std.proofs.Common.{◌∙◌, List, ap, sym}
use Rattle.std.specs.List.{list_any}
use Rattle.std.specs.Prelude.{◌==◌}
use Rattle.kernel_core.specs.declared.signal.Sig.{Sig}
use Rattle.kernel_model.specs.SignalSets.{blockable, place}
use Rattle.signal_choice.proofs.Found.{listed}
use Rattle.bridge_acceptance.proofs.Naming.{none_named, some_named}
use Rattle.bridge_acceptance.proofs.named.awaits.Goals as goal

pub returns-in-None : goal.returns-in-None
returns-in-None c = ap (λ (l : List Sig). list_any (λ (other : Sig). place other == place c.args.sig) l) (sym (none_named c.args.space.now c.args.wait.now c.in-None.ensures))

pub returns-in-Some : goal.returns-in-Some
returns-in-Some c =
    c.is_named.ensures ∙ sym (listed (blockable c.in-Some.set) c.args.sig)
    ∙ ap (λ (l : List Sig). list_any (λ (other : Sig). place other == place c.args.sig) l) (sym (some_named c.args.space.now c.args.wait.now c.in-Some.set c.in-Some.ensures))
