-- Of what pends, one is named or none is.
use Rattle.std.proofs.Common.{◌∙◌, List, ap, sym}
use Rattle.std.specs.List.{list_any}
use Rattle.kernel_core.specs.declared.signal.Sig.{Sig}
use Rattle.kernel_model.specs.SignalRows.{pends}
use Rattle.bridge_acceptance.proofs.Naming.{any_pends, some_named}
use Rattle.bridge_acceptance.proofs.named.pends_named.Goals as goal

pub returns-clause-looks : goal.returns-clause-looks
returns-clause-looks g c = λ left told.
    let signals = c.args.below.now.kernel.now.signals in
    let seen = c.in_ok-pending.ensures.looks left told in (
      c.is_some.ensures ∙ any_pends signals c.in_ok-pending.pending c.in-Some.set c.accepted.result seen.0 c.accepted.ensures
          ∙ ap (λ (l : List Sig). list_any (λ (signal : Sig). pends signals signal) l) (sym (some_named c.args.space.now c.args.wait.now c.in-Some.set c.in-Some.ensures)),
      seen.1,
    )
