-- What was said of the call that sets the default action.
use Rattle.std.proofs.Common.{◌≡◌, Bool, ap, sym, ◌∙◌}
use Rattle.std.specs.Prelude.{if◌then◌else◌}
use Rattle.kernel_model.specs.SignalRows.{after_action, no_action, with_signals}
use Rattle.kernel_model.specs.State.{Kernel}
use Rattle.o32_turns.specs.Handling.{without_action}
use Rattle.outside.specs.Streams.{contents}
use Rattle.bridge_delivery.proofs.Carrying.{acted_becomes, on_ok}
use Rattle.bridge_delivery.proofs.Keeping.{kept_act}
use Rattle.bridge_delivery.proofs.handling.reset.Goals as goal

pub returns-clause-reset : goal.returns-clause-reset
returns-clause-reset g c = λ left told.
    let k = c.args.below.now.kernel.now in
    let set = λ (kernel : Kernel). with_signals kernel (after_action kernel.signals c.args.sig no_action) in
    let done = acted_becomes set c.set_default.result k c.set_default.new.below.kernel.now
    (contents g.I.Source.left g.O.Sink.written g.E.Sink.written c.args.dev.now) (contents g.I.Source.left g.O.Sink.written g.E.Sink.written c.set_default.new.dev)
    left c.args.below.now.log.now c.set_default.new.below.log.now (c.set_default.ensures.acts left told) in
    let apart : set k ≡ without_action c.args.sig k = ap (λ (b : Bool). if b then k else set k) (sym c.if-is_unblockable.false ∙ c.is_unblockable.ensures) in
    (done.0, on_ok c.set_default.result _ _ (λ (is : c.set_default.new.below.kernel.now ≡ set k). is ∙ apart) done.1)

pub returns-clause-kept : goal.returns-clause-kept
returns-clause-kept g c = λ pages left told.
    let set = λ (kernel : Kernel). with_signals kernel (after_action kernel.signals c.args.sig no_action) in
    kept_act (λ _ became. became ≡ set c.args.below.now.kernel.now) c.set_default.result c.args.below.now.kernel.now c.set_default.new.below.kernel.now
    (contents g.I.Source.left g.O.Sink.written g.E.Sink.written c.args.dev.now) (contents g.I.Source.left g.O.Sink.written g.E.Sink.written c.set_default.new.dev)
    pages left c.args.below.now.log.now c.set_default.new.below.log.now (c.set_default.ensures.acts left told)
