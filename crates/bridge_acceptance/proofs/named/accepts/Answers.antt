-- What is found by the kernel's side as one value is found.
use Rattle.std.proofs.Common.{◌≡◌, Bool, rules}
use Rattle.std.specs.List.{list_any}
use Rattle.kernel_core.specs.declared.signal.Sig.{Sig}
use Rattle.kernel_model.specs.SignalRows.{pends}
use Rattle.o32_model.specs.SignalWaitEnds.{named_signals}
use Rattle.outside.specs.Streams.{contents}
use Rattle.bridge_acceptance.proofs.Lending.{looks_lent}
use Rattle.bridge_acceptance.proofs.named.accepts.Goals as goal

pub returns-clause-looks : goal.returns-clause-looks
returns-clause-looks g c =
    looks_lent (λ (found : Bool). found ≡ list_any (λ (signal : Sig). pends c.args.k.now.signals signal) (named_signals c.args.space.now c.args.wait.now))
    c.pends_named.result c.args.k.now c.pends_named.new.below.kernel.now _
    (contents g.I.Source.left g.O.Sink.written g.E.Sink.written c.args.dev.now) (contents g.I.Source.left g.O.Sink.written g.E.Sink.written c.pends_named.new.dev)
    c.args.log.now c.pends_named.new.below.log.now _ (search rules) (search rules) c.pends_named.ensures.looks
