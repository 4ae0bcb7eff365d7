-- The kernel has the call of this number.
use Rattle.std.proofs.Common.{ℕ, List, subst}
use Rattle.kernel_model.specs.State.{Kernel}
use Rattle.native_calls.specs.Answered.{Answers}
use Rattle.native_calls.specs.Step.{NativeStep}
use Rattle.outside.specs.Streams.{contents}
use Rattle.bridge_log.proofs.calls.make.Goals as goal

pub returns-clause-row : goal.returns-clause-row
returns-clause-row g c = λ left told.
    subst (λ (call : List ℕ → Kernel → List ℕ → List ℕ → NativeStep). Answers (call c.args.args c.args.k.now c.args.mem.now left) c.call.result c.call.new.self c.call.new.mem
    (contents g.I.Source.left g.O.Sink.written g.E.Sink.written c.args.dev.now) (contents g.I.Source.left g.O.Sink.written g.E.Sink.written c.call.new.dev))
    c.requires.built (c.call.ensures.row left told)
