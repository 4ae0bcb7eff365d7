use Rattle.std.proofs.Common.{[], subst, sym}
use Rattle.std.specs.Prelude.{unwrap_or}
use Rattle.outside.specs.Output.{GainsText}
use Rattle.outside.proofs.OutputLemmas.{GainsText-nothing}
use Rattle.o32_session.proofs.soak.put_line.Goals as goal

pub returns-in-None-clause-line : goal.returns-in-None-clause-line
returns-in-None-clause-line g c =
    subst (λ line. GainsText (g.O.Sink.written c.args.out.now) (g.O.Sink.written c.args.out.now) (unwrap_or line [])) (sym c.in-None.is) (GainsText-nothing (g.O.Sink.written c.args.out.now))
