use Rattle.std.proofs.Common.{[], OnErr, Ok, Err}
use Rattle.outside.specs.Output.{GainsBetween}
use Rattle.outside.proofs.OutputLemmas.{GainsBetween-nothing}
use Rattle.session_files.specs.Lines.{divergence_line}
use Rattle.session_files.proofs.lines.put_divergence.Goals as goal

pub returns-in_err-told-clause-part : goal.returns-in_err-told-clause-part
returns-in_err-told-clause-part g c =
    elim c.from_residual.result as (λ r. OnErr r (GainsBetween (g.E.Sink.written c.args.err.now) (g.E.Sink.written c.args.err.now) [] (divergence_line c.args.divergence.turn c.args.divergence.wanted c.args.divergence.found))) [
      | Ok done ↦ tt
      | Err error ↦ GainsBetween-nothing (g.E.Sink.written c.args.err.now) (divergence_line c.args.divergence.turn c.args.divergence.wanted c.args.divergence.found)
    ]
