use Rattle.std.proofs.Common.{[], OnErr, Ok, Err}
use Rattle.outside.specs.Output.{GainsBetween}
use Rattle.outside.proofs.OutputLemmas.{GainsBetween-nothing}
use Rattle.session_files.specs.Lines.{line_of}
use Rattle.session_files.proofs.lines.put_line.Goals as goal

pub returns-in_err-line-clause-part : goal.returns-in_err-line-clause-part
returns-in_err-line-clause-part g c =
    elim c.from_residual.result as (λ r. OnErr r (GainsBetween (g.E.Sink.written c.args.err.now) (g.E.Sink.written c.args.err.now) [] (line_of c.args.refusal))) [
      | Ok done ↦ tt
      | Err error ↦ GainsBetween-nothing (g.E.Sink.written c.args.err.now) (line_of c.args.refusal)
    ]
