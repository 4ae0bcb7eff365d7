use Rattle.std.proofs.Common.{◌++◌, ap, subst, ◌∙◌}
use Rattle.mips_exec.specs.Processor.{Processor}
use Rattle.layouts.specs.Frames.{context_values, IsContext}
use Rattle.signal_frames.specs.Entering.{context_of_processor}
use Rattle.signal_frames.proofs.values.push_context.Goals as goal

pub returns-clause-values : goal.returns-clause-values
returns-clause-values c =
    c.push_words.ensures.values ∙ ap (λ (p : Processor). c.args.values.now.items ++ context_values (context_of_processor p)) c.cpu.view_is

pub returns-clause-words : goal.returns-clause-words
returns-clause-words c =
    let F : Processor → Type 0 = λ p. IsContext (context_of_processor p) in
    subst F c.cpu.view_is c.push_words.ensures.words
