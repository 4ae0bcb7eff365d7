-- The o32 call that the native call mirrors.
use Rattle.std.proofs.Common.{◌∙◌, sym, ap}
use Rattle.kernel_model.specs.Pipes.{nothing}
use Rattle.o32_model.specs.declared.call_words.CallWords.{CallWords}
use Rattle.bridge_log.proofs.Mirroring.{mirrors_called, mirrors_keeps}
use Rattle.bridge_log.specs.Outcomes.{outcome_of}
use Rattle.bridge_log.proofs.below.Below.number_call.Goals as goal

pub returns-clause-row : goal.returns-clause-row
returns-clause-row g c = λ guest step same mirrors left told.
    mirrors_called c.outcome_of.result (c.outcome_of.ensures ∙ ap (λ (w : CallWords). outcome_of w c.in_ok-reply.reply) (sym same)) (mirrors left) (c.in_ok-reply.ensures.row left told)

pub returns-clause-kept : goal.returns-clause-kept
returns-clause-kept g c = λ guest step same mirrors left told.
    mirrors_keeps (mirrors left) (c.in_ok-reply.ensures.kept left told nothing) c.native.ensures.effects
