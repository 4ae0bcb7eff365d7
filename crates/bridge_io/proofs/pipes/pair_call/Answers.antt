-- What the native call put into host memory are the two results.
use Rattle.std.proofs.Common.{ℕ, List, sym, subst, ap, ◌∙◌}
use Rattle.kernel_model.specs.Pipes.{nothing}
use Rattle.native_calls.specs.Table.{native_call}
use Rattle.o32_model.specs.declared.call_words.CallWords.{CallWords}
use Rattle.bridge_log.proofs.Ends.{fails_before}
use Rattle.bridge_log.proofs.Mirroring.{mirrors_called, mirrors_keeps}
use Rattle.bridge_log.specs.Mirrors.{Mirrors}
use Rattle.bridge_io.specs.inside.Outcomes.{told_pair, outcome_pair}
use Rattle.bridge_io.proofs.pipes.pair_call.Goals as goal

pub returns-in_err-fresh_room-clause-row : goal.returns-in_err-fresh_room-clause-row
returns-in_err-fresh_room-clause-row g c = λ guest step same mirrors left told.
    fails_before (step left) c.from_residual.result _ _ _ _ c.from_residual.ensures.0

pub returns-clause-row : goal.returns-clause-row
returns-clause-row g c = λ guest step same mirrors left told.
    mirrors_called c.outcome_pair.result
    (c.outcome_pair.ensures ∙ ap (λ (w : CallWords). outcome_pair w c.native.new.self.memory.now c.in_ok-reply.reply) (sym same))
    (subst (λ (m : List ℕ). Mirrors guest (told_pair guest.words) (native_call c.args.nr c.args.args c.args.below.now.kernel.now m left) (step left)) (sym c.in_ok-fresh_room.ensures) (mirrors left))
    (c.in_ok-reply.ensures.row left told)

pub returns-clause-kept : goal.returns-clause-kept
returns-clause-kept g c = λ guest step same mirrors left told.
    mirrors_keeps
    (subst (λ (m : List ℕ). Mirrors guest (told_pair guest.words) (native_call c.args.nr c.args.args c.args.below.now.kernel.now m left) (step left)) (sym c.in_ok-fresh_room.ensures) (mirrors left))
    (c.in_ok-reply.ensures.kept left told nothing) c.native.ensures.effects
