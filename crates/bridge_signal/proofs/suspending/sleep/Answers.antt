-- The native call waits, and changes nothing.
use Rattle.std.proofs.Common.{◌∙◌, ap, refl}
use Rattle.std.proofs.Common.{ℕ, List}
use Rattle.kernel_core.specs.declared.reply.Reply.TheVariants as replies
use Rattle.bridge_signal_state.proofs.Passed.{looked_stop}
use Rattle.bridge_signal_state.specs.Passed.{outcome_of}
use Rattle.bridge_signal.proofs.Waits.{sleep_looks}
use Rattle.bridge_signal.specs.inside.Waiting.{endless}
use Rattle.bridge_signal.proofs.suspending.sleep.Goals as goal

pub returns-clause-looks : goal.returns-clause-looks
returns-clause-looks g c = λ left told.
    let look = λ (left : List ℕ). sleep_looks c.args.below.now.kernel.now c.put_set.new.mem left c.args.set c.in_ok-put_set.ensures in
    let seen = c.in_ok-reply.ensures.looks (replies.Sleep endless) c.put_set.new.mem look left told in
    (c.outcome_of.ensures ∙ ap (outcome_of c.args.words.now) seen.0.answered, seen.1)

pub returns-in_err-put_set-clause-looks : goal.returns-in_err-put_set-clause-looks
returns-in_err-put_set-clause-looks g c = λ left told. looked_stop _ c.from_residual.result _ _ _ _ _ _ _ c.from_residual.ensures.0 refl

pub returns-in_err-reply-clause-looks : goal.returns-in_err-reply-clause-looks
returns-in_err-reply-clause-looks g c = λ left told.
    let look = λ (left : List ℕ). sleep_looks c.args.below.now.kernel.now c.put_set.new.mem left c.args.set c.in_ok-put_set.ensures in
    looked_stop _ c.from_residual-in_err-reply.result _ _ _ _ _ _ _ c.from_residual-in_err-reply.ensures.0
    (c.in_err-reply.ensures.looks (replies.Sleep endless) c.put_set.new.mem look left told)
