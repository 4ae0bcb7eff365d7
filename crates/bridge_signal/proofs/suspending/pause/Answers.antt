-- Two looks, and the wait.
use Rattle.std.proofs.Common.{◌∙◌, ap, sym}
use Rattle.o32_model.specs.Suspending.{pause_row}
use Rattle.o32_model.specs.declared.outcome.Outcome.{Outcome}
use Rattle.bridge_signal_state.proofs.Passed.{still_told}
use Rattle.bridge_signal_state.proofs.Moving.{moves_look, moves_then}
use Rattle.bridge_signal.proofs.Ends.{ends_called, ends_quietly}
use Rattle.bridge_signal.proofs.Waits.{pause_ended}
use Rattle.bridge_signal_state.specs.Passed.{ending}
use Rattle.bridge_signal.specs.inside.Waiting.{asleep}
use Rattle.bridge_signal.proofs.suspending.pause.Goals as goal

pub returns-clause-row : goal.returns-clause-row
returns-clause-row g c = λ guest same left told.
    let seen = c.in_ok-set.ensures.looks left told in
    let done = c.in_ok-outcome.ensures.looks left (still_told seen.1 told) in
    let moves = moves_then (moves_look seen.1) (moves_look done.1) in
    let came = ap asleep same ∙ sym done.0 in
    ends_called c.in_ok-outcome.outcome guest.memory guest.processor (ending (asleep guest.words) guest.memory) (pause_row c.args.below.now.kernel.now guest left) moves told
    (pause_ended c.args.below.now.kernel.now c.sleep.new.below.kernel.now guest left (done.1.same ∙ seen.1.same)) (ap (λ (o : Outcome). ending o guest.memory) came)

pub returns-clause-kept : goal.returns-clause-kept
returns-clause-kept g c = λ guest same left told.
    let seen = c.in_ok-set.ensures.looks left told in
    let done = c.in_ok-outcome.ensures.looks left (still_told seen.1 told) in
    let moves = moves_then (moves_look seen.1) (moves_look done.1) in
    ends_quietly guest (asleep guest.words) guest.processor (pause_row c.args.below.now.kernel.now guest left) moves
    (pause_ended c.args.below.now.kernel.now c.sleep.new.below.kernel.now guest left (done.1.same ∙ seen.1.same))
