use Rattle.std.proofs.Common.{◌∙◌, ap}
use Rattle.bridge_limits.specs.Limits.{left_form}
use Rattle.bridge_limits.proofs.Passed.{effected_then}
use Rattle.bridge_limits.specs.Passed.{outcome_of}
use Rattle.bridge_select.proofs.Told.{reply_outcome, time_told}
use Rattle.bridge_select.specs.inside.Requests.{asked_of}
use Rattle.bridge_select.proofs.telling.tell.Goals as goal

pub returns-clause-ends : goal.returns-clause-ends
returns-clause-ends c = λ came left tells.
    let words = c.args.words.now in
    let asked = asked_of c.args.request.now.asked in
    let answer = c.args.answer in
    let found = c.outcome_of-found.ensures ∙ ap (outcome_of words) tells.reply ∙ reply_outcome asked answer.places c.args.mem.now words came tells.shows tells.counted in
    let told = c.in_ok-outcome.ensures.ends words came found tells.shows in (
      told.0,
      time_told c.args.space.now c.store_found.new.space c.store_left.new.space asked came (left_form c.args.request.now.time) left told.1 (c.in_ok-store_left.ensures.stored left tells.remaining),
    )

pub returns-clause-effects : goal.returns-clause-effects
returns-clause-effects c = λ processor sent. effected_then (c.in_ok-outcome.ensures.effects processor sent) (c.in_ok-store_left.ensures.effects processor sent)
