-- The first entry decides, and then those that fit.
use Rattle.std.proofs.Common.{◌≡◌, ◌∷◌, List, length, Some, None, sym, subst, rules}
use Rattle.std.proofs.lemmas.List.{nil_from_length}
use Rattle.kernel_model.specs.Came.{Came}
use Rattle.kernel_model.specs.ContentRows.{Entry}
use Rattle.bridge_entries.proofs.AnswerLemmas.{answer_refused, not_none, refused_is}
use Rattle.bridge_entries.specs.inside.Answers.{IsAnswer, came_by}
use Rattle.bridge_entries.proofs.answers.answer_to.Goals as goal

pub returns-then-is_empty-clause-some : goal.returns-then-is_empty-clause-some
returns-then-is_empty-clause-some c = λ first rest listed is.
    let none : length c.args.given.now ≡ 0 = search rules in
    absurd (not_none first rest c.args.given.now (nil_from_length c.args.given.now none) is)

pub returns-in-Some-clause-some : goal.returns-in-Some-clause-some
returns-in-Some-clause-some c = λ first rest listed is.
    answer_refused c.args.words.now c.args.position (came_by c.args.bounds.asked c.args.bounds.room (first ∷ rest)) c.without_records-in-Some.result c.in-Some.error
    (refused_is c.args.position c.args.bounds.asked c.args.bounds.room (first ∷ rest) c.args.given.now (Some c.in-Some.error) listed is c.in-Some.ensures)
    c.without_records-in-Some.ensures.outcome c.without_records-in-Some.ensures.bytes c.without_records-in-Some.ensures.place

pub returns-in_ok-answer-in-None-clause-some : goal.returns-in_ok-answer-in-None-clause-some
returns-in_ok-answer-in-None-clause-some c = λ first rest listed is.
    subst (λ (came : Came (List Entry)). IsAnswer c.args.words.now c.args.position came c.in_ok-answer-in-None.answer)
    (sym (refused_is c.args.position c.args.bounds.asked c.args.bounds.room (first ∷ rest) c.args.given.now None listed is c.in-None.ensures))
    (c.in_ok-answer-in-None.ensures c.args.words.now (first ∷ rest) listed is)
