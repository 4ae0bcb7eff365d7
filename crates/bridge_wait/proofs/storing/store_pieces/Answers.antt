-- One piece and then the other
use Rattle.std.proofs.Common.{◌≡◌, ◌∙◌, ap, sym, true, rules}
use Rattle.o32_model.specs.Results.{all_fit, piece_unless_null}
use Rattle.o32_model.specs.declared.outcome.Outcome.{Outcome}
use Rattle.bridge_log.proofs.Journals.{effected_then}
use Rattle.bridge_wait.proofs.Pieces.{two_pieces}
use Rattle.bridge_log.specs.Storing.{Ending}
use Rattle.bridge_wait.proofs.storing.store_pieces.Goals as goal

pub returns-clause-ends : goal.returns-clause-ends
returns-clause-ends c =
    let there : all_fit c.args.space.now (piece_unless_null c.args.value c.args.first.now) ≡ true = search (rules, c.in_ok-put_piece.ensures.answer) in
    let put : Outcome → Ending = λ outcome. record { outcome = outcome; memory = c.put_piece-2.new.space } in
    two_pieces c.args.space.now c.put_piece.new.space c.put_piece-2.new.space c.args.value c.args.zone c.args.first.now c.args.second.now c.in_ok-stored.stored there
    c.in_ok-put_piece.ensures.stored c.in_ok-stored.ensures.answer c.in_ok-stored.ensures.stored
    ∙ ap put (sym c.value_if.ensures)

pub returns-clause-effects : goal.returns-clause-effects
returns-clause-effects c = λ processor sent. effected_then (c.in_ok-put_piece.ensures.effects processor sent) (c.in_ok-stored.ensures.effects processor sent)
