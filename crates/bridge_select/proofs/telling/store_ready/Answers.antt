use Rattle.std.proofs.Common.{ap, ◌∙◌, List}
use Rattle.o32_model.specs.Results as results
use Rattle.o32_model.specs.Results.{Piece, all_fit, with_pieces}
use Rattle.bridge_select.specs.inside.Requests.{asked_of}
use Rattle.bridge_select.proofs.telling.store_ready.Goals as goal

pub returns-clause-ends : goal.returns-clause-ends
returns-clause-ends c = λ sets shows.
    let pieces = c.sets_in-sets.ensures (asked_of c.args.asked) sets shows in (
      c.value_if.ensures
          ∙ ap (λ stored. results.value_if stored c.args.number) c.in_ok-stored.ensures.answer
          ∙ ap (λ (p : List Piece). results.value_if (all_fit c.args.space.now p) c.args.number) pieces,
      c.in_ok-stored.ensures.stored ∙ ap (with_pieces c.args.space.now) pieces,
    )
