use Rattle.std.proofs.Common.{◌≡◌, [], sym, ap, subst, ◌∙◌}
use Rattle.indexmap.specs.IndexMap.{spare}
use Rattle.directory_names.specs.inside.Index.{listed, room, Agree}
use Rattle.directory_names.specs.inside.Order.{Order}
use Rattle.directory_names.specs.Names.{AreNames}
use Rattle.directory_names.proofs.Validity.{AreNames-none}
use Rattle.directory_names.proofs.IndexLemmas.{Agree-none}
use Rattle.directory_names.proofs.directory.Directory.new.Goals as goal

pub invariant_of-result : goal.invariant_of-result
invariant_of-result c =
    let names = sym c.new.ensures.empty in
    let seats = sym (ap (λ (o : Order). o.seats) c.new-2.ensures) in (
      subst (λ ss. AreNames (record { greatest = 2; spare = room c.new-2.result.has_room (spare c.new.result); entries = listed c.new.result.entries ss })) seats (AreNames-none _),
      subst (λ ss. Agree c.new.result.entries ss) seats (subst (λ es. Agree es []) names Agree-none),
    )

pub returns-clause-valid : goal.returns-clause-valid
returns-clause-valid c = (invariant_of-result c).0
