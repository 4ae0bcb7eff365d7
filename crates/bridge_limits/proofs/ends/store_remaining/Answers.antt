-- What is left is stored.
use Rattle.std.proofs.Common.{◌≡◌, ◌∙◌, ap, arith, false}
use Rattle.std.specs.Prelude.{◌==◌}
use Rattle.std.proofs.lemmas.Bool.Decides.{nat_tests}
use Rattle.o32_model.specs.GuestBytes.{with_stored}
use Rattle.bridge_limits.proofs.LeftBytes.{on_ok, remaining_stored}
use Rattle.bridge_limits.specs.declared.lefts.Left.{Left}
use Rattle.bridge_limits.specs.inside.Lefts.{bytes_of}
use Rattle.bridge_limits.proofs.ends.store_remaining.Goals as goal

pub returns-clause-stored : goal.returns-clause-stored
returns-clause-stored c =
    on_ok c.put_left.result (λ put.
    put ∙ ap (λ (left : Left). with_stored c.args.space.now c.args.at.address (bytes_of c.args.at.form left)) c.of-left.ensures
    ∙ remaining_stored c.args.at c.args.wait.now c.args.clock c.args.space.now c.left_until.result (let some : (c.args.at.address == 0) ≡ false = grind (arith, nat_tests) in some) c.left_until.ensures)
    c.put_left.ensures.stored
