use Rattle.std.proofs.Common.{◌≡◌, ℕ, List, IfOk, subst, sym}
use Rattle.kernel_model.specs.Came.{Given}
use Rattle.kernel_model.specs.declared.signal.SigStack.{SigStack}
use Rattle.o32_model.specs.Actions as actions
use Rattle.bridge_signal_state.specs.Passed.{ending, stores_unless_null}
use Rattle.bridge_signal.specs.inside.Endings.{stores_told_unless_null}
use Rattle.bridge_signal.proofs.storing.store_stack_unless_null.Goals as goal

pub returns-in-Ok-clause-ends : goal.returns-in-Ok-clause-ends
returns-in-Ok-clause-ends c =
    subst (λ (t : Given SigStack). IfOk c.store_unless_null.result (λ outcome. stores_told_unless_null actions.stack_bytes c.args.space.now c.args.address t ≡ ending outcome c.store_unless_null.new.space)) (sym c.in-Ok.is)
    (subst (λ (b : List ℕ). IfOk c.store_unless_null.result (λ outcome. stores_unless_null c.args.space.now c.args.address b 0 ≡ ending outcome c.store_unless_null.new.space)) c.stack_bytes.ensures c.store_unless_null.ensures.ends)
