-- The bytes are those of what the timer shows.
use Rattle.std.proofs.Common.{◌≡◌, ℕ, List, IfOk, subst}
use Rattle.bridge_log.specs.Storing.{ending, stores_unless_null}
use Rattle.bridge_timer.proofs.storing.store_shown_unless_null.Goals as goal

pub returns-clause-ends : goal.returns-clause-ends
returns-clause-ends c =
    subst (λ (bytes : List ℕ). IfOk c.store_unless_null.result (λ outcome. stores_unless_null c.args.space.now c.args.address bytes 0 ≡ ending outcome c.store_unless_null.new.space)) c.bytes.ensures c.store_unless_null.ensures.ends
