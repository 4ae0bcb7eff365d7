-- The bytes are those of what the timer shows.
use Rattle.std.proofs.Common.{◌≡◌, ℕ, Bool, List, length, sym, subst, Result, Ok, Err, IfOk, OnOk}
use Rattle.guest_space.specs.Memory.{Memory}
use Rattle.kernel_core.specs.declared.core_error.NoMemory.{NoMemory}
use Rattle.o32_model.specs.GuestBytes.{is_storable, with_stored}
use Rattle.o32_model.specs.Results.{value_if}
use Rattle.o32_model.specs.declared.outcome.Outcome.{Outcome}
use Rattle.bridge_log.specs.Storing.{ending, stores}
use Rattle.bridge_timer.proofs.storing.store_shown.Goals as goal

both : (result : Result Outcome NoMemory) (outcome : Outcome) (before after : Memory) → IfOk result (λ found. found ≡ outcome) → OnOk result (after ≡ before) → IfOk result (λ found. ending outcome before ≡ ending found after)
both (Ok found) outcome before after is stored = λ i. ending (sym is i) (sym stored i)
both (Err error) outcome before after is stored = tt

pub returns-clause-ends : goal.returns-clause-ends
returns-clause-ends c =
    subst (λ (bytes : List ℕ). IfOk c.store.result (λ outcome. stores c.args.space.now c.args.address bytes 0 ≡ ending outcome c.store.new.space)) c.bytes.ensures
    (both c.store.result _ _ c.store.new.space c.store.ensures.outcome c.store.ensures.stored)
