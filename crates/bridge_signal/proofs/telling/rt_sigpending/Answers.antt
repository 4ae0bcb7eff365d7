-- What was told is stored as the row says.
use Rattle.std.proofs.Common.{◌∙◌, ap}
use Rattle.guest_space.specs.Memory.{Memory}
use Rattle.o32_model.specs.Actions.{rt_sigpending_row}
use Rattle.o32_model.specs.Masks.{set_bytes}
use Rattle.bridge_signal.proofs.Asking.{pending_ended}
use Rattle.bridge_signal.specs.inside.Endings.{stores_told}
use Rattle.bridge_signal.proofs.Ends.{ends_called, ends_keeps}
use Rattle.bridge_signal.proofs.telling.rt_sigpending.Goals as goal

pub returns-clause-row : goal.returns-clause-row
returns-clause-row g c = λ guest memory left told.
    let seen = c.in_ok-told.ensures.acts left told in
    ends_called c.in_ok-outcome.outcome c.store_set.new.space guest.processor (stores_told set_bytes guest.memory c.args.address c.in_ok-told.told) (rt_sigpending_row c.args.below.now.kernel.now guest c.args.address c.args.size left) seen.1 told
    (pending_ended c.args.below.now.kernel.now c.told_pending.new.below.kernel.now guest c.args.address c.args.size left c.in_ok-told.told seen.0)
    (ap (λ (m : Memory). stores_told set_bytes m c.args.address c.in_ok-told.told) memory ∙ c.in_ok-outcome.ensures.ends)

pub returns-clause-kept : goal.returns-clause-kept
returns-clause-kept g c = λ guest memory left told.
    let seen = c.in_ok-told.ensures.acts left told in
    ends_keeps guest c.in_ok-outcome.outcome c.args.space.now c.store_set.new.space guest.processor (stores_told set_bytes guest.memory c.args.address c.in_ok-told.told) (rt_sigpending_row c.args.below.now.kernel.now guest c.args.address c.args.size left) c.store_set.new.log seen.1 memory
    (pending_ended c.args.below.now.kernel.now c.told_pending.new.below.kernel.now guest c.args.address c.args.size left c.in_ok-told.told seen.0)
    (ap (λ (m : Memory). stores_told set_bytes m c.args.address c.in_ok-told.told) memory ∙ c.in_ok-outcome.ensures.ends)
    c.store_set.ensures.native c.in_ok-outcome.ensures.effects
