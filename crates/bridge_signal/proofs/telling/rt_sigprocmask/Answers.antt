-- What was told is stored as the row says.
use Rattle.std.proofs.Common.{◌∙◌, ap, sym}
use Rattle.guest_space.specs.Memory.{Memory}
use Rattle.number_tables.specs.MaskChanges.{mask_change_of_o32}
use Rattle.o32_model.specs.Actions.{rt_sigprocmask_row}
use Rattle.o32_model.specs.GuestBytes.{unless_null}
use Rattle.o32_model.specs.Masks.{set_at, set_bytes}
use Rattle.o32_model.specs.Words.{argument}
use Rattle.bridge_signal.proofs.Asking.{mask_ended}
use Rattle.bridge_signal.specs.inside.Asked.{asked_set, if_sized}
use Rattle.bridge_signal.specs.inside.Endings.{stores_told_unless_null}
use Rattle.bridge_signal.proofs.Ends.{ends_called, ends_keeps}
use Rattle.bridge_signal.proofs.telling.rt_sigprocmask.Goals as goal

pub returns-clause-row : goal.returns-clause-row
returns-clause-row g c = λ guest memory left told.
    let seen = c.in_ok-told.ensures.acts left told in
    ends_called c.in_ok-outcome.outcome c.store_set_unless_null.new.space guest.processor (stores_told_unless_null set_bytes guest.memory (argument c.args.words.now 2) c.in_ok-told.told) (rt_sigprocmask_row c.args.below.now.kernel.now guest (argument c.args.words.now 0) (argument c.args.words.now 1) (argument c.args.words.now 2) (argument c.args.words.now 3) left) seen.1 told
    (mask_ended c.args.below.now.kernel.now c.change_mask.new.below.kernel.now guest (argument c.args.words.now 0) (argument c.args.words.now 1) (argument c.args.words.now 2) (argument c.args.words.now 3) left c.asked_change-asked.result c.in_ok-told.told (c.asked_change-asked.ensures ∙ ap (λ (m : Memory). if_sized (argument c.args.words.now 3) (asked_set (mask_change_of_o32 (argument c.args.words.now 0)) (unless_null (argument c.args.words.now 1) (set_at m (argument c.args.words.now 1))))) (sym memory)) seen.0)
    (ap (λ (m : Memory). stores_told_unless_null set_bytes m (argument c.args.words.now 2) c.in_ok-told.told) memory ∙ c.in_ok-outcome.ensures.ends)

pub returns-clause-kept : goal.returns-clause-kept
returns-clause-kept g c = λ guest memory left told.
    let seen = c.in_ok-told.ensures.acts left told in
    ends_keeps guest c.in_ok-outcome.outcome c.args.space.now c.store_set_unless_null.new.space guest.processor (stores_told_unless_null set_bytes guest.memory (argument c.args.words.now 2) c.in_ok-told.told) (rt_sigprocmask_row c.args.below.now.kernel.now guest (argument c.args.words.now 0) (argument c.args.words.now 1) (argument c.args.words.now 2) (argument c.args.words.now 3) left) c.store_set_unless_null.new.log seen.1 memory
    (mask_ended c.args.below.now.kernel.now c.change_mask.new.below.kernel.now guest (argument c.args.words.now 0) (argument c.args.words.now 1) (argument c.args.words.now 2) (argument c.args.words.now 3) left c.asked_change-asked.result c.in_ok-told.told (c.asked_change-asked.ensures ∙ ap (λ (m : Memory). if_sized (argument c.args.words.now 3) (asked_set (mask_change_of_o32 (argument c.args.words.now 0)) (unless_null (argument c.args.words.now 1) (set_at m (argument c.args.words.now 1))))) (sym memory)) seen.0)
    (ap (λ (m : Memory). stores_told_unless_null set_bytes m (argument c.args.words.now 2) c.in_ok-told.told) memory ∙ c.in_ok-outcome.ensures.ends)
    c.store_set_unless_null.ensures.native c.in_ok-outcome.ensures.effects
