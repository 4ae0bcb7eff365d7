-- What was told is stored as the row says.
use Rattle.std.proofs.Common.{◌∙◌, ap, sym}
use Rattle.guest_space.specs.Memory.{Memory}
use Rattle.kernel_model.specs.Came.{given_or_none}
use Rattle.mips_exec.specs.Processor.{Processor, register}
use Rattle.o32_model.specs.Actions.{sigaltstack_row, stack_at, stack_bytes}
use Rattle.bridge_signal.proofs.Asking.{stack_ended}
use Rattle.bridge_signal.specs.inside.Endings.{stores_told_unless_null}
use Rattle.bridge_signal.proofs.Ends.{ends_called, ends_keeps}
use Rattle.bridge_signal.proofs.telling.sigaltstack.Goals as goal

pub returns-clause-row : goal.returns-clause-row
returns-clause-row g c = λ guest memory processor left told.
    let seen = c.in_ok-told.ensures.acts left told in
    ends_called c.in_ok-outcome.outcome c.store_stack_unless_null.new.space guest.processor (stores_told_unless_null stack_bytes guest.memory c.args.old c.in_ok-told.told) (sigaltstack_row c.args.below.now.kernel.now guest c.args.new c.args.old left) seen.1 told
    (stack_ended c.args.below.now.kernel.now c.change_stack.new.below.kernel.now guest c.register-sp.result c.args.new c.args.old left c.asked_stack-asked.result c.in_ok-told.told (ap (λ (p : Processor). register p 29) processor ∙ sym c.register-sp.ensures) (c.asked_stack-asked.ensures ∙ ap (λ (m : Memory). given_or_none (stack_at m c.args.new)) (sym memory)) seen.0)
    (ap (λ (m : Memory). stores_told_unless_null stack_bytes m c.args.old c.in_ok-told.told) memory ∙ c.in_ok-outcome.ensures.ends)

pub returns-clause-kept : goal.returns-clause-kept
returns-clause-kept g c = λ guest memory processor left told.
    let seen = c.in_ok-told.ensures.acts left told in
    ends_keeps guest c.in_ok-outcome.outcome c.args.space.now c.store_stack_unless_null.new.space guest.processor (stores_told_unless_null stack_bytes guest.memory c.args.old c.in_ok-told.told) (sigaltstack_row c.args.below.now.kernel.now guest c.args.new c.args.old left) c.store_stack_unless_null.new.log seen.1 memory
    (stack_ended c.args.below.now.kernel.now c.change_stack.new.below.kernel.now guest c.register-sp.result c.args.new c.args.old left c.asked_stack-asked.result c.in_ok-told.told (ap (λ (p : Processor). register p 29) processor ∙ sym c.register-sp.ensures) (c.asked_stack-asked.ensures ∙ ap (λ (m : Memory). given_or_none (stack_at m c.args.new)) (sym memory)) seen.0)
    (ap (λ (m : Memory). stores_told_unless_null stack_bytes m c.args.old c.in_ok-told.told) memory ∙ c.in_ok-outcome.ensures.ends)
    c.store_stack_unless_null.ensures.native c.in_ok-outcome.ensures.effects
