-- The action and the mask are found, and then the fault is delivered.
use Rattle.std.proofs.Common.{◌≡◌, ◌∙◌, List, ℕ, ap, sym}
use Rattle.kernel_model.specs.State.{Kernel}
use Rattle.o32_turns.specs.Closing.{whole_end}
use Rattle.o32_turns.specs.Delivering.{fault_delivered}
use Rattle.o32_turns.specs.Going.{within_of}
use Rattle.schedule.specs.declared.events.Due.{Due}
use Rattle.bridge_delivery.proofs.Carrying.{on_ok}
use Rattle.bridge_delivery.proofs.Keeping.{keeps_look, keeps_then, kept_then, told_then}
use Rattle.bridge_delivery.proofs.Takings.{taken_fault}
use Rattle.bridge_delivery.specs.inside.Processes.{stands}
use Rattle.bridge_delivery.proofs.delivering.take_fault.Goals as goal

pub returns-clause-delivered : goal.returns-clause-delivered
returns-clause-delivered g c = λ left told.
    let found = c.in_ok-action.ensures.looks left told in
    let seen = c.in_ok-blocked.ensures.looks left (told_then found.1.rest told) in
    let mask : c.in_ok-blocked.blocked ≡ c.mask.new.below.kernel.now.signals.mask = seen.0 ∙ ap (λ (k : Kernel). k.signals.mask) (sym seen.1.same) in
    let done = c.deliver_fault.ensures.delivered mask left (told_then seen.1.rest (told_then found.1.rest told)) in
    let cpu = c.args.process.now.cpu.now in
    let space = c.args.process.now.space.now in (
      done.0 ∙ seen.1.rest ∙ found.1.rest,
      on_ok c.deliver_fault.result _ _ (λ (is : (coming : List Due) (idle : ℕ) → stands c.deliver_fault.new.process c.deliver_fault.new.below.kernel.now coming idle
          ≡ fault_delivered whole_end (within_of c.use_up_fault.new.going cpu space c.mask.new.below.kernel.now coming idle) c.args.info c.in_ok-action.action). λ (coming : List Due) (idle : ℕ).
          is coming idle
          ∙ taken_fault c.args.process.now.going.now c.use_up_fault.new.going cpu space c.args.below.now.kernel.now c.mask.new.below.kernel.now c.args.info c.in_ok-action.action coming idle
          c.use_up_fault.ensures (seen.1.same ∙ found.1.same) found.0) done.1,
    )

pub returns-clause-kept : goal.returns-clause-kept
returns-clause-kept g c = λ left told.
    let action = c.in_ok-action.ensures.looks left told in
    let blocked = c.in_ok-blocked.ensures.looks left (told_then action.1.rest told) in
    kept_then c.deliver_fault.result c.deliver_fault.new.below.kernel.now c.deliver_fault.new.process.space.now.pages c.deliver_fault.new.below.log.now
    (keeps_then (keeps_look c.args.process.now.space.now.pages action.1) (keeps_look c.args.process.now.space.now.pages blocked.1))
    (c.deliver_fault.ensures.kept left (told_then blocked.1.rest (told_then action.1.rest told)))
