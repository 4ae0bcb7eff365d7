-- The action is found, and the first that pends is taken and delivered.
use Rattle.std.proofs.Common.{◌≡◌, ◌∙◌, ap, sym, List, ℕ}
use Rattle.kernel_model.specs.SignalRows.{action_at, pending_at}
use Rattle.kernel_model.specs.State.{Kernel}
use Rattle.kernel_model.specs.declared.signal.Action.{Action}
use Rattle.o32_turns.specs.Closing.{whole_end}
use Rattle.o32_turns.specs.Delivering.{delivered, signal_taken}
use Rattle.o32_turns.specs.Going.{within_of}
use Rattle.outside.specs.Streams.{Contents}
use Rattle.schedule.specs.declared.events.Due.{Due}
use Rattle.bridge_delivery.proofs.Carrying.{on_ok}
use Rattle.bridge_delivery.proofs.Takings.{taken_none, taken_some}
use Rattle.bridge_delivery.proofs.Keeping.{keeps_act, keeps_look, keeps_then, kept_then, told_then}
use Rattle.bridge_delivery.proofs.delivering.take_signal.Goals as goal

pub returns-in-None-clause-delivered : goal.returns-in-None-clause-delivered
returns-in-None-clause-delivered g c = λ left told.
    let seen = c.in_ok-action.ensures.looks left told in
    let took = c.in_ok-take.ensures.acts left (ap (λ (at : Contents). at.left) seen.1.rest ∙ told) in
    let going = c.args.process.now.going.now in
    let cpu = c.args.process.now.cpu.now in
    let space = c.args.process.now.space.now in (
      took.1.rest ∙ seen.1.rest,
      λ (coming : List Due) (idle : ℕ).
          taken_none going cpu space c.action.new.below.kernel.now c.take.new.below.kernel.now c.args.sig coming idle (sym c.in-None.is ∙ took.0.0) took.0.1
          ∙ ap (λ (k : Kernel). signal_taken whole_end (within_of going cpu space k coming idle) c.args.sig (pending_at k.signals c.args.sig)) seen.1.same,
    )

pub returns-in-Some-clause-delivered : goal.returns-in-Some-clause-delivered
returns-in-Some-clause-delivered g c = λ left told.
    let seen = c.in_ok-action.ensures.looks left told in
    let took = c.in_ok-take.ensures.acts left (ap (λ (at : Contents). at.left) seen.1.rest ∙ told) in
    let sent = c.deliver_sent.ensures.delivered left (ap (λ (at : Contents). at.left) (took.1.rest ∙ seen.1.rest) ∙ told) in
    let going = c.args.process.now.going.now in
    let cpu = c.args.process.now.cpu.now in
    let space = c.args.process.now.space.now in
    let info = c.in-Some.info in
    let action : c.in_ok-action.action ≡ action_at c.action.new.below.kernel.now.signals c.args.sig = seen.0 ∙ ap (λ (k : Kernel). action_at k.signals c.args.sig) (sym seen.1.same) in (
      sent.0 ∙ took.1.rest ∙ seen.1.rest,
      on_ok c.deliver_sent.result _ _ (λ (is : (coming : List Due) (idle : ℕ) → within_of c.deliver_sent.new.process.going.now c.deliver_sent.new.process.cpu.now c.deliver_sent.new.process.space.now c.deliver_sent.new.below.kernel.now coming idle
          ≡ delivered whole_end (within_of going cpu space c.take.new.below.kernel.now coming idle) info c.in_ok-action.action). λ (coming : List Due) (idle : ℕ).
          is coming idle
          ∙ ap (λ (a : Action). delivered whole_end (within_of going cpu space c.take.new.below.kernel.now coming idle) info a) action
          ∙ taken_some going cpu space c.action.new.below.kernel.now c.take.new.below.kernel.now c.args.sig coming idle info (sym c.in-Some.is ∙ took.0.0) took.0.1
          ∙ ap (λ (k : Kernel). signal_taken whole_end (within_of going cpu space k coming idle) c.args.sig (pending_at k.signals c.args.sig)) seen.1.same) sent.1,
    )

pub returns-in-None-clause-kept : goal.returns-in-None-clause-kept
returns-in-None-clause-kept g c = λ left told.
    let seen = c.in_ok-action.ensures.looks left told in
    let took = c.in_ok-take.ensures.acts left (told_then seen.1.rest told) in
    keeps_then (keeps_look c.args.process.now.space.now.pages seen.1) (keeps_act c.args.process.now.space.now.pages took.1)

pub returns-in-Some-clause-kept : goal.returns-in-Some-clause-kept
returns-in-Some-clause-kept g c = λ left told.
    let seen = c.in_ok-action.ensures.looks left told in
    let took = c.in_ok-take.ensures.acts left (told_then seen.1.rest told) in
    kept_then c.deliver_sent.result c.deliver_sent.new.below.kernel.now c.deliver_sent.new.process.space.now.pages c.deliver_sent.new.below.log.now
    (keeps_then (keeps_look c.args.process.now.space.now.pages seen.1) (keeps_act c.args.process.now.space.now.pages took.1))
    (c.deliver_sent.ensures.kept left (told_then took.1.rest (told_then seen.1.rest told)))
