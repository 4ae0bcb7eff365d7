-- Round by round, until it is over or all rounds are done.
use Rattle.std.proofs.Common.{◌∙◌, ◌+◌, ◌-◌, ap, sym, List, ℕ, arith, rules}
use Rattle.o32_turns.specs.Closing.{whole_end}
use Rattle.o32_turns.specs.Delivering.{rounds}
use Rattle.o32_turns.specs.Going.{within_of}
use Rattle.o32_turns.specs.Machine.{Within}
use Rattle.outside.specs.Streams.{Contents}
use Rattle.schedule.specs.declared.events.Due.{Due}
use Rattle.bridge_delivery.proofs.Keeping.{keeps_then, told_then}
use Rattle.bridge_delivery.proofs.Rounds.{all_done, one_round, over_so}
use Rattle.bridge_delivery.proofs.delivering.deliver_rounds.Goals as goal

pub returns-then-is_delivered-clause-delivered : goal.returns-then-is_delivered-clause-delivered
returns-then-is_delivered-clause-delivered g c = λ left told.
    let so = c.loop-round.invariant.carried left told in
    let none = sym c.is_in_slot.ensures ∙ c.if-is_in_slot.false in (
      so.0,
      λ (coming : List Due) (idle : ℕ).
          over_so c.loop-round._round (within_of c.args.process.now.going.now c.args.process.now.cpu.now c.args.process.now.space.now c.args.below.now.kernel.now coming idle)
          (within_of c.loop-round.process.going.now c.loop-round.process.cpu.now c.loop-round.process.space.now c.loop-round.below.kernel.now coming idle)
          none (sym c.is_delivered.ensures ∙ c.if-is_delivered.true) (so.1 coming idle),
    )

pub loop-round-preserved : goal.loop-round-preserved
loop-round-preserved g c = record {
  clock = search rules;
  carried = λ left told.
      let so = c.loop-round.invariant.carried left told in
      let done = c.in_ok-round.ensures.delivered left (ap (λ (at : Contents). at.left) so.0 ∙ told) in (
        done.0 ∙ so.0,
        λ (coming : List Due) (idle : ℕ).
            ap (λ (w : Within). rounds whole_end (2112 - (c.loop-round._round + 1)) w) (done.1 coming idle)
            ∙ sym (one_round c.loop-round._round (within_of c.loop-round.process.going.now c.loop-round.process.cpu.now c.loop-round.process.space.now c.loop-round.below.kernel.now coming idle)
            (omega arith) (sym c.is_delivered.ensures ∙ c.if-is_delivered.false))
            ∙ so.1 coming idle,
      );
  kept = λ left told.
      keeps_then (c.loop-round.invariant.kept left told)
      (c.in_ok-round.ensures.kept left (told_then (c.loop-round.invariant.carried left told).0 told));
  later = search rules;
  stays = search rules;
  same = record {
    kernel = c.in_ok-round.ensures.same.kernel ∙ c.loop-round.invariant.same.kernel;
    memory = c.in_ok-round.ensures.same.memory ∙ c.loop-round.invariant.same.memory;
    log = c.in_ok-round.ensures.same.log ∙ c.loop-round.invariant.same.log;
  };
  steady = record {
    going = c.in_ok-round.ensures.stays.going ∙ c.loop-round.invariant.steady.going;
    cpu = c.in_ok-round.ensures.stays.cpu ∙ c.loop-round.invariant.steady.cpu;
    space = c.in_ok-round.ensures.stays.space ∙ c.loop-round.invariant.steady.space;
  };
}

pub returns-clause-delivered : goal.returns-clause-delivered
returns-clause-delivered g c = λ left told.
    let so = c.loop-round.invariant.carried left told in
    let none = sym c.is_in_slot.ensures ∙ c.if-is_in_slot.false in (
      so.0,
      λ (coming : List Due) (idle : ℕ).
          all_done c.loop-round._round (within_of c.args.process.now.going.now c.args.process.now.cpu.now c.args.process.now.space.now c.args.below.now.kernel.now coming idle)
          (within_of c.loop-round.process.going.now c.loop-round.process.cpu.now c.loop-round.process.space.now c.loop-round.below.kernel.now coming idle)
          none (omega arith) (so.1 coming idle),
    )
