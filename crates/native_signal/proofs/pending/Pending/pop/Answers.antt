use Rattle.std.proofs.Common.{◌≡◌, ◌-◌, [], ap, arith, length}
use Rattle.std.specs.Prelude.{not}
use Rattle.std.proofs.lemmas.List.{get_or_read}
use Rattle.native_signal.specs.inside.Pending.{queue_at}
use Rattle.native_signal.proofs.SetLaws.{counted-standard, counted-real_time, popped_length, length-queue}
use Rattle.native_signal.proofs.pending.Pending.pop.Goals as goal

pub overflow_sub-self : goal.overflow_sub-self
overflow_sub-self c =
    let inside = c.self.inside in
    let old = c.index_mut-queue.result.now in
    let was : old ≡ queue_at inside.queues.items c.args.place = get_or_read inside.queues.items c.args.place old (omega (arith, c.self.invariant.places)) c.index_mut-queue.ensures.value [] in
    omega (
      arith,
      c.self.invariant.queued,
      ap length was,
      popped_length old c.pop.new.self c.in_ok-first.first c.in_ok-first.ensures.first c.in_ok-first.ensures.rest,
      length-queue inside.queues.items c.args.place c.self.invariant.places c.requires c.if-place-ge-STANDARD_SIGNALS.true,
    )

pub invariant_of-self-then-place-ge-STANDARD_SIGNALS : goal.invariant_of-self-then-place-ge-STANDARD_SIGNALS
invariant_of-self-then-place-ge-STANDARD_SIGNALS c =
    let inside = c.self.inside in
    let old = c.index_mut-queue.result.now in
    let was : old ≡ queue_at inside.queues.items c.args.place = get_or_read inside.queues.items c.args.place old (omega (arith, c.self.invariant.places)) c.index_mut-queue.ensures.value [] in
    let shorter = popped_length old c.pop.new.self c.in_ok-first.first c.in_ok-first.ensures.first c.in_ok-first.ensures.rest in
    let fits = length-queue inside.queues.items c.args.place c.self.invariant.places c.requires c.if-place-ge-STANDARD_SIGNALS.true in
    counted-real_time inside.queues.items inside.set inside.queued c.self.invariant c.args.place c.requires old c.pop.new.self was c.mark.new.set (not c.is_empty-pends.result) c.mark.ensures
    (ap not c.is_empty-pends.ensures) (inside.queued - 1) c.if-place-ge-STANDARD_SIGNALS.true
    (omega (arith, shorter, fits, c.self.invariant.queued, ap length was))

pub invariant_of-self-else-place-ge-STANDARD_SIGNALS : goal.invariant_of-self-else-place-ge-STANDARD_SIGNALS
invariant_of-self-else-place-ge-STANDARD_SIGNALS c =
    let inside = c.self.inside in
    let old = c.index_mut-queue.result.now in
    let was : old ≡ queue_at inside.queues.items c.args.place = get_or_read inside.queues.items c.args.place old (omega (arith, c.self.invariant.places)) c.index_mut-queue.ensures.value [] in
    counted-standard inside.queues.items inside.set inside.queued c.self.invariant c.args.place c.requires old c.pop.new.self was c.mark.new.set (not c.is_empty-pends.result) c.mark.ensures
    (ap not c.is_empty-pends.ensures) c.if-place-ge-STANDARD_SIGNALS.false
