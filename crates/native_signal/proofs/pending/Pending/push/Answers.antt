use Rattle.std.proofs.Common.{◌≡◌, ◌+◌, [], true, ap, length, arith}
use Rattle.std.proofs.lemmas.List.{get_or_read, length_push}
use Rattle.native_signal.specs.inside.Pending.{queue_at}
use Rattle.native_signal.proofs.SetLaws.{counted-standard, counted-real_time, pushed_pends}
use Rattle.native_signal.proofs.pending.Pending.push.Goals as goal

pub invariant_of-self-then-place-ge-STANDARD_SIGNALS : goal.invariant_of-self-then-place-ge-STANDARD_SIGNALS
invariant_of-self-then-place-ge-STANDARD_SIGNALS c =
    let inside = c.self.inside in
    let old = c.index_mut-queue.result.now in
    let was : old ≡ queue_at inside.queues.items c.args.place = get_or_read inside.queues.items c.args.place old (omega (arith, c.self.invariant.places)) c.index_mut-queue.ensures.value [] in
    counted-real_time inside.queues.items inside.set inside.queued c.self.invariant c.args.place c.requires.place old c.push.new.self was c.mark.new.set true c.mark.ensures
    (pushed_pends old c.push.new.self c.args.info c.in_ok-push.ensures.ok) (inside.queued + 1) c.if-place-ge-STANDARD_SIGNALS.true
    (omega (arith, ap length c.in_ok-push.ensures.ok, length_push old c.args.info))

pub invariant_of-self-else-place-ge-STANDARD_SIGNALS : goal.invariant_of-self-else-place-ge-STANDARD_SIGNALS
invariant_of-self-else-place-ge-STANDARD_SIGNALS c =
    let inside = c.self.inside in
    let old = c.index_mut-queue.result.now in
    let was : old ≡ queue_at inside.queues.items c.args.place = get_or_read inside.queues.items c.args.place old (omega (arith, c.self.invariant.places)) c.index_mut-queue.ensures.value [] in
    counted-standard inside.queues.items inside.set inside.queued c.self.invariant c.args.place c.requires.place old c.push.new.self was c.mark.new.set true c.mark.ensures
    (pushed_pends old c.push.new.self c.args.info c.in_ok-push.ensures.ok) c.if-place-ge-STANDARD_SIGNALS.false
