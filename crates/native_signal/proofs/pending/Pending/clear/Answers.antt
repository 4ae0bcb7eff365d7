use Rattle.std.proofs.Common.{◌≡◌, ◌-◌, [], List, false, sym, ap, arith, length}
use Rattle.std.specs.Prelude.{not}
use Rattle.std.proofs.lemmas.List.{get_or_read}
use Rattle.kernel_core.specs.NameCalls.{is_empty_list}
use Rattle.kernel_model.specs.Shared.{Info}
use Rattle.native_signal.specs.inside.Pending.{queue_at}
use Rattle.native_signal.proofs.SetLaws.{counted-standard, counted-real_time, length-queue}
use Rattle.native_signal.proofs.pending.Pending.clear.Goals as goal

pub overflow_sub-self : goal.overflow_sub-self
overflow_sub-self c =
    let inside = c.self.inside in
    let old = c.index_mut-queue.result.now in
    let was : old ≡ queue_at inside.queues.items c.args.place = get_or_read inside.queues.items c.args.place old (omega (arith, c.self.invariant.places)) c.index_mut-queue.ensures.value [] in
    omega (
      arith,
      c.self.invariant.queued,
      ap length was,
      c.len-count.ensures,
      length-queue inside.queues.items c.args.place c.self.invariant.places c.requires c.if-place-ge-STANDARD_SIGNALS.true,
    )

pub invariant_of-self : goal.invariant_of-self
invariant_of-self c =
    let inside = c.self.inside in
    let old = c.index_mut-queue.result.now in
    let was : old ≡ queue_at inside.queues.items c.args.place = get_or_read inside.queues.items c.args.place old (omega (arith, c.self.invariant.places)) c.index_mut-queue.ensures.value [] in
    let fits = length-queue inside.queues.items c.args.place c.self.invariant.places c.requires c.if-place-ge-STANDARD_SIGNALS.true in
    counted-real_time inside.queues.items inside.set inside.queued c.self.invariant c.args.place c.requires old c.clear.new.self was c.mark.new.set false c.mark.ensures
    (sym (ap (λ (q : List Info). not (is_empty_list q)) c.clear.ensures)) (inside.queued - c.len-count.result) c.if-place-ge-STANDARD_SIGNALS.true
    (omega (arith, fits, c.self.invariant.queued, ap length was, c.len-count.ensures, ap length c.clear.ensures))

pub invariant_of-self-else-place-ge-STANDARD_SIGNALS : goal.invariant_of-self-else-place-ge-STANDARD_SIGNALS
invariant_of-self-else-place-ge-STANDARD_SIGNALS c =
    let inside = c.self.inside in
    let old = c.index_mut-queue.result.now in
    let was : old ≡ queue_at inside.queues.items c.args.place = get_or_read inside.queues.items c.args.place old (omega (arith, c.self.invariant.places)) c.index_mut-queue.ensures.value [] in
    counted-standard inside.queues.items inside.set inside.queued c.self.invariant c.args.place c.requires old c.clear.new.self was c.mark.new.set false c.mark.ensures
    (sym (ap (λ (q : List Info). not (is_empty_list q)) c.clear.ensures)) c.if-place-ge-STANDARD_SIGNALS.false
