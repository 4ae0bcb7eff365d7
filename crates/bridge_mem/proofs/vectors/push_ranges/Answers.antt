use Rattle.std.proofs.Common.{◌+◌, ◌-◌, ◌*◌, ◌∙◌, sym, ap, arith, length, length-append}
use Rattle.std.proofs.lemmas.Result.{err_from_is_err_and}
use Rattle.bridge_mem.proofs.Iovecs.{with_more-all, with_more-none, with_more-step, with_more-error}
use Rattle.bridge_mem.proofs.vectors.push_ranges.Goals as goal

pub loop-done-init : goal.loop-done-init
loop-done-init c = record {
  all = with_more-all c.args.space.now _ _ _ _ c.args.ranges.now.items (omega arith) (omega arith) c.requires.empty;
  count = ap length c.requires.empty;
  inside = omega arith;
}

pub overflow_add-address : goal.overflow_add-address
overflow_add-address c = omega arith

pub returns-in_err-read_range-clause-answer : goal.returns-in_err-read_range-clause-answer
returns-in_err-read_range-clause-answer c =
    let p = err_from_is_err_and c.from_residual.result c.from_residual.ensures.1 in
    rw (p.1, p.2) (with_more-error c.args.space.now (c.args.address + c.loop-done.done * 8) (c.args.count - c.loop-done.done) (c.args.count - (c.loop-done.done + 1)) c.loop-done.ranges.items _ (omega arith) c.in_err-read_range.ensures.value
    ∙ c.loop-done.invariant.all)

pub push-requires : goal.push-requires
push-requires c = omega arith

pub loop-done-preserved : goal.loop-done-preserved
loop-done-preserved c = record {
  all =
      with_more-step c.args.space.now (c.args.address + c.loop-done.done * 8) (c.args.address + (c.loop-done.done + 1) * 8) (c.args.count - c.loop-done.done) (c.args.count - (c.loop-done.done + 1))
      c.loop-done.ranges.items _ _ (omega arith) (omega arith) c.in_ok-read_range.ensures.value c.push.ensures.items
      ∙ c.loop-done.invariant.all;
  count = omega (arith, ap length c.push.ensures.items, length-append c.loop-done.ranges.items);
  inside = omega (arith, c.in_ok-read_range.ensures.inside);
}

pub returns-clause-answer : goal.returns-clause-answer
returns-clause-answer c =
    sym (with_more-none c.args.space.now (c.args.address + c.loop-done.done * 8) (c.args.count - c.loop-done.done) c.loop-done.ranges.items (omega arith)) ∙ c.loop-done.invariant.all

pub returns-clause-count : goal.returns-clause-count
returns-clause-count c = omega arith
