use Rattle.std.proofs.Common.{◌+◌, ◌-◌, arith}
use Rattle.guest_space.proofs.Ranges.{not_free, run-below, run-below-row}
use Rattle.guest_space.proofs.range.greatest_place.Goals as goal

pub returns-in-None : goal.returns-in-None
returns-in-None c = (
  record {
    from_begin = omega (arith, c.loop-end-test.true, c.loop-end.invariant.from_begin);
    to_end = omega (arith, c.loop-end-test.true, c.loop-end.invariant.from_begin, c.loop-end.invariant.to_end);
    free = λ k below. c.in-None.ensures (c.loop-end.end - c.args.count + k) (omega arith) (omega (arith, below, c.loop-end-test.true, c.loop-end.invariant.from_begin));
  },
  λ other place. omega (arith, c.loop-end.invariant.above other place),
)

pub returns-in-None-last_free : goal.returns-in-None-last_free
returns-in-None-last_free c =
    let pages = c.args.pages.now in
    let count = c.args.count in
    λ other place.
    let ends = run-below pages other count c.in-Some.last c.loop-end.end place.free (c.loop-end.invariant.above other place) c.in-Some.ensures.0 c.in-Some.ensures.2 in
    not_free pages other count other place.free (omega arith) (omega (arith, c.requires)) (c.in-None-last_free.ensures other place.from_begin (omega (arith, ends, c.requires)))

pub loop-end-preserved : goal.loop-end-preserved
loop-end-preserved c =
    let pages = c.args.pages.now in
    let count = c.args.count in
    let last = c.in-Some.last in
    let found = c.in-Some-last_free.ensures in
    record {
      from_begin = omega (arith, found.0);
      to_end = omega (arith, found.1, c.in-Some.ensures.1, c.loop-end.invariant.to_end);
      above = λ other place.
          let ends = run-below pages other count last c.loop-end.end place.free (c.loop-end.invariant.above other place) c.in-Some.ensures.0 c.in-Some.ensures.2 in
          run-below-row pages other count (c.in-Some-last_free.free + 1) last c.requires place.free ends (λ number from below. found.3 number (omega (arith, from)) below);
    }

pub returns : goal.returns
returns c =
    λ other place. absurd (omega (arith, c.loop-end.invariant.above other place, place.from_begin, c.loop-end-test.false, c.loop-end.invariant.from_begin))
