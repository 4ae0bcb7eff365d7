use Rattle.std.proofs.Common.{◌+◌, drop, get_or, subst, ◌∙◌}
use Rattle.o32_model.specs.declared.range.Range.{Range}
use Rattle.bridge_log.proofs.Journals.{effected_then}
use Rattle.bridge_log.proofs.Memory.{Scattered, scattered-next, split}
use Rattle.bridge_io.proofs.vectors.scatter.Goals as goal

abbrev no_range : Range
no_range = record { address = 0; length = 0 }

pub loop-range-preserved : goal.loop-range-preserved
loop-range-preserved c = record {
  stored =
      λ fits.
      let ranges = c.args.ranges.now in
      let i = c.loop-range.range-index in
      scattered-next c.args.space.now c.loop-range.space c.put_some.new.space ranges (drop (i + 1) ranges) (get_or ranges i no_range) c.args.bytes.now
      c.loop-range.rest.now c.split_at.result.0.now c.split_at.result.1.now c.min.result
      (subst (λ later. Scattered c.args.space.now c.loop-range.space ranges later c.args.bytes.now c.loop-range.rest.now) (split ranges i no_range c.loop-range-test.true) (c.loop-range.invariant.stored fits))
      c.min.ensures c.split_at.ensures.front c.split_at.ensures.back c.in_ok-put_some.ensures.stored;
  effects = λ processor sent. effected_then (c.loop-range.invariant.effects processor sent) (c.in_ok-put_some.ensures.effects processor sent);
  native = c.put_some.ensures.native ∙ c.loop-range.invariant.native;
}
