use Rattle.std.proofs.Common.{◌≡◌, ◌+◌, false, sym, ◌∙◌, arith}
use Rattle.std.specs.HashSet.{hash_set_len}
use Rattle.fs_image.specs.inside.Walk.{is_in}
use Rattle.fs_image.proofs.Spreading.{spread_pushed, spread_kept}
use Rattle.fs_image.proofs.walk.spread.Goals as goal
use Rattle.fs_image.proofs.walk.spread.Goals.{then-remove+in_ok-push, else-remove}

pub loop-entry-preserved : goal.loop-entry-preserved
loop-entry-preserved c =
    elim c.if-remove.branch [
      | then-remove+in_ok-push w ↦
          let len : hash_set_len c.remove.new.self + 1 ≡ hash_set_len c.loop-entry.unreached = rw w.if-remove.true at c.remove.ensures.len in
          rw (w.stack-is, w.in_ok-push.ensures.items) (spread_pushed c.args.entries.now c.loop-entry.entry-index c.entry-item.result c.args.unreached.now c.args.stack.now.items c.loop-entry.unreached c.loop-entry.stack.items c.remove.new.self c.loop-entry-test.true c.entry-item.is c.loop-entry.invariant c.remove.ensures.updates.0 len)
      | else-remove w ↦
          let len : hash_set_len c.remove.new.self + 0 ≡ hash_set_len c.loop-entry.unreached = rw w.if-remove.false at c.remove.ensures.len in
          let same : hash_set_len c.remove.new.self ≡ hash_set_len c.loop-entry.unreached = omega (arith, len) in
          let absent : is_in c.loop-entry.unreached c.entry-item.result.node ≡ false = sym c.remove.ensures.test ∙ w.if-remove.false in
          rw w.stack-is (spread_kept c.args.entries.now c.loop-entry.entry-index c.entry-item.result c.args.unreached.now c.args.stack.now.items c.loop-entry.unreached c.loop-entry.stack.items c.remove.new.self c.loop-entry-test.true c.entry-item.is c.loop-entry.invariant c.remove.ensures.updates.0 absent same)
    ]
