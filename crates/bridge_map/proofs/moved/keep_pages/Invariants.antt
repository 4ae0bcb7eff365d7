use Rattle.std.proofs.Common.{◌≡◌, ◌<◌, ◌+◌, ℕ}
use Rattle.std.specs.FinMap.{get}
use Rattle.bridge_map.specs.Rows.{IsWrittenOrZeros, pages_effects}
use Rattle.o32_model.specs.Logs.{with_more}
use Rattle.bridge_map.proofs.moved.keep_pages.Given as goal

abbrev pub invariant-loop-done : goal.invariant-loop-done
invariant-loop-done l =
    (l.log.effects ≡ with_more l.fn.log.effects (pages_effects l.fn.space.pages l.first l.done))
    × (l.log.native ≡ l.fn.log.native)
    × ((k : ℕ) → k < l.done → IsWrittenOrZeros (get l.fn.space.pages (l.first + k)))
