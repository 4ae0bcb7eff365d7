use Rattle.std.proofs.Common.{◌≡◌, ◌+◌, ◌-◌, ◌*◌, ◌≤◌, drop}
use Rattle.std.specs.Prelude.{count_by}
use Rattle.kernel_model.specs.Readiness.{is_any, returned}
use Rattle.native_calls.specs.Polls.{entries_in}
use Rattle.native_polls.proofs.telling.told_within.Given as goal

-- those so far and those among the entries to come are all
abbrev pub invariant-loop-done : goal.invariant-loop-done
invariant-loop-done g l = record {
  all : l.told + count_by is_any (returned (g.F.Readiness.files l.files) (entries_in (l.count - l.done) (drop (l.done * 8) l.bytes))) ≡ count_by is_any (returned (g.F.Readiness.files l.files) (entries_in l.count l.bytes));
  bound : l.told ≤ l.done;
}
