use Rattle.std.proofs.Common.{◌≡◌, ◌+◌, ◌-◌, ◌*◌, true}
use Rattle.host_mem.specs.Memory.{is_inside}
use Rattle.native_polls.specs.inside.Entries.{told_from}
use Rattle.native_polls.proofs.telling.store_each.Given as goal

-- with what is told of the entries to come, memory is what it will be
abbrev pub invariant-loop-done : goal.invariant-loop-done
invariant-loop-done g l = record {
  at : l.place ≡ l.address + l.done * 8;
  there : is_inside l.mem l.place ((l.count - l.done) * 8) ≡ true;
  all : told_from (g.F.Readiness.files l.files) l.mem l.place (l.count - l.done) ≡ told_from (g.F.Readiness.files l.files) l.fn.mem l.address l.count;
}
