use Rattle.std.proofs.Common.{◌≡◌, ◌+◌, ◌-◌, true, false, arith, is_some}
use Rattle.std.specs.FinMap.{get}
use Rattle.guest_space.proofs.MappingLemmas.{mapped_run-step, mapped_run-stop, mapped_run-same, mapped_run-zero}
use Rattle.guest_space.proofs.range.leading_pages.Goals as goal

pub returns-then-not-is_mapped-clause-value : goal.returns-then-not-is_mapped-clause-value
returns-then-not-is_mapped-clause-value c =
    let missing : is_some (get c.args.pages.now (c.args.first + c.loop-done.done)) ≡ false = cc in
    let stop = mapped_run-stop c.args.pages.now (c.args.first + c.loop-done.done) (c.args.count - c.loop-done.done) missing in
    omega (arith, c.loop-done.invariant, stop)

pub loop-done-preserved : goal.loop-done-preserved
loop-done-preserved c =
    let found : is_some (get c.args.pages.now (c.args.first + c.loop-done.done)) ≡ true = cc in
    let step = mapped_run-step c.args.pages.now (c.args.first + c.loop-done.done) (c.args.count - c.loop-done.done) found (omega arith) in
    let next = mapped_run-same c.args.pages.now {a = c.args.first + c.loop-done.done + 1} {b = c.args.first + (c.loop-done.done + 1)} {m = c.args.count - c.loop-done.done - 1} {n = c.args.count - (c.loop-done.done + 1)} (omega arith) (omega arith) in
    omega (arith, c.loop-done.invariant, step, next)

pub returns-clause-value : goal.returns-clause-value
returns-clause-value c =
    let none = mapped_run-same c.args.pages.now {a = c.args.first + c.loop-done.done} {b = c.args.first + c.loop-done.done} {m = c.args.count - c.loop-done.done} {n = 0} (omega arith) (omega arith) in
    omega (arith, c.loop-done.invariant, none, mapped_run-zero c.args.pages.now (c.args.first + c.loop-done.done))
