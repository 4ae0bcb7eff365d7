use Rattle.std.proofs.Common.{◌≡◌, ℕ, List, ap, arith}
use Rattle.mips_exec.specs.Processor.{Processor}
use Rattle.turn_records.proofs.Stepwise.{general_next, mixed, mixed_last, sets_to}
use Rattle.turn_records.proofs.setting.add_general.Goals as goal

pub loop-number-preserved : goal.loop-number-preserved
loop-number-preserved c = λ from is.
    let was = c.args.was.now in
    let now = c.args.now.now in
    let number = c.loop-number.number in
    general_next from was now number c.args.effects.now.items c.loop-number.effects.items c.add_change.new.effects.items
    c.loop-number.auto.number c.loop-number-test.true
    (omega (arith, c.told-was, c.loop-number-test.true)) (omega (arith, c.told-now, c.loop-number-test.true))
    (c.loop-number.invariant from is) c.in_ok-add_change.ensures

pub returns : goal.returns
returns c = λ from is.
    let was = c.args.was.now in
    let now = c.args.now.now in
    let number = c.loop-number.number in
    let all : mixed number was now ≡ now =
    mixed_last was now number (omega (arith, c.told-was, c.loop-number-test.false)) (omega (arith, c.told-now, c.loop-number-test.false)) in
    sets_to (ap (λ (l : List ℕ). let p : Processor = record from { registers = l } in p) all) (c.loop-number.invariant from is)
