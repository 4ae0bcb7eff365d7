use Rattle.std.proofs.Common.{◌≡◌, to_z, of_z, ◌∙◌, arith}
use Rattle.std.proofs.lemmas.Grind.{get_or_default_zero}
use Rattle.std.proofs.lemmas.Int.{ints}
use mir.Syntax.{w128}
use Rattle.layouts.specs.Frames.{sign_extended}
use Rattle.signal_frames.proofs.Steps.{context-pushed}
use Rattle.signal_frames.proofs.values.push_words.Goals as goal

pub returns-clause-values : goal.returns-clause-values
returns-clause-values c =
    let first : to_z w128 (of_z w128 c.sign_extended.result) ≡ sign_extended c.args.pc = omega (arith, ints) ∙ c.sign_extended.ensures in
    let second : to_z w128 (of_z w128 c.sign_extended-2.result) ≡ sign_extended c.args.hi = omega (arith, ints) ∙ c.sign_extended-2.ensures in
    let third : to_z w128 (of_z w128 c.sign_extended-3.result) ≡ sign_extended c.args.lo = omega (arith, ints) ∙ c.sign_extended-3.ensures in
    context-pushed c.args.values.now.items c.push.new.self.items c.loop-register.values.items c.push-2.new.self.items c.push-3.new.self.items
    c.args.registers.now c.loop-register.register-index _ _ _ (sign_extended c.args.pc) (sign_extended c.args.hi) (sign_extended c.args.lo)
    c.push.ensures.items c.loop-register.invariant.0 (omega arith) c.push-2.ensures.items c.push-3.ensures.items first second third

pub returns-clause-words : goal.returns-clause-words
returns-clause-words c =
    record { count = c.requires.count; registers = λ k d below. rw (get_or_default_zero c.args.registers.now k d below) (c.loop-register.invariant.2 k (omega arith)); pc = omega arith; hi = omega arith; lo = omega arith }
