use Rattle.std.proofs.Common.{◌+◌, ◌-◌, ◌%◌, sym, ◌∙◌, arith, refl}
use Rattle.guest_space.proofs.Prefixes.{first_denied-same, first_denied-here, first_denied-page, first_denied-zero, none_denied-in_word}
use Rattle.guest_space.proofs.walk.first_denied.Goals as goal

pub returns-in-Some-clause-value : goal.returns-in-Some-clause-value
returns-in-Some-clause-value c =
    sym (c.loop-left.invariant ∙ first_denied-here _ _ _ _ _ (sym c.refusal.ensures.value ∙ c.in-Some.is) c.loop-left-test.true)

pub returns-then-left-room-clause-value : goal.returns-then-left-room-clause-value
returns-then-left-room-clause-value c =
    let free = sym c.refusal.ensures.value ∙ c.in_default.is in
    sym (c.loop-left.invariant
    ∙ first_denied-same _ _ {b = c.loop-left.at} {n = c.loop-left.left + 0} refl (omega arith)
    ∙ first_denied-page _ _ c.loop-left.at c.loop-left.left 0 free (omega arith)
    ∙ first_denied-zero _ _ _)

pub returns-then-left-room-clause-inside : goal.returns-then-left-room-clause-inside
returns-then-left-room-clause-inside c =
    none_denied-in_word c.args.access c.args.pages.now _ _ (sym (returns-then-left-room-clause-value c)) (omega arith)

pub loop-left-preserved : goal.loop-left-preserved
loop-left-preserved c =
    let free = sym c.refusal.ensures.value ∙ c.in_default.is in
    let room = 4096 - c.loop-left.at % 4096 in
    c.loop-left.invariant
    ∙ first_denied-same _ _ {b = c.loop-left.at} {n = room + (c.loop-left.left - room)} refl (omega arith)
    ∙ first_denied-page _ _ c.loop-left.at room (c.loop-left.left - room) free (omega arith)

pub returns-clause-value : goal.returns-clause-value
returns-clause-value c =
    sym (c.loop-left.invariant
    ∙ first_denied-same _ _ {b = c.loop-left.at} {n = 0} refl (omega arith)
    ∙ first_denied-zero _ _ _)

pub returns-clause-inside : goal.returns-clause-inside
returns-clause-inside c =
    none_denied-in_word c.args.access c.args.pages.now _ _ (sym (returns-clause-value c)) (omega arith)
