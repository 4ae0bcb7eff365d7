use Rattle.std.proofs.Common.{◌≡◌, ◌+◌, ◌-◌, ◌*◌, ◌^◌, min, get_or, drop, arith, ap, ◌∙◌}
use Rattle.schedule.specs.Text.{number_after}
use Rattle.std.proofs.lemmas.List.{at_drop_all}
use Rattle.schedule.proofs.Digits.{number_after-step}
use Rattle.schedule.proofs.text.number_of.Goals as goal

pub loop-digit-preserved : goal.loop-digit-preserved
loop-digit-preserved c =
    let number = c.loop-digit.number in
    let word = c.args.word.now in
    let i = c.loop-digit.digit-index in
    let more : c.saturating_add-number.result ≡ min (min (number * 10) (2 ^ 64 - 1) + (get_or word i 0 - 48)) (2 ^ 64 - 1) = omega arith in (
      ap (λ k. min (number_after k (drop (i + 1) word)) (2 ^ 64 - 1)) more
          ∙ (number_after-step (2 ^ 64 - 1) number word i (omega arith) ∙ c.loop-digit.invariant.0),
      omega (arith, more),
    )

pub returns : goal.returns
returns c =
    let number = c.loop-digit.number in
    let past = at_drop_all (number_after number) c.args.word.now c.loop-digit.digit-index (omega arith) in
    omega (arith, past, c.loop-digit.invariant.0, c.loop-digit.invariant.1)
