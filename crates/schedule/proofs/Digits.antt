-- A number of decimal digits, counted up to a limit.
use Rattle.std.proofs.Common.{◌≡◌, ℕ, suc, ◌+◌, ◌*◌, ◌-◌, ◌<◌, min, List, [], ◌∷◌, length, get_or, drop, arith, ap, add-one, drop-cons, sym, ◌∙◌}
use Rattle.schedule.specs.Text.{number_after}

-- a step from what is kept of a number
step : (limit n d : ℕ) → min (min n limit * 10 + d) limit ≡ min (n * 10 + d) limit
step limit n d = omega arith

-- what is kept of a number, at most the limit, says with the digits behind it what the number says
pub number_after-capped : (limit n : ℕ) (digits : List ℕ) → min (number_after (min n limit) digits) limit ≡ min (number_after n digits) limit
number_after-capped limit n [] = omega arith
number_after-capped limit n (digit ∷ digits) =
    sym (number_after-capped limit (min n limit * 10 + (digit - 48)) digits)
    ∙ (ap (λ k. min (number_after k digits) limit) (step limit n (digit - 48)) ∙ number_after-capped limit (n * 10 + (digit - 48)) digits)

-- one digit more
pub number_after-step : (limit n : ℕ) (word : List ℕ) (i : ℕ) → i < length word → min (number_after (min (min (n * 10) limit + (get_or word i 0 - 48)) limit) (drop (i + 1) word)) limit ≡ min (number_after n (drop i word)) limit
number_after-step limit n word i below =
    let e : min (min (n * 10) limit + (get_or word i 0 - 48)) limit ≡ min (n * 10 + (get_or word i 0 - 48)) limit = omega arith in
    rw (e, drop-cons word i 0 below) (rw add-one (number_after-capped limit (n * 10 + (get_or word i 0 - 48)) (drop (suc i) word)))
