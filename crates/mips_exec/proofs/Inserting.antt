-- A word with some of its bits replaced is a word.
use Rattle.std.proofs.Common.{ℕ, ◌+◌, ◌-◌, ◌*◌, ◌/◌, ◌%◌, ◌^◌, ◌<◌, ◌≤◌, ◌≡◌, ◌∙◌, sym, ap, arith}
use Rattle.std.proofs.lemmas.Nat.{pow-add, pow_pos, mod-pow-add, div-mul-add}
use Rattle.std.proofs.Math.Nat.{div-lt_iff_lt-mul, mul-le-mul_right, mod-lt}

-- what stands below a divisor, under a multiple of it that is below a greater one
below_multiple : (word t u x : ℕ) → 0 < t → word < u * t → x < t → word / t * t + x < u * t
below_multiple word t u x p h k = grind (arith, div-lt_iff_lt-mul, mul-le-mul_right)

-- the replaced bits with those below them
field_below : (a b low size : ℕ) → b < 2 ^ low → a % 2 ^ size * 2 ^ low + b < 2 ^ (low + size)
field_below a b low size h =
    let e : (a * 2 ^ low + b) % 2 ^ (size + low) ≡ a % 2 ^ size * 2 ^ low + b = grind (arith, mod-pow-add, div-mul-add) in
    grind (arith, mod-lt, pow_pos)

pub inserted_below : (a word low size : ℕ) → word < 2 ^ 32 → low + size ≤ 32 →
    word / 2 ^ (low + size) * 2 ^ (low + size) + a % 2 ^ size * 2 ^ low + word % 2 ^ low < 2 ^ 32
inserted_below a word low size h k =
    let e : 32 - (low + size) + (low + size) ≡ 32 = omega arith in
    let p : 2 ^ 32 ≡ 2 ^ (32 - (low + size)) * 2 ^ (low + size) = ap (λ n. 2 ^ n) (sym e) ∙ pow-add 2 (32 - (low + size)) (low + size) in
    let b : word % 2 ^ low < 2 ^ low = mod-lt word (pow_pos low) in
    let f = field_below a (word % 2 ^ low) low size b in
    grind (arith, below_multiple, pow_pos)
