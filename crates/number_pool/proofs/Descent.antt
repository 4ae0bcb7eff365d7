-- The children of a full node, and powers of two.
use Rattle.std.proofs.Common.{◌≡◌, ℕ, ◌+◌, ◌*◌, ◌^◌, ◌<◌, ◌≤◌, Bool, true, false, List, ◌&&◌, refl, sym, ◌∙◌, arith}
use Rattle.std.proofs.lemmas.Nat.{pow-add}
use Rattle.std.proofs.Math.Pow.{pow_mono}
use Rattle.number_pool.specs.inside.Tree.{IsTree, is_full_at}

both_left : (a b : Bool) → true ≡ (a && b) → a ≡ true
both_left true b h = refl
both_left false b h = sym h

both_right : (a b : Bool) → true ≡ (a && b) → b ≡ true
both_right true b h = sym h
both_right false b h = absurd (cc)

-- the children of a full node are full
pub full_left : (size : ℕ) (flags : List Bool) (node : ℕ) → IsTree size flags → 0 < node → node < size → is_full_at flags node ≡ true → is_full_at flags (2 * node) ≡ true
full_left size flags node tree positive inner full = both_left _ _ (sym full ∙ tree.mended node positive inner)

pub full_right : (size : ℕ) (flags : List Bool) (node : ℕ) → IsTree size flags → 0 < node → node < size → is_full_at flags node ≡ true → is_full_at flags (2 * node + 1) ≡ true
full_right size flags node tree positive inner full = both_right _ _ (sym full ∙ tree.mended node positive inner)

pub power_more : (k : ℕ) → 2 ^ (k + 1) ≡ 2 * 2 ^ k
power_more k = omega (arith, pow-add 2 k 1)

pub small_power : (levels : ℕ) → levels < 31 → 2 ^ levels ≤ 1073741824
small_power levels small = pow_mono {i = levels} {j = 30} (omega arith)
