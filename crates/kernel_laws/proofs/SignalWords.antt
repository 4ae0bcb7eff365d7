-- The words of sets of signals.
use Rattle.std.proofs.Common.{◌≡◌, ◌≢◌, ℕ, zero, suc, ◌+◌, ◌-◌, ◌*◌, ◌/◌, ◌%◌, ◌^◌, ◌<◌, ◌≤◌, min, [], ◌∷◌, length, Bool, true, false, refl, sym, ◌∙◌, ap, arith}
use Rattle.std.specs.Int.Bits.{and_step, and_zero_l}
use Rattle.std.proofs.lemmas.Nat.{and_le_l, or_lt}
use Rattle.std.specs.Prelude.{All, map, zip, bit_and, bit_or, ◌==◌, slice_index}
use Rattle.kernel_core.specs.declared.signal.Sig.{Sig}
use Rattle.kernel_model.specs.Always.{IsMask, IsSet}
use Rattle.kernel_model.specs.SignalSets.{SignalSet, blockable, has, place, unblockable, union, without}

-- what is taken out is not there

pub halved : (a b x : ℕ) → bit_and a b ≡ x * 2 + min (a % 2) (b % 2) → x ≤ a / 2 → (a - bit_and a b) / 2 ≡ a / 2 - x
halved a b x step low = omega (arith, step, low)

lowest : (a b x : ℕ) → bit_and a b ≡ x * 2 + min (a % 2) (b % 2) → x ≤ a / 2 → min ((a - bit_and a b) % 2) (b % 2) ≡ 0
lowest a b x step low = omega (arith, step, low)

apart_to : (n a b : ℕ) → a ≤ n → bit_and (a - bit_and a b) b ≡ 0
apart_to zero a b small =
    let none : a - bit_and a b ≡ 0 = omega (arith, small) in
    ap (λ k. bit_and k b) none ∙ and_zero_l b
apart_to (suc n) a b small =
    let x = bit_and (a / 2) (b / 2) in
    let step : bit_and a b ≡ x * 2 + min (a % 2) (b % 2) = and_step a b in
    let low : x ≤ a / 2 = and_le_l (a / 2) (b / 2) in
    let rest : bit_and (a / 2 - x) (b / 2) ≡ 0 = apart_to n (a / 2) (b / 2) (omega (arith, small)) in
    let upper : bit_and ((a - bit_and a b) / 2) (b / 2) ≡ 0 = ap (λ k. bit_and k (b / 2)) (halved a b x step low) ∙ rest in
    let whole = and_step (a - bit_and a b) b in
    omega (arith, whole, upper, lowest a b x step low)

taken_once : (a b : ℕ) → (a - bit_and a b) - bit_and (a - bit_and a b) b ≡ a - bit_and a b
taken_once a b = omega (arith, apart_to a a b (omega arith))

without_twice : (set other : SignalSet) → without (without set other) other ≡ without set other
without_twice [] other = refl
without_twice (a ∷ set) [] = refl
without_twice (a ∷ set) (b ∷ other) = λ i. taken_once a b i ∷ without_twice set other i

pub blockable_twice : (set : SignalSet) → blockable (blockable set) ≡ blockable set
blockable_twice set = without_twice set unblockable

-- The words of what is made of two sets

abbrev Small : ℕ → Type 0
Small word = word < 2 ^ 32

zipped_small : (join : ℕ → ℕ → ℕ) → ((a b : ℕ) → Small a → Small b → Small (join a b)) → (left right : SignalSet) → All Small left → All Small right
    → All Small (map (λ p. join p.0 p.1) (zip left right))
zipped_small join each [] right l r k d h = absurd (omega (arith, h))
zipped_small join each (a ∷ left) [] l r k d h = absurd (omega (arith, h))
zipped_small join each (a ∷ left) (b ∷ right) l r zero d h = each a b (l 0 0 (omega arith)) (r 0 0 (omega arith))
zipped_small join each (a ∷ left) (b ∷ right) l r (suc k) d h =
    zipped_small join each left right (λ i e low. l (suc i) e (omega (arith, low))) (λ i e low. r (suc i) e (omega (arith, low))) k d (omega (arith, h))

zipped_long : (join : ℕ → ℕ → ℕ) (left right : SignalSet) → length left ≡ length right → length (map (λ p. join p.0 p.1) (zip left right)) ≡ length left
zipped_long join [] right e = refl
zipped_long join (a ∷ left) [] e = absurd (omega (arith, e))
zipped_long join (a ∷ left) (b ∷ right) e = ap suc (zipped_long join left right (omega (arith, e)))

pub union_set : (left right : SignalSet) → IsSet left → IsSet right → IsSet (union left right)
union_set left right l r =
    (zipped_long bit_or left right (omega (arith, l.0, r.0)) ∙ l.0, zipped_small bit_or (λ a b. or_lt 32 a b) left right l.1 r.1)

pub without_set : (left right : SignalSet) → IsSet left → IsSet right → IsSet (without left right)
without_set left right l r = (
  zipped_long (λ a b. a - bit_and a b) left right (omega (arith, l.0, r.0)) ∙ l.0,
  zipped_small (λ a b. a - bit_and a b) (λ a b small other. omega (arith, small)) left right l.1 r.1,
)

-- KILL and STOP

unblockable_small : All Small unblockable
unblockable_small zero d h = omega arith
unblockable_small (suc zero) d h = omega arith
unblockable_small (suc (suc zero)) d h = omega arith
unblockable_small (suc (suc (suc zero))) d h = omega arith
unblockable_small (suc (suc (suc (suc k)))) d h = absurd (omega (arith, h))

unblockable_set : IsSet unblockable
unblockable_set = (refl, unblockable_small)

pub blockable_mask : (set : SignalSet) → IsSet set → IsMask (blockable set)
blockable_mask set is = (without_set set unblockable is unblockable_set, blockable_twice set)

abbrev has_place : ℕ → Bool
has_place p = slice_index unblockable (p / 32) / 2 ^ (p % 32) % 2 == 1

pub not_kill : (signal : Sig) → has unblockable signal ≡ false → place signal ≢ 8
not_kill signal e here = absurd (let wrong : true ≡ false = sym (ap has_place here) ∙ e in cc)

pub not_stop : (signal : Sig) → has unblockable signal ≡ false → place signal ≢ 22
not_stop signal e here = absurd (let wrong : true ≡ false = sym (ap has_place here) ∙ e in cc)
