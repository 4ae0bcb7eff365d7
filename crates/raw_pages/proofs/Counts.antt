-- How many entries a table has.
use Rattle.std.proofs.Common.{◌≡◌, ◌≤◌, ◌<◌, ◌+◌, zero, suc, ℕ, true, false, cond, List, [], ◌∷◌, Option, Some, None, is_some, length, set, get_or, replicate, refl, sym, ap, ◌∙◌, arith}
use Rattle.std.proofs.lemmas.List.{length-replicate}
use Rattle.std.proofs.Math.ListN.{length-set}
use Rattle.raw_pages.specs.inside.Tables.{entry_count, IsLeaf}

pub none_of_replicated : (X : Type 0) (n : ℕ) → entry_count {X = X} (replicate n None) ≡ 0
unfolding entry_count
none_of_replicated X zero = refl
none_of_replicated X (suc n) = let less = none_of_replicated X n in omega (arith, less)

module _ {X : Type 0} where
  pub count-set : (es : List (Option X)) (i : ℕ) (v : Option X) → i < length es
      → entry_count (set es i v) + cond (is_some (get_or es i None)) 1 0 ≡ entry_count es + cond (is_some v) 1 0
  unfolding entry_count
  count-set [] i v room = absurd (omega arith)
  count-set (e ∷ es) zero v room = omega arith
  count-set (e ∷ es) (suc i) v room = let rest = count-set es i v (omega arith) in omega (arith, rest)

  count-le : (es : List (Option X)) → entry_count es ≤ length es
  unfolding entry_count
  count-le [] = omega arith
  count-le (None ∷ es) = let rest = count-le es in omega (arith, rest)
  count-le (Some x ∷ es) = let rest = count-le es in omega (arith, rest)

  -- a table with no entries has none at any place
  pub none-there : (es : List (Option X)) (i : ℕ) → entry_count es ≡ 0 → is_some (get_or es i None) ≡ false
  unfolding entry_count
  none-there [] i none = refl
  none-there (None ∷ es) zero none = refl
  none-there (None ∷ es) (suc i) none = none-there es i (omega (arith, none))
  none-there (Some x ∷ es) i none = absurd (omega (arith, none))

  -- a table with as many entries as places has one at each
  pub all-there : (es : List (Option X)) (i : ℕ) → length es ≤ entry_count es → i < length es → is_some (get_or es i None) ≡ true
  unfolding entry_count
  all-there [] i full room = absurd (omega arith)
  all-there (None ∷ es) i full room = let rest = count-le es in absurd (omega (arith, full, rest))
  all-there (Some x ∷ es) zero full room = refl
  all-there (Some x ∷ es) (suc i) full room = all-there es i (omega (arith, full)) (omega arith)

  pub leaf-none : (es : List (Option X)) → es ≡ replicate 1024 None → IsLeaf es 0
  leaf-none es is = record { whole = ap length is ∙ length-replicate {A = Option X} 1024 None; counted = sym (ap entry_count is ∙ none_of_replicated X 1024) }

  -- a table of which one entry is another one, with the count that it has then
  module _ (es fs : List (Option X)) (mapped i : ℕ) (v : Option X) (leaf : IsLeaf es mapped) (room : i < 1024) (put : fs ≡ set es i v) where
    long : length fs ≡ 1024
    long = ap length put ∙ length-set es i v ∙ leaf.whole

    counts : entry_count fs + cond (is_some (get_or es i None)) 1 0 ≡ mapped + cond (is_some v) 1 0
    counts = let whole = leaf.whole in let of_set = count-set es i v (omega (arith, whole)) in let size = ap entry_count put in let counted = leaf.counted in omega (arith, of_set, size, counted)

    pub leaf-more : is_some (get_or es i None) ≡ false → is_some v ≡ true → IsLeaf fs (mapped + 1)
    leaf-more was is =
        let before = ap {B = ℕ} (λ b. cond b 1 0) was in let after = ap {B = ℕ} (λ b. cond b 1 0) is in
        record { whole = long; counted = omega (arith, counts, before, after) }

    pub leaf-less : is_some (get_or es i None) ≡ true → is_some v ≡ false → (less : ℕ) → less + 1 ≡ mapped → IsLeaf fs less
    leaf-less was is less one =
        let before = ap {B = ℕ} (λ b. cond b 1 0) was in let after = ap {B = ℕ} (λ b. cond b 1 0) is in
        record { whole = long; counted = omega (arith, counts, before, after, one) }

    pub leaf-same : is_some (get_or es i None) ≡ is_some v → IsLeaf fs mapped
    leaf-same same =
        let alike = ap {B = ℕ} (λ b. cond b 1 0) same in
        record { whole = long; counted = omega (arith, counts, alike) }

  one_of : (m : ℕ) (es : List (Option X)) (i : ℕ) → is_some (get_or es i None) ≡ true → entry_count es ≡ m → 1 ≤ m
  one_of zero es i there counted = let missing = none-there es i counted in let clash : true ≡ false = sym there ∙ missing in absurd (cc)
  one_of (suc m) es i there counted = omega arith

  -- an entry is counted
  pub some-counted : (es : List (Option X)) (mapped i : ℕ) → IsLeaf es mapped → is_some (get_or es i None) ≡ true → 1 ≤ mapped
  some-counted es mapped i leaf there = one_of mapped es i there (sym leaf.counted)

  -- and so is each place without one
  pub none-counted : (es : List (Option X)) (mapped : ℕ) → IsLeaf es mapped → mapped ≤ 1024
  none-counted es mapped leaf = let bound = count-le es in let counted = leaf.counted in let whole = leaf.whole in omega (arith, bound, counted, whole)
