-- What is found in a map that is made from the entries of a list.
use Rattle.std.proofs.Common.{◌≡◌, ◌≢◌, ℕ, ◌+◌, Bool, true, false, cond, eqb, List, [], ◌∷◌, map, length, Option, Some, None, is_some, refl, sym, ap, ◌∙◌, arith, inl, inr, Contains}
use Rattle.std.proofs.lemmas.Bool.{eq-eqb, eqb-true}
use Rattle.std.specs.Ordering.{nat_cmp, eq_by_cmp}
use Rattle.std.specs.Cmp.{nat_cmp_total, unsigned_tied}
use Rattle.std.specs.FinMap.{find, get, len, from_entries, get-from_entries, len-insert, len-empty}
use Rattle.slab.proofs.SlabLemmas.{Contains-cons, Contains-cons_cases}

-- the same test, as lists and as maps have it
pub tied : (q k : ℕ) → eq_by_cmp nat_cmp q k ≡ eqb q k
tied q k = unsigned_tied q k

module _ {X A : Type 0} (g : X → ℕ × A) where
  -- what is found at a key is what one of the entries has
  pub record IsFound (es : List X) (q : ℕ) (x : A) : Type 0 where
    pub entry : X
    pub there : Contains es entry
    pub key : (g entry).0 ≡ q
    pub value : (g entry).1 ≡ x

  pub find-found : (es : List X) (q : ℕ) (x : A) → find nat_cmp q (map g es) ≡ Some x → IsFound es q x
  find-found [] q x found = absurd (cc)
  find-found (e ∷ es) q x found = by (find-found es q x) (eqb q (g e).0) refl
    where
      by : (find nat_cmp q (map g es) ≡ Some x → IsFound es q x) → (b : Bool) → eqb q (g e).0 ≡ b → IsFound (e ∷ es) q x
      by behind true is =
          let same : Some (g e).1 ≡ Some x = sym (ap (λ b. cond b (Some (g e).1) (find nat_cmp q (map g es))) (tied q (g e).0 ∙ is)) ∙ found in
          record { entry = e; there = (0, omega arith, refl); key = sym (eqb-true q (g e).0 is); value = cc }
      by behind false is =
          let later = behind (sym (ap (λ b. cond b (Some (g e).1) (find nat_cmp q (map g es))) (tied q (g e).0 ∙ is)) ∙ found) in
          record { entry = later.entry; there = Contains-cons e later.entry es later.there; key = later.key; value = later.value }

  -- something is found at the key of each entry
  pub find-there : (es : List X) (e : X) → Contains es e → is_some (find nat_cmp (g e).0 (map g es)) ≡ true
  find-there [] e there = absurd (omega (arith, there.1))
  find-there (f ∷ es) e there = by (find-there es e) (eqb (g e).0 (g f).0) refl
    where
      by : (Contains es e → is_some (find nat_cmp (g e).0 (map g es)) ≡ true) → (b : Bool) → eqb (g e).0 (g f).0 ≡ b
          → is_some (find nat_cmp (g e).0 (map g (f ∷ es))) ≡ true
      by behind true is = ap (λ b. is_some (cond b (Some (g f).1) (find nat_cmp (g e).0 (map g es)))) (tied (g e).0 (g f).0 ∙ is)
      by behind false is =
          ap (λ b. is_some (cond b (Some (g f).1) (find nat_cmp (g e).0 (map g es)))) (tied (g e).0 (g f).0 ∙ is)
          ∙ elim (Contains-cons_cases f e es there) [
            | inl here ↦ absurd (let h : true ≡ false = sym (eq-eqb _ _ (ap (λ e. (g e).0) (sym here))) ∙ is in cc)
            | inr later ↦ behind later
          ]

  -- no two entries have one key
  abbrev pub AreApart : List X → Type 0
  AreApart [] = Unit {0}
  AreApart (e ∷ es) = ((f : X) → Contains es f → (g f).0 ≢ (g e).0) × AreApart es

  none_later : (e : X) (es : List X) → ((f : X) → Contains es f → (g f).0 ≢ (g e).0) → (o : Option A) → find nat_cmp (g e).0 (map g es) ≡ o → o ≡ None
  none_later e es apart None is = refl
  none_later e es apart (Some x) is = let found = find-found es (g e).0 x is in absurd (apart found.entry found.there found.key)

  -- then the map has as many entries as the list
  pub len-apart : (es : List X) → AreApart es → len (from_entries {R = nat_cmp} (map g es)) ≡ length es
  len-apart [] apart = len-empty nat_cmp A
  len-apart (e ∷ es) apart =
      let none = none_later e es apart.0 (find nat_cmp (g e).0 (map g es)) refl in
      let absent : is_some (get (from_entries {R = nat_cmp} (map g es)) (g e).0) ≡ false = ap is_some (get-from_entries nat_cmp_total (map g es) (g e).0 ∙ none) in
      let rest = len-apart es apart.1 in
      let grown = len-insert nat_cmp_total (from_entries (map g es)) (g e).0 (g e).1
      ∙ ap (λ b. cond b (len (from_entries {R = nat_cmp} (map g es))) (len (from_entries {R = nat_cmp} (map g es)) + 1)) absent in
      omega (arith, grown, rest)
