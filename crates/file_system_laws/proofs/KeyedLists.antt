-- A list with rising keys against the map that is made of it, and a first element that counts.
use Rattle.std.proofs.Common.{◌≡◌, ◌≤◌, ℕ, zero, suc, Bool, true, false, cond, eqb, ltb, List, [], ◌∷◌, Option, Some, None, refl, sym, ap, subst, ◌∙◌, arith, inl, inr}
use Rattle.std.specs.Prelude.{map, find, length, sum_by, All, Contains, option_map}
use Rattle.std.specs.declared.cmp.Ordering.TheVariants.{Less}
use Rattle.std.specs.List.{AllByRecursion}
use Rattle.std.specs.List.Sorted.{IsStrictlySortedBy}
use Rattle.std.specs.Ordering.{nat_cmp, eq_by_cmp, is_eq}
use Rattle.std.specs.Cmp.{nat_cmp_total}
use Rattle.std.specs.FinMap.{FinMap, put, entries, get, len, from_entries, get-from_entries, entries-insert, len-empty, len-entries}
use Rattle.std.specs.FinMap.Entries.{by_order}
use Rattle.std.specs.FinMap as maps
use Rattle.std.proofs.lemmas.Bool.{cases_lt, eq-eqb, eqb-true, lt-ltb, le-ltb}
use Rattle.std.proofs.lemmas.Bool.Decides.{nat_tests}
use Rattle.std.proofs.lemmas.List.{nil_from_length}
use Rattle.std.proofs.lemmas.List.Sums.{sum_by-cons, get_or-le-sum_by}
use Rattle.std.proofs.lemmas.List.Elements.{recursion_from_All}
use Rattle.kernel_core.specs.Nodes.{Inode}
use Rattle.kernel_core.specs.Totals.{total}
use Rattle.file_system_laws.proofs.Lookups.{eqb_cmp, len-insert_new}
use Rattle.file_system_laws.proofs.Totals.{total-empty, total-insert_new}

pub Contains-cons : {X : Type 0} (y x : X) (xs : List X) → Contains xs x → Contains (y ∷ xs) x
Contains-cons y x xs c = (suc c.0, omega (arith, c.1), c.2)

pub Contains-head : {X : Type 0} (x : X) (xs : List X) → Contains (x ∷ xs) x
Contains-head x xs = (0, omega arith, refl)

-- what a list of keys contains is the key of an element
pub Contains-map : {X : Type 0} (key : X → ℕ) (xs : List X) (q : ℕ) → Contains (map key xs) q → (x : X) × Contains xs x × (key x ≡ q)
Contains-map key [] q c = absurd (let h = c.1 in omega (arith, h))
Contains-map key (x ∷ xs) q (zero, short, same) = (x, Contains-head x xs, same)
Contains-map key (x ∷ xs) q (suc k, short, same) = let r = Contains-map key xs q (k, omega (arith, short), same) in (r.0, Contains-cons x r.0 xs r.1, r.2)

-- Sums of what elements count

module _ {X : Type 0} (f : X → ℕ) where
  pub contained-le-sum : (xs : List X) (x : X) → Contains xs x → f x ≤ sum_by f xs
  contained-le-sum xs x c = let a = get_or-le-sum_by f xs c.0 x c.1 in let b = ap f c.2 in omega (arith, a, b)

  pub sum_by-same : (g : X → ℕ) (xs : List X) → All (λ x. f x ≡ g x) xs → sum_by f xs ≡ sum_by g xs
  sum_by-same g xs all = go xs (recursion_from_All (λ x. f x ≡ g x) xs all)
    where
      go : (xs : List X) → AllByRecursion (λ x. f x ≡ g x) xs → sum_by f xs ≡ sum_by g xs
      go [] h = refl
      go (x ∷ xs) h = let a = sum_by-cons f x xs in let b = sum_by-cons g x xs in let c = go xs h.1 in let d = h.0 in omega (arith, a, b, c, d)

  -- the one element that counts is the first that does
  pub only_one : (xs : List X) (x : X) → sum_by f xs ≡ 1 → Contains xs x → 1 ≤ f x → find (λ x. ltb 0 (f x)) xs ≡ Some x
  only_one [] x one c some = absurd (let h = c.1 in omega (arith, h))
  only_one (y ∷ ys) x one (zero, short, same) some =
      ap (λ b. cond b (Some y) (find (λ x. ltb 0 (f x)) ys)) (lt-ltb 0 (f y) (let e = ap f same in omega (arith, e, some))) ∙ ap Some same
  only_one (y ∷ ys) x one (suc k, short, same) some =
      let c : Contains ys x = (k, omega (arith, short), same) in
      let a = sum_by-cons f y ys in
      let b = contained-le-sum ys x c in
      ap (λ b. cond b (Some y) (find (λ x. ltb 0 (f x)) ys)) (le-ltb 0 (f y) (omega (arith, a, b, one, some))) ∙ only_one ys x (omega (arith, a, b, one, some)) c some

  -- where there is something to count, a first element counts
  pub some_one : (xs : List X) → 1 ≤ sum_by f xs → (x : X) × Contains xs x × (1 ≤ f x) × (find (λ x. ltb 0 (f x)) xs ≡ Some x)
  some_one [] some = absurd (omega arith)
  some_one (y ∷ ys) some = elim (cases_lt 0 (f y)) [
    | inl more ↦ (y, Contains-head y ys, more, ap (λ b. cond b (Some y) (find (λ x. ltb 0 (f x)) ys)) (lt-ltb 0 (f y) more))
    | inr none ↦
        let a = sum_by-cons f y ys in
        let r = some_one ys (omega (arith, a, some, none)) in
        (r.0, Contains-cons y r.0 ys r.1, r.2, ap (λ b. cond b (Some y) (find (λ x. ltb 0 (f x)) ys)) (le-ltb 0 (f y) none) ∙ r.3)
  ]

-- Keys that rise

module _ {X V : Type 0} (key : X → ℕ) (value : X → V) where
  -- the element of a key
  abbrev pub element : List X → ℕ → Option X
  element xs q = find (λ x. eqb (key x) q) xs

  -- the map of the keys to the values
  abbrev pub keyed : List X → FinMap nat_cmp V
  keyed xs = from_entries (map (λ x. (key x, value x)) xs)

  flipped : (a b : ℕ) → eq_by_cmp nat_cmp a b ≡ eqb b a
  flipped a b = grind (arith, nat_tests)

  found_in : (xs : List X) (q : ℕ) → maps.find nat_cmp q (map (λ x. (key x, value x)) xs) ≡ option_map value (element xs q)
  found_in [] q = refl
  found_in (x ∷ xs) q =
      ap (λ b. cond b (Some (value x)) (maps.find nat_cmp q (map (λ x. (key x, value x)) xs))) (flipped q (key x))
      ∙ ap (cond (eqb (key x) q) (Some (value x))) (found_in xs q)
      ∙ mapped (eqb (key x) q)
    where
      mapped : (b : Bool) → cond b (Some (value x)) (option_map value (element xs q)) ≡ option_map value (cond b (Some x) (element xs q))
      mapped true = refl
      mapped false = refl

  pub get-keyed : (xs : List X) (q : ℕ) → get (keyed xs) q ≡ option_map value (element xs q)
  get-keyed xs q = get-from_entries nat_cmp_total (map (λ x. (key x, value x)) xs) q ∙ found_in xs q

  -- an element that is found stands in the list, and has the key
  pub element-found : (xs : List X) (q : ℕ) (x : X) → element xs q ≡ Some x → (key x ≡ q) × Contains xs x
  element-found [] q x e = absurd (let f : None ≡ Some x = e in cc)
  element-found (y ∷ ys) q x e =
      elim (eqb (key y) q) as (λ b. eqb (key y) q ≡ b → cond b (Some y) (element ys q) ≡ Some x → (key x ≡ q) × Contains (y ∷ ys) x) [
        | true ↦ λ here f. let one : y ≡ x = cc in (ap key (sym one) ∙ eqb-true (key y) q here, subst (Contains (y ∷ ys)) one (Contains-head y ys))
        | false ↦ λ off f. let r = element-found ys q x f in (r.0, Contains-cons y x ys r.1)
      ] refl e

  above : (n : ℕ) (xs : List X) → AllByRecursion (λ y. nat_cmp n y ≡ Less) (map key xs) → (x : X) → Contains xs x → eqb n (key x) ≡ false
  above n [] h x c = absurd (let s = c.1 in omega (arith, s))
  above n (y ∷ ys) h x (zero, short, same) = apart n (key x) (subst (λ z. nat_cmp n (key z) ≡ Less) same h.0)
    where
      apart : (a b : ℕ) → nat_cmp a b ≡ Less → eqb a b ≡ false
      apart a b e = sym (eqb_cmp a b) ∙ ap is_eq e
  above n (y ∷ ys) h x (suc k, short, same) = above n ys h.1 x (k, omega (arith, short), same)

  -- no element has a key below those of all
  pub none_above : (n : ℕ) (xs : List X) → AllByRecursion (λ y. nat_cmp n y ≡ Less) (map key xs) → element xs n ≡ None
  none_above n [] h = refl
  none_above n (y ∷ ys) h =
      ap (λ b. cond b (Some y) (element ys n)) (backwards n (key y) (above n (y ∷ ys) h y (Contains-head y ys))) ∙ none_above n ys h.1
    where
      backwards : (a b : ℕ) → eqb a b ≡ false → eqb b a ≡ false
      backwards a b e = grind (arith, nat_tests)

  -- an element of the list is found by its key
  pub element-here : (xs : List X) (x : X) → IsStrictlySortedBy nat_cmp (map key xs) → Contains xs x → element xs (key x) ≡ Some x
  unfolding IsStrictlySortedBy
  element-here [] x rising c = absurd (let s = c.1 in omega (arith, s))
  element-here (y ∷ ys) x rising (zero, short, same) = ap (λ b. cond b (Some y) (element ys (key x))) (eq-eqb (key y) (key x) (ap key same)) ∙ ap Some same
  element-here (y ∷ ys) x rising (suc k, short, same) =
      let c : Contains ys x = (k, omega (arith, short), same) in
      ap (λ b. cond b (Some y) (element ys (key x))) (above (key y) ys rising.0 x c) ∙ element-here ys x rising.1 c

  -- an entry whose key is below all others is put first
  put_first : (n : ℕ) (v : V) (xs : List X) → AllByRecursion (λ y. nat_cmp n y ≡ Less) (map key xs)
      → put nat_cmp n v (map (λ x. (key x, value x)) xs) ≡ (n, v) ∷ map (λ x. (key x, value x)) xs
  put_first n v [] h = refl
  put_first n v (y ∷ ys) h =
      let es = map (λ x. (key x, value x)) ys in
      ap (λ o. by_order o ((n, v) ∷ (key y, value y) ∷ es) ((key y, v) ∷ es) ((key y, value y) ∷ put nat_cmp n v es)) h.0

  -- the map has the list's elements, in their order
  pub entries-keyed : (xs : List X) → IsStrictlySortedBy nat_cmp (map key xs) → entries (keyed xs) ≡ map (λ x. (key x, value x)) xs
  unfolding IsStrictlySortedBy
  entries-keyed [] rising = nil_from_length (entries (keyed [])) (sym (len-entries (keyed [])) ∙ len-empty nat_cmp V)
  entries-keyed (x ∷ xs) rising =
      entries-insert nat_cmp_total (keyed xs) (key x) (value x)
      ∙ ap (put nat_cmp (key x) (value x)) (entries-keyed xs rising.1)
      ∙ put_first (key x) (value x) xs rising.0

  pub len-keyed : (xs : List X) → IsStrictlySortedBy nat_cmp (map key xs) → len (keyed xs) ≡ length xs
  unfolding IsStrictlySortedBy
  len-keyed [] rising = len-empty nat_cmp V
  len-keyed (x ∷ xs) rising =
      let a = len-insert_new (keyed xs) (key x) (value x) (get-keyed xs (key x) ∙ ap (option_map value) (none_above (key x) xs rising.0)) in
      let b = len-keyed xs rising.1 in
      omega (arith, a, b)

-- a total over nodes that are made of such a list
pub total-keyed : {X : Type 0} (key : X → ℕ) (value : X → Inode) (amount : Inode → ℕ) (xs : List X) → IsStrictlySortedBy nat_cmp (map key xs)
    → total amount (keyed key value xs) ≡ sum_by (λ x. amount (value x)) xs
unfolding IsStrictlySortedBy
total-keyed key value amount [] rising = total-empty amount
total-keyed key value amount (x ∷ xs) rising =
    let a = total-insert_new amount (keyed key value xs) (key x) (value x) (get-keyed key value xs (key x) ∙ ap (option_map value) (none_above key value (key x) xs rising.0)) in
    let b = total-keyed key value amount xs rising.1 in
    let c = sum_by-cons (λ x. amount (value x)) x xs in
    omega (arith, a, b, c)
