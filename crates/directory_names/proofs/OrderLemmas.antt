-- The entries of the ordered map and the newest seat behind them, as one list of seats by rising cookie.
use Rattle.std.proofs.Common.{◌≡◌, ℕ, ◌<◌, Bool, true, false, cond, not, ◌&&◌, ◌==◌, nat_lt, List, [], ◌∷◌, ◌++◌, map, filter, All, Option, None, Some, refl, sym, ap, subst, ◌∙◌, arith, nat_cmp}
use Rattle.std.specs.declared.cmp.Ordering.{Ordering}
use Rattle.std.specs.declared.cmp.Ordering.TheVariants.{Less, Equal, Greater}
use Rattle.std.specs.declared.ops.Bound.TheVariants.{Excluded, Unbounded}
use Rattle.std.specs.BTreeMap.{insert_entry}
use Rattle.std.specs.BTreeMap.Range.{entries_between}
use Rattle.std.specs.Cmp.{nat_cmp_is, unsigned_tied}
use Rattle.std.specs.List.{AllByRecursion, find}
use Rattle.std.specs.List.Sorted.{IsStrictlySortedBy}
use Rattle.std.specs.Map.{keys_of, lookup, set_value, remove_entry}
use Rattle.std.specs.Option.{is_none, option_map, option_to_list}
use Rattle.std.specs.Ordering.{is_eq, is_lt, match_ordering}
use Rattle.std.proofs.lemmas.Bool.{eqb-true}
use Rattle.std.proofs.lemmas.List.{map-append, append-nil}
use Rattle.std.proofs.lemmas.List.Elements.{All-map, filter-append}
use Rattle.directory_names.specs.inside.Order.{Order, index_after, without_seat, with_index, seat_at}
use Rattle.directory_names.proofs.Lists.{lt_from_less, rising-push, rising-filter}

less-last : (x k : ℕ) (ks : List ℕ) → AllByRecursion (λ y. nat_cmp x y ≡ Less) (ks ++ k ∷ []) → nat_cmp x k ≡ Less
less-last x k [] all = all.0
less-last x k (y ∷ ks) all = less-last x k ks all.1

-- a key above all others is inserted behind them
pub insert_entry-last : (es : List (ℕ × ℕ)) (k v : ℕ) → IsStrictlySortedBy nat_cmp (keys_of (es ++ (k, v) ∷ []))
    → insert_entry nat_cmp es k v ≡ es ++ (k, v) ∷ []
unfolding IsStrictlySortedBy
insert_entry-last [] k v rising = refl
insert_entry-last (e ∷ es) k v rising =
    let last : nat_cmp e.0 k ≡ Less = less-last e.0 k (keys_of es) (subst (AllByRecursion (λ y. nat_cmp e.0 y ≡ Less)) (map-append (λ s. s.0) es ((k, v) ∷ [])) rising.0) in
    let greater : Greater ≡ nat_cmp k e.0 = nat_cmp_is k e.0 Greater (lt_from_less e.0 k last) in
    ap (λ r. match_ordering r ((k, v) ∷ e ∷ es) ((e.0, v) ∷ es) (e ∷ insert_entry nat_cmp es k v)) (sym greater)
    ∙ ap (λ rest. e ∷ rest) (insert_entry-last es k v rising.1)

-- a seat with a cookie above all others
pub seats-push : (es : List (ℕ × ℕ)) (cookie index : ℕ) → IsStrictlySortedBy nat_cmp (keys_of es) → All (λ seat. seat.0 < cookie) es
    → IsStrictlySortedBy nat_cmp (keys_of (es ++ (cookie, index) ∷ []))
seats-push es cookie index rising below =
    subst (IsStrictlySortedBy nat_cmp) (sym (map-append (λ s. s.0) es ((cookie, index) ∷ [])))
    (rising-push (keys_of es) cookie rising (All-map (λ k. k < cookie) (λ s. s.0) es below))

-- Look-ups above a cookie

above_test : (cookie k : ℕ) → is_lt (nat_cmp cookie k) && true ≡ nat_lt cookie k
above_test cookie k = by (nat_lt cookie k) (cookie == k)
  where
    by : (b d : Bool) → is_lt (cond b Less (cond d Equal Greater)) && true ≡ b
    by true d = refl
    by false true = refl
    by false false = refl

module _ (cookie : ℕ) where
  abbrev above : List (ℕ × ℕ) → List (ℕ × ℕ)
  above es = entries_between nat_cmp (Excluded cookie) Unbounded es

  above_or : (e : ℕ × ℕ) (es : List (ℕ × ℕ)) (b : Bool) → is_lt (nat_cmp cookie e.0) && true ≡ b → above (e ∷ es) ≡ cond b (e ∷ above es) (above es)
  above_or e es b is = ap (λ d. cond d (e ∷ above es) (above es)) is

  find_or : (e : ℕ × ℕ) (es : List (ℕ × ℕ)) (b : Bool) → is_lt (nat_cmp cookie e.0) && true ≡ b
      → find (λ t. nat_lt cookie t.0) (e ∷ es) ≡ cond b (Some e) (find (λ t. nat_lt cookie t.0) es)
  find_or e es b is = ap (λ d. cond d (Some e) (find (λ t. nat_lt cookie t.0) es)) (sym (above_test cookie e.0) ∙ is)

  same_head : (s t : ℕ × ℕ) (xs rest : List (ℕ × ℕ)) → t ∷ xs ≡ s ∷ rest → t ≡ s
  same_head s t xs rest same = cc

  found_by : (e s : ℕ × ℕ) (es ys rest : List (ℕ × ℕ)) → above (e ∷ es) ≡ s ∷ rest → (above es ≡ s ∷ rest → find (λ t. nat_lt cookie t.0) (es ++ ys) ≡ Some s)
      → (b : Bool) → is_lt (nat_cmp cookie e.0) && true ≡ b → find (λ t. nat_lt cookie t.0) (e ∷ es ++ ys) ≡ Some s
  found_by e s es ys rest is more true first = find_or e (es ++ ys) true first ∙ ap Some (same_head s e (above es) rest (sym (above_or e es true first) ∙ is))
  found_by e s es ys rest is more false first = find_or e (es ++ ys) false first ∙ more (sym (above_or e es false first) ∙ is)

  found_first : (s : ℕ × ℕ) (es ys rest : List (ℕ × ℕ)) → above es ≡ s ∷ rest → find (λ t. nat_lt cookie t.0) (es ++ ys) ≡ Some s
  found_first s [] ys rest is = cc
  found_first s (e ∷ es) ys rest is = found_by e s es ys rest is (found_first s es ys rest) _ refl

  -- the first seat of those above the cookie
  pub index_after-first : (es ys rest : List (ℕ × ℕ)) (s : ℕ × ℕ) → above es ≡ s ∷ rest → index_after (es ++ ys) cookie ≡ Some s.1
  index_after-first es ys rest s is = ap (option_map (λ t. t.1)) (found_first s es ys rest is)

  behind_by : (e : ℕ × ℕ) (es ys : List (ℕ × ℕ)) → above (e ∷ es) ≡ [] → (above es ≡ [] → index_after (es ++ ys) cookie ≡ index_after ys cookie)
      → (b : Bool) → is_lt (nat_cmp cookie e.0) && true ≡ b → index_after (e ∷ es ++ ys) cookie ≡ index_after ys cookie
  behind_by e es ys none more true first = absurd (let bad : e ∷ above es ≡ [] = sym (above_or e es true first) ∙ none in cc)
  behind_by e es ys none more false first =
      ap (option_map (λ t. t.1)) (find_or e (es ++ ys) false first) ∙ more (sym (above_or e es false first) ∙ none)

  -- where none is above it, those behind them are searched
  pub index_after-behind : (es ys : List (ℕ × ℕ)) → above es ≡ [] → index_after (es ++ ys) cookie ≡ index_after ys cookie
  index_after-behind [] ys none = refl
  index_after-behind (e ∷ es) ys none = behind_by e es ys none (index_after-behind es ys) _ refl

  -- Changes at a cookie

  abbrev here : ℕ → Bool
  here k = is_eq (nat_cmp cookie k)

  here_test : (k : ℕ) → here k ≡ (cookie == k)
  here_test k = unsigned_tied cookie k

  -- none of the keys behind an equal one is equal too
  apart : (k : ℕ) (es : List (ℕ × ℕ)) → here k ≡ true → AllByRecursion (λ y. nat_cmp k y ≡ Less) (keys_of es) → AllByRecursion (λ y. here y ≡ false) (keys_of es)
  apart k [] same less = tt
  apart k (e ∷ es) same less =
      let at : cookie ≡ k = eqb-true cookie k (sym (here_test k) ∙ same) in
      (ap (λ c. is_eq (nat_cmp c e.0)) at ∙ ap is_eq less.0, apart k es same less.1)

  without_none : (es : List (ℕ × ℕ)) → AllByRecursion (λ y. here y ≡ false) (keys_of es) → es ≡ without_seat es cookie
  without_none [] none = refl
  without_none (e ∷ es) none =
      ap (λ rest. e ∷ rest) (without_none es none.1)
      ∙ ap (λ b. cond (not b) (e ∷ without_seat es cookie) (without_seat es cookie)) (sym none.0 ∙ here_test e.0)

  pub remove_entry-without : (es : List (ℕ × ℕ)) → IsStrictlySortedBy nat_cmp (keys_of es) → remove_entry here es ≡ without_seat es cookie
  unfolding IsStrictlySortedBy
  remove_entry-without [] rising = refl
  remove_entry-without (e ∷ es) rising = by (remove_entry-without es rising.1) (here e.0) refl
    where
      by : remove_entry here es ≡ without_seat es cookie → (b : Bool) → here e.0 ≡ b
          → cond (here e.0) es (e ∷ remove_entry here es) ≡ cond (not (cookie == e.0)) (e ∷ without_seat es cookie) (without_seat es cookie)
      by more true same =
          ap (λ b. cond b es (e ∷ remove_entry here es)) same
          ∙ without_none es (apart e.0 es same rising.0)
          ∙ ap (λ b. cond (not b) (e ∷ without_seat es cookie) (without_seat es cookie)) (sym same ∙ here_test e.0)
      by more false other =
          ap (λ b. cond b es (e ∷ remove_entry here es)) other
          ∙ ap (λ rest. e ∷ rest) more
          ∙ ap (λ b. cond (not b) (e ∷ without_seat es cookie) (without_seat es cookie)) (sym other ∙ here_test e.0)

  index_none : (index : ℕ) (es : List (ℕ × ℕ)) → AllByRecursion (λ y. here y ≡ false) (keys_of es) → es ≡ with_index es cookie index
  index_none index [] none = refl
  index_none index (e ∷ es) none =
      (λ i. cond (sym none.0 i) (e.0, index) e ∷ index_none index es none.1 i)
      ∙ ap (λ b. cond b (e.0, index) e ∷ with_index es cookie index) (here_test e.0)

  pub set_value-index : (index : ℕ) (es : List (ℕ × ℕ)) → IsStrictlySortedBy nat_cmp (keys_of es) → set_value here es index ≡ with_index es cookie index
  unfolding IsStrictlySortedBy
  set_value-index index [] rising = refl
  set_value-index index (e ∷ es) rising = by (set_value-index index es rising.1) (here e.0) refl
    where
      by : set_value here es index ≡ with_index es cookie index → (b : Bool) → here e.0 ≡ b → cond (here e.0) ((e.0, index) ∷ es) (e ∷ set_value here es index) ≡ seat_at cookie index e ∷ with_index es cookie index
      by more true same =
          ap (λ b. cond b ((e.0, index) ∷ es) (e ∷ set_value here es index)) same
          ∙ ap (λ rest. (e.0, index) ∷ rest) (index_none index es (apart e.0 es same rising.0))
          ∙ ap (λ b. cond b (e.0, index) e ∷ with_index es cookie index) (sym same ∙ here_test e.0)
      by more false other =
          ap (λ b. cond b ((e.0, index) ∷ es) (e ∷ set_value here es index)) other
          ∙ ap (λ rest. e ∷ rest) more
          ∙ ap (λ b. cond b (e.0, index) e ∷ with_index es cookie index) (sym other ∙ here_test e.0)

  none_here : (es : List (ℕ × ℕ)) → lookup here es ≡ None → AllByRecursion (λ y. here y ≡ false) (keys_of es)
  none_here [] none = tt
  none_here (e ∷ es) none = by (none_here es) (here e.0) refl
    where
      by : (lookup here es ≡ None → AllByRecursion (λ y. here y ≡ false) (keys_of es)) → (b : Bool) → here e.0 ≡ b → AllByRecursion (λ y. here y ≡ false) (keys_of (e ∷ es))
      by more true same = absurd (let bad : Some e.1 ≡ None = sym (ap (λ b. cond b (Some e.1) (lookup here es)) same) ∙ none in cc)
      by more false other = (other, more (sym (ap (λ b. cond b (Some e.1) (lookup here es)) other) ∙ none))

  -- where no seat is the cookie's, nothing changes
  pub index-absent : (index : ℕ) (es : List (ℕ × ℕ)) → lookup here es ≡ None → es ≡ with_index es cookie index
  index-absent index es none = index_none index es (none_here es none)

-- the keys of a first part rise
pub rising-first : (es ys : List (ℕ × ℕ)) → IsStrictlySortedBy nat_cmp (keys_of (es ++ ys)) → IsStrictlySortedBy nat_cmp (keys_of es)
unfolding IsStrictlySortedBy
rising-first [] ys rising = tt
rising-first (e ∷ es) ys rising = (first es rising.0, rising-first es ys rising.1)
  where
    first : (es : List (ℕ × ℕ)) → AllByRecursion (λ y. nat_cmp e.0 y ≡ Less) (keys_of (es ++ ys)) → AllByRecursion (λ y. nat_cmp e.0 y ≡ Less) (keys_of es)
    first [] less = tt
    first (f ∷ es) less = (less.0, first es less.1)

-- where the newest seat is not taken, the others are all
pub seats-none : (es : List (ℕ × ℕ)) (newest : Option (ℕ × ℕ)) → is_none newest ≡ true → es ++ option_to_list newest ≡ es
seats-none es None none = append-nil es
seats-none es (Some seat) none = cc

-- what the order is after a seat got another index
pub order-moved : (cookie index : ℕ) (es : List (ℕ × ℕ)) (newest : Option (ℕ × ℕ))
    → ◌≡◌ {A = Order} (record { has_room = is_none (option_map (seat_at cookie index) newest); seats = with_index es cookie index ++ option_to_list (option_map (seat_at cookie index) newest) })
    (record { has_room = is_none newest; seats = with_index (es ++ option_to_list newest) cookie index })
order-moved cookie index es None = ap (λ s. record { has_room = true; seats = s }) (sym (map-append (seat_at cookie index) es []))
order-moved cookie index es (Some seat) = ap (λ s. record { has_room = false; seats = s }) (sym (map-append (seat_at cookie index) es (seat ∷ [])))
