-- The map of names with the seats of its entries, against the entries that contracts see.
use Rattle.std.proofs.Common.{◌≡◌, ◌≢◌, ℕ, zero, suc, ◌<◌, ◌≤◌, ◌+◌, ◌-◌, Bool, true, false, cond, not, ◌==◌, nat_lt, List, [], ◌∷◌, ◌++◌, map, filter, length, take, set, get_or, slice_get, All, Contains, Option, None, Some, refl, sym, ap, subst, ◌∙◌, arith, Vec, true≢false, swap_remove}
use Rattle.std.specs.List.{AllByRecursion, IsDistinct, find}
use Rattle.std.specs.Map.{lookup, lookup_key, keys_of}
use Rattle.std.specs.Option.{option_map, option_to_list}
use Rattle.std.specs.Str.{bytes_eq}
use Rattle.std.specs.Cmp.Lexicographic.{same_text}
use Rattle.std.proofs.lemmas.Bool.{eqb-true, ltb-true, ltb-false}
use Rattle.std.proofs.lemmas.Bool.Decides.{nat_tests}
use Rattle.std.proofs.lemmas.Cmp.{nat_list_eq_equiv}
use Rattle.std.proofs.lemmas.List.{length-set, length-take-le, map-id}
use Rattle.std.proofs.lemmas.List.Elements.{All-nil, All-head, All-tail, All-push, All-weaker, All-from_recursion, recursion_from_All, Contains-append_right}
use Rattle.std.proofs.lemmas.Option.{same_Some, slice_get_within, slice_get-get_or, get_or_from_slice_get}
use Rattle.directory_names.specs.declared.entry.Place.{Place}
use Rattle.directory_names.specs.inside.Index.{named, listed, room, IsSeat, Agree}
use Rattle.directory_names.specs.inside.Order.{index_after, without_seat, with_index, seat_at}
use Rattle.directory_names.specs.Names.{NamedNode, Names, AreNames, node_of, find_name, entry_after, without}
use Rattle.directory_names.proofs.NameLemmas.{first_or, find_name-entry}

-- Places of a list

module _ {X : Type 0} where
  slice_get-take : (n k : ℕ) (xs : List X) → k < n → slice_get (take n xs) k ≡ slice_get xs k
  slice_get-take zero k xs within = absurd (omega arith)
  slice_get-take (suc n) k [] within = refl
  slice_get-take (suc n) zero (x ∷ xs) within = refl
  slice_get-take (suc n) (suc k) (x ∷ xs) within = slice_get-take n k xs (omega arith)

  slice_get-set_same : (xs : List X) (k : ℕ) (x : X) → k < length xs → slice_get (set xs k x) k ≡ Some x
  slice_get-set_same [] k x within = absurd (omega arith)
  slice_get-set_same (y ∷ xs) zero x within = refl
  slice_get-set_same (y ∷ xs) (suc k) x within = slice_get-set_same xs k x (omega arith)

  slice_get-set_other : (xs : List X) (k j : ℕ) (x : X) → j ≢ k → slice_get (set xs k x) j ≡ slice_get xs j
  slice_get-set_other [] k j x apart = refl
  slice_get-set_other (y ∷ xs) zero zero x apart = absurd (apart refl)
  slice_get-set_other (y ∷ xs) zero (suc j) x apart = refl
  slice_get-set_other (y ∷ xs) (suc k) zero x apart = refl
  slice_get-set_other (y ∷ xs) (suc k) (suc j) x apart = slice_get-set_other xs k j x (λ e. apart (ap suc e))

  slice_get-push : (xs ys : List X) (k : ℕ) (x : X) → slice_get xs k ≡ Some x → slice_get (xs ++ ys) k ≡ Some x
  slice_get-push [] ys k x at = cc
  slice_get-push (y ∷ xs) ys zero x at = at
  slice_get-push (y ∷ xs) ys (suc k) x at = slice_get-push xs ys k x at

  slice_get-end : (xs : List X) (x : X) → slice_get (xs ++ x ∷ []) (length xs) ≡ Some x
  slice_get-end [] x = refl
  slice_get-end (y ∷ xs) x = slice_get-end xs x

  -- what stands at a place after a push stood there before or is new
  data Pushed (xs : List X) (x : X) (k : ℕ) (y : X) : Type 0 where
    Old : slice_get xs k ≡ Some y → Pushed xs x k y
    New : k ≡ length xs → x ≡ y → Pushed xs x k y

  one_place : (x y : X) (k : ℕ) → slice_get (x ∷ []) k ≡ Some y → (k ≡ 0) × (x ≡ y)
  one_place x y zero at = (refl, same_Some x y at)
  one_place x y (suc k) at = cc

  pushed_behind : (z : X) (xs : List X) (x : X) (k : ℕ) (y : X) → Pushed xs x k y → Pushed (z ∷ xs) x (suc k) y
  pushed_behind z xs x k y (Old at) = Old at
  pushed_behind z xs x k y (New at is) = New (ap suc at) is

  pushed : (xs : List X) (x : X) (k : ℕ) (y : X) → slice_get (xs ++ x ∷ []) k ≡ Some y → Pushed xs x k y
  pushed [] x k y at = let one = one_place x y k at in New one.0 one.1
  pushed (z ∷ xs) x zero y at = Old at
  pushed (z ∷ xs) x (suc k) y at = pushed_behind z xs x k y (pushed xs x k y at)

  -- the list after the last element took the place of one
  module _ (xs : List X) (i : ℕ) (x : X) (within : i < length xs) where
    swapped : List X
    swapped = swap_remove xs i x

    pub swapped-other : (k : ℕ) → k ≢ i → k + 1 < length xs → slice_get (swap_remove xs i x) k ≡ slice_get xs k
    swapped-other k apart before = slice_get-take (length xs - 1) k (set xs i (get_or xs (length xs - 1) x)) (omega arith) ∙ slice_get-set_other xs i k _ apart

    pub swapped-here : i + 1 < length xs → slice_get (swap_remove xs i x) i ≡ slice_get xs (length xs - 1)
    swapped-here before =
        slice_get-take (length xs - 1) i (set xs i (get_or xs (length xs - 1) x)) (omega arith)
        ∙ slice_get-set_same xs i (get_or xs (length xs - 1) x) within
        ∙ sym (slice_get-get_or xs (length xs - 1) x (omega arith))

    pub swapped-within : (k : ℕ) (y : X) → slice_get (swap_remove xs i x) k ≡ Some y → k + 1 < length xs
    swapped-within k y at =
        let last = get_or xs (length xs - 1) x in
        let long : length (take (length xs - 1) (set xs i last)) ≡ length xs - 1 = length-take-le (length xs - 1) (set xs i last) (omega (arith, length-set xs i last)) in
        let inside = slice_get_within (swap_remove xs i x) k y at in
        omega (arith, long, inside)

  all_at : {K : Type 0} (P : K → Type 0) (f : X → K) (xs : List X) (k : ℕ) (x : X) → AllByRecursion P (map f xs) → slice_get xs k ≡ Some x → P (f x)
  all_at P f [] k x all at = absurd (let bad : None ≡ Some x = at in cc)
  all_at P f (y ∷ xs) zero x all at = subst (λ z. P (f z)) (same_Some y x at) all.0
  all_at P f (y ∷ xs) (suc k) x all at = all_at P f xs k x all.1 at

-- a name of the map with what stands at it
abbrev pub Entry : Type 0 → Type 0
Entry A = Vec ℕ A × Place

-- whether two names are the same
abbrev pub equal_names : {A : Type 0} → Vec ℕ A → Vec ℕ A → Bool
equal_names x y = bytes_eq x.items y.items

lookup_pushed : (test : ℕ → Bool) (seats : List (ℕ × ℕ)) (s : ℕ × ℕ) (k : ℕ) → lookup test seats ≡ Some k → lookup test (seats ++ s ∷ []) ≡ Some k
lookup_pushed test [] s k is = absurd (let bad : None ≡ Some k = is in cc)
lookup_pushed test (t ∷ seats) s k is = by (lookup_pushed test seats s k) (test t.0) refl
  where
    by : (lookup test seats ≡ Some k → lookup test (seats ++ s ∷ []) ≡ Some k) → (b : Bool) → test t.0 ≡ b → lookup test (t ∷ seats ++ s ∷ []) ≡ Some k
    by more true here = ap (λ b. cond b (Some t.1) (lookup test (seats ++ s ∷ []))) here ∙ sym (ap (λ b. cond b (Some t.1) (lookup test seats)) here) ∙ is
    by more false here = ap (λ b. cond b (Some t.1) (lookup test (seats ++ s ∷ []))) here ∙ more (sym (ap (λ b. cond b (Some t.1) (lookup test seats)) here) ∙ is)

lookup_new : (cookie : ℕ) (seats : List (ℕ × ℕ)) (k : ℕ) → AllByRecursion (λ s. s.0 < cookie) seats → lookup (λ c. cookie == c) (seats ++ (cookie, k) ∷ []) ≡ Some k
lookup_new cookie [] k below =
    let same : (cookie == cookie) ≡ true = grind (arith, nat_tests) in
    ap (λ b. cond b (Some k) None) same
lookup_new cookie (s ∷ seats) k below =
    let less = below.0 in
    let other : (cookie == s.0) ≡ false = grind (arith, nat_tests) in
    ap (λ b. cond b (Some s.1) (lookup (λ c. cookie == c) (seats ++ (cookie, k) ∷ []))) other ∙ lookup_new cookie seats k below.1

module _ {A : Type 0} where
  -- names that differ stand at one place each
  one_index : (es : List (Entry A)) (a b : ℕ) (e f : Entry A) → IsDistinct equal_names (keys_of es) → slice_get es a ≡ Some e → slice_get es b ≡ Some f → equal_names e.0 f.0 ≡ true → a ≡ b
  unfolding IsDistinct
  one_index [] a b e f distinct at bt is = absurd (let bad : None ≡ Some e = at in cc)
  one_index (x ∷ es) zero zero e f distinct at bt is = refl
  one_index (x ∷ es) zero (suc b) e f distinct at bt is =
      absurd (true≢false (sym is ∙ ap (λ y. equal_names y.0 f.0) (sym (same_Some x e at)) ∙ all_at (λ y. equal_names x.0 y ≡ false) (λ y. y.0) es b f distinct.0 bt))
  one_index (x ∷ es) (suc a) zero e f distinct at bt is =
      absurd (true≢false (sym is ∙ nat_list_eq_equiv.symm e.0.items f.0.items ∙ ap (λ y. equal_names y.0 e.0) (sym (same_Some x f bt)) ∙ all_at (λ y. equal_names x.0 y ≡ false) (λ y. y.0) es a e distinct.0 at))
  one_index (x ∷ es) (suc a) (suc b) e f distinct at bt is = ap suc (one_index es a b e f distinct.1 at bt is)

  -- the entry of a seat
  pub record Seated (es : List (Entry A)) (s : ℕ × ℕ) : Type 0 where
    pub entry : Entry A
    pub at : slice_get es s.1 ≡ Some entry
    pub cookie : entry.1.cookie ≡ s.0

  seated_by : (es : List (Entry A)) (s : ℕ × ℕ) (o : Option (Entry A)) → slice_get es s.1 ≡ o → option_map (λ e. e.1.cookie) o ≡ Some s.0 → Seated es s
  seated_by es s None at is = absurd (cc)
  seated_by es s (Some e) at is = record { entry = e; at = at; cookie = same_Some e.1.cookie s.0 is }

  seated : (es : List (Entry A)) (s : ℕ × ℕ) → IsSeat es s → Seated es s
  seated es s is = seated_by es s _ refl is

  is_seat : (es : List (Entry A)) (s : ℕ × ℕ) (e : Entry A) → slice_get es s.1 ≡ Some e → e.1.cookie ≡ s.0 → IsSeat es s
  is_seat es s e at cookie = ap (option_map (λ f. f.1.cookie)) at ∙ ap Some cookie

  listed_first : (es : List (Entry A)) (s : ℕ × ℕ) (seats : List (ℕ × ℕ)) (e : Entry A) → slice_get es s.1 ≡ Some e → listed es (s ∷ seats) ≡ named e ∷ listed es seats
  listed_first es s seats e at = ap (λ o. option_to_list (option_map named o) ++ listed es seats) at

  listed-append : (es : List (Entry A)) (xs ys : List (ℕ × ℕ)) → listed es (xs ++ ys) ≡ listed es xs ++ listed es ys
  listed-append es [] ys = refl
  listed-append es (s ∷ xs) ys = by (option_map named (slice_get es s.1)) (listed-append es xs ys)
    where
      by : (o : Option NamedNode) → listed es (xs ++ ys) ≡ listed es xs ++ listed es ys → option_to_list o ++ listed es (xs ++ ys) ≡ option_to_list o ++ listed es xs ++ listed es ys
      by None more = more
      by (Some x) more = ap (λ rest. x ∷ rest) more

  -- Look-ups by name

  record Found (test : Vec ℕ A → Bool) (es : List (Entry A)) (place : Place) : Type 0 where
    index : ℕ
    entry : Entry A
    at : slice_get es index ≡ Some entry
    passes : test entry.0 ≡ true
    has : entry.1 ≡ place

  found_by : (test : Vec ℕ A → Bool) (e : Entry A) (es : List (Entry A)) (place : Place) → cond (test e.0) (Some e.1) (lookup test es) ≡ Some place
      → (lookup test es ≡ Some place → Found test es place) → (b : Bool) → test e.0 ≡ b → Found test (e ∷ es) place
  found_by test e es place is more true here =
      record { index = 0; entry = e; at = refl; passes = here; has = same_Some e.1 place (sym (ap (λ b. cond b (Some e.1) (lookup test es)) here) ∙ is) }
  found_by test e es place is more false here =
      let rest = more (sym (ap (λ b. cond b (Some e.1) (lookup test es)) here) ∙ is) in
      record { index = suc rest.index; entry = rest.entry; at = rest.at; passes = rest.passes; has = rest.has }

  found : (test : Vec ℕ A → Bool) (es : List (Entry A)) (place : Place) → lookup test es ≡ Some place → Found test es place
  found test [] place is = absurd (let bad : None ≡ Some place = is in cc)
  found test (e ∷ es) place is = found_by test e es place is (found test es place) _ refl

  none_by : (test : Vec ℕ A → Bool) (e : Entry A) (es : List (Entry A)) (k : ℕ) (f : Entry A) → cond (test e.0) (Some e.1) (lookup test es) ≡ None → slice_get (e ∷ es) k ≡ Some f
      → ((j : ℕ) → lookup test es ≡ None → slice_get es j ≡ Some f → test f.0 ≡ false) → (b : Bool) → test e.0 ≡ b → test f.0 ≡ false
  none_by test e es k f none at more true here = absurd (let bad : Some e.1 ≡ None = sym (ap (λ b. cond b (Some e.1) (lookup test es)) here) ∙ none in cc)
  none_by test e es zero f none at more false here = ap (λ g. test g.0) (sym (same_Some e f at)) ∙ here
  none_by test e es (suc k) f none at more false here = more k (sym (ap (λ b. cond b (Some e.1) (lookup test es)) here) ∙ none) at

  fails : (test : Vec ℕ A → Bool) (es : List (Entry A)) (k : ℕ) (f : Entry A) → lookup test es ≡ None → slice_get es k ≡ Some f → test f.0 ≡ false
  fails test [] k f none at = absurd (let bad : None ≡ Some f = at in cc)
  fails test (e ∷ es) k f none at = none_by test e es k f none at (λ j. fails test es j f) _ refl

  absent_by : (name : List ℕ) (es : List (Entry A)) (s : ℕ × ℕ) (seats : List (ℕ × ℕ)) → lookup (λ k. bytes_eq name k.items) es ≡ None
      → find_name (listed es seats) name ≡ None → (o : Option (Entry A)) → slice_get es s.1 ≡ o → find_name (listed es (s ∷ seats)) name ≡ None
  absent_by name es s seats none more None at = ap (λ o. find_name (option_to_list (option_map named o) ++ listed es seats) name) at ∙ more
  absent_by name es s seats none more (Some e) at =
      ap (λ l. find_name l name) (listed_first es s seats e at)
      ∙ first_or (named e) (listed es seats) name false (fails (λ k. bytes_eq name k.items) es s.1 e none at) ∙ more

  find_name-absent : (name : List ℕ) (es : List (Entry A)) (seats : List (ℕ × ℕ)) → lookup (λ k. bytes_eq name k.items) es ≡ None → find_name (listed es seats) name ≡ None
  find_name-absent name es [] none = refl
  find_name-absent name es (s ∷ seats) none = absent_by name es s seats none (find_name-absent name es seats none) _ refl

  contains_by : (es : List (Entry A)) (s : ℕ × ℕ) (seats : List (ℕ × ℕ)) (k : ℕ) (e : Entry A) → slice_get es k ≡ Some e → cond (e.1.cookie == s.0) (Some s.1) (lookup (λ c. e.1.cookie == c) seats) ≡ Some k
      → (lookup (λ c. e.1.cookie == c) seats ≡ Some k → Contains (listed es seats) (named e)) → (b : Bool) → (e.1.cookie == s.0) ≡ b → Contains (listed es (s ∷ seats)) (named e)
  contains_by es s seats k e at is more true here =
      let place : s.1 ≡ k = same_Some s.1 k (sym (ap (λ b. cond b (Some s.1) (lookup (λ c. e.1.cookie == c) seats)) here) ∙ is) in
      subst (λ l. Contains l (named e)) (sym (listed_first es s seats e (ap (slice_get es) place ∙ at))) (0, omega arith, refl)
  contains_by es s seats k e at is more false here =
      Contains-append_right (option_to_list (option_map named (slice_get es s.1))) (listed es seats) (named e)
      (more (sym (ap (λ b. cond b (Some s.1) (lookup (λ c. e.1.cookie == c) seats)) here) ∙ is))

  contains_seat : (es : List (Entry A)) (seats : List (ℕ × ℕ)) (k : ℕ) (e : Entry A) → slice_get es k ≡ Some e → lookup (λ c. e.1.cookie == c) seats ≡ Some k → Contains (listed es seats) (named e)
  contains_seat es [] k e at is = absurd (let bad : None ≡ Some k = is in cc)
  contains_seat es (s ∷ seats) k e at is = contains_by es s seats k e at is (contains_seat es seats k e at) _ refl

  find_by : (names : Names) (es : List (Entry A)) (seats : List (ℕ × ℕ)) → listed es seats ≡ names.entries → AreNames names → Agree es seats → (name : List ℕ)
      → (o : Option Place) → lookup (λ k. bytes_eq name k.items) es ≡ o → option_map (λ p. p.node) o ≡ find_name names.entries name
  find_by names es seats shown are agree name None none = sym (ap (λ l. find_name l name) (sym shown) ∙ find_name-absent name es seats none)
  find_by names es seats shown are agree name (Some place) is =
      let f = found (λ k. bytes_eq name k.items) es place is in
      let there = contains_seat es seats f.index f.entry f.at (agree.are_seated f.index f.entry f.at) in
      ap (λ p. Some p.node) (sym f.has)
      ∙ sym (find_name-entry names (named f.entry) are (subst (λ l. Contains l (named f.entry)) shown there))
      ∙ ap (find_name names.entries) (sym (same_text name f.entry.0.items (sym f.passes)))

  -- a look-up in the map is a look-up in the entries
  pub find_name-lookup : (names : Names) (es : List (Entry A)) (seats : List (ℕ × ℕ)) → listed es seats ≡ names.entries → AreNames names → Agree es seats → (name : List ℕ)
      → option_map (λ p. p.node) (lookup (λ k. bytes_eq name k.items) es) ≡ find_name names.entries name
  find_name-lookup names es seats shown are agree name = find_by names es seats shown are agree name _ refl

  -- a name that stands for no node is no key of the map
  pub lookup-absent : (names : Names) (es : List (Entry A)) (seats : List (ℕ × ℕ)) → listed es seats ≡ names.entries → AreNames names → Agree es seats → (name : List ℕ)
      → find_name names.entries name ≡ None → lookup (λ k. bytes_eq name k.items) es ≡ None
  lookup-absent names es seats shown are agree name none = by _ (find_name-lookup names es seats shown are agree name ∙ none)
    where
      by : (r : Option Place) → option_map (λ p. p.node) r ≡ None → r ≡ None
      by None h = refl
      by (Some p) h = cc

  -- Look-ups by cookie

  abbrev pub at_index : List (Entry A) → Option ℕ → Option NamedNode
  at_index es None = None
  at_index es (Some index) = option_map named (slice_get es index)

  after_by : (es : List (Entry A)) (cookie : ℕ) (s : ℕ × ℕ) (seats : List (ℕ × ℕ)) → Seated es s → at_index es (index_after seats cookie) ≡ entry_after (listed es seats) cookie
      → (b : Bool) → nat_lt cookie s.0 ≡ b → at_index es (index_after (s ∷ seats) cookie) ≡ entry_after (listed es (s ∷ seats)) cookie
  after_by es cookie s seats is more true above =
      ap (λ b. at_index es (option_map (λ t. t.1) (cond b (Some s) (find (λ t. nat_lt cookie t.0) seats)))) above
      ∙ ap (option_map named) is.at
      ∙ ap (λ b. cond b (Some (named is.entry)) (entry_after (listed es seats) cookie)) (sym (ap (nat_lt cookie) is.cookie ∙ above))
      ∙ ap (λ l. entry_after l cookie) (sym (listed_first es s seats is.entry is.at))
  after_by es cookie s seats is more false above =
      ap (λ b. at_index es (option_map (λ t. t.1) (cond b (Some s) (find (λ t. nat_lt cookie t.0) seats)))) above
      ∙ more
      ∙ ap (λ b. cond b (Some (named is.entry)) (entry_after (listed es seats) cookie)) (sym (ap (nat_lt cookie) is.cookie ∙ above))
      ∙ ap (λ l. entry_after l cookie) (sym (listed_first es s seats is.entry is.at))

  after_go : (es : List (Entry A)) (cookie : ℕ) (seats : List (ℕ × ℕ)) → AllByRecursion (IsSeat es) seats → at_index es (index_after seats cookie) ≡ entry_after (listed es seats) cookie
  after_go es cookie [] are = refl
  after_go es cookie (s ∷ seats) are = after_by es cookie s seats (seated es s are.0) (after_go es cookie seats are.1) _ refl

  -- the entry at the index of the seat after a cookie
  pub entry_after-index : (es : List (Entry A)) (cookie : ℕ) (seats : List (ℕ × ℕ)) → Agree es seats → at_index es (index_after seats cookie) ≡ entry_after (listed es seats) cookie
  entry_after-index es cookie seats agree = after_go es cookie seats (recursion_from_All (IsSeat es) seats agree.are_seats)

  pub Agree-none : Agree {A = A} [] []
  unfolding IsDistinct
  Agree-none = record {
    are_seats = All-nil (IsSeat {A = A} []);
    are_seated = λ k e at. absurd (let bad : None ≡ Some e = at in cc);
    distinct = tt;
  }

  -- A new entry

  pushed_kept : (es : List (Entry A)) (x : Entry A) (seats : List (ℕ × ℕ)) → AllByRecursion (IsSeat es) seats → listed (es ++ x ∷ []) seats ≡ listed es seats
  pushed_kept es x [] are = refl
  pushed_kept es x (s ∷ seats) are =
      let is = seated es s are.0 in
      listed_first (es ++ x ∷ []) s seats is.entry (slice_get-push es (x ∷ []) s.1 is.entry is.at)
      ∙ ap (λ rest. named is.entry ∷ rest) (pushed_kept es x seats are.1)
      ∙ sym (listed_first es s seats is.entry is.at)

  -- the entries after one more, whose seat is the last
  pub listed-push : (es : List (Entry A)) (x : Entry A) (seats : List (ℕ × ℕ)) (cookie : ℕ) → Agree es seats
      → listed (es ++ x ∷ []) (seats ++ (cookie, length es) ∷ []) ≡ listed es seats ++ named x ∷ []
  listed-push es x seats cookie agree =
      listed-append (es ++ x ∷ []) seats ((cookie, length es) ∷ [])
      ∙ ap (λ l. l ++ listed (es ++ x ∷ []) ((cookie, length es) ∷ [])) (pushed_kept es x seats (recursion_from_All (IsSeat es) seats agree.are_seats))
      ∙ ap (λ l. listed es seats ++ l) (listed_first (es ++ x ∷ []) (cookie, length es) [] x (slice_get-end es x))

  seats_by : (es : List (Entry A)) (greatest : ℕ) (seats : List (ℕ × ℕ)) → AllByRecursion (IsSeat es) seats → All (λ e. e.cookie ≤ greatest) (listed es seats)
      → AllByRecursion (λ s. s.0 ≤ greatest) seats
  seats_by es greatest [] are had = tt
  seats_by es greatest (s ∷ seats) are had =
      let is = seated es s are.0 in
      let all = subst (All (λ e. e.cookie ≤ greatest)) (listed_first es s seats is.entry is.at) had in (
        subst (λ c. c ≤ greatest) is.cookie (All-head (λ e. e.cookie ≤ greatest) (named is.entry) (listed es seats) all),
        seats_by es greatest seats are.1 (All-tail (λ e. e.cookie ≤ greatest) (named is.entry) (listed es seats) all),
      )

  -- no seat's cookie is above the greatest
  pub seats-had : (es : List (Entry A)) (greatest : ℕ) (seats : List (ℕ × ℕ)) → Agree es seats → All (λ e. e.cookie ≤ greatest) (listed es seats) → All (λ s. s.0 ≤ greatest) seats
  seats-had es greatest seats agree had =
      All-from_recursion (λ s. s.0 ≤ greatest) seats (seats_by es greatest seats (recursion_from_All (IsSeat es) seats agree.are_seats) had)

  -- the names and the seats belong together after a new entry, which has a cookie above all others
  pub Agree-push : (es : List (Entry A)) (x : Entry A) (seats : List (ℕ × ℕ)) → Agree es seats → All (λ s. s.0 < x.1.cookie) seats
      → IsDistinct equal_names (keys_of (es ++ x ∷ [])) → Agree (es ++ x ∷ []) (seats ++ (x.1.cookie, length es) ∷ [])
  Agree-push es x seats agree below distinct = record {
    are_seats =
        All-push (IsSeat (es ++ x ∷ [])) seats (x.1.cookie, length es)
        (All-weaker (IsSeat es) (IsSeat (es ++ x ∷ [])) (λ s is. let t = seated es s is in is_seat (es ++ x ∷ []) s t.entry (slice_get-push es (x ∷ []) s.1 t.entry t.at) t.cookie) seats agree.are_seats)
        (is_seat (es ++ x ∷ []) (x.1.cookie, length es) x (slice_get-end es x) refl);
    are_seated = λ k e at. by k e (pushed es x k e at);
    distinct = distinct;
  }
    where
      by : (k : ℕ) (e : Entry A) → Pushed es x k e → lookup (λ c. e.1.cookie == c) (seats ++ (x.1.cookie, length es) ∷ []) ≡ Some k
      by k e (Old at) = lookup_pushed (λ c. e.1.cookie == c) seats (x.1.cookie, length es) k (agree.are_seated k e at)
      by k e (New at is) =
          ap (λ f. lookup (λ c. f.1.cookie == c) (seats ++ (x.1.cookie, length es) ∷ [])) (sym is)
          ∙ lookup_new x.1.cookie seats (length es) (recursion_from_All (λ s. s.0 < x.1.cookie) seats below)
          ∙ ap Some (sym at)

  -- An entry less

  module _ (es : List (Entry A)) (seats : List (ℕ × ℕ)) (agree : Agree es seats) (i : ℕ) (x : Entry A) (at : slice_get es i ≡ Some x) where
    -- entries with one cookie stand at one index
    one_seat : (a b : ℕ) (e f : Entry A) → slice_get es a ≡ Some e → slice_get es b ≡ Some f → e.1.cookie ≡ f.1.cookie → a ≡ b
    one_seat a b e f ea fb is =
        same_Some a b (sym (agree.are_seated a e ea) ∙ ap (λ c. lookup (λ k. c == k) seats) is ∙ agree.are_seated b f fb)

    -- where an entry that is left stood before
    pub record Came (left : List (Entry A)) (move : ℕ × ℕ → ℕ × ℕ) (k : ℕ) (e : Entry A) : Type 0 where
      pub before : ℕ
      pub at_before : slice_get es before ≡ Some e
      pub apart : before ≢ i
      pub moves : (s : ℕ × ℕ) → s.0 ≡ e.1.cookie → s.1 ≡ before → (move s).1 ≡ k

    -- the seats that are left, each at the index where its entry stands now
    pub record Follows (left : List (Entry A)) (move : ℕ × ℕ → ℕ × ℕ) : Type 0 where
      pub cookie : (s : ℕ × ℕ) → (move s).0 ≡ s.0
      pub entry : (s : ℕ × ℕ) (e : Entry A) → slice_get es s.1 ≡ Some e → e.1.cookie ≡ s.0 → s.1 ≢ i → slice_get left (move s).1 ≡ Some e
      pub back : (k : ℕ) (e : Entry A) → slice_get left k ≡ Some e → Came left move k e

    module _ (name : List ℕ) (is_named : bytes_eq name x.0.items ≡ true) (left : List (Entry A)) (move : ℕ × ℕ → ℕ × ℕ) (follows : Follows left move) where
      abbrev others : List (ℕ × ℕ) → List (ℕ × ℕ)
      others all = map move (without_seat all x.1.cookie)

      abbrev unnamed : List NamedNode → List NamedNode
      unnamed all = filter (λ e. not (bytes_eq name e.name)) all

      seat_gone : (s : ℕ × ℕ) (t : Seated es s) → (x.1.cookie == s.0) ≡ true → t.entry ≡ x
      seat_gone s t same =
          let index : s.1 ≡ i = one_seat s.1 i t.entry x t.at at (t.cookie ∙ sym (eqb-true x.1.cookie s.0 same)) in
          same_Some t.entry x (sym t.at ∙ ap (slice_get es) index ∙ at)

      seat_left : (s : ℕ × ℕ) → Seated es s → (x.1.cookie == s.0) ≡ false → s.1 ≢ i
      seat_left s t other = λ e.
          let is : x ≡ t.entry = same_Some x t.entry (sym at ∙ ap (slice_get es) (sym e) ∙ t.at) in
          let cookies : x.1.cookie ≡ s.0 = ap (λ y. y.1.cookie) is ∙ t.cookie in
          let same : (x.1.cookie == s.0) ≡ true = grind (arith, nat_tests) in
          true≢false (sym same ∙ other)

      named_by : (s : ℕ × ℕ) (t : Seated es s) → s.1 ≢ i → (b : Bool) → bytes_eq name t.entry.0.items ≡ b → bytes_eq name t.entry.0.items ≡ false
      named_by s t apart true is =
          absurd (apart (sym (one_index es i s.1 x t.entry agree.distinct at t.at (sym (nat_list_eq_equiv.congr name x.0.items t.entry.0.items is_named) ∙ is))))
      named_by s t apart false is = is

      left_by : (s : ℕ × ℕ) (rest : List (ℕ × ℕ)) → Seated es s → listed left (others rest) ≡ unnamed (listed es rest) → (b : Bool) → (x.1.cookie == s.0) ≡ b
          → listed left (others (s ∷ rest)) ≡ unnamed (listed es (s ∷ rest))
      left_by s rest t more true same =
          ap (λ b. listed left (map move (cond (not b) (s ∷ without_seat rest x.1.cookie) (without_seat rest x.1.cookie)))) same
          ∙ more
          ∙ sym (ap unnamed (listed_first es s rest t.entry t.at)
          ∙ ap (λ b. cond (not b) (named t.entry ∷ unnamed (listed es rest)) (unnamed (listed es rest))) (ap (λ e. bytes_eq name e.0.items) (seat_gone s t same) ∙ is_named))
      left_by s rest t more false other =
          let apart = seat_left s t other in
          ap (λ b. listed left (map move (cond (not b) (s ∷ without_seat rest x.1.cookie) (without_seat rest x.1.cookie)))) other
          ∙ listed_first left (move s) (others rest) t.entry (follows.entry s t.entry t.at t.cookie apart)
          ∙ ap (λ l. named t.entry ∷ l) more
          ∙ sym (ap unnamed (listed_first es s rest t.entry t.at)
          ∙ ap (λ b. cond (not b) (named t.entry ∷ unnamed (listed es rest)) (unnamed (listed es rest))) (named_by s t apart _ refl))

      left_go : (rest : List (ℕ × ℕ)) → AllByRecursion (IsSeat es) rest → listed left (others rest) ≡ unnamed (listed es rest)
      left_go [] are = refl
      left_go (s ∷ rest) are = left_by s rest (seated es s are.0) (left_go rest are.1) _ refl

      -- the entries after a removal
      pub listed-left : listed left (others seats) ≡ unnamed (listed es seats)
      listed-left = left_go seats (recursion_from_All (IsSeat es) seats agree.are_seats)

      seats_left_by : (s : ℕ × ℕ) (rest : List (ℕ × ℕ)) → Seated es s → AllByRecursion (IsSeat left) (others rest) → (b : Bool) → (x.1.cookie == s.0) ≡ b
          → AllByRecursion (IsSeat left) (others (s ∷ rest))
      seats_left_by s rest t more true same =
          subst (λ b. AllByRecursion (IsSeat left) (map move (cond (not b) (s ∷ without_seat rest x.1.cookie) (without_seat rest x.1.cookie)))) (sym same) more
      seats_left_by s rest t more false other =
          subst (λ b. AllByRecursion (IsSeat left) (map move (cond (not b) (s ∷ without_seat rest x.1.cookie) (without_seat rest x.1.cookie)))) (sym other)
          (is_seat left (move s) t.entry (follows.entry s t.entry t.at t.cookie (seat_left s t other)) (t.cookie ∙ sym (follows.cookie s)), more)

      seats_left : (rest : List (ℕ × ℕ)) → AllByRecursion (IsSeat es) rest → AllByRecursion (IsSeat left) (others rest)
      seats_left [] are = tt
      seats_left (s ∷ rest) are = seats_left_by s rest (seated es s are.0) (seats_left rest are.1) _ refl

      lookup_left_by : (k : ℕ) (e : Entry A) (came : Came left move k e) (s : ℕ × ℕ) (rest : List (ℕ × ℕ)) → lookup (λ c. e.1.cookie == c) (s ∷ rest) ≡ Some came.before
          → (lookup (λ c. e.1.cookie == c) rest ≡ Some came.before → lookup (λ c. e.1.cookie == c) (others rest) ≡ Some k)
          → (b d : Bool) → (x.1.cookie == s.0) ≡ b → (e.1.cookie == s.0) ≡ d → lookup (λ c. e.1.cookie == c) (others (s ∷ rest)) ≡ Some k
      lookup_left_by k e came s rest is more true true same here =
          absurd (came.apart (one_seat came.before i e x came.at_before at (eqb-true e.1.cookie s.0 here ∙ sym (eqb-true x.1.cookie s.0 same))))
      lookup_left_by k e came s rest is more true false same here =
          ap (λ b. lookup (λ c. e.1.cookie == c) (map move (cond (not b) (s ∷ without_seat rest x.1.cookie) (without_seat rest x.1.cookie)))) same
          ∙ more (sym (ap (λ d. cond d (Some s.1) (lookup (λ c. e.1.cookie == c) rest)) here) ∙ is)
      lookup_left_by k e came s rest is more false d other here =
          ap (λ b. lookup (λ c. e.1.cookie == c) (map move (cond (not b) (s ∷ without_seat rest x.1.cookie) (without_seat rest x.1.cookie)))) other
          ∙ ap (λ d. cond d (Some (move s).1) (lookup (λ c. e.1.cookie == c) (others rest))) (ap (λ c. e.1.cookie == c) (follows.cookie s) ∙ here)
          ∙ kept d here
        where
          kept : (d : Bool) → (e.1.cookie == s.0) ≡ d → cond d (Some (move s).1) (lookup (λ c. e.1.cookie == c) (others rest)) ≡ Some k
          kept true here =
              ap Some (came.moves s (sym (eqb-true e.1.cookie s.0 here)) (same_Some s.1 came.before (sym (ap (λ d. cond d (Some s.1) (lookup (λ c. e.1.cookie == c) rest)) here) ∙ is)))
          kept false here = more (sym (ap (λ d. cond d (Some s.1) (lookup (λ c. e.1.cookie == c) rest)) here) ∙ is)

      lookup_left : (k : ℕ) (e : Entry A) (came : Came left move k e) (rest : List (ℕ × ℕ)) → lookup (λ c. e.1.cookie == c) rest ≡ Some came.before → lookup (λ c. e.1.cookie == c) (others rest) ≡ Some k
      lookup_left k e came [] is = absurd (let bad : None ≡ Some came.before = is in cc)
      lookup_left k e came (s ∷ rest) is = lookup_left_by k e came s rest is (lookup_left k e came rest) _ _ refl refl

      -- the names and the seats belong together after a removal
      pub Agree-left : IsDistinct equal_names (keys_of left) → Agree left (others seats)
      Agree-left distinct = record {
        are_seats = All-from_recursion (IsSeat left) (others seats) (seats_left seats (recursion_from_All (IsSeat es) seats agree.are_seats));
        are_seated = λ k e at_left.
            let came = follows.back k e at_left in lookup_left k e came seats (agree.are_seated came.before e came.at_before);
        distinct = distinct;
      }

    abbrev swapped_out : List (Entry A)
    swapped_out = swap_remove es i x

    inside : i < length es
    inside = slice_get_within es i x at

    last_by : slice_get swapped_out i ≡ None → (k : ℕ) → k < length es → k ≢ i → k + 1 < length es
    last_by none k within apart = by (nat_lt (i + 1) (length es)) refl
      where
        by : (b : Bool) → nat_lt (i + 1) (length es) ≡ b → k + 1 < length es
        by true before =
            absurd (let less = ltb-true (i + 1) (length es) before in
            let bad : None ≡ Some (get_or es (length es - 1) x) =
            sym none ∙ swapped-here es i x inside less ∙ slice_get-get_or es (length es - 1) x (omega arith) in cc)
        by false past = let more = ltb-false (i + 1) (length es) past in let here = inside in grind arith

    -- the last entry went, and the others stay where they are
    pub follows-last : slice_get swapped_out i ≡ None → Follows swapped_out (λ s. s)
    follows-last none = record {
      cookie = λ s. refl;
      entry = λ s e ea is apart. swapped-other es i x inside s.1 apart (last_by none s.1 (slice_get_within es s.1 e ea) apart) ∙ ea;
      back = λ k e at_left.
          let before = swapped-within es i x inside k e at_left in
          let apart : k ≢ i = λ is. let bad : None ≡ Some e = sym none ∙ ap (slice_get swapped_out) (sym is) ∙ at_left in cc in
          record { before = k; at_before = sym (swapped-other es i x inside k apart before) ∙ at_left; apart = apart; moves = λ s _ is. is };
    }

    module _ (m : Entry A) (here : slice_get swapped_out i ≡ Some m) where
      early : i + 1 < length es
      early = swapped-within es i x inside i m here

      last_is : slice_get es (length es - 1) ≡ Some m
      last_is = sym (swapped-here es i x inside early) ∙ here

      moved_cookie : (s : ℕ × ℕ) (b : Bool) → (cond b (s.0, i) s).0 ≡ s.0
      moved_cookie s true = refl
      moved_cookie s false = refl

      moved_entry : (s : ℕ × ℕ) (e : Entry A) → slice_get es s.1 ≡ Some e → e.1.cookie ≡ s.0 → s.1 ≢ i → (b : Bool) → (m.1.cookie == s.0) ≡ b
          → slice_get swapped_out (cond b (s.0, i) s).1 ≡ Some e
      moved_entry s e ea is apart true same =
          let index : s.1 ≡ length es - 1 = one_seat s.1 (length es - 1) e m ea last_is (is ∙ sym (eqb-true m.1.cookie s.0 same)) in
          here ∙ sym last_is ∙ ap (slice_get es) (sym index) ∙ ea
      moved_entry s e ea is apart false other =
          let within = slice_get_within es s.1 e ea in
          let not_last : s.1 ≢ length es - 1 = λ index.
          let one : m ≡ e = same_Some m e (sym last_is ∙ ap (slice_get es) (sym index) ∙ ea) in
          let cookies : m.1.cookie ≡ s.0 = ap (λ f. f.1.cookie) one ∙ is in
          let same : (m.1.cookie == s.0) ≡ true = grind (arith, nat_tests) in
          true≢false (sym same ∙ other) in
          swapped-other es i x inside s.1 apart (grind arith) ∙ ea

      came_by : (k : ℕ) (e : Entry A) → slice_get swapped_out k ≡ Some e → (b : Bool) → (k == i) ≡ b → Came swapped_out (seat_at m.1.cookie i) k e
      came_by k e at_left true same =
          let is : k ≡ i = eqb-true k i same in
          let one : m ≡ e = same_Some m e (sym here ∙ ap (slice_get swapped_out) (sym is) ∙ at_left) in
          record {
            before = length es - 1;
            at_before = last_is ∙ ap Some one;
            apart = λ bad. let less = early in omega arith;
            moves = λ s cookie _.
                let equal : m.1.cookie ≡ s.0 = ap (λ f. f.1.cookie) one ∙ sym cookie in
                let test : (m.1.cookie == s.0) ≡ true = grind (arith, nat_tests) in
                ap (λ b. (cond b (s.0, i) s).1) test ∙ sym is;
          }
      came_by k e at_left false other =
          let before = swapped-within es i x inside k e at_left in
          let apart : k ≢ i = λ is. let same : (k == i) ≡ true = grind (arith, nat_tests) in true≢false (sym same ∙ other) in
          let at_before = sym (swapped-other es i x inside k apart before) ∙ at_left in
          record {
            before = k;
            at_before = at_before;
            apart = apart;
            moves = λ s cookie is.
                by s (m.1.cookie == s.0) refl (λ equal. let index = one_seat k (length es - 1) e m at_before last_is (sym cookie ∙ sym equal) in omega arith) is;
          }
        where
          by : (s : ℕ × ℕ) (b : Bool) → (m.1.cookie == s.0) ≡ b → (m.1.cookie ≡ s.0 → ⊥) → s.1 ≡ k → (cond (m.1.cookie == s.0) (s.0, i) s).1 ≡ k
          by s true test never is = absurd (never (eqb-true m.1.cookie s.0 test))
          by s false test never is = ap (λ b. (cond b (s.0, i) s).1) test ∙ is

      -- the last entry stands now where the removed one stood
      pub follows-moved : Follows swapped_out (seat_at m.1.cookie i)
      follows-moved = record {
        cookie = λ s. moved_cookie s (m.1.cookie == s.0);
        entry = λ s e ea is apart. moved_entry s e ea is apart _ refl;
        back = λ k e at_left. came_by k e at_left _ refl;
      }

module _ {A : Type 0} where
  length_by : (es : List (Vec ℕ A × Place)) (seats : List (ℕ × ℕ)) → AllByRecursion (IsSeat es) seats → length (listed es seats) ≡ length seats
  length_by es [] are = refl
  length_by es (s ∷ seats) are =
      let is = seated es s are.0 in
      ap length (listed_first es s seats is.entry is.at) ∙ ap suc (length_by es seats are.1)

  -- there is an entry for each seat
  pub length-listed : (es : List (Vec ℕ A × Place)) (seats : List (ℕ × ℕ)) → Agree es seats → length (listed es seats) ≡ length seats
  length-listed es seats agree = length_by es seats (recursion_from_All (IsSeat es) seats agree.are_seats)

-- Room

pub room-some : (has : Bool) (spare : ℕ) → 0 < room has spare → (has ≡ true) × (0 < spare)
room-some true spare some = (refl, omega arith)
room-some false spare some = absurd (omega arith)

pub room-one : (has : Bool) (spare : ℕ) → room has spare ≤ 1
room-one true spare = omega arith
room-one false spare = omega arith

pub room-kept : (has still : Bool) (spare more : ℕ) → (has ≡ true → still ≡ true) → spare ≤ more → room has spare ≤ room still more
room-kept false still spare more kept grown = omega arith
room-kept true true spare more kept grown = omega arith
room-kept true false spare more kept grown = absurd (true≢false (sym (kept refl)))

-- A key that a look-up finds passes the test.
pub passes-lookup_key : {K X : Type 0} (test : K → Bool) (es : List (K × X)) (k : K) → lookup_key test es ≡ Some k → test k ≡ true
passes-lookup_key test [] k is = absurd (let bad : None ≡ Some k = is in cc)
passes-lookup_key test (e ∷ es) k is = by (passes-lookup_key test es k) (test e.0) refl
  where
    by : (lookup_key test es ≡ Some k → test k ≡ true) → (b : Bool) → test e.0 ≡ b → test k ≡ true
    by more true here = ap test (sym (same_Some e.0 k (sym (ap (λ b. cond b (Some e.0) (lookup_key test es)) here) ∙ is))) ∙ here
    by more false here = more (sym (ap (λ b. cond b (Some e.0) (lookup_key test es)) here) ∙ is)

-- Where no entry has the name, none goes.
pub filter-absent : (entries : List NamedNode) (name : List ℕ) → find_name entries name ≡ None → entries ≡ filter (λ e. not (bytes_eq name e.name)) entries
filter-absent [] name none = refl
filter-absent (e ∷ entries) name none = by (filter-absent entries name) (bytes_eq name e.name) refl
  where
    by : (find_name entries name ≡ None → entries ≡ filter (λ f. not (bytes_eq name f.name)) entries) → (b : Bool) → bytes_eq name e.name ≡ b
        → e ∷ entries ≡ filter (λ f. not (bytes_eq name f.name)) (e ∷ entries)
    by more true here = absurd (let bad : Some (node_of e) ≡ None = sym (first_or e entries name true here) ∙ none in cc)
    by more false here =
        ap (λ rest. e ∷ rest) (more (sym (first_or e entries name false here) ∙ none))
        ∙ ap (λ b. cond (not b) (e ∷ filter (λ f. not (bytes_eq name f.name)) entries) (filter (λ f. not (bytes_eq name f.name)) entries)) (sym here)

-- The names and the seats after a removal. `left` is what the map holds then, and `now` are the seats.
module _ {A : Type 0} (names : Names) (es : List (Entry A)) (seats : List (ℕ × ℕ)) (shown : listed es seats ≡ names.entries) (agree : Agree es seats)
    (i : ℕ) (x : Entry A) (at : slice_get es i ≡ Some x) (name : List ℕ) (is_named : bytes_eq name x.0.items ≡ true)
    (left : List (Entry A)) (held : left ≡ swap_remove es i x) (distinct : IsDistinct equal_names (keys_of left)) (now : List (ℕ × ℕ)) where
  removed_by : (move : ℕ × ℕ → ℕ × ℕ) → Follows es seats agree i x at (swap_remove es i x) move → now ≡ map move (without_seat seats x.1.cookie)
      → (listed left now ≡ (without names name).entries) × Agree left now
  removed_by move follows is = (
    (λ j. listed (held j) (is j))
        ∙ listed-left es seats agree i x at name is_named (swap_remove es i x) move follows
        ∙ ap (filter (λ e. not (bytes_eq name e.name))) shown,
    subst (λ l. Agree l now) (sym held) (subst (Agree (swap_remove es i x)) (sym is)
        (Agree-left es seats agree i x at name is_named (swap_remove es i x) move follows (subst (λ l. IsDistinct equal_names (keys_of l)) held distinct))),
  )

  -- where the last entry stands now where the removed one stood
  pub removed-moved : (m : Entry A) → slice_get left i ≡ Some m → now ≡ with_index (without_seat seats x.1.cookie) m.1.cookie i
      → (listed left now ≡ (without names name).entries) × Agree left now
  removed-moved m here is =
      removed_by (seat_at m.1.cookie i) (follows-moved es seats agree i x at m (ap (λ l. slice_get l i) (sym held) ∙ here)) is

  -- where the removed one was the last
  pub removed-last : slice_get left i ≡ None → now ≡ without_seat seats x.1.cookie → (listed left now ≡ (without names name).entries) × Agree left now
  removed-last none is =
      removed_by (λ s. s) (follows-last es seats agree i x at (ap (λ l. slice_get l i) (sym held) ∙ none)) (is ∙ sym (map-id (without_seat seats x.1.cookie)))
