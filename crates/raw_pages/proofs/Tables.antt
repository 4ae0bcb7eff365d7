-- Tables of entries, and the finite map of them.
use Rattle.std.proofs.Common.{◌≡◌, ◌≢◌, ◌≤◌, ◌<◌, ◌+◌, ◌-◌, ◌*◌, ◌/◌, ◌%◌, zero, suc, ℕ, Bool, true, false, cond, eqb, List, Option, Some, None, IsSome, is_some, option_map, length, set, get_or, replicate, take, drop, ◌++◌, not, refl, sym, ap, ◌∙◌, subst, arith, inl, inr}
use Rattle.std.proofs.lemmas.Bool.{cases_lt}
use Rattle.std.proofs.lemmas.Bool.Decides.{nat_tests, eqb_tells}
use Rattle.std.proofs.lemmas.List.{get_or_past, get_or-set_same, get_or-set_other, get_or_default, set-get_or, length-replicate}
use Rattle.std.proofs.Math.Seq.{take-append_seam}
use Rattle.std.specs.Ordering.{nat_cmp, eq_by_cmp}
use Rattle.std.specs.Cmp.{nat_cmp_total}
use Rattle.std.specs.FinMap.{FinMap, get, insert, remove, len, empty, empty_of_len, get-empty, get-insert, get-remove, len-empty, len-insert, len-remove, same_map, nat_cmp-IsAntisymmetric}
use Rattle.raw_pages.specs.inside.Tables.{entry_in, entry_of, with_found, changed, map_of_first, map_of, moved, SetsEntry, MovesEntry, IsStore}

eqb-eq_by_cmp : (a b : ℕ) → eqb a b ≡ eq_by_cmp nat_cmp a b
eqb-eq_by_cmp a b = grind (arith, nat_tests)

pub none_of : {A : Type 0} (o : Option A) → is_some o ≡ false → o ≡ None
none_of None e = refl
none_of (Some x) e = absurd (cc)

module _ {X : Type 0} where
  found_get : (pages : FinMap nat_cmp X) (number : ℕ) (o : Option X) (q : ℕ)
      → get (with_found pages number o) q ≡ cond (eq_by_cmp nat_cmp q number) (cond (is_some o) o (get pages q)) (get pages q)
  found_get pages number None q = same_both (eq_by_cmp nat_cmp q number)
    where
      same_both : (b : Bool) → get pages q ≡ cond b (get pages q) (get pages q)
      same_both true = refl
      same_both false = refl
  found_get pages number (Some page) q = get-insert nat_cmp_total pages number page q

  or_none : (o : Option X) → cond (is_some o) o None ≡ o
  or_none None = refl
  or_none (Some x) = refl

  module _ (leaves : List (Option (List (Option X)))) where
    first_step : (count q : ℕ) → get (map_of_first leaves (suc count)) q
        ≡ cond (eq_by_cmp nat_cmp q count) (cond (is_some (entry_of leaves count)) (entry_of leaves count) (get (map_of_first leaves count) q)) (get (map_of_first leaves count) q)
    unfolding map_of_first
    first_step count q = found_get (map_of_first leaves count) count (entry_of leaves count) q

    -- no number from the count on is found
    get-map_of_first_past : (count q : ℕ) → count ≤ q → get (map_of_first leaves count) q ≡ None
    unfolding map_of_first
    get-map_of_first_past zero q past = get-empty nat_cmp q
    get-map_of_first_past (suc count) q past =
        let apart : eq_by_cmp nat_cmp q count ≡ false = grind (arith, nat_tests) in
        first_step count q
        ∙ ap (λ b. cond b (cond (is_some (entry_of leaves count)) (entry_of leaves count) (get (map_of_first leaves count) q)) (get (map_of_first leaves count) q)) apart
        ∙ get-map_of_first_past count q (omega arith)

    -- each number below it is found as its entry stands
    get-map_of_first_below : (count q : ℕ) → q < count → get (map_of_first leaves count) q ≡ entry_of leaves q
    get-map_of_first_below zero q below = absurd (omega arith)
    get-map_of_first_below (suc count) q below =
        first_step count q
        ∙ elim (cases_lt q count) [
          | inl earlier ↦
              let apart : eq_by_cmp nat_cmp q count ≡ false = grind (arith, nat_tests) in
              ap (λ b. cond b (cond (is_some (entry_of leaves count)) (entry_of leaves count) (get (map_of_first leaves count) q)) (get (map_of_first leaves count) q)) apart
              ∙ get-map_of_first_below count q earlier
          | inr last ↦
              let here : eq_by_cmp nat_cmp q count ≡ true = grind (arith, nat_tests) in
              let at : count ≡ q = omega arith in
              ap (λ b. cond b (cond (is_some (entry_of leaves count)) (entry_of leaves count) (get (map_of_first leaves count) q)) (get (map_of_first leaves count) q)) here
              ∙ ap (cond (is_some (entry_of leaves count)) (entry_of leaves count)) (get-map_of_first_past count q last)
              ∙ or_none (entry_of leaves count)
              ∙ ap (entry_of leaves) at
        ]

    pub get-map_of_past : (q : ℕ) → 1048576 ≤ q → get (map_of leaves) q ≡ None
    unfolding map_of
    get-map_of_past q past = get-map_of_first_past 1048576 q past

    entry_of_past : (q : ℕ) → length leaves ≤ q / 1024 → entry_of leaves q ≡ None
    unfolding entry_of
    entry_of_past q past = ap (λ o. entry_in o (q % 1024)) (get_or_past leaves (q / 1024) None past)

    -- the map answers as the entries stand
    pub get-map_of : length leaves ≡ 1024 → (q : ℕ) → get (map_of leaves) q ≡ entry_of leaves q
    unfolding map_of
    get-map_of whole q =
        elim (cases_lt q 1048576) [
          | inl below ↦ get-map_of_first_below 1048576 q below
          | inr past ↦ get-map_of_first_past 1048576 q past ∙ sym (entry_of_past q (omega arith))
        ]

    found_len : (pages : FinMap nat_cmp X) (count bound : ℕ) (o : Option X) → len pages ≤ bound → len (with_found pages count o) ≤ bound + 1
    found_len pages count bound None h = omega arith
    found_len pages count bound (Some x) h = subst (λ n. n ≤ bound + 1) (sym (len-insert nat_cmp_total pages count x)) (one_more (is_some (get pages count)))
      where
        one_more : (b : Bool) → cond b (len pages) (len pages + 1) ≤ bound + 1
        one_more true = omega arith
        one_more false = omega arith

    len-map_of_first : (count : ℕ) → len (map_of_first leaves count) ≤ count
    unfolding map_of_first
    len-map_of_first zero = omega (arith, len-empty nat_cmp X)
    len-map_of_first (suc count) = let more = found_len (map_of_first leaves count) count count (entry_of leaves count) (len-map_of_first count) in omega (arith, more)

    pub len-map_of : len (map_of leaves) ≤ 1048576
    unfolding map_of
    len-map_of = len-map_of_first 1048576

  entry_in-set : (es : List (Option X)) (i j : ℕ) (v : Option X) → i < length es → get_or (set es i v) j None ≡ cond (eqb j i) v (get_or es j None)
  entry_in-set es i j v room =
      elim (eqb_tells j i) [
        | inl same ↦
            ap (λ k. get_or (set es i v) k None) same.1
            ∙ get_or-set_same es i v None room
            ∙ ap (λ b. cond b v (get_or es j None)) (sym same.0)
        | inr apart ↦
            get_or-set_other es i j v None apart.1
            ∙ ap (λ b. cond b v (get_or es j None)) (sym apart.0)
      ]

  module _ (leaves : List (Option (List (Option X)))) where
    pub other_leaf : (i : ℕ) (leaf : Option (List (Option X))) (q : ℕ) → q / 1024 ≢ i → entry_of (set leaves i leaf) q ≡ entry_of leaves q
    unfolding entry_of
    other_leaf i leaf q apart = ap (λ o. entry_in o (q % 1024)) (get_or-set_other leaves i (q / 1024) leaf None apart)

    pub same_leaf : (i : ℕ) (leaf : Option (List (Option X))) (q : ℕ) → q / 1024 ≡ i → i < length leaves → entry_of (set leaves i leaf) q ≡ entry_in leaf (q % 1024)
    unfolding entry_of
    same_leaf i leaf q same room =
        ap (λ k. entry_in (get_or (set leaves i leaf) k None) (q % 1024)) same
        ∙ ap (λ o. entry_in o (q % 1024)) (get_or-set_same leaves i leaf None room)

    -- the entry of a number in a table that is there
    pub entry_of-leaf : (q : ℕ) (leaf : Option (List (Option X))) → get_or leaves (q / 1024) None ≡ leaf → entry_of leaves q ≡ entry_in leaf (q % 1024)
    unfolding entry_of
    entry_of-leaf q leaf found = ap (λ o. entry_in o (q % 1024)) found

    -- an entry that is put is the only one that changes
    pub sets-entry : (n : ℕ) (es : List (Option X)) (v : Option X) → get_or leaves (n / 1024) None ≡ Some es → n / 1024 < length leaves → length es ≡ 1024
        → SetsEntry leaves (set leaves (n / 1024) (Some (set es (n % 1024) v))) n v
    sets-entry n es v found room whole q =
        elim (eqb_tells (q / 1024) (n / 1024)) [
          | inl same ↦
              same_leaf (n / 1024) (Some (set es (n % 1024) v)) q same.1 room
              ∙ entry_in-set es (n % 1024) (q % 1024) v (omega arith)
              ∙ ap (λ b. cond b v (get_or es (q % 1024) None)) (let e : eqb (q % 1024) (n % 1024) ≡ eqb q n = places q same.1 in e)
              ∙ ap (cond (eqb q n) v) (sym (entry_of-leaf q (Some es) (ap (λ k. get_or leaves k None) same.1 ∙ found)))
          | inr apart ↦
              let others : eqb q n ≡ false = numbers q apart.1 in
              other_leaf (n / 1024) (Some (set es (n % 1024) v)) q apart.1
              ∙ ap (λ b. cond b v (entry_of leaves q)) (sym others)
        ]
      where
        places : (q : ℕ) → q / 1024 ≡ n / 1024 → eqb (q % 1024) (n % 1024) ≡ eqb q n
        places q same =
            elim (eqb_tells q n) [
              | inl equal ↦ (let e : eqb (q % 1024) (n % 1024) ≡ true = grind (arith, nat_tests) in e) ∙ sym equal.0
              | inr apart ↦
                  let differ : q % 1024 ≢ n % 1024 = (λ e. apart.1 (omega arith)) in
                  (let e : eqb (q % 1024) (n % 1024) ≡ false = grind (arith, nat_tests) in e) ∙ sym apart.0
            ]

        numbers : (q : ℕ) → q / 1024 ≢ n / 1024 → eqb q n ≡ false
        numbers q apart =
            elim (eqb_tells q n) [
              | inl equal ↦ absurd (apart (ap (λ k. k / 1024) equal.1))
              | inr other ↦ other.0
            ]

    -- the entry of a number, as the code finds it: in the table at i, at the place p
    pub entry-found : (n i p : ℕ) (r leaf : Option (List (Option X))) → i ≡ n / 1024 → p ≡ n % 1024 → get_or leaves i r ≡ leaf → n / 1024 < length leaves
        → entry_of leaves n ≡ entry_in leaf p
    unfolding entry_of
    entry-found n i p r leaf at place found room =
        ap (λ k. entry_in (get_or leaves k None) (n % 1024)) (sym at)
        ∙ ap (λ o. entry_in o (n % 1024)) (get_or_default leaves i None r (omega arith) ∙ found)
        ∙ ap (entry_in leaf) (sym place)

    pub entry-put : (n i p : ℕ) (r : Option (List (Option X))) (es fs : List (Option X)) (v : Option X)
        → i ≡ n / 1024 → p ≡ n % 1024 → get_or leaves i r ≡ Some es → n / 1024 < length leaves → length es ≡ 1024 → fs ≡ set es p v
        → SetsEntry leaves (set leaves i (Some fs)) n v
    entry-put n i p r es fs v at place found room whole put q =
        (λ j. entry_of (set leaves (at j) (Some (put j))) q)
        ∙ ap (λ k. entry_of (set leaves (n / 1024) (Some (set es k v))) q) place
        ∙ sets-entry n es v (ap (λ k. get_or leaves k None) (sym at) ∙ get_or_default leaves i None r (omega arith) ∙ found) room whole q

    pub entry-changed : (n i p : ℕ) (r : Option (List (Option X))) (es fs : List (Option X)) (f : X → X)
        → i ≡ n / 1024 → p ≡ n % 1024 → get_or leaves i r ≡ Some es → n / 1024 < length leaves → length es ≡ 1024 → fs ≡ set es p (option_map f (get_or es p None))
        → SetsEntry leaves (set leaves i (Some fs)) n (option_map f (entry_of leaves n))
    entry-changed n i p r es fs f at place found room whole put q =
        entry-put n i p r es fs (option_map f (get_or es p None)) at place found room whole put q
        ∙ ap (λ o. cond (eqb q n) (option_map f o) (entry_of leaves q)) (sym (entry-found n i p r (Some es) at place found room))

    -- an absent entry that is left as it is
    pub entry-left : (n : ℕ) → entry_of leaves n ≡ None → SetsEntry leaves leaves n None
    entry-left n missing q =
        elim (eqb_tells q n) [
          | inl same ↦ ap (entry_of leaves) same.1 ∙ missing ∙ ap (λ b. cond b None (entry_of leaves q)) (sym same.0)
          | inr apart ↦ ap (λ b. cond b None (entry_of leaves q)) (sym apart.0)
        ]

    pub entry-not_changed : (n i : ℕ) (r : Option (List (Option X))) (f : X → X) → entry_of leaves n ≡ None
        → SetsEntry leaves (set leaves i (get_or leaves i r)) n (option_map f (entry_of leaves n))
    entry-not_changed n i r f missing q =
        ap (λ s. entry_of s q) (set-get_or leaves i r)
        ∙ entry-left n missing q
        ∙ ap (λ o. cond (eqb q n) (option_map f o) (entry_of leaves q)) (sym missing)

    pub no_entry : (size place : ℕ) → get_or {A = Option X} (replicate size None) place None ≡ None
    no_entry zero place = refl
    no_entry (suc size) zero = refl
    no_entry (suc size) (suc place) = no_entry size place

    -- a table without entries in an empty place changes no entry
    pub fresh-leaf : (i size : ℕ) (r leaf : Option (List (Option X))) → leaf ≡ Some (replicate size None) → get_or leaves i r ≡ None → i < length leaves
        → (q : ℕ) → entry_of (set leaves i leaf) q ≡ entry_of leaves q
    fresh-leaf i size r leaf fresh found room q =
        elim (eqb_tells (q / 1024) i) [
          | inl same ↦
              same_leaf i leaf q same.1 room
              ∙ ap (λ o. entry_in o (q % 1024)) fresh
              ∙ no_entry size (q % 1024)
              ∙ sym (entry_of-leaf q None (ap (λ k. get_or leaves k None) same.1 ∙ get_or_default leaves i None r room ∙ found))
          | inr apart ↦ other_leaf i leaf q apart.1
        ]

  module _ (before after : List (Option (List (Option X)))) (long : length before ≡ 1024) (long_after : length after ≡ 1024) where
    -- tables with the same entries have the same map
    pub map_of-same : ((q : ℕ) → entry_of after q ≡ entry_of before q) → map_of after ≡ map_of before
    map_of-same same =
        same_map nat_cmp_total nat_cmp-IsAntisymmetric _ _ (λ q. get-map_of after long_after q ∙ same q ∙ sym (get-map_of before long q))

    pub map_of-insert : (n : ℕ) (x : X) → SetsEntry before after n (Some x) → map_of after ≡ insert (map_of before) n x
    map_of-insert n x sets =
        same_map nat_cmp_total nat_cmp-IsAntisymmetric _ _ (λ q.
        get-map_of after long_after q
        ∙ sets q
        ∙ ap (cond (eqb q n) (Some x)) (sym (get-map_of before long q))
        ∙ ap (λ b. cond b (Some x) (get (map_of before) q)) (eqb-eq_by_cmp q n)
        ∙ sym (get-insert nat_cmp_total (map_of before) n x q))

    pub map_of-remove : (n : ℕ) → SetsEntry before after n None → map_of after ≡ remove (map_of before) n
    map_of-remove n sets =
        same_map nat_cmp_total nat_cmp-IsAntisymmetric _ _ (λ q.
        get-map_of after long_after q
        ∙ sets q
        ∙ ap (cond (eqb q n) None) (sym (get-map_of before long q))
        ∙ ap (λ b. cond b None (get (map_of before) q)) (eqb-eq_by_cmp q n)
        ∙ sym (get-remove nat_cmp_total (map_of before) n q))

  -- a map that has a key is not empty
  pub some-len : (pages : FinMap nat_cmp X) (n : ℕ) (x : X) → get pages n ≡ Some x → 1 ≤ len pages
  some-len pages n x found =
      elim (cases_lt (len pages) 1) [
        | inl none ↦
            let nothing : pages ≡ empty = empty_of_len pages (omega arith) in
            let missing : None ≡ Some x = sym (ap (λ m. get m n) nothing ∙ get-empty nat_cmp n) ∙ found in
            absurd (cc)
        | inr some ↦ some
      ]

  pub len-inserted : (pages : FinMap nat_cmp X) (n : ℕ) (x : X) (o : Option X) → get pages n ≡ o → len (insert pages n x) ≡ cond (is_some o) (len pages) (len pages + 1)
  len-inserted pages n x o found = len-insert nat_cmp_total pages n x ∙ ap (λ w. cond (is_some w) (len pages) (len pages + 1)) found

  pub len-removed : (pages : FinMap nat_cmp X) (n : ℕ) (o : Option X) → get pages n ≡ o → len (remove pages n) ≡ cond (is_some o) (len pages - 1) (len pages)
  len-removed pages n o found = len-remove nat_cmp_total pages n ∙ ap (λ w. cond (is_some w) (len pages - 1) (len pages)) found

  -- what a change of one entry makes of the map
  pub map_of-changed : (before after : List (Option (List (Option X)))) → length before ≡ 1024 → length after ≡ 1024 → (n : ℕ) (f : X → X) (o : Option X)
      → entry_of before n ≡ o → SetsEntry before after n (option_map f o) → map_of after ≡ changed (map_of before) n o f
  map_of-changed before after long long_after n f None missing sets =
      map_of-same before after long long_after (λ q. sets q ∙ untouched q)
    where
      untouched : (q : ℕ) → cond (eqb q n) None (entry_of before q) ≡ entry_of before q
      untouched q =
          elim (eqb_tells q n) [
            | inl same ↦ ap (λ b. cond b None (entry_of before q)) same.0 ∙ sym (ap (entry_of before) same.1 ∙ missing)
            | inr apart ↦ ap (λ b. cond b None (entry_of before q)) apart.0
          ]
  map_of-changed before after long long_after n f (Some x) found sets = map_of-insert before after long long_after n (f x) sets

  -- no tables, no pages
  none_first : (size count : ℕ) → map_of_first {X = X} (replicate size None) count ≡ empty
  unfolding map_of_first entry_of
  none_first size zero = refl
  none_first size (suc count) =
      ap (λ o. with_found (map_of_first (replicate size None) count) count (entry_in o (count % 1024))) (nothing size (count / 1024))
      ∙ none_first size count
    where
      nothing : (size place : ℕ) → get_or {A = Option (List (Option X))} (replicate size None) place None ≡ None
      nothing zero place = refl
      nothing (suc size) zero = refl
      nothing (suc size) (suc place) = nothing size place

  pub map_of-none : (size : ℕ) → map_of {X = X} (replicate size None) ≡ empty
  unfolding map_of
  map_of-none size = none_first size 1048576

  pub store-none : (leaves : List (Option (List (Option X)))) → leaves ≡ replicate 1024 None → IsStore leaves 0
  store-none leaves is =
      let nothing = ap (λ s. len (map_of s)) is ∙ ap len (map_of-none 1024) ∙ len-empty nat_cmp X in
      record { whole = ap length is ∙ length-replicate {A = Option (List (Option X))} 1024 None; counted = sym nothing }

  -- The tables of a store, written as a slice: `before` stood in the vector, `old` is what the slice was, `after` what it is.
  module _ (long : ℕ) (before old after : List (Option (List (Option X)))) (mapped : ℕ) (view : FinMap nat_cmp X)
      (store : IsStore before mapped) (is : map_of before ≡ view) (full : length before ≡ long) (same : old ≡ before) (kept : length after ≡ length old) where
    pub now_after : take long (after ++ drop (length after) before) ≡ after
    now_after =
        let size : long ≡ length after = omega (arith, ap length same) in
        ap (λ n. take n (after ++ drop (length after) before)) size ∙ take-append_seam after (drop (length after) before)

    pub long_old : length old ≡ 1024
    long_old = ap length same ∙ store.whole

    pub long_after : length after ≡ 1024
    long_after = kept ∙ long_old

    pub old_view : map_of old ≡ view
    old_view = ap map_of same ∙ is

    pub found : (n : ℕ) → get view n ≡ entry_of old n
    found n = ap (λ m. get m n) (sym old_view) ∙ get-map_of old long_old n

    pub counted_view : mapped ≡ len view
    counted_view = store.counted ∙ ap len is

    pub make_store : (count : ℕ) (pages : FinMap nat_cmp X) → map_of after ≡ pages → count ≡ len pages → IsStore (take long (after ++ drop (length after) before)) count
    make_store count pages made counted =
        subst (λ s. IsStore s count) (sym now_after) (record { whole = long_after; counted = counted ∙ sym (ap len made) })

    changed_len : (n : ℕ) (f : X → X) (o : Option X) → get view n ≡ o → len (changed view n o f) ≡ len view
    changed_len n f None missing = refl
    changed_len n f (Some x) there = len-inserted view n (f x) (Some x) there

    module _ (n : ℕ) (f : X → X) (sets : SetsEntry old after n (option_map f (entry_of old n))) where
      changed_map : map_of after ≡ changed view n (get view n) f
      changed_map =
          map_of-changed old after long_old long_after n f (entry_of old n) refl sets
          ∙ (λ i. changed (old_view i) n (sym (found n) i) f)

      pub store-changed : IsStore (take long (after ++ drop (length after) before)) mapped
      store-changed = make_store mapped (changed view n (get view n) f) changed_map (counted_view ∙ sym (changed_len n f (get view n) refl))

      pub view-changed : map_of (take long (after ++ drop (length after) before)) ≡ changed view n (get view n) f
      view-changed = ap map_of now_after ∙ changed_map

    module _ (n : ℕ) (x : X) (sets : SetsEntry old after n (Some x)) where
      inserted_map : map_of after ≡ insert view n x
      inserted_map = map_of-insert old after long_old long_after n x sets ∙ ap (λ m. insert m n x) old_view

      pub store-inserted : (fresh : Bool) → fresh ≡ not (is_some (entry_of old n)) → IsStore (take long (after ++ drop (length after) before)) (cond fresh (mapped + 1) mapped)
      store-inserted fresh was =
          make_store (cond fresh (mapped + 1) mapped) (insert view n x) inserted_map
          (ap (λ b. cond b (mapped + 1) mapped) was ∙ turned (is_some (entry_of old n)) ∙ sym (len-inserted view n x (entry_of old n) (found n)))
        where
          turned : (b : Bool) → cond (not b) (mapped + 1) mapped ≡ cond b (len view) (len view + 1)
          turned true = counted_view
          turned false = ap (λ k. k + 1) counted_view

      pub view-inserted : map_of (take long (after ++ drop (length after) before)) ≡ insert view n x
      view-inserted = ap map_of now_after ∙ inserted_map

    module _ (n : ℕ) (sets : SetsEntry old after n None) where
      removed_map : map_of after ≡ remove view n
      removed_map = map_of-remove old after long_old long_after n sets ∙ ap (λ m. remove m n) old_view

      pub store-removed : (was : Bool) → was ≡ is_some (entry_of old n) → IsStore (take long (after ++ drop (length after) before)) (cond was (mapped - 1) mapped)
      store-removed was is_there =
          make_store (cond was (mapped - 1) mapped) (remove view n) removed_map
          ((λ i. cond (is_there i) (counted_view i - 1) (counted_view i)) ∙ sym (len-removed view n (entry_of old n) (found n)))

      pub view-removed : map_of (take long (after ++ drop (length after) before)) ≡ remove view n
      view-removed = ap map_of now_after ∙ removed_map

    -- where a page was found there was one to count
    pub some-mapped : (n : ℕ) → is_some (entry_of old n) ≡ true → 1 ≤ mapped
    some-mapped n there = subst (λ k. 1 ≤ k) (sym counted_view) (by_entry (entry_of old n) (found n) there)
      where
        by_entry : (o : Option X) → get view n ≡ o → is_some o ≡ true → 1 ≤ len view
        by_entry None at e = absurd (cc)
        by_entry (Some x) at e = some-len view n x at

  -- what is found in the view stands in the slice
  pub found-old : (before old : List (Option (List (Option X)))) (view : FinMap nat_cmp X) → length before ≡ 1024 → map_of before ≡ view → old ≡ before
      → (n : ℕ) → get view n ≡ entry_of old n
  found-old before old view whole is same n =
      ap (λ m. get m n) (sym is) ∙ get-map_of before whole n ∙ ap (λ s. entry_of s n) (sym same)

  -- a table that is there stays there where another one is put
  pub some_after-set : (leaves : List (Option (List (Option X)))) (i j : ℕ) (leaf : List (Option X)) → IsSome (get_or leaves j None) → IsSome (get_or (set leaves i (Some leaf)) j None)
  some_after-set leaves i j leaf there =
      elim (eqb_tells j i) [
        | inl same ↦ elim (cases_lt i (length leaves)) [
          | inl inside ↦
              subst (λ k. IsSome (get_or (set leaves i (Some leaf)) k None)) (sym same.1)
              (subst IsSome (sym (get_or-set_same leaves i (Some leaf) None inside)) refl)
          | inr past ↦ absurd (nothing (get_or leaves j None) (get_or_past leaves j None (let at = same.1 in omega arith)) there)
        ]
        | inr apart ↦ subst IsSome (sym (get_or-set_other leaves i j (Some leaf) None apart.1)) there
      ]
    where
      nothing : (o : Option (List (Option X))) → o ≡ None → IsSome o → ⊥
      nothing None e there = let f : false ≡ true = there in absurd (cc)
      nothing (Some x) e there = absurd (cc)

  -- The tables after the entry of one number moved to another one.
  module _ (long : ℕ) (before old after : List (Option (List (Option X)))) (mapped : ℕ) (view : FinMap nat_cmp X)
      (store : IsStore before mapped) (is : map_of before ≡ view) (full : length before ≡ long) (same : old ≡ before) (kept : length after ≡ length old)
      (n m : ℕ) (moves : MovesEntry old after n m) (free : get view m ≡ None) where
    found_at : (q : ℕ) → get view q ≡ entry_of old q
    found_at q = found-old before old view store.whole is same q

    after_whole : length after ≡ 1024
    after_whole = kept ∙ ap length same ∙ store.whole

    moved_map : (o : Option X) → entry_of old n ≡ o → map_of after ≡ moved view n m o
    moved_map None missing =
        same_map nat_cmp_total nat_cmp-IsAntisymmetric _ _ (λ q.
        get-map_of after after_whole q
        ∙ moves q
        ∙ ap (λ o. cond (is_some o) (cond (eqb q m) o (cond (eqb q n) None (entry_of old q))) (entry_of old q)) missing
        ∙ sym (found_at q))
    moved_map (Some x) there =
        same_map nat_cmp_total nat_cmp-IsAntisymmetric _ _ (λ q.
        get-map_of after after_whole q
        ∙ moves q
        ∙ ap (λ o. cond (is_some o) (cond (eqb q m) o (cond (eqb q n) None (entry_of old q))) (entry_of old q)) there
        ∙ (λ i. cond (eqb-eq_by_cmp q m i) (Some x) (cond (eqb-eq_by_cmp q n i) None (sym (found_at q) i)))
        ∙ ap (cond (eq_by_cmp nat_cmp q m) (Some x)) (sym (get-remove nat_cmp_total view n q))
        ∙ sym (get-insert nat_cmp_total (remove view n) m x q))

    both_none : (b : Bool) → cond b None (get view m) ≡ None
    both_none true = refl
    both_none false = free

    moved_len : (o : Option X) → get view n ≡ o → len (moved view n m o) ≡ len view
    moved_len None missing = refl
    moved_len (Some x) there =
        let gone : get (remove view n) m ≡ None = get-remove nat_cmp_total view n m ∙ both_none (eq_by_cmp nat_cmp m n) in
        let more = len-inserted (remove view n) m x None gone in
        let less = len-removed view n (Some x) there in
        let some = some-len view n x there in
        omega (arith, more, less, some)

    moved_as : map_of after ≡ moved view n m (get view n)
    moved_as = moved_map (entry_of old n) refl ∙ ap (moved view n m) (sym (found_at n))

    is_after : take long (after ++ drop (length after) before) ≡ after
    is_after =
        let size : long ≡ length after = omega (arith, ap length same) in
        ap (λ k. take k (after ++ drop (length after) before)) size ∙ take-append_seam after (drop (length after) before)

    pub store-moved : IsStore (take long (after ++ drop (length after) before)) mapped
    store-moved =
        subst (λ s. IsStore s mapped) (sym is_after) (record {
          whole = after_whole;
          counted = store.counted ∙ ap len is ∙ sym (moved_len (get view n) refl) ∙ sym (ap len moved_as);
        })

    pub view-moved : map_of (take long (after ++ drop (length after) before)) ≡ moved view n m (get view n)
    view-moved = ap map_of is_after ∙ moved_as

-- a table's place and the place in it are those of a number
pub number_at : (at place number : ℕ) → place < 1024 → number ≡ at * 1024 + place → (number / 1024 ≡ at) × (number % 1024 ≡ place)
number_at at place number inside is = (omega arith, omega arith)

module _ {X : Type 0} (leaves : List (Option (List (Option X)))) where
  -- the numbers of an absent table have no entry
  pub none_in-absent : (at number : ℕ) (r : Option (List (Option X))) → r ≡ get_or leaves at r → r ≡ None → at < length leaves → number / 1024 ≡ at → entry_of leaves number ≡ None
  none_in-absent at number r is absent room same = entry-found leaves number at (number % 1024) r None (sym same) refl (sym is ∙ absent) (omega arith)

  -- the entry of a number in a table that is there
  pub entry_in-there : (at number : ℕ) (r : Option (List (Option X))) (es : List (Option X)) → r ≡ get_or leaves at r → r ≡ Some es → at < length leaves → number / 1024 ≡ at
      → entry_of leaves number ≡ get_or es (number % 1024) None
  entry_in-there at number r es is there room same = entry-found leaves number at (number % 1024) r (Some es) (sym same) refl (sym is ∙ there) (omega arith)
