-- The descriptions by their numbers, after each change.
use Rattle.std.proofs.Common.{◌≡◌, ◌≢◌, ℕ, zero, suc, ◌+◌, ◌-◌, ◌<◌, ◌≤◌, ◌++◌, true, false, List, [], ◌∷◌, map, length, set, get_or, replicate, Option, Some, None, refl, sym, ap, ◌∙◌, append_assoc, subst, inl, inr, arith}
use Rattle.std.specs.Prelude.{is_some, ◌⊎◌}
use Rattle.std.proofs.lemmas.Bool.{cases_eq, cases_lt}
use Rattle.std.proofs.lemmas.List.{get_or_past, get_or-set_same, get_or-set_other, length-append, length-map, length-replicate, length-set, replicate-append-replicate, set-append_left, set-get_or}
use Rattle.std.proofs.lemmas.Option.{same_Some}
use Rattle.kernel_model.specs.Begin.{free_places}
use Rattle.kernel_model.specs.Table.{slot, with_slot}
use Rattle.slab.specs.Slab.{Slab, get, Updates, with_value}
use Rattle.native_fd.specs.inside.Descriptions.{AreKept, AreKeyed, all_keys, item_at}
use Rattle.native_fd.proofs.LinkLemmas.{slot-free}

pub slot_within : (keys : List (Option ℕ)) (number key : ℕ) → slot keys number ≡ Some key → number < length keys
slot_within keys number key at =
    elim (cases_lt number (length keys)) [
      | inl within ↦ within
      | inr past ↦ absurd (let bad : None ≡ Some key = sym (get_or_past keys number None past) ∙ at in cc)
    ]

-- The keys of the first numbers, and of all.

slot-padded : (keys : List (Option ℕ)) (rest number : ℕ) → slot (keys ++ free_places rest) number ≡ slot keys number
slot-padded [] rest number = slot-free {A = ℕ} rest number
slot-padded (key ∷ keys) rest zero = refl
slot-padded (key ∷ keys) rest (suc number) = slot-padded keys rest number

pub slot-all : (keys : List (Option ℕ)) (number : ℕ) → slot (all_keys keys) number ≡ slot keys number
slot-all keys number = slot-padded keys (1024 - length keys) number

pub all-set : (keys : List (Option ℕ)) (number : ℕ) (key : Option ℕ) → number < length keys → all_keys (set keys number key) ≡ set (all_keys keys) number key
all-set keys number key within =
    ap (λ n. set keys number key ++ free_places {A = ℕ} (1024 - n)) (length-set keys number key)
    ∙ sym (set-append_left keys (free_places {A = ℕ} (1024 - length keys)) number key within)

pub length-all : (keys : List (Option ℕ)) → length keys ≤ 1024 → length (all_keys keys) ≡ 1024
unfolding free_places
length-all keys few =
    length-append keys (replicate (1024 - length keys) None)
    ∙ ap (λ n. length keys + n) (length-replicate {A = Option ℕ} (1024 - length keys) None)
    ∙ (let e : length keys + (1024 - length keys) ≡ 1024 = omega arith in e)

pub all-more : (keys : List (Option ℕ)) (more : ℕ) → length keys + more ≤ 1024 → all_keys (keys ++ replicate more None) ≡ all_keys keys
unfolding free_places
all-more keys more few =
    let long : length (keys ++ replicate more None) ≡ length keys + more =
    length-append keys (replicate more None) ∙ ap (λ n. length keys + n) (length-replicate {A = Option ℕ} more None) in
    let rest : more + (1024 - length (keys ++ replicate more None)) ≡ 1024 - length keys = omega (arith, long) in
    append_assoc keys (replicate more None) (replicate (1024 - length (keys ++ replicate more None)) None)
    ∙ ap (λ l. keys ++ l) (replicate-append-replicate {A = Option ℕ} more (1024 - length (keys ++ replicate more None)) None)
    ∙ ap (λ n. keys ++ replicate n None) rest

module _ {A : Type 0} where
  pub slot-items : (items : Slab A) (keys : List (Option ℕ)) (number : ℕ) → slot (map (item_at items) keys) number ≡ item_at items (slot keys number)
  slot-items items [] number = refl
  slot-items items (key ∷ keys) zero = refl
  slot-items items (key ∷ keys) (suc number) = slot-items items keys number

  pub number-within : (items : Slab A) (keys : List (Option ℕ)) (seen : List (Option A)) → map (item_at items) keys ≡ seen → (number : ℕ) → number < length seen → number < length keys
  number-within items keys seen is number within =
      let long : length keys ≡ length seen = sym (length-map keys (item_at items)) ∙ ap (λ l. length l) is in omega (arith, long, within)

  no_items : (items : Slab A) (count : ℕ) → map (item_at items) (replicate count None) ≡ replicate count None
  no_items items zero = refl
  no_items items (suc count) = ap (λ l. None ∷ l) (no_items items count)

  pub items-free : (items : Slab A) (count : ℕ) → map (item_at items) (free_places count) ≡ free_places count
  unfolding free_places
  items-free items count = no_items items count

  pub items-same : (old now : Slab A) (keys : List (Option ℕ)) → now.slots ≡ old.slots → map (item_at now) keys ≡ map (item_at old) keys
  items-same old now [] same = refl
  items-same old now (None ∷ keys) same = ap (λ l. None ∷ l) (items-same old now keys same)
  items-same old now (Some key ∷ keys) same =
      let here : get now key ≡ get old key = ap (λ slots. get_or slots key None) same in
      let rest = items-same old now keys same in cc

  items_alike : (old now : Slab A) (keys : List (Option ℕ)) → ((number : ℕ) → item_at now (slot keys number) ≡ item_at old (slot keys number)) → map (item_at now) keys ≡ map (item_at old) keys
  items_alike old now [] alike = refl
  items_alike old now (key ∷ keys) alike =
      let here : item_at now key ≡ item_at old key = alike 0 in
      let rest = items_alike old now keys (λ number. alike (suc number)) in cc

  -- one number gets another key, and the others keep what they had
  items_set : (old now : Slab A) (keys : List (Option ℕ)) (number : ℕ) (key : Option ℕ) (item : Option A) → number < length keys → item_at now key ≡ item
      → ((other : ℕ) → other ≢ number → item_at now (slot keys other) ≡ item_at old (slot keys other))
      → map (item_at now) (set keys number key) ≡ set (map (item_at old) keys) number item
  items_set old now [] number key item within is others = refl
  items_set old now (first ∷ keys) zero key item within is others =
      let rest = items_alike old now keys (λ number. others (suc number) (λ same. absurd (omega (arith, same)))) in cc
  items_set old now (first ∷ keys) (suc number) key item within is others =
      let here : item_at now first ≡ item_at old first = others 0 (λ same. absurd (omega (arith, same))) in
      let rest = items_set old now keys number key item (omega arith) is (λ other apart. others (suc other) (λ same. apart (omega (arith, same)))) in cc

  pub AreKeyed-none : (items : Slab A) (count : ℕ) → items.slots ≡ [] → AreKeyed (free_places count) items
  AreKeyed-none items count empty = record {
    leads = λ number key at. absurd (let bad : None ≡ Some key = sym (slot-free count number) ∙ at in cc);
    once = λ number other key at also. absurd (let bad : None ≡ Some key = sym (slot-free count number) ∙ at in cc);
    used = λ key some. absurd (let bad : false ≡ true = sym (ap (λ slots. is_some (get_or slots key None)) empty) ∙ some in cc);
  }

  pub AreKeyed-same : (old now : Slab A) (keys : List (Option ℕ)) → now.slots ≡ old.slots → AreKeyed keys old → AreKeyed keys now
  AreKeyed-same old now keys same are = record {
    leads = λ number key at. ap (λ slots. is_some (get_or slots key None)) same ∙ are.leads number key at;
    once = are.once;
    used = λ key some. are.used key (sym (ap (λ slots. is_some (get_or slots key None)) same) ∙ some);
  }

  module _ (old : Slab A) (keys : List (Option ℕ)) (are : AreKeyed keys old) where
    lost : (key : ℕ) → is_some (get old key) ≡ true → get old key ≡ None → ⊥
    lost key some none = let bad : true ≡ false = sym some ∙ ap (λ o. is_some o) none in cc

    free_key : (o : Option ℕ) (number : ℕ) → slot keys number ≡ o → item_at old o ≡ None → o ≡ None
    free_key None number at free = refl
    free_key (Some key) number at free = absurd (lost key (are.leads number key at) free)

    pub key-free : (number : ℕ) → slot (map (item_at old) keys) number ≡ None → slot keys number ≡ None
    key-free number free = free_key (slot keys number) number refl (sym (slot-items old keys number) ∙ free)

    -- A key that leads to nothing before is that of no number.
    module _ (now : Slab A) (number key : ℕ) (item : A) (fresh : get old key ≡ None) (updates : Updates old now key (Some item)) where
      other_key : (k : ℕ) → is_some (get old k) ≡ true → k ≢ key
      other_key k some same = lost k some (ap (get old) same ∙ fresh)

      kept : (o : Option ℕ) (other : ℕ) → slot keys other ≡ o → item_at now o ≡ item_at old o
      kept None other at = refl
      kept (Some k) other at = updates.others k (other_key k (are.leads other k at))

      pub items-inserted : number < length keys → map (item_at now) (set keys number (Some key)) ≡ with_slot (map (item_at old) keys) number (Some item)
      items-inserted within = items_set old now keys number (Some key) (Some item) within updates.changed (λ other apart. kept (slot keys other) other refl)

      pub AreKeyed-inserted : number < length keys → slot keys number ≡ None → AreKeyed (set keys number (Some key)) now
      AreKeyed-inserted within unkeyed = record {
        leads = λ n k at. elim (cases_eq n number) [
          | inl here ↦
              let same : key ≡ k = same_Some key k (sym (ap (slot (set keys number (Some key))) here ∙ get_or-set_same keys number (Some key) None within) ∙ at) in
              ap (λ j. is_some (get now j)) (sym same) ∙ ap (λ o. is_some o) updates.changed
          | inr apart ↦
              let before : slot keys n ≡ Some k = sym (get_or-set_other keys number n (Some key) None apart) ∙ at in
              ap (λ o. is_some o) (updates.others k (other_key k (are.leads n k before))) ∙ are.leads n k before
        ];
        once = λ n o k at also. by n o k (cases_eq n number) (cases_eq o number) at also;
        used = λ k some. elim (cases_eq k key) [
          | inl here ↦ (number, get_or-set_same keys number (Some key) None within ∙ ap Some (sym here))
          | inr apart ↦
              let before = are.used k (sym (ap (λ o. is_some o) (updates.others k apart)) ∙ some) in
              (before.0, get_or-set_other keys number before.0 (Some key) None (λ same. absurd (let bad : None ≡ Some k = sym unkeyed ∙ ap (slot keys) (sym same) ∙ before.1 in cc)) ∙ before.1)
        ];
      }
        where
          here_key : (n k : ℕ) → n ≡ number → slot (set keys number (Some key)) n ≡ Some k → k ≡ key
          here_key n k here at = sym (same_Some key k (sym (ap (slot (set keys number (Some key))) here ∙ get_or-set_same keys number (Some key) None within) ∙ at))

          there_key : (n k : ℕ) → n ≢ number → slot (set keys number (Some key)) n ≡ Some k → slot keys n ≡ Some k
          there_key n k apart at = sym (get_or-set_other keys number n (Some key) None apart) ∙ at

          by : (n o k : ℕ) → (n ≡ number) ⊎ (n ≢ number) → (o ≡ number) ⊎ (o ≢ number)
              → slot (set keys number (Some key)) n ≡ Some k → slot (set keys number (Some key)) o ≡ Some k → n ≡ o
          by n o k (inl a) (inl b) at also = a ∙ sym b
          by n o k (inl a) (inr b) at also = absurd (other_key k (are.leads o k (there_key o k b also)) (here_key n k a at))
          by n o k (inr a) (inl b) at also = absurd (other_key k (are.leads n k (there_key n k a at)) (here_key o k b also))
          by n o k (inr a) (inr b) at also = are.once n o k (there_key n k a at) (there_key o k b also)

    module _ (number key : ℕ) (at : slot keys number ≡ Some key) where
      pub key-some : is_some (get old key) ≡ true
      key-some = are.leads number key at

      pub item-at : slot (map (item_at old) keys) number ≡ get old key
      item-at = slot-items old keys number ∙ ap (item_at old) at

      pub key-within : number < length keys
      key-within = slot_within keys number key at

      apart_key : (other k : ℕ) → other ≢ number → slot keys other ≡ Some k → k ≢ key
      apart_key other k apart also same = apart (are.once other number key (also ∙ ap Some same) at)

      -- the description changes
      module _ (item : A) where
        inside : (o : Option A) → get old key ≡ o → is_some o ≡ true → key < length old.slots
        inside None is some = absurd (cc)
        inside (Some x) is some =
            elim (cases_lt key (length old.slots)) [
              | inl within ↦ within
              | inr past ↦ absurd (let bad : None ≡ Some x = sym (get_or_past old.slots key None past) ∙ is in cc)
            ]

        written : get (with_value old key item) key ≡ Some item
        written = get_or-set_same old.slots key (Some item) None (inside (get old key) refl key-some)

        changed_else : (o : Option ℕ) (other : ℕ) → other ≢ number → slot keys other ≡ o → item_at (with_value old key item) o ≡ item_at old o
        changed_else None other apart also = refl
        changed_else (Some k) other apart also = get_or-set_other old.slots key k (Some item) None (apart_key other k apart also)

        -- the key stays
        same_keys : set keys number (Some key) ≡ keys
        same_keys = ap (set keys number) (sym at) ∙ set-get_or keys number None

        pub items-changed : map (item_at (with_value old key item)) keys ≡ with_slot (map (item_at old) keys) number (Some item)
        items-changed =
            ap (map (item_at (with_value old key item))) (sym same_keys)
            ∙ items_set old (with_value old key item) keys number (Some key) (Some item) key-within written (λ other apart. changed_else (slot keys other) other apart refl)

        pub AreKeyed-changed : AreKeyed keys (with_value old key item)
        AreKeyed-changed = record {
          leads = λ n k also. elim (cases_eq k key) [
            | inl here ↦ ap (λ j. is_some (get (with_value old key item) j)) here ∙ ap (λ o. is_some o) written
            | inr apart ↦ ap (λ o. is_some o) (get_or-set_other old.slots key k (Some item) None apart) ∙ are.leads n k also
          ];
          once = are.once;
          used = λ k some. elim (cases_eq k key) [
            | inl here ↦ (number, at ∙ ap Some (sym here))
            | inr apart ↦ are.used k (sym (ap (λ o. is_some o) (get_or-set_other old.slots key k (Some item) None apart)) ∙ some)
          ];
        }

      -- the description goes
      module _ (now : Slab A) (updates : Updates old now key None) where
        gone_else : (o : Option ℕ) (other : ℕ) → other ≢ number → slot keys other ≡ o → item_at now o ≡ item_at old o
        gone_else None other apart also = refl
        gone_else (Some k) other apart also = updates.others k (apart_key other k apart also)

        pub items-removed : map (item_at now) (set keys number None) ≡ with_slot (map (item_at old) keys) number None
        items-removed = items_set old now keys number None None key-within refl (λ other apart. gone_else (slot keys other) other apart refl)

        stays_at : (n k : ℕ) → slot (set keys number None) n ≡ Some k → (n ≢ number) × (slot keys n ≡ Some k)
        stays_at n k also =
            elim (cases_eq n number) [
              | inl here ↦ absurd (let bad : None ≡ Some k = sym (ap (slot (set keys number None)) here ∙ get_or-set_same keys number None None key-within) ∙ also in cc)
              | inr apart ↦ (apart, sym (get_or-set_other keys number n None None apart) ∙ also)
            ]

        pub AreKeyed-removed : AreKeyed (set keys number None) now
        AreKeyed-removed = record {
          leads = λ n k also. let s = stays_at n k also in ap (λ o. is_some o) (updates.others k (apart_key n k s.0 s.1)) ∙ are.leads n k s.1;
          once = λ n o k there also. are.once n o k (stays_at n k there).1 (stays_at o k also).1;
          used = λ k some. elim (cases_eq k key) [
            | inl here ↦ absurd (let bad : true ≡ false = sym some ∙ ap (λ j. is_some (get now j)) here ∙ ap (λ o. is_some o) updates.changed in cc)
            | inr apart ↦
                let before = are.used k (sym (ap (λ o. is_some o) (updates.others k apart)) ∙ some) in
                (before.0, get_or-set_other keys number before.0 None None (λ same. apart (same_Some k key (sym before.1 ∙ ap (slot keys) same ∙ at))) ∙ before.1)
          ];
        }

    -- nothing leads to a description from a number without a key
    pub items-none : (number : ℕ) → slot keys number ≡ None → map (item_at old) keys ≡ with_slot (map (item_at old) keys) number None
    items-none number none =
        sym (ap (set (map (item_at old) keys) number) (sym (slot-items old keys number ∙ ap (item_at old) none)) ∙ set-get_or (map (item_at old) keys) number None)

-- What is kept, after each change.

module _ {A : Type 0} where
  pub AreKept-none : (keys : List (Option ℕ)) (items : Slab A) → keys ≡ [] → items.slots ≡ [] → AreKept keys items
  AreKept-none keys items none empty =
      subst (λ l. AreKept l items) (sym none) (record {
        few = omega arith;
        keyed = AreKeyed-none items 1024 empty;
      })

  pub seen-none : (keys : List (Option ℕ)) (items : Slab A) → keys ≡ [] → map (item_at items) (all_keys keys) ≡ free_places 1024
  seen-none keys items none = ap (λ l. map (item_at items) (all_keys l)) none ∙ items-free items 1024

  pub AreKept-more : (old now : List (Option ℕ)) (items : Slab A) → all_keys now ≡ all_keys old → length now ≤ 1024 → AreKept old items → AreKept now items
  AreKept-more old now items same few kept = record {
    few = few;
    keyed = subst (λ l. AreKeyed l items) (sym same) kept.keyed;
  }

  module _ (old : Slab A) (keys : List (Option ℕ)) (kept : AreKept keys old) where
    kept_set : (now : Slab A) (number : ℕ) (key : Option ℕ) → number < length keys → AreKeyed (set (all_keys keys) number key) now → AreKept (set keys number key) now
    kept_set now number key within are = record {
      few = omega (arith, length-set keys number key, kept.few);
      keyed = subst (λ l. AreKeyed l now) (sym (all-set keys number key within)) are;
    }

    -- a key that led to nothing is that of a number without one
    module _ (seen : List (Option A)) (is : map (item_at old) (all_keys keys) ≡ seen) (number : ℕ) (within : number < length keys) (free : slot seen number ≡ None)
        (now : Slab A) (key : ℕ) (item : A) (fresh : get old key ≡ None) (updates : Updates old now key (Some item)) where
      inside_all : number < length (all_keys keys)
      inside_all = omega (arith, within, kept.few, length-all keys kept.few)

      pub AreKept-inserted : AreKept (set keys number (Some key)) now
      AreKept-inserted =
          kept_set now number (Some key) within
          (AreKeyed-inserted old (all_keys keys) kept.keyed now number key item fresh updates inside_all
          (key-free old (all_keys keys) kept.keyed number (ap (λ l. slot l number) is ∙ free)))

      pub seen-inserted : map (item_at now) (all_keys (set keys number (Some key))) ≡ with_slot seen number (Some item)
      seen-inserted =
          ap (map (item_at now)) (all-set keys number (Some key) within)
          ∙ items-inserted old (all_keys keys) kept.keyed now number key item fresh updates inside_all
          ∙ ap (λ l. with_slot l number (Some item)) is

    module _ (number key : ℕ) (at : slot keys number ≡ Some key) where
      at_all : slot (all_keys keys) number ≡ Some key
      at_all = slot-all keys number ∙ at

      pub AreKept-changed : (item : A) → AreKept keys (with_value old key item)
      AreKept-changed item = record {
        few = kept.few;
        keyed = AreKeyed-changed old (all_keys keys) kept.keyed number key at_all item;
      }

      pub seen-changed : (item : A) → map (item_at (with_value old key item)) (all_keys keys) ≡ with_slot (map (item_at old) (all_keys keys)) number (Some item)
      seen-changed item = items-changed old (all_keys keys) kept.keyed number key at_all item

      pub AreKept-removed : (now : Slab A) → Updates old now key None → AreKept (set keys number None) now
      AreKept-removed now updates =
          kept_set now number None (slot_within keys number key at) (AreKeyed-removed old (all_keys keys) kept.keyed number key at_all now updates)

      pub seen-removed : (now : Slab A) → Updates old now key None → map (item_at now) (all_keys (set keys number None)) ≡ with_slot (map (item_at old) (all_keys keys)) number None
      seen-removed now updates =
          ap (map (item_at now)) (all-set keys number None (slot_within keys number key at))
          ∙ items-removed old (all_keys keys) kept.keyed number key at_all now updates

    pub seen-no_key : (number : ℕ) → slot keys number ≡ None → slot (map (item_at old) (all_keys keys)) number ≡ None
    seen-no_key number none = slot-items old (all_keys keys) number ∙ ap (item_at old) (slot-all keys number ∙ none)

    pub seen-unkeyed : (number : ℕ) → slot keys number ≡ None → map (item_at old) (all_keys keys) ≡ with_slot (map (item_at old) (all_keys keys)) number None
    seen-unkeyed number none = items-none old (all_keys keys) kept.keyed number (slot-all keys number ∙ none)
