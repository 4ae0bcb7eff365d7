-- The entries of a directory: one that is found by its name, what is left without it, and one more at the end.
use Rattle.std.proofs.Common.{◌≡◌, ◌≢◌, ◌<◌, ◌+◌, ◌||◌, not, ℕ, Bool, true, false, cond, eqb, List, [], ◌∷◌, ◌++◌, map, length, filter, sum_by, count_by, All, get_or, Some, None, refl, sym, ap, subst, ◌∙◌, arith, nat_cmp, Less, Equal, Greater, bytes_eq}
use Rattle.std.proofs.lemmas.Bool.{eqb-false, lt-ltb}
use Rattle.std.proofs.lemmas.Option.{same_Some, none-some}
use Rattle.std.proofs.lemmas.Cmp.{nat_list_eq_equiv}
use Rattle.std.proofs.lemmas.List.Elements.{recursion_from_All, All-head, All-tail, All-filter, All-push}
use Rattle.std.proofs.lemmas.List.Sums.{sum_by-cons, sum_by-append, sum_by_push, get_or-le-sum_by}
use Rattle.std.proofs.lemmas.Map.Keys.{IsDistinct-push, IsDistinct-head, IsDistinct-tail}
use Rattle.std.specs.List.{IsDistinct, AllByRecursion, list_any}
use Rattle.std.specs.List.Sorted.{IsStrictlySortedBy}
use Rattle.kernel_core.specs.Nodes.{entry_named}
use Rattle.kernel_core.specs.ValidTree.{names_in, IsEntry, AreEntries}
use Rattle.kernel_core.specs.declared.tree.DirEntry.{DirEntry}

abbrev pub has_name : List ℕ → DirEntry → Bool
has_name name entry = bytes_eq entry.name name

-- the entries without those of a name
abbrev pub others : List ℕ → List DirEntry → List DirEntry
others name entries = filter (λ e. not (bytes_eq e.name name)) entries

-- Equal names

-- a name that differs from one differs from each equal name
apart_from : (x y name : List ℕ) → bytes_eq x name ≡ true → bytes_eq x y ≡ false → bytes_eq y name ≡ false
apart_from x y name same apart = nat_list_eq_equiv.symm y name ∙ sym (nat_list_eq_equiv.congr x name y same) ∙ apart

none_left : (x name : List ℕ) (entries : List DirEntry) → bytes_eq x name ≡ true → AllByRecursion (λ y. bytes_eq x y ≡ false) (map (λ e. e.name) entries) → others name entries ≡ entries
none_left x name [] same apart = refl
none_left x name (e ∷ es) same apart =
    ap (λ b. cond (not b) (e ∷ others name es) (others name es)) (apart_from x e.name name same apart.0) ∙ ap (λ s. e ∷ s) (none_left x name es same apart.1)

-- An entry among the others: what stands before and after it

pub record IsAmong (name : List ℕ) (entries : List DirEntry) (entry : DirEntry) : Type 0 where
  pub before : List DirEntry
  pub after : List DirEntry
  pub whole : entries ≡ before ++ entry ∷ after
  pub left : others name entries ≡ before ++ after
  pub named : bytes_eq entry.name name ≡ true

pub among : (name : List ℕ) (entries : List DirEntry) (entry : DirEntry) → IsDistinct bytes_eq (map (λ e. e.name) entries) → entry_named entries name ≡ Some entry
    → IsAmong name entries entry
among name [] entry distinct found = absurd (none-some entry found)
among name (e ∷ es) entry distinct found =
    go (among name es entry (IsDistinct-tail bytes_eq e.name (map (λ e. e.name) es) distinct)) (bytes_eq e.name name) refl found
  where
    rest : bytes_eq e.name name ≡ false → IsAmong name es entry → IsAmong name (e ∷ es) entry
    rest differs r = record {
      before = e ∷ r.before;
      after = r.after;
      whole = ap (λ s. e ∷ s) r.whole;
      left = ap (λ b. cond (not b) (e ∷ others name es) (others name es)) differs ∙ ap (λ s. e ∷ s) r.left;
      named = r.named;
    }

    go : (entry_named es name ≡ Some entry → IsAmong name es entry) → (b : Bool) → bytes_eq e.name name ≡ b → cond b (Some e) (entry_named es name) ≡ Some entry → IsAmong name (e ∷ es) entry
    go later true same is = record {
      before = [];
      after = es;
      whole = ap (λ x. x ∷ es) (same_Some e entry is);
      left = ap (λ b. cond (not b) (e ∷ others name es) (others name es)) same ∙ none_left e.name name es same (IsDistinct-head bytes_eq e.name (map (λ e. e.name) es) distinct);
      named = ap (λ x. bytes_eq x.name name) (sym (same_Some e entry is)) ∙ same;
    }
    go later false differs is = rest differs (later is)

module _ {name : List ℕ} {entries : List DirEntry} {entry : DirEntry} (a : IsAmong name entries entry) where
  -- a sum over all entries is that over the others and the entry
  pub sum-others : (f : DirEntry → ℕ) → sum_by f (others name entries) + f entry ≡ sum_by f entries
  sum-others f =
      let w = ap (sum_by f) a.whole ∙ sum_by-append f a.before (entry ∷ a.after) in
      let l = ap (sum_by f) a.left ∙ sum_by-append f a.before a.after in
      let c = sum_by-cons f entry a.after in
      omega (arith, w, l, c)

  pub All-among : (P : DirEntry → Type 0) → All P entries → P entry
  All-among P all = at a.before (subst (λ s. All P s) a.whole all)
    where
      at : (before : List DirEntry) → All P (before ++ entry ∷ a.after) → P entry
      at [] h = All-head P entry a.after h
      at (e ∷ es) h = at es (All-tail P e (es ++ entry ∷ a.after) h)

length-ones : (xs : List DirEntry) → sum_by (λ _. 1) xs ≡ length xs
length-ones [] = refl
length-ones (x ∷ xs) = sum_by-cons (λ _. 1) x xs ∙ ap (λ n. 1 + n) (length-ones xs) ∙ omega arith

pub length-others : (name : List ℕ) (entries : List DirEntry) (entry : DirEntry) → IsAmong name entries entry → length (others name entries) + 1 ≡ length entries
length-others name entries entry a =
    let s = sum-others a (λ _. 1) in
    let l = length-ones (others name entries) in
    let w = length-ones entries in
    omega (arith, s, l, w)

-- What stays true of the entries without one

all_map_filter : {K : Type 0} (P : K → Type 0) (key : DirEntry → K) (p : DirEntry → Bool) (es : List DirEntry) → AllByRecursion P (map key es) → AllByRecursion P (map key (filter p es))
all_map_filter P key p [] h = h
all_map_filter P key p (e ∷ es) h =
    elim (p e) as (λ b. AllByRecursion P (map key (cond b (e ∷ filter p es) (filter p es)))) [
      | true ↦ (h.0, all_map_filter P key p es h.1)
      | false ↦ all_map_filter P key p es h.1
    ]

distinct-filter : (p : DirEntry → Bool) (es : List DirEntry) → IsDistinct bytes_eq (map (λ e. e.name) es) → IsDistinct bytes_eq (map (λ e. e.name) (filter p es))
unfolding IsDistinct
distinct-filter p [] h = h
distinct-filter p (e ∷ es) h =
    elim (p e) as (λ b. IsDistinct bytes_eq (map (λ e. e.name) (cond b (e ∷ filter p es) (filter p es)))) [
      | true ↦ (all_map_filter (λ y. bytes_eq e.name y ≡ false) (λ e. e.name) p es h.0, distinct-filter p es h.1)
      | false ↦ distinct-filter p es h.1
    ]

rising-filter : (p : DirEntry → Bool) (es : List DirEntry) → IsStrictlySortedBy nat_cmp (map (λ e. e.cookie) es) → IsStrictlySortedBy nat_cmp (map (λ e. e.cookie) (filter p es))
unfolding IsStrictlySortedBy
rising-filter p [] h = h
rising-filter p (e ∷ es) h =
    elim (p e) as (λ b. IsStrictlySortedBy nat_cmp (map (λ e. e.cookie) (cond b (e ∷ filter p es) (filter p es)))) [
      | true ↦ (all_map_filter (λ y. nat_cmp e.cookie y ≡ Less) (λ e. e.cookie) p es h.0, rising-filter p es h.1)
      | false ↦ rising-filter p es h.1
    ]

pub AreEntries-others : (name : List ℕ) (es : List DirEntry) → AreEntries es → AreEntries (others name es)
AreEntries-others name es are = record {
  each = All-filter (λ e. not (bytes_eq e.name name)) IsEntry es are.each;
  rising = rising-filter (λ e. not (bytes_eq e.name name)) es are.rising;
  distinct = distinct-filter (λ e. not (bytes_eq e.name name)) es are.distinct;
}

-- One entry more

rising-push : (es : List DirEntry) (e : DirEntry) → IsStrictlySortedBy nat_cmp (map (λ e. e.cookie) es) → AllByRecursion (λ x. x.cookie < e.cookie) es
    → IsStrictlySortedBy nat_cmp (map (λ e. e.cookie) (es ++ e ∷ []))
unfolding IsStrictlySortedBy
rising-push [] e h below = (tt, tt)
rising-push (x ∷ xs) e h below = (above xs h.0, rising-push xs e h.1 below.1)
  where
    above : (ys : List DirEntry) → AllByRecursion (λ y. nat_cmp x.cookie y ≡ Less) (map (λ e. e.cookie) ys) → AllByRecursion (λ y. nat_cmp x.cookie y ≡ Less) (map (λ e. e.cookie) (ys ++ e ∷ []))
    above [] a = (ap (λ b. cond b Less (cond (eqb x.cookie e.cookie) Equal Greater)) (lt-ltb x.cookie e.cookie below.0), tt)
    above (y ∷ ys) a = (a.0, above ys a.1)

no_such : (name : List ℕ) (es : List DirEntry) → entry_named es name ≡ None → list_any (bytes_eq name) (map (λ e. e.name) es) ≡ false
no_such name [] none = refl
no_such name (e ∷ es) none = go (no_such name es) (bytes_eq e.name name) refl none
  where
    go : (entry_named es name ≡ None → list_any (bytes_eq name) (map (λ e. e.name) es) ≡ false) → (b : Bool) → bytes_eq e.name name ≡ b → cond b (Some e) (entry_named es name) ≡ None → list_any (bytes_eq name) (map (λ e. e.name) (e ∷ es)) ≡ false
    go later true same is = absurd (none-some e (sym is))
    go later false differs is = ap (λ b. b || list_any (bytes_eq name) (map (λ e. e.name) es)) (nat_list_eq_equiv.symm name e.name ∙ differs) ∙ later is

map-push : {K : Type 0} (key : DirEntry → K) (es : List DirEntry) (e : DirEntry) → map key (es ++ e ∷ []) ≡ map key es ++ key e ∷ []
map-push key [] e = refl
map-push key (x ∷ xs) e = ap (λ s. key x ∷ s) (map-push key xs e)

pub AreEntries-push : (es : List DirEntry) (e : DirEntry) → AreEntries es → IsEntry e → All (λ x. x.cookie < e.cookie) es → entry_named es e.name ≡ None → AreEntries (es ++ e ∷ [])
AreEntries-push es e are is below none = record {
  each = All-push IsEntry es e are.each is;
  rising = rising-push es e are.rising (recursion_from_All (λ x. x.cookie < e.cookie) es below);
  distinct = subst (λ s. IsDistinct bytes_eq s) (sym (map-push (λ e. e.name) es e)) (IsDistinct-push nat_list_eq_equiv (map (λ e. e.name) es) e.name are.distinct (no_such e.name es none));
}

-- Names that are found

-- a name that was not there is not there without another
pub none-others : (name other : List ℕ) (es : List DirEntry) → entry_named es name ≡ None → entry_named (others other es) name ≡ None
none-others name other [] none = none
none-others name other (e ∷ es) none = go (none-others name other es) (bytes_eq e.name name) refl none
  where
    put : entry_named es name ≡ None → bytes_eq e.name name ≡ false → (b : Bool) → entry_named (others other es) name ≡ None → entry_named (cond b (e ∷ others other es) (others other es)) name ≡ None
    put is differs true rest = ap (λ b. cond b (Some e) (entry_named (others other es) name)) differs ∙ rest
    put is differs false rest = rest

    go : (entry_named es name ≡ None → entry_named (others other es) name ≡ None) → (b : Bool) → bytes_eq e.name name ≡ b → cond b (Some e) (entry_named es name) ≡ None
        → entry_named (others other (e ∷ es)) name ≡ None
    go later true same is = absurd (none-some e (sym is))
    go later false differs is = put is differs (not (bytes_eq e.name other)) (later is)

-- the name of which the entries are taken is not there
pub none_of : (name : List ℕ) (es : List DirEntry) → entry_named (others name es) name ≡ None
none_of name [] = refl
none_of name (e ∷ es) = go (none_of name es) (bytes_eq e.name name) refl
  where
    go : entry_named (others name es) name ≡ None → (b : Bool) → bytes_eq e.name name ≡ b → entry_named (cond (not b) (e ∷ others name es) (others name es)) name ≡ None
    go rest true same = rest
    go rest false differs = ap (λ b. cond b (Some e) (entry_named (others name es) name)) differs ∙ rest

-- an entry of another name stays
pub some-others : (name other : List ℕ) (es : List DirEntry) (entry : DirEntry) → bytes_eq name other ≡ false → entry_named es name ≡ Some entry → entry_named (others other es) name ≡ Some entry
some-others name other [] entry apart found = found
some-others name other (e ∷ es) entry apart found = go (some-others name other es entry apart) (bytes_eq e.name name) refl found
  where
    stays : bytes_eq e.name name ≡ true → bytes_eq e.name other ≡ false
    stays same = nat_list_eq_equiv.congr e.name name other same ∙ apart

    skip : (b : Bool) → bytes_eq e.name name ≡ false → entry_named (others other es) name ≡ Some entry → entry_named (cond b (e ∷ others other es) (others other es)) name ≡ Some entry
    skip true differs rest = ap (λ b. cond b (Some e) (entry_named (others other es) name)) differs ∙ rest
    skip false differs rest = rest

    go : (entry_named es name ≡ Some entry → entry_named (others other es) name ≡ Some entry) → (b : Bool) → bytes_eq e.name name ≡ b → cond b (Some e) (entry_named es name) ≡ Some entry
        → entry_named (others other (e ∷ es)) name ≡ Some entry
    go later true same is =
        ap (λ b. entry_named (cond (not b) (e ∷ others other es) (others other es)) name) (stays same) ∙ ap (λ b. cond b (Some e) (entry_named (others other es) name)) same ∙ is
    go later false differs is = skip (not (bytes_eq e.name other)) differs (later is)

-- two names that find two entries of different nodes differ
pub names_apart : (one two : List ℕ) (es : List DirEntry) (e f : DirEntry) → entry_named es one ≡ Some e → entry_named es two ≡ Some f → (e.node ≡ f.node → ⊥) → bytes_eq one two ≡ false
names_apart one two es e f at_one at_two apart = go (bytes_eq one two) refl
  where
    same_found : (es : List DirEntry) → bytes_eq one two ≡ true → entry_named es one ≡ entry_named es two
    same_found [] same = refl
    same_found (x ∷ xs) same = λ i. cond ((nat_list_eq_equiv.symm x.name one ∙ nat_list_eq_equiv.congr one two x.name same ∙ nat_list_eq_equiv.symm two x.name) i) (Some x) (same_found xs same i)

    go : (b : Bool) → bytes_eq one two ≡ b → b ≡ false
    go true same = absurd (apart (ap (λ x. x.node) (same_Some e f (sym at_one ∙ same_found es same ∙ at_two))))
    go false differs = refl

-- How often a node is named

abbrev pub one_if : Bool → ℕ
one_if b = cond b 1 0

pub All-unnamed : (es : List DirEntry) (node : ℕ) → names_in es node ≡ 0 → All (λ e. e.node ≢ node) es
All-unnamed es node none k d lt =
    let le = get_or-le-sum_by (λ e. cond (eqb e.node node) 1 0) es k d lt in
    let z : one_if (eqb (get_or es k d).node node) ≡ 0 = omega (arith, le, none) in
    eqb-false (get_or es k d).node node (go (eqb (get_or es k d).node node) z)
  where
    go : (b : Bool) → one_if b ≡ 0 → b ≡ false
    go true e = absurd (omega arith)
    go false e = refl

pub names_in-push : (es : List DirEntry) (e : DirEntry) (node : ℕ) → names_in (es ++ e ∷ []) node ≡ names_in es node + one_if (eqb e.node node)
names_in-push es e node = sum_by_push (λ e. cond (eqb e.node node) 1 0) es e

-- two tests that agree at each entry count as many
pub count_same : (p q : DirEntry → Bool) (es : List DirEntry) → All (λ e. p e ≡ q e) es → count_by p es ≡ count_by q es
count_same p q [] h = refl
count_same p q (e ∷ es) h =
    sum_by-cons (λ x. cond (p x) 1 0) e es
    ∙ (λ i. cond (All-head (λ e. p e ≡ q e) e es h i) 1 0 + count_same p q es (All-tail (λ e. p e ≡ q e) e es h) i)
    ∙ sym (sum_by-cons (λ x. cond (q x) 1 0) e es)
