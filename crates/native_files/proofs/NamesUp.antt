-- The names from the root to a directory, by going up from it.
use Rattle.std.proofs.Common.{◌≡◌, ◌≢◌, ℕ, zero, suc, ◌<◌, ◌≤◌, Bool, true, false, cond, ◌==◌, List, [], ◌∷◌, ◌++◌, drop, get_or, length, Option, Some, None, refl, sym, ap, subst, ◌∙◌, arith, IsSome, append_assoc, append-nil}
use Rattle.std.specs.Prelude.{find, map, nat_lt, option_map, reverse}
use Rattle.std.specs.FinMap.{len}
use Rattle.std.specs.Cmp.{ranked}
use Rattle.std.specs.List.{AllByRecursion}
use Rattle.std.specs.List.Sorted.{IsStrictlySortedBy}
use Rattle.std.specs.Ordering.{nat_cmp}
use Rattle.std.specs.declared.cmp.Ordering.TheVariants.{Less}
use Rattle.std.proofs.lemmas.Bool.{ltb-true, ltb-false}
use Rattle.std.proofs.lemmas.Bool.Decides.{nat_tests}
use Rattle.std.proofs.Math.Seq.{drop-cons}
use Rattle.std.proofs.lemmas.Grind.{reverse_onto}
use Rattle.std.proofs.lemmas.List.{drop_all, length-reverse, reverse-append, reverse-reverse}
use Rattle.std.proofs.lemmas.Option.{same_Some}
use Rattle.kernel_core.specs.FileSystem.{IsBelowRootBy, IsFileSystem, parent_at, parent_of}
use Rattle.kernel_core.specs.NodeCalls.{entry_above}
use Rattle.kernel_core.specs.Nodes.{Nodes, Listing, listing_at}
use Rattle.kernel_core.specs.ValidTree.{IsEntry, node_limit, root}
use Rattle.kernel_core.specs.declared.tree.DirEntry.{DirEntry}
use Rattle.kernel_model.specs.NodeRows.{name_below, names_by_parent, names_to, or_slash}
use Rattle.file_system_laws.proofs.Reach.{below_none, below_parent, short_chain}

-- The first entry that names a node

-- no entry up to a cookie names the node
abbrev pub NoneUpTo : ℕ → ℕ → List DirEntry → Type 0
NoneUpTo number cookie [] = Unit {0}
NoneUpTo number cookie (e ∷ es) = (e.cookie ≤ cookie → e.node ≢ number) × NoneUpTo number cookie es

abbrev pub named_in : ℕ → List DirEntry → Option DirEntry
named_in number es = find (λ e. e.node == number) es

abbrev cookies : List DirEntry → List ℕ
cookies es = map (λ e. e.cookie) es

module _ (number cookie : ℕ) where
  pub none-first : (es : List DirEntry) → AllByRecursion IsEntry es → cookie < 3 → NoneUpTo number cookie es
  none-first [] each low = tt
  none-first (e ∷ es) each low = ((λ past same. let high = each.0.low in absurd (omega (arith, high, past, low))), none-first es each.1 low)

  is_not : (e : DirEntry) (es : List DirEntry) → e.node ≢ number → named_in number (e ∷ es) ≡ named_in number es
  is_not e es other = let no : (e.node == number) ≡ false = grind (arith, nat_tests) in ap (λ b. cond b (Some e) (named_in number es)) no

  is_it : (e : DirEntry) (es : List DirEntry) → e.node ≡ number → named_in number (e ∷ es) ≡ Some e
  is_it e es same = let yes : (e.node == number) ≡ true = grind (arith, nat_tests) in ap (λ b. cond b (Some e) (named_in number es)) yes

  pub named-found : (es : List DirEntry) (e : DirEntry) → NoneUpTo number cookie es → entry_above es cookie ≡ Some e → e.node ≡ number → named_in number es ≡ Some e
  named-found [] e none found same = absurd (let bad : None ≡ Some e = found in cc)
  named-found (f ∷ es) e none found same = by (nat_lt cookie f.cookie) refl (named-found es e none.1)
    where
      by : (b : Bool) → nat_lt cookie f.cookie ≡ b → (entry_above es cookie ≡ Some e → e.node ≡ number → named_in number es ≡ Some e) → named_in number (f ∷ es) ≡ Some e
      by true is later =
          let here : f ≡ e = same_Some f e (sym (ap (λ b. cond b (Some f) (entry_above es cookie)) is) ∙ found) in
          is_it f es (ap (λ g. g.node) here ∙ same) ∙ ap Some here
      by false is later =
          is_not f es (none.0 (ltb-false cookie f.cookie is)) ∙ later (sym (ap (λ b. cond b (Some f) (entry_above es cookie)) is) ∙ found) same

  pub named-none : (es : List DirEntry) → NoneUpTo number cookie es → entry_above es cookie ≡ None → named_in number es ≡ None
  named-none [] none found = refl
  named-none (f ∷ es) none found = by (nat_lt cookie f.cookie) refl (named-none es none.1)
    where
      by : (b : Bool) → nat_lt cookie f.cookie ≡ b → (entry_above es cookie ≡ None → named_in number es ≡ None) → named_in number (f ∷ es) ≡ None
      by true is later = absurd (let bad : Some f ≡ None = sym (ap (λ b. cond b (Some f) (entry_above es cookie)) is) ∙ found in cc)
      by false is later =
          is_not f es (none.0 (ltb-false cookie f.cookie is)) ∙ later (sym (ap (λ b. cond b (Some f) (entry_above es cookie)) is) ∙ found)

  pub above-past : (es : List DirEntry) (e : DirEntry) → entry_above es cookie ≡ Some e → cookie < e.cookie
  above-past [] e found = absurd (let bad : None ≡ Some e = found in cc)
  above-past (f ∷ es) e found = by (nat_lt cookie f.cookie) refl (above-past es e)
    where
      by : (b : Bool) → nat_lt cookie f.cookie ≡ b → (entry_above es cookie ≡ Some e → cookie < e.cookie) → cookie < e.cookie
      by true is later =
          let here : f ≡ e = same_Some f e (sym (ap (λ b. cond b (Some f) (entry_above es cookie)) is) ∙ found) in
          subst (λ g. cookie < g.cookie) here (ltb-true cookie f.cookie is)
      by false is later = later (sym (ap (λ b. cond b (Some f) (entry_above es cookie)) is) ∙ found)

  pub above-high : (es : List DirEntry) (e : DirEntry) → AllByRecursion IsEntry es → entry_above es cookie ≡ Some e → e.cookie ≤ 2147483647
  above-high [] e each found = absurd (let bad : None ≡ Some e = found in cc)
  above-high (f ∷ es) e each found = by (nat_lt cookie f.cookie) refl (above-high es e each.1)
    where
      by : (b : Bool) → nat_lt cookie f.cookie ≡ b → (entry_above es cookie ≡ Some e → e.cookie ≤ 2147483647) → e.cookie ≤ 2147483647
      by true is later =
          let here : f ≡ e = same_Some f e (sym (ap (λ b. cond b (Some f) (entry_above es cookie)) is) ∙ found) in
          subst (λ g. g.cookie ≤ 2147483647) here each.0.high
      by false is later = later (sym (ap (λ b. cond b (Some f) (entry_above es cookie)) is) ∙ found)

  -- where all cookies are past one, none up to it names the node
  none_past : (least : ℕ) (es : List DirEntry) → AllByRecursion (λ y. nat_cmp least y ≡ Less) (cookies es) → NoneUpTo number least es
  none_past least [] all = tt
  none_past least (e ∷ es) all = ((λ low same. let high = ranked least e.cookie Less (sym all.0) in absurd (omega (arith, high, low))), none_past least es all.1)

  pub none-next : (es : List DirEntry) (e : DirEntry) → IsStrictlySortedBy nat_cmp (cookies es) → NoneUpTo number cookie es → entry_above es cookie ≡ Some e → e.node ≢ number
      → NoneUpTo number e.cookie es
  unfolding IsStrictlySortedBy
  none-next [] e rising none found other = tt
  none-next (f ∷ es) e rising none found other = by (nat_lt cookie f.cookie) refl (none-next es e rising.1 none.1)
    where
      by : (b : Bool) → nat_lt cookie f.cookie ≡ b → (entry_above es cookie ≡ Some e → e.node ≢ number → NoneUpTo number e.cookie es) → NoneUpTo number e.cookie (f ∷ es)
      by true is later =
          let here : f ≡ e = same_Some f e (sym (ap (λ b. cond b (Some f) (entry_above es cookie)) is) ∙ found) in
          subst (λ g. (f.cookie ≤ g.cookie → f.node ≢ number) × NoneUpTo number g.cookie es) here
          ((λ low same. other (sym (ap (λ g. g.node) here) ∙ same)), none_past f.cookie es rising.0)
      by false is later =
          let low = ltb-false cookie f.cookie is in
          ((λ past. none.0 low), later (sym (ap (λ b. cond b (Some f) (entry_above es cookie)) is) ∙ found) other)

-- Going up

pub names-root : (nodes : Nodes) (number fuel : ℕ) → number ≡ root → names_to fuel nodes number ≡ Some []
unfolding names_to
names-root nodes number zero is = let yes : (number == root) ≡ true = grind (arith, nat_tests) in ap (λ b. cond b (Some []) None) yes
names-root nodes number (suc fuel) is =
    let yes : (number == root) ≡ true = grind (arith, nat_tests) in ap (λ b. cond b (Some []) (names_by_parent nodes number (names_to fuel nodes) (parent_at nodes number))) yes

-- any number of steps will do that reaches the root
names_by_chain : (nodes : Nodes) (steps fuel more number : ℕ) → steps ≤ fuel → steps ≤ more → IsBelowRootBy steps nodes number → names_to fuel nodes number ≡ names_to more nodes number
unfolding names_to
names_by_chain nodes zero fuel more number low high chain =
    names-root nodes number fuel (below_none nodes number chain) ∙ sym (names-root nodes number more (below_none nodes number chain))
names_by_chain nodes (suc steps) zero more number low high chain = absurd (omega (arith, low))
names_by_chain nodes (suc steps) (suc fuel) zero number low high chain = absurd (omega (arith, high))
names_by_chain nodes (suc steps) (suc fuel) (suc more) number low high chain =
    let step = below_parent nodes steps number chain in
    let rest = names_by_chain nodes steps fuel more step.0 (omega (arith, low)) (omega (arith, high)) step.2 in
    let up = step.1 in
    ap (λ r. cond (number == root) (Some []) r)
    (ap (names_by_parent nodes number (names_to fuel nodes)) up ∙ ap (λ o. option_map (λ path. path ++ name_below nodes step.0 number) o) rest
    ∙ sym (ap (names_by_parent nodes number (names_to more nodes)) up))

names_no_parent : (nodes : Nodes) (number fuel : ℕ) → parent_at nodes number ≡ None → names_to fuel nodes number ≡ cond (number == root) (Some []) None
unfolding names_to
names_no_parent nodes number zero up = refl
names_no_parent nodes number (suc fuel) up = ap (λ o. cond (number == root) (Some []) (names_by_parent nodes number (names_to fuel nodes) o)) up

-- as many steps as there may be nodes are as good as as many as there are
pub names-enough : (nodes : Nodes) → IsFileSystem nodes → (number : ℕ) → names_to node_limit nodes number ≡ names_to (len nodes) nodes number
names-enough nodes valid number = by (parent_at nodes number) refl
  where
    by : (o : Option ℕ) → parent_at nodes number ≡ o → names_to node_limit nodes number ≡ names_to (len nodes) nodes number
    by None up = names_no_parent nodes number node_limit up ∙ sym (names_no_parent nodes number (len nodes) up)
    by (Some parent) up =
        let below = valid.below number parent up in
        let short = short_chain below.0 below.0 nodes number (omega arith) below.1 in
        let few = valid.few_nodes in
        let least = short.1 in
        let high : short.0 ≤ node_limit = omega (arith, least, few) in
        names_by_chain nodes short.0 node_limit (len nodes) number high least short.2

-- the parent of a directory is one
pub parent-directory : (nodes : Nodes) → IsFileSystem nodes → (number parent : ℕ) → parent_at nodes number ≡ Some parent → IsSome (listing_at nodes parent)
parent-directory nodes valid number parent up = let below = valid.below number parent up in by below.0 below.1
  where
    listed_in : (o : Option Listing) (above : ℕ) → parent_of o ≡ Some above → IsSome o
    listed_in None above is = absurd (let bad : None ≡ Some above = is in cc)
    listed_in (Some listing) above is = refl

    listed : (n above : ℕ) → parent_at nodes n ≡ Some above → IsSome (listing_at nodes n)
    listed n above is = listed_in (listing_at nodes n) above is

    on_chain : (steps n : ℕ) → IsBelowRootBy steps nodes n → IsSome (listing_at nodes n)
    on_chain zero n chain = subst (λ m. IsSome (listing_at nodes m)) (sym (below_none nodes n chain)) (listed root root valid.top)
    on_chain (suc steps) n chain = let step = below_parent nodes steps n chain in listed n step.0 step.1

    by : (steps : ℕ) → IsBelowRootBy steps nodes number → IsSome (listing_at nodes parent)
    by zero chain =
        let at : number ≡ root = below_none nodes number chain in
        let same : root ≡ parent = same_Some root parent (sym valid.top ∙ sym (ap (parent_at nodes) at) ∙ up) in
        subst (λ m. IsSome (listing_at nodes m)) same (listed root root valid.top)
    by (suc steps) chain =
        let step = below_parent nodes steps number chain in
        let same : step.0 ≡ parent = same_Some step.0 parent (sym step.1 ∙ up) in
        subst (λ m. IsSome (listing_at nodes m)) same (on_chain steps step.0 step.2)

-- one directory up

pub names-lost : (nodes : Nodes) (number fuel : ℕ) → number ≢ root → parent_at nodes number ≡ None → names_to fuel nodes number ≡ None
unfolding names_to
names-lost nodes number zero other up = let no : (number == root) ≡ false = grind (arith, nat_tests) in ap (λ b. cond b (Some []) None) no
names-lost nodes number (suc fuel) other up =
    let no : (number == root) ≡ false = grind (arith, nat_tests) in
    ap (λ b. cond b (Some []) (names_by_parent nodes number (names_to fuel nodes) (parent_at nodes number))) no ∙ ap (names_by_parent nodes number (names_to fuel nodes)) up

pub names-end : (nodes : Nodes) (number : ℕ) → number ≢ root → names_to 0 nodes number ≡ None
unfolding names_to
names-end nodes number other = let no : (number == root) ≡ false = grind (arith, nat_tests) in ap (λ b. cond b (Some []) None) no

-- the names that are known, backwards, behind those that are not
abbrev pub names_before : List ℕ → Option (List ℕ) → Option (List ℕ)
names_before back names = option_map (λ path. path ++ reverse back) names

turned_around : (back name : List ℕ) → reverse (back ++ reverse name) ≡ name ++ reverse back
turned_around back name = reverse-append back (reverse name) ∙ ap (λ n. n ++ reverse back) (reverse-reverse name)

pub names-up : (nodes : Nodes) (number parent fuel : ℕ) (back : List ℕ) → number ≢ root → parent_at nodes number ≡ Some parent
    → names_before back (names_to (suc fuel) nodes number) ≡ names_before (back ++ reverse (name_below nodes parent number)) (names_to fuel nodes parent)
unfolding names_to
names-up nodes number parent fuel back other up =
    let no : (number == root) ≡ false = grind (arith, nat_tests) in
    ap (λ b. names_before back (cond b (Some []) (names_by_parent nodes number (names_to fuel nodes) (parent_at nodes number)))) no
    ∙ ap (λ o. names_before back (names_by_parent nodes number (names_to fuel nodes) o)) up
    ∙ by (names_to fuel nodes parent)
  where
    by : (o : Option (List ℕ)) → names_before back (option_map (λ path. path ++ name_below nodes parent number) o) ≡ names_before (back ++ reverse (name_below nodes parent number)) o
    by None = refl
    by (Some path) = ap Some (append_assoc path (name_below nodes parent number) (reverse back) ∙ ap (λ r. path ++ r) (sym (turned_around back (name_below nodes parent number))))

-- the path of a directory other than the root is its names
pub or_slash-some : (back : List ℕ) → (length back ≡ 0 → ⊥) → or_slash (reverse back) ≡ reverse back
or_slash-some back some = by (reverse back) (length-reverse back)
  where
    by : (path : List ℕ) → length path ≡ length back → or_slash path ≡ path
    by [] same = absurd (some (sym same))
    by (byte ∷ bytes) same = refl

pub or_slash-none : (back : List ℕ) → length back ≡ 0 → or_slash (reverse back) ≡ 47 ∷ []
or_slash-none back none = by (reverse back) (length-reverse back)
  where
    by : (path : List ℕ) → length path ≡ length back → or_slash path ≡ 47 ∷ []
    by [] same = refl
    by (byte ∷ bytes) same = absurd (let bad : suc (length bytes) ≡ 0 = same ∙ none in omega (arith, bad))

pub names-begin : (back : List ℕ) → back ≡ [] → (names : Option (List ℕ)) → names ≡ names_before back names
names-begin back none names = by names ∙ ap (λ b. names_before b names) (sym none)
  where
    by : (o : Option (List ℕ)) → o ≡ names_before [] o
    by None = refl
    by (Some path) = ap Some (sym (append-nil path))

-- Bytes from the last to the first

pub back-none : (onto bytes : List ℕ) → onto ≡ onto ++ reverse (drop (length bytes) bytes)
back-none onto bytes = sym (ap (λ r. onto ++ reverse r) (drop_all (length bytes) bytes (omega arith)) ∙ append-nil onto)

pub back-step : (onto bytes : List ℕ) (left : ℕ) → left < length bytes → (onto ++ reverse (drop (suc left) bytes)) ++ get_or bytes left 0 ∷ [] ≡ onto ++ reverse (drop left bytes)
back-step onto bytes left within =
    append_assoc onto (reverse (drop (suc left) bytes)) (get_or bytes left 0 ∷ [])
    ∙ ap (λ r. onto ++ r) (sym (ap reverse (drop-cons bytes left 0 within) ∙ reverse_onto (drop (suc left) bytes) (get_or bytes left 0) []))

-- The path, from its names backwards

pub path-none : {A : Type 0} (found : Option A) (turned : A → List ℕ) (names : Option (List ℕ)) → found ≡ None → option_map turned found ≡ names → None ≡ option_map or_slash names
path-none found turned names is told = ap (λ o. option_map or_slash (option_map turned o)) (sym is) ∙ ap (λ o. option_map or_slash o) told

pub path-some : {A : Type 0} (found : Option A) (turned : A → List ℕ) (names : Option (List ℕ)) (back : A) (path : List ℕ) → found ≡ Some back → option_map turned found ≡ names
    → path ≡ or_slash (turned back) → Some path ≡ option_map or_slash names
path-some found turned names back path is told same =
    ap Some same ∙ ap (λ o. option_map or_slash (option_map turned o)) (sym is) ∙ ap (λ o. option_map or_slash o) told
