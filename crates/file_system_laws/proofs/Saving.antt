-- The file tree that the nodes of a file system stand for: it is valid, and has the nodes that are reached by names from the root.
use Rattle.std.proofs.Common.{◌≡◌, ◌≢◌, ◌≤◌, ◌<◌, ◌^◌, ◌⊎◌, ◌↔◌, ◌&&◌, zero, suc, ℕ, Bool, true, false, cond, T, eqb, nat_lt, ℤ, pos, negsuc, List, [], ◌∷◌, length, map, filter, sum_by, All, Contains, get_or, Option, Some, None, is_some, refl, sym, ap, subst, ◌∙◌, arith, inl, inr, nat_cmp, Ordering, Less, Equal, Greater, w64, is_lt}
use Rattle.std.proofs.lemmas.Bool.{cases_eq, eq-eqb, ne_eqb, eqb-true, ltb-true, ltb-false, lt-ltb, true≢false}
use Rattle.std.proofs.lemmas.Option.{same_Some, none-some}
use Rattle.std.proofs.lemmas.Nat.{div_below}
use Rattle.std.proofs.lemmas.Int.{ints}
use Rattle.std.proofs.lemmas.List.{length-map}
use Rattle.std.proofs.lemmas.List.Elements.{All-from_recursion, All-head, All-tail}
use Rattle.std.proofs.lemmas.List.Sums.{sum_by-cons, length-filter, count_by-le-length, get_or-le-sum_by}
use Rattle.std.proofs.lemmas.Map.Keys.{sorted_head}
use Rattle.std.specs.Prelude.{FitsSigned}
use Rattle.std.specs.List.{AllByRecursion}
use Rattle.std.specs.List.Sorted.{IsStrictlySortedBy}
use Rattle.std.specs.Ordering.{eq_by_cmp}
use Rattle.std.specs.Cmp.{ranked}
use Rattle.std.specs.FinMap.{FinMap, find, is_sorted, entries, entries_sorted, get, get-entries, len-entries}
use Rattle.std.specs.FinMap.Entries.{below_all}
use Rattle.kernel_core.specs.FileContent.{FileContent, IsContent, IsBlock}
use Rattle.kernel_core.specs.Nodes.{Nodes, Inode, NodeContent, File, Directory, Link, Listing, listing_in, in_inode, entries_in}
use Rattle.kernel_core.specs.Totals.{total, content_entries, content_blocks}
use Rattle.kernel_core.specs.ValidTree.{IsValidTree, IsNode, IsKind, AreBlocks, IsNamedRightly, IsReached, IsReachedIn, BeginsWithRoot, numbers, names_in, times_named, entries_of, blocks_of, is_dir, root}
use Rattle.kernel_core.specs.LoadedTree.{saved, saved_node, kind_of, whole_seconds}
use Rattle.kernel_core.specs.FileSystem.{name_count, IsTime, parent_of, parent_at, IsBelowRoot, IsBelowRootBy, IsFileSystem}
use Rattle.kernel_core.specs.declared.tree.Node.{Node}
use Rattle.kernel_core.specs.declared.tree.Kind.{Kind}
use Rattle.kernel_core.specs.declared.tree.Block.{Block}
use Rattle.kernel_core.specs.declared.tree.DirEntry.{DirEntry}
use Rattle.file_system_laws.proofs.Lookups.{eqb_cmp}
use Rattle.file_system_laws.proofs.Totals.{total-some, total-at_least}
use Rattle.file_system_laws.proofs.Entries.{one_if}
use Rattle.file_system_laws.proofs.Reach.{below_parent, below_none}
use Rattle.file_system_laws.proofs.Tallies.{names_at, own, IsTree, IsContentIn, HasParentIn, opened, directory_found, listing_found, is_listed, parent_says}

-- Members of a list

abbrev In : {X : Type 0} → X → List X → Type 0
In x [] = ⊥
In x (y ∷ ys) = (y ≡ x) ⊎ In x ys

module _ {X : Type 0} where
  in_filter : (p : X → Bool) (x : X) (xs : List X) → p x ≡ true → In x xs → In x (filter p xs)
  in_filter p x [] passes is = elim is [ ]
  in_filter p x (y ∷ ys) passes (inl here) = subst (λ b. In x (cond b (y ∷ filter p ys) (filter p ys))) (sym (ap p here ∙ passes)) (inl here)
  in_filter p x (y ∷ ys) passes (inr later) =
      elim (p y) as (λ b. In x (cond b (y ∷ filter p ys) (filter p ys))) [ true ↦ inr (in_filter p x ys passes later) | false ↦ in_filter p x ys passes later ]

  in_filtered : (p : X → Bool) (x : X) (xs : List X) → In x (filter p xs) → In x xs × (p x ≡ true)
  in_filtered p x [] is = elim is [ ]
  in_filtered p x (y ∷ ys) is = go (in_filtered p x ys) (p y) refl is
    where
      go : (In x (filter p ys) → In x ys × (p x ≡ true)) → (b : Bool) → p y ≡ b → In x (cond b (y ∷ filter p ys) (filter p ys)) → In x (y ∷ ys) × (p x ≡ true)
      go rest true passes (inl here) = (inl here, ap p (sym here) ∙ passes)
      go rest true passes (inr later) = (let r = rest later in (inr r.0, r.1))
      go rest false fails later = (let r = rest later in (inr r.0, r.1))

  contains_in : (x : X) (xs : List X) → In x xs → Contains xs x
  contains_in x [] is = elim is [ ]
  contains_in x (y ∷ ys) (inl here) = (zero, omega arith, here)
  contains_in x (y ∷ ys) (inr later) = (let r = contains_in x ys later in (suc r.0, (let lt = r.1 in omega (arith, lt)), r.2))

  in_contains : (x : X) (xs : List X) → Contains xs x → In x xs
  in_contains x xs c = go xs c.0 c.1 c.2
    where
      go : (xs : List X) (k : ℕ) → k < length xs → get_or xs k x ≡ x → In x xs
      go [] k lt is = absurd (omega arith)
      go (y ∷ ys) zero lt is = inl is
      go (y ∷ ys) (suc k) lt is = inr (go ys k (omega arith) is)

  all_in : (P : X → Type 0) (xs : List X) → ((x : X) → In x xs → P x) → AllByRecursion P xs
  all_in P [] h = tt
  all_in P (x ∷ xs) h = (h x (inl refl), all_in P xs (λ y is. h y (inr is)))

in_map : {X Y : Type 0} (f : X → Y) (x : X) (xs : List X) → In x xs → In (f x) (map f xs)
in_map f x [] is = elim is [ ]
in_map f x (y ∷ ys) (inl here) = inl (ap f here)
in_map f x (y ∷ ys) (inr later) = inr (in_map f x ys later)

in_mapped : {X Y : Type 0} (f : X → Y) (y : Y) (xs : List X) → In y (map f xs) → (x : X) × In x xs × (f x ≡ y)
in_mapped f y [] is = elim is [ ]
in_mapped f y (x ∷ xs) (inl here) = (x, inl refl, here)
in_mapped f y (x ∷ xs) (inr later) = (let r = in_mapped f y xs later in (r.0, inr r.1, r.2))

-- The entries of a map

first_part : (a b : Bool) → T (a && b) → T a
first_part true b p = tt
first_part false b p = absurd p

second_part : (a b : Bool) → T (a && b) → T b
second_part true b p = p
second_part false b p = absurd p

less_is : (o : Ordering) → T (is_lt o) → o ≡ Less
less_is Less p = refl
less_is Equal p = absurd p
less_is Greater p = absurd p

less_apart : (a b : ℕ) → nat_cmp a b ≡ Less → eqb b a ≡ false
less_apart a b less = ne_eqb b a (λ same. (let lt : a < b = ranked_less a b less in absurd (omega arith)))
  where
    ranked_less : (a b : ℕ) → nat_cmp a b ≡ Less → a < b
    ranked_less a b e = ranked a b Less (sym e)

module _ {X : Type 0} where
  abbrev key : ℕ × X → ℕ
  key e = e.0

  all_above : (x : ℕ) (es : List (ℕ × X)) → T (below_all nat_cmp x es) → AllByRecursion (λ y. nat_cmp x y ≡ Less) (map key es)
  all_above x [] h = tt
  all_above x (e ∷ es) h = (less_is (nat_cmp x e.0) (first_part _ _ h), all_above x es (second_part _ _ h))

  sorted_keys : (es : List (ℕ × X)) → T (is_sorted nat_cmp es) → IsStrictlySortedBy nat_cmp (map key es)
  unfolding IsStrictlySortedBy
  sorted_keys [] h = tt
  sorted_keys (e ∷ es) h = (all_above e.0 es (first_part _ _ h), sorted_keys es (second_part _ _ h))

  above_filter : (x : ℕ) (p : ℕ × X → Bool) (es : List (ℕ × X)) → AllByRecursion (λ y. nat_cmp x y ≡ Less) (map key es) → AllByRecursion (λ y. nat_cmp x y ≡ Less) (map key (filter p es))
  above_filter x p [] h = h
  above_filter x p (e ∷ es) h =
      elim (p e) as (λ b. AllByRecursion (λ y. nat_cmp x y ≡ Less) (map key (cond b (e ∷ filter p es) (filter p es)))) [
        | true ↦ (h.0, above_filter x p es h.1)
        | false ↦ above_filter x p es h.1
      ]

  sorted_filter : (p : ℕ × X → Bool) (es : List (ℕ × X)) → IsStrictlySortedBy nat_cmp (map key es) → IsStrictlySortedBy nat_cmp (map key (filter p es))
  unfolding IsStrictlySortedBy
  sorted_filter p [] h = h
  sorted_filter p (e ∷ es) h =
      elim (p e) as (λ b. IsStrictlySortedBy nat_cmp (map key (cond b (e ∷ filter p es) (filter p es)))) [
        | true ↦ (above_filter e.0 p es h.0, sorted_filter p es h.1)
        | false ↦ sorted_filter p es h.1
      ]

  in_found : (q : ℕ) (v : X) (es : List (ℕ × X)) → find nat_cmp q es ≡ Some v → In (q, v) es
  in_found q v [] is = absurd (none-some v is)
  in_found q v (e ∷ es) is = go (in_found q v es) (eq_by_cmp nat_cmp q e.0) refl is
    where
      go : (find nat_cmp q es ≡ Some v → In (q, v) es) → (b : Bool) → eq_by_cmp nat_cmp q e.0 ≡ b → cond b (Some e.1) (find nat_cmp q es) ≡ Some v → In (q, v) (e ∷ es)
      go rest true same f =
          let k : q ≡ e.0 = eqb-true q e.0 (sym (eqb_cmp q e.0) ∙ same) in
          let x : e.1 ≡ v = same_Some e.1 v f in
          inl (λ j. (sym k j, x j))
      go rest false apart f = inr (rest f)

  found_above : (x : ℕ) (e : ℕ × X) (es : List (ℕ × X)) → AllByRecursion (λ y. nat_cmp x y ≡ Less) (map key es) → In e es → nat_cmp x e.0 ≡ Less
  found_above x e [] h is = elim is [ ]
  found_above x e (f ∷ es) h (inl here) = ap (λ g. nat_cmp x g.0) (sym here) ∙ h.0
  found_above x e (f ∷ es) h (inr later) = found_above x e es h.1 later

  found_in : (e : ℕ × X) (es : List (ℕ × X)) → T (is_sorted nat_cmp es) → In e es → find nat_cmp e.0 es ≡ Some e.1
  found_in e [] h is = elim is [ ]
  found_in e (f ∷ es) h (inl here) =
      ap (λ k. cond (eq_by_cmp nat_cmp k f.0) (Some f.1) (find nat_cmp k es)) (ap key (sym here))
      ∙ ap (λ b. cond b (Some f.1) (find nat_cmp f.0 es)) (eqb_cmp f.0 f.0 ∙ eq-eqb f.0 f.0 refl) ∙ ap (λ g. Some g.1) here
  found_in e (f ∷ es) h (inr later) =
      ap (λ b. cond b (Some f.1) (find nat_cmp e.0 es)) (eqb_cmp e.0 f.0 ∙ less_apart f.0 e.0 (found_above f.0 e es (all_above f.0 es (first_part _ _ h)) later))
      ∙ found_in e es (second_part _ _ h) later

  -- the entries of a map are what is found in it
  in_entries : (m : FinMap nat_cmp X) (q : ℕ) (v : X) → get m q ≡ Some v → In (q, v) (entries m)
  in_entries m q v found = in_found q v (entries m) (sym (get-entries m q) ∙ found)

  entries_in_map : (m : FinMap nat_cmp X) (e : ℕ × X) → In e (entries m) → get m e.0 ≡ Some e.1
  entries_in_map m e is = get-entries m e.0 ∙ found_in e (entries m) (entries_sorted m) is

-- What is saved

abbrev pub is_linked : ℕ × Inode → Bool
is_linked e = nat_lt 0 e.1.links

abbrev pub node_of : ℕ × Inode → Node
node_of e = saved_node e.0 e.1

module _ (nodes : Nodes) where
  pub nodes-saved : (saved nodes).nodes ≡ map node_of (filter is_linked (entries nodes))
  unfolding saved
  nodes-saved = refl

  linked_in : (n : ℕ) (i : Inode) → get nodes n ≡ Some i → 0 < i.links → In (n, i) (filter is_linked (entries nodes))
  linked_in n i found linked = in_filter is_linked (n, i) (entries nodes) (lt-ltb 0 i.links linked) (in_entries nodes n i found)

  in_linked : (e : ℕ × Inode) → In e (filter is_linked (entries nodes)) → (get nodes e.0 ≡ Some e.1) × (0 < e.1.links)
  in_linked e is = let r = in_filtered is_linked e (entries nodes) is in (entries_in_map nodes e r.0, ltb-true 0 e.1.links r.1)

  -- what holds of each node with a link holds of each node that is saved
  pub all_saved : (P : Node → Type 0) → ((n : ℕ) (i : Inode) → get nodes n ≡ Some i → 0 < i.links → P (saved_node n i)) → All P (saved nodes).nodes
  all_saved P h =
      subst (All P) (sym nodes-saved) (All-from_recursion P (map node_of (filter is_linked (entries nodes)))
      (all_in P (map node_of (filter is_linked (entries nodes))) (λ node is.
      let e = in_mapped node_of node (filter is_linked (entries nodes)) is in
      let l = in_linked e.0 e.1 in
      subst P e.2 (h e.0.0 e.0.1 l.0 l.1))))

  -- a node with a link is saved
  pub contains_saved : (n : ℕ) (i : Inode) → get nodes n ≡ Some i → 0 < i.links → Contains (saved nodes).nodes (saved_node n i)
  contains_saved n i found linked =
      subst (λ ns. Contains ns (saved_node n i)) (sym nodes-saved)
      (contains_in (saved_node n i) (map node_of (filter is_linked (entries nodes))) (in_map node_of (n, i) (filter is_linked (entries nodes)) (linked_in n i found linked)))

  -- and what is saved is such a node
  pub saved_contains : (node : Node) → Contains (saved nodes).nodes node → (n : ℕ) × (i : Inode) × (get nodes n ≡ Some i) × (0 < i.links) × (saved_node n i ≡ node)
  saved_contains node c =
      let is = in_contains node (map node_of (filter is_linked (entries nodes))) (subst (λ ns. Contains ns node) nodes-saved c) in
      let e = in_mapped node_of node (filter is_linked (entries nodes)) is in
      let l = in_linked e.0 e.1 in
      (e.0.0, e.0.1, l.0, l.1, e.2)

  pub contains_number : (n : ℕ) (i : Inode) → get nodes n ≡ Some i → 0 < i.links → Contains (numbers (saved nodes).nodes) n
  contains_number n i found linked =
      subst (λ ns. Contains (numbers ns) n) (sym nodes-saved)
      (contains_in n (map (λ m. m.number) (map node_of (filter is_linked (entries nodes))))
      (in_map (λ m. m.number) (saved_node n i) (map node_of (filter is_linked (entries nodes))) (in_map node_of (n, i) (filter is_linked (entries nodes)) (linked_in n i found linked))))

  pub number_contains : (n : ℕ) → Contains (numbers (saved nodes).nodes) n → (i : Inode) × (get nodes n ≡ Some i) × (0 < i.links)
  number_contains n c =
      let is = in_contains n (map (λ m. m.number) (map node_of (filter is_linked (entries nodes)))) (subst (λ ns. Contains (numbers ns) n) nodes-saved c) in
      let node = in_mapped (λ m. m.number) n (map node_of (filter is_linked (entries nodes))) is in
      let e = in_mapped node_of node.0 (filter is_linked (entries nodes)) node.1 in
      let l = in_linked e.0 e.1 in
      let same : e.0.0 ≡ n = ap (λ m. m.number) e.2 ∙ node.2 in
      (e.0.1, ap (get nodes) (sym same) ∙ l.0, l.1)

-- Sums over what is saved

module _ (f : Node → ℕ) (g : Inode → ℕ) where
  abbrev Fits : ℕ × Inode → Type 0
  Fits e = (is_linked e ≡ true → f (node_of e) ≡ g e.1) × (is_linked e ≡ false → g e.1 ≡ 0)

  sum_linked : (es : List (ℕ × Inode)) → AllByRecursion Fits es → sum_by f (map node_of (filter is_linked es)) ≡ sum_by g (map (λ e. e.1) es)
  sum_linked [] h = refl
  sum_linked (e ∷ es) h = go (sum_linked es h.1) (is_linked e) refl
    where
      go : sum_by f (map node_of (filter is_linked es)) ≡ sum_by g (map (λ e. e.1) es) → (b : Bool) → is_linked e ≡ b
          → sum_by f (map node_of (cond b (e ∷ filter is_linked es) (filter is_linked es))) ≡ sum_by g (map (λ e. e.1) (e ∷ es))
      go rest true linked =
          let a = sum_by-cons f (node_of e) (map node_of (filter is_linked es)) in
          let b = sum_by-cons g e.1 (map (λ e. e.1) es) in
          let c = h.0.0 linked in
          omega (arith, a, b, c, rest)
      go rest false loose =
          let b = sum_by-cons g e.1 (map (λ e. e.1) es) in
          let c = h.0.1 loose in
          omega (arith, b, c, rest)

  pub sum_saved : (nodes : Nodes) → ((n : ℕ) (i : Inode) → get nodes n ≡ Some i → 0 < i.links → f (saved_node n i) ≡ g i) → ((n : ℕ) (i : Inode) → get nodes n ≡ Some i → i.links ≡ 0 → g i ≡ 0)
      → sum_by f (saved nodes).nodes ≡ total g nodes
  unfolding total
  sum_saved nodes same none =
      ap (sum_by f) (nodes-saved nodes) ∙ sum_linked (entries nodes) (all_in Fits (entries nodes) (λ e is.
      let found = entries_in_map nodes e is in (
        (λ linked. same e.0 e.1 found (ltb-true 0 e.1.links linked)),
        (λ loose. none e.0 e.1 found (let le : e.1.links ≤ 0 = ltb-false 0 e.1.links loose in omega arith)),
      )))

sum_le : (f : Node → ℕ) (g : Inode → ℕ) (es : List (ℕ × Inode)) → AllByRecursion (λ e. f (node_of e) ≤ g e.1) es → sum_by f (map node_of (filter is_linked es)) ≤ sum_by g (map (λ e. e.1) es)
sum_le f g [] h = omega arith
sum_le f g (e ∷ es) h = go (sum_le f g es h.1) (is_linked e)
  where
    go : sum_by f (map node_of (filter is_linked es)) ≤ sum_by g (map (λ e. e.1) es) → (b : Bool)
        → sum_by f (map node_of (cond b (e ∷ filter is_linked es) (filter is_linked es))) ≤ sum_by g (map (λ e. e.1) (e ∷ es))
    go rest true =
        let a = sum_by-cons f (node_of e) (map node_of (filter is_linked es)) in
        let b = sum_by-cons g e.1 (map (λ e. e.1) es) in
        let c = h.0 in
        omega (arith, a, b, c, rest)
    go rest false = let b = sum_by-cons g e.1 (map (λ e. e.1) es) in omega (arith, b, rest)

pub sum_saved_le : (f : Node → ℕ) (g : Inode → ℕ) (nodes : Nodes) → ((n : ℕ) (i : Inode) → get nodes n ≡ Some i → f (saved_node n i) ≤ g i) → sum_by f (saved nodes).nodes ≤ total g nodes
unfolding total
sum_saved_le f g nodes le =
    let a = ap (sum_by f) (nodes-saved nodes) in
    let b = sum_le f g (entries nodes) (all_in (λ e. f (node_of e) ≤ g e.1) (entries nodes) (λ e is. le e.0 e.1 (entries_in_map nodes e is))) in
    omega (arith, a, b)

-- Kinds

entries-kind_of : (c : NodeContent) → entries_of (kind_of c) ≡ content_entries c
entries-kind_of (File content) = refl
entries-kind_of (Directory l) = refl
entries-kind_of (Link target) = refl

abbrev pub block_of : ℕ × List ℕ → Block
block_of b = record { index = b.0; bytes = b.1 }

blocks-kind_of : (c : NodeContent) → length (blocks_of (kind_of c)) ≡ content_blocks c
blocks-kind_of (File content) = length-map (entries content.blocks) block_of ∙ sym (len-entries content.blocks)
blocks-kind_of (Directory l) = refl
blocks-kind_of (Link target) = refl

map-map : {X Y Z : Type 0} (f : X → Y) (g : Y → Z) (xs : List X) → map g (map f xs) ≡ map (λ x. g (f x)) xs
map-map f g [] = refl
map-map f g (x ∷ xs) = ap (λ s. g (f x) ∷ s) (map-map f g xs)

blocks_kept : (content : FileContent) → IsContent content → AreBlocks content.size (map block_of (entries content.blocks))
blocks_kept content is = record {
  each = All-from_recursion (λ b. IsBlock content.size b.index b.bytes) (map block_of (entries content.blocks)) (all_in (λ b. IsBlock content.size b.index b.bytes) (map block_of (entries content.blocks)) (λ b at.
      let e = in_mapped block_of b (entries content.blocks) at in
      subst (λ b. IsBlock content.size b.index b.bytes) e.2 (is.blocks e.0.0 e.0.1 (entries_in_map content.blocks e.0 e.1))));
  rising = subst (IsStrictlySortedBy nat_cmp) (sym (map-map block_of (λ b. b.index) (entries content.blocks))) (sorted_keys (entries content.blocks) (entries_sorted content.blocks));
}

-- Times

seconds_fit : (time : ℤ) → IsTime time → FitsSigned w64 (whole_seconds time)
seconds_fit (pos a) is = record { sfits = div_below a 1000000000 (2 ^ 63) (omega arith) (let lt = is.1 in omega (arith, ints, lt)) }
seconds_fit (negsuc a) is = record { sfits = div_below a 1000000000 (2 ^ 63) (omega arith) (let le = is.0 in omega (arith, ints, le)) }

-- The tree of a file system

module _ (nodes : Nodes) (fs : IsFileSystem nodes) where
  abbrev tree : IsTree (own nodes) nodes
  tree = opened nodes fs

  -- a node that an entry names has a link
  linked_by_name : (n : ℕ) (i : Inode) → get nodes n ≡ Some i → 1 ≤ name_count nodes n → 0 < i.links
  linked_by_name n i found named = in_content i.links i.content (tree.each n i found).content
    where
      in_listing : (links : ℕ) (l : Listing) (o : Option ℕ) → HasParentIn (own nodes) nodes n links l o → 0 < links
      in_listing links l None h = absurd (let z = h.2 in omega (arith, z, named))
      in_listing links l (Some p) h = let e = h.0 in omega (arith, e)

      in_content : (links : ℕ) (c : NodeContent) → IsContentIn (own nodes) nodes n links c → 0 < links
      in_content links (File content) h = let e = h.1 in omega (arith, e, named)
      in_content links (Directory l) h = in_listing links l l.parent h.parent
      in_content links (Link target) h = let e = h.1 in omega (arith, e, named)

  -- a node without a link has no entries
  unlinked_entries : (n : ℕ) (i : Inode) → get nodes n ≡ Some i → i.links ≡ 0 → content_entries i.content ≡ []
  unlinked_entries n i found none = in_content i.links i.content none (tree.each n i found).content
    where
      in_listing : (links : ℕ) (l : Listing) (o : Option ℕ) → links ≡ 0 → HasParentIn (own nodes) nodes n links l o → l.entries ≡ []
      in_listing links l None z h = h.0
      in_listing links l (Some p) z h = absurd (let e = h.0 in omega (arith, e, z))

      in_content : (links : ℕ) (c : NodeContent) → links ≡ 0 → IsContentIn (own nodes) nodes n links c → content_entries c ≡ []
      in_content links (File content) z h = refl
      in_content links (Directory l) z h = in_listing links l l.parent z h.parent
      in_content links (Link target) z h = refl

  linked_by_entries : (n : ℕ) (i : Inode) (m : ℕ) → get nodes n ≡ Some i → 1 ≤ names_in (content_entries i.content) m → 0 < i.links
  linked_by_entries n i m found some = elim (cases_eq i.links 0) [
    | inl none ↦ absurd (let e = ap (λ es. names_in es m) (unlinked_entries n i found none) in let z : names_in [] m ≡ 0 = refl in omega (arith, e, z, some))
    | inr other ↦ omega arith
  ]

  -- and hangs below the root, as it has entries
  hangs_by_entries : (n : ℕ) (i : Inode) (m : ℕ) → get nodes n ≡ Some i → 1 ≤ names_in (content_entries i.content) m → IsBelowRoot nodes n
  hangs_by_entries n i m found some = in_content i.content refl (tree.each n i found).content
    where
      in_listing : (l : Listing) (o : Option ℕ) → parent_at nodes n ≡ o → i.content ≡ Directory l → HasParentIn (own nodes) nodes n i.links l o → IsBelowRoot nodes n
      in_listing l None up is h = absurd (let e = ap (λ c. names_in (content_entries c) m) is ∙ ap (λ es. names_in es m) h.0 in let z : names_in [] m ≡ 0 = refl in omega (arith, e, z, some))
      in_listing l (Some p) up is h = tree.below n p up

      in_content : (c : NodeContent) → i.content ≡ c → IsContentIn (own nodes) nodes n i.links c → IsBelowRoot nodes n
      in_content (File content) is h = absurd (let e = ap (λ c. names_in (content_entries c) m) is in let z : names_in [] m ≡ 0 = refl in omega (arith, e, z, some))
      in_content (Directory l) is h =
          in_listing l l.parent (ap (λ o. parent_of (in_inode listing_in o)) found ∙ ap (λ c. parent_of (listing_in c)) is) is h.parent
      in_content (Link target) is h = absurd (let e = ap (λ c. names_in (content_entries c) m) is in let z : names_in [] m ≡ 0 = refl in omega (arith, e, z, some))

  times-saved : (number : ℕ) → times_named (saved nodes).nodes number ≡ name_count nodes number
  times-saved number =
      sum_saved (λ n. names_in (entries_of n.kind) number) (λ i. names_in (content_entries i.content) number) nodes
      (λ n i found linked. ap (λ es. names_in es number) (entries-kind_of i.content))
      (λ n i found none. ap (λ es. names_in es number) (unlinked_entries n i found none))

  abbrev linked : ℕ → Type 0
  linked n = (i : Inode) × (get nodes n ≡ Some i) × (0 < i.links)

  root_linked : (i : Inode) × (get nodes root ≡ Some i) × (0 < i.links) × (is_dir (kind_of i.content) ≡ true)
  root_linked =
      let l = listing_found nodes root root tree.top in
      let d = directory_found nodes root l.0 l.1 in
      let h = is_listed nodes root (own nodes) d.0 l.0 (tree.each root d.0 d.1) d.2 in
      let p : HasParentIn (own nodes) nodes root d.0.links l.0 (Some root) = subst (λ o. HasParentIn (own nodes) nodes root d.0.links l.0 o) l.2 h.parent in
      (d.0, d.1, (let e = p.0 in omega (arith, e)), ap (λ c. is_dir (kind_of c)) d.2)

  -- what an entry of a node names lives
  entries_live : (n : ℕ) (i : Inode) → get nodes n ≡ Some i → All (λ e. is_some (get nodes e.node) ≡ true) (content_entries i.content)
  entries_live n i found = in_content i.links i.content (tree.each n i found).content
    where
      none : All (λ (e : DirEntry). is_some (get nodes e.node) ≡ true) []
      none = λ k d lt. absurd (let z : length {A = DirEntry} [] ≡ 0 = refl in omega (arith, lt, z))

      in_content : (links : ℕ) (c : NodeContent) → IsContentIn (own nodes) nodes n links c → All (λ e. is_some (get nodes e.node) ≡ true) (content_entries c)
      in_content links (File content) h = none
      in_content links (Directory l) h = λ k d lt. (h.each k d lt).live
      in_content links (Link target) h = none

  named_lives : (m : ℕ) (es : List DirEntry) → All (λ e. is_some (get nodes e.node) ≡ true) es → 1 ≤ names_in es m → is_some (get nodes m) ≡ true
  named_lives m [] all some = absurd (let z : names_in [] m ≡ 0 = refl in omega (arith, some, z))
  named_lives m (e ∷ es) all some = go (named_lives m es (All-tail (λ e. is_some (get nodes e.node) ≡ true) e es all)) (eqb e.node m) refl
    where
      go : (1 ≤ names_in es m → is_some (get nodes m) ≡ true) → (b : Bool) → eqb e.node m ≡ b → is_some (get nodes m) ≡ true
      go rest true same = ap (λ n. is_some (get nodes n)) (sym (eqb-true e.node m same)) ∙ All-head (λ e. is_some (get nodes e.node) ≡ true) e es all
      go rest false apart =
          let s = sum_by-cons (λ e. cond (eqb e.node m) 1 0) e es in
          let z = ap one_if apart in
          rest (omega (arith, s, z, some))

  found_some : (n : ℕ) → is_some (get nodes n) ≡ true → (i : Inode) × (get nodes n ≡ Some i)
  found_some n = go (get nodes n) refl
    where
      go : (o : Option Inode) → get nodes n ≡ o → is_some o ≡ true → (i : Inode) × (get nodes n ≡ Some i)
      go None found e = absurd (true≢false (sym e))
      go (Some i) found e = (i, found)

  -- what an entry names has a link
  linked_by : (n : ℕ) (i : Inode) (m : ℕ) → get nodes n ≡ Some i → 1 ≤ names_in (content_entries i.content) m → linked m
  linked_by n i m found some =
      let l = found_some m (named_lives m (content_entries i.content) (entries_live n i found) some) in
      let le = total-at_least (λ i. names_in (content_entries i.content) m) nodes n i found in
      (l.0, l.1, linked_by_name m l.0 l.1 (omega (arith, le, some)))

  -- Reached by names

  step_to : (steps n m : ℕ) (i : Inode) → get nodes n ≡ Some i → 1 ≤ names_in (content_entries i.content) m → IsReachedIn (saved nodes).nodes steps n → IsReachedIn (saved nodes).nodes (suc steps) m
  step_to steps n m i found some reached = (
    saved_node n i,
    contains_saved nodes n i found (linked_by_entries n i m found some),
    (let e = ap (λ es. names_in es m) (entries-kind_of i.content) in omega (arith, e, some)),
    reached,
  )

  reached_directory : (steps n : ℕ) → IsBelowRootBy steps nodes n → IsReached (saved nodes).nodes n
  reached_directory zero n chain = (zero, below_none nodes n chain)
  reached_directory (suc steps) n chain =
      let up = below_parent nodes steps n chain in
      elim (cases_eq n root) [
        | inl here ↦ (zero, here)
        | inr other ↦
            let one = ((parent_says nodes n (own nodes) up.0 tree up.1).1 other).1 in
            let p = named_from up.0 n one in
            let r = reached_directory steps up.0 up.2 in
            (suc r.0, step_to r.0 up.0 n p.0 p.1 p.2 r.1)
      ]
    where
      named_from : (p m : ℕ) → names_at nodes p m ≡ 1 → (i : Inode) × (get nodes p ≡ Some i) × (1 ≤ names_in (content_entries i.content) m)
      named_from p m one = go (get nodes p) refl one
        where
          in_content : (c : NodeContent) → names_in (entries_in (listing_in c)) m ≡ names_in (content_entries c) m
          in_content (File c) = refl
          in_content (Directory l) = refl
          in_content (Link c) = refl

          go : (o : Option Inode) → get nodes p ≡ o → names_in (entries_in (in_inode listing_in o)) m ≡ 1 → (i : Inode) × (get nodes p ≡ Some i) × (1 ≤ names_in (content_entries i.content) m)
          go None found e = absurd (let z : names_in [] m ≡ 0 = refl in omega (arith, e, z))
          go (Some i) found e = (i, found, (let s = in_content i.content in omega (arith, e, s)))

  reached_named : (n : ℕ) → 1 ≤ name_count nodes n → IsReached (saved nodes).nodes n
  reached_named n some =
      let p = total-some (λ i. names_in (content_entries i.content) n) nodes some in
      let below = hangs_by_entries p.0 p.1 n p.2 p.3 in
      let r = reached_directory below.0 p.0 below.1 in
      (suc r.0, step_to r.0 p.0 n p.1 p.2 p.3 r.1)

  -- a node with a link is the root, or is named
  pub reached_linked : (n : ℕ) (i : Inode) → get nodes n ≡ Some i → 0 < i.links → IsReached (saved nodes).nodes n
  reached_linked n i found some = elim (cases_eq n root) [
    | inl here ↦ (zero, here)
    | inr other ↦ reached_named n (in_content other i.links i.content some (tree.each n i found).content)
  ]
    where
      in_listing : n ≢ root → (links : ℕ) (l : Listing) (o : Option ℕ) → 0 < links → HasParentIn (own nodes) nodes n links l o → 1 ≤ name_count nodes n
      in_listing other links l None some h = absurd (let z = h.1 in omega (arith, z, some))
      in_listing other links l (Some p) some h = let e = (h.2 other).0 in omega (arith, e)

      in_content : n ≢ root → (links : ℕ) (c : NodeContent) → 0 < links → IsContentIn (own nodes) nodes n links c → 1 ≤ name_count nodes n
      in_content other links (File content) some h = let e = h.1 in omega (arith, e, some)
      in_content other links (Directory l) some h = in_listing other links l l.parent some h.parent
      in_content other links (Link target) some h = let e = h.1 in omega (arith, e, some)

  pub linked_reached : (steps n : ℕ) → IsReachedIn (saved nodes).nodes steps n → linked n
  linked_reached zero n is = let r = root_linked in (r.0, ap (get nodes) is ∙ r.1, r.2)
  linked_reached (suc steps) n reached =
      let s = saved_contains nodes reached.0 reached.1 in
      let e = ap (λ node. names_in (entries_of node.kind) n) s.4 in
      let k = ap (λ es. names_in es n) (entries-kind_of (s.1).content) in
      let some = reached.2 in
      linked_by s.0 s.1 n s.2 (omega (arith, e, k, some))

  -- the nodes that are saved are those with a link, and those are the nodes that names lead to from the root
  pub saved_iff_reached : (n : ℕ) → Contains (numbers (saved nodes).nodes) n ↔ IsReached (saved nodes).nodes n
  saved_iff_reached n = (
    (λ c. let l = number_contains nodes n c in reached_linked n l.0 l.1 l.2),
    (λ r. let l = linked_reached r.0 n r.1 in contains_number nodes n l.0 l.1 l.2),
  )

  pub linked_iff_reached : (n : ℕ) → ((i : Inode) × (get nodes n ≡ Some i) × (0 < i.links)) ↔ IsReached (saved nodes).nodes n
  linked_iff_reached n = ((λ l. reached_linked n l.0 l.1 l.2), (λ r. linked_reached r.0 n r.1))

  -- What makes the tree valid

  kind_valid : (n links : ℕ) (c : NodeContent) → IsContentIn (own nodes) nodes n links c → IsKind (kind_of c)
  kind_valid n links (File content) h = ((h.0).small, blocks_kept content h.0)
  kind_valid n links (Directory l) h = h.entries
  kind_valid n links (Link target) h = h.0

  node_valid : (n : ℕ) (i : Inode) → get nodes n ≡ Some i → IsNode (saved_node n i)
  node_valid n i found =
      let live = tree.each n i found in
      record { low = live.sound.low; high = live.sound.high; mode = live.sound.mode; mtime = seconds_fit i.modified live.sound.modified; kind = kind_valid n i.links i.content live.content }

  named_rightly : (n : ℕ) (i : Inode) → get nodes n ≡ Some i → 0 < i.links → IsNamedRightly (saved nodes).nodes (saved_node n i)
  named_rightly n i found some = in_content i.links i.content some (tree.each n i found).content
    where
      Named : Kind → Type 0
      Named kind =
          (n ≡ root → times_named (saved nodes).nodes n ≡ 0) × (n ≢ root → is_dir kind ≡ true → times_named (saved nodes).nodes n ≡ 1)
          × (is_dir kind ≡ false → 1 ≤ times_named (saved nodes).nodes n)

      not_root : (links : ℕ) → 0 < links → links ≡ name_count nodes n → n ≡ root → ⊥
      not_root links some is here =
          let z = ((parent_says nodes root (own nodes) root tree tree.top).0 refl).1 in
          let e = ap (name_count nodes) here in
          omega (arith, z, e, is, some)

      counted : (links : ℕ) → 0 < links → links ≡ name_count nodes n → 1 ≤ times_named (saved nodes).nodes n
      counted links some is = let t = times-saved n in omega (arith, t, is, some)

      in_listing : (links : ℕ) (l : Listing) (o : Option ℕ) → 0 < links → HasParentIn (own nodes) nodes n links l o → Named (kind_of (Directory l))
      in_listing links l None some h = absurd (let z = h.1 in omega (arith, z, some))
      in_listing links l (Some p) some h = ((λ here. times-saved n ∙ (h.1 here).1), (λ other _. times-saved n ∙ (h.2 other).0), (λ e. absurd (true≢false e)))

      in_content : (links : ℕ) (c : NodeContent) → 0 < links → IsContentIn (own nodes) nodes n links c → Named (kind_of c)
      in_content links (File content) some h = ((λ here. absurd (not_root links some h.1 here)), (λ _ e. absurd (true≢false (sym e))), (λ _. counted links some h.1))
      in_content links (Directory l) some h = in_listing links l l.parent some h.parent
      in_content links (Link target) some h = ((λ here. absurd (not_root links some h.1 here)), (λ _ e. absurd (true≢false (sym e))), (λ _. counted links some h.1))

  targets_saved : (n : ℕ) (i : Inode) → get nodes n ≡ Some i → All (λ e. Contains (numbers (saved nodes).nodes) e.node) (entries_of (kind_of i.content))
  targets_saved n i found =
      subst (λ es. All (λ e. Contains (numbers (saved nodes).nodes) e.node) es) (sym (entries-kind_of i.content)) (λ k d lt.
      let m = (get_or (content_entries i.content) k d).node in
      let le = get_or-le-sum_by (λ e. cond (eqb e.node m) 1 0) (content_entries i.content) k d lt in
      let one = ap one_if (eq-eqb m m refl) in
      let l = linked_by n i m found (omega (arith, le, one)) in
      contains_number nodes m l.0 l.1 l.2)

  begins : BeginsWithRoot (saved nodes).nodes
  begins =
      let r = root_linked in
      subst BeginsWithRoot (sym (nodes-saved nodes))
      (go r.0 r.3 (filter is_linked (entries nodes)) (sorted_filter is_linked (entries nodes) (sorted_keys (entries nodes) (entries_sorted nodes)))
      (all_in (λ e. 1 ≤ e.0) (filter is_linked (entries nodes)) (λ e is. (tree.each e.0 e.1 (in_linked nodes e is).0).sound.low))
      (linked_in nodes root r.0 r.1 r.2))
    where
      go : (i : Inode) → is_dir (kind_of i.content) ≡ true → (es : List (ℕ × Inode)) → IsStrictlySortedBy nat_cmp (map key es) → AllByRecursion (λ e. 1 ≤ e.0) es → In (root, i) es
          → BeginsWithRoot (map node_of es)
      go i dir [] sorted low is = elim is [ ]
      go i dir (e ∷ es) sorted low (inl here) = (node_of e, refl, ap key here, ap (λ x. is_dir (kind_of x.1.content)) here ∙ dir)
      go i dir (e ∷ es) sorted low (inr later) =
          let less : nat_cmp e.0 root ≡ Less = found_above e.0 (root, i) es (sorted_head nat_cmp e.0 (map key es) sorted) later in
          let lt : e.0 < root = ranked e.0 root Less (sym less) in
          let some = low.0 in
          absurd (omega (arith, lt, some))

  pub saved_valid : IsValidTree (saved nodes)
  saved_valid = record {
    begins = begins;
    count =
        let a = ap length (nodes-saved nodes) in
        let b = length-map (filter is_linked (entries nodes)) node_of in
        let c = length-filter is_linked (entries nodes) in
        let d = count_by-le-length is_linked (entries nodes) in
        let e = len-entries nodes in
        let f = fs.few_nodes in
        omega (arith, a, b, c, d, e, f);
    rising = subst (λ ns. IsStrictlySortedBy nat_cmp (numbers ns)) (sym (nodes-saved nodes))
        (subst (IsStrictlySortedBy nat_cmp) (sym (map-map node_of (λ m. m.number) (filter is_linked (entries nodes))))
        (sorted_filter is_linked (entries nodes) (sorted_keys (entries nodes) (entries_sorted nodes))));
    each = all_saved nodes IsNode (λ n i found some. node_valid n i found);
    blocks =
        let a = sum_saved_le (λ n. length (blocks_of n.kind)) (λ i. content_blocks i.content) nodes (λ n i found. let e = blocks-kind_of i.content in omega (arith, e)) in
        let b = fs.few_blocks in
        omega (arith, a, b);
    entries =
        let a = sum_saved_le (λ n. length (entries_of n.kind)) (λ i. length (content_entries i.content)) nodes (λ n i found. let e = ap length (entries-kind_of i.content) in omega (arith, e)) in
        let b = fs.few_entries in
        omega (arith, a, b);
    targets = all_saved nodes (λ n. All (λ e. Contains (numbers (saved nodes).nodes) e.node) (entries_of n.kind)) (λ n i found some. targets_saved n i found);
    named = all_saved nodes (IsNamedRightly (saved nodes).nodes) named_rightly;
    reached = all_saved nodes (λ n. IsReached (saved nodes).nodes n.number) (λ n i found some. reached_linked n i found some);
  }
