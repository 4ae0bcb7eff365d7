-- The nodes with a link, read from the table into an ordered map: they are those of the nodes by rising number.
use Rattle.std.proofs.Common.{◌≡◌, ◌≤◌, ◌<◌, ◌⊎◌, ℕ, Bool, true, false, cond, T, eqb, nat_lt, List, [], ◌∷◌, ◌++◌, map, filter, Option, Some, None, is_some, IsSome, Contains, Bor, refl, sym, ap, subst, ◌∙◌, arith, inl, inr}
use Rattle.std.specs.Prelude.{All, option_map, ◌&&◌}
use Rattle.std.specs.BTreeMap.{BTreeMap, IsOrdered}
use Rattle.std.specs.BTreeMap as tree
use Rattle.std.specs.Map.{lookup, keys_of}
use Rattle.std.specs.declared.cmp.Ordering.{Ordering}
use Rattle.std.specs.declared.cmp.Ordering.TheVariants.{Less, Equal, Greater}
use Rattle.std.specs.Ordering.{nat_cmp, eq_by_cmp, is_lt, is_eq}
use Rattle.std.specs.Cmp.{nat_cmp_total}
use Rattle.std.specs.List.{AllByRecursion}
use Rattle.std.specs.List.Sorted.{IsStrictlySortedBy}
use Rattle.std.specs.FinMap.{find, entries, entries_sorted, get, get-entries, is_sorted, nat_cmp-IsAntisymmetric}
use Rattle.std.specs.FinMap.Entries.{below_all, same_entries}
use Rattle.std.proofs.lemmas.List.Elements.{All-filter, All-from_recursion, recursion_from_All}
use Rattle.std.proofs.lemmas.Bool.{ltb-true, lt-ltb, eq-eqb, eqb-true}
use Rattle.slab.specs.Slab.{get as slab_get, entries as slab_entries}
use Rattle.slab.proofs.SlabLemmas.{Contains-cons, Contains-cons_cases, Contains-entries}
use Rattle.kernel_core.specs.FileSystem.{IsFileSystem, IsTime}
use Rattle.kernel_core.specs.LoadedTree.{saved, saved_node}
use Rattle.kernel_core.specs.Nodes.{Nodes, Inode}
use Rattle.kernel_core.specs.declared.tree.Node.{Node}
use Rattle.kernel_core.specs.declared.tree.Tree.{Tree}
use Rattle.native_vfs.specs.inside.Saving.{numbered, linked_in, saved_of, HasTime}
use Rattle.native_vfs.specs.inside.Stored.{Table, nodes_of, inode_of, HasDistinctNumbers}
use Rattle.native_vfs.specs.declared.stored.Stored.{Stored}
use Rattle.native_vfs.proofs.tables.Lookups.{tied}
use Rattle.native_vfs.proofs.tables.Tables.{same_answer, same_some, not_none, node-found, node-there}

-- a node of the table with this number and a link
pub record IsLinkedAt (table : Table) (number : ℕ) (node : Stored) : Type 0 where
  pub key : ℕ
  pub at : slab_get table key ≡ Some node
  pub same : node.number ≡ number
  pub linked : 0 < node.links

-- the map has the nodes with a link, but for those that are left
pub record IsReadFrom (table : Table) (read : BTreeMap ℕ (Bor Stored)) (left : List (ℕ × Stored)) : Type 0 where
  pub ordered : IsOrdered nat_cmp read
  pub found : (number : ℕ) (node : Bor Stored) → tree.get nat_cmp read number ≡ Some node → IsLinkedAt table number node.now
  pub rest : (key : ℕ) (node : Stored) → Contains left (key, node) → slab_get table key ≡ Some node
  pub all : (key : ℕ) (node : Stored) → slab_get table key ≡ Some node → 0 < node.links → Contains left (key, node) ⊎ IsSome (tree.get nat_cmp read node.number)

-- at the beginning all is left
pub read-none : (table : Table) (read : BTreeMap ℕ (Bor Stored)) (left : List (ℕ × Stored)) → IsOrdered nat_cmp read → read.entries ≡ [] → left ≡ slab_entries table
    → IsReadFrom table read left
read-none table read left ordered none whole = record {
  ordered = ordered;
  found = λ number node h. let g : None ≡ Some node = sym (ap (lookup (λ k. is_eq (nat_cmp number k))) none) ∙ h in absurd (not_none node (sym g));
  rest = λ key node there. (Contains-entries table key node).0 (subst (λ es. Contains es (key, node)) whole there);
  all = λ key node at linked. inl (subst (λ es. Contains es (key, node)) (sym whole) ((Contains-entries table key node).1 at));
}

-- a node without a link is passed over
pub read-other : (table : Table) (read : BTreeMap ℕ (Bor Stored)) (key : ℕ) (node : Stored) (left : List (ℕ × Stored)) → IsReadFrom table read ((key, node) ∷ left)
    → node.links ≤ 0 → IsReadFrom table read left
read-other table read key node left is loose = record {
  ordered = is.ordered;
  found = is.found;
  rest = λ other second there. is.rest other second (Contains-cons (key, node) (other, second) left there);
  all = λ other second at linked. elim (is.all other second at linked) [
    | inl there ↦ elim (Contains-cons_cases (key, node) (other, second) left there) [
      | inl here ↦ absurd (let same = ap (λ e. e.1.links) here in omega (arith, loose, linked, same))
      | inr later ↦ inl later
    ]
    | inr some ↦ inr some
  ];
}

-- a node with a link comes in under its number
pub read-more : (table : Table) (read more : BTreeMap ℕ (Bor Stored)) (key : ℕ) (node : Bor Stored) (left : List (ℕ × Stored)) → IsReadFrom table read ((key, node.now) ∷ left)
    → 0 < node.now.links → IsOrdered nat_cmp more
    → ((q : ℕ) → tree.get nat_cmp more q ≡ cond (is_eq (nat_cmp node.now.number q)) (Some node) (tree.get nat_cmp read q))
    → IsReadFrom table more left
read-more table read more key node left is linked ordered puts = record {
  ordered = ordered;
  found = λ number second h. found number second (eqb node.now.number number) refl (sym (puts number ∙ ap (λ b. cond b (Some node) (tree.get nat_cmp read number)) (tied node.now.number number)) ∙ h);
  rest = λ other second there. is.rest other second (Contains-cons (key, node.now) (other, second) left there);
  all = λ other second at linked. elim (is.all other second at linked) [
    | inl there ↦ elim (Contains-cons_cases (key, node.now) (other, second) left there) [
      | inl here ↦ inr (ap is_some (ap (tree.get nat_cmp more) (sym (ap (λ e. e.1.number) here)) ∙ put node.now.number true (eq-eqb node.now.number node.now.number refl)))
      | inr later ↦ inl later
    ]
    | inr some ↦ inr (kept second.number (eqb node.now.number second.number) refl some)
  ];
}
  where
    put : (q : ℕ) (b : Bool) → eqb node.now.number q ≡ b → tree.get nat_cmp more q ≡ cond b (Some node) (tree.get nat_cmp read q)
    put q b is = puts q ∙ ap (λ b. cond b (Some node) (tree.get nat_cmp read q)) (tied node.now.number q ∙ is)

    found : (number : ℕ) (second : Bor Stored) (b : Bool) → eqb node.now.number number ≡ b → cond (eqb node.now.number number) (Some node) (tree.get nat_cmp read number) ≡ Some second
        → IsLinkedAt table number second.now
    found number second true same h =
        let e : node ≡ second = same_some node second (sym (ap (λ b. cond b (Some node) (tree.get nat_cmp read number)) same) ∙ h) in
        subst (λ n. IsLinkedAt table number n.now) e (record {
          key = key;
          at = is.rest key node.now (0, omega arith, refl);
          same = eqb-true node.now.number number same;
          linked = linked;
        })
    found number second false apart h = is.found number second (sym (ap (λ b. cond b (Some node) (tree.get nat_cmp read number)) apart) ∙ h)

    kept : (q : ℕ) (b : Bool) → eqb node.now.number q ≡ b → IsSome (tree.get nat_cmp read q) → IsSome (tree.get nat_cmp more q)
    kept q true same some = ap is_some (put q true same)
    kept q false apart some = ap is_some (put q false apart) ∙ some

-- Lists of nodes by rising number

abbrev is_linked : ℕ × Inode → Bool
is_linked e = nat_lt 0 e.1.links

both : (a b : Bool) → T a → T b → T (a && b)
both true b p q = q
both false b p q = p

first : (a b : Bool) → T (a && b) → T a
first true b p = tt
first false b p = p

second : (a b : Bool) → T (a && b) → T b
second true b p = p
second false b p = absurd p

below_numbered : (n : ℕ) (es : List (ℕ × Bor Stored)) → AllByRecursion (λ y. nat_cmp n y ≡ Less) (keys_of es) → T (below_all nat_cmp n (map numbered es))
below_numbered n [] h = tt
below_numbered n (e ∷ es) h = both _ _ (subst (λ r. T (is_lt r)) (sym h.0) tt) (below_numbered n es h.1)

sorted_numbered : (es : List (ℕ × Bor Stored)) → IsStrictlySortedBy nat_cmp (keys_of es) → T (is_sorted nat_cmp (map numbered es))
unfolding IsStrictlySortedBy
sorted_numbered [] h = tt
sorted_numbered (e ∷ es) h = both _ _ (below_numbered e.0 es h.0) (sorted_numbered es h.1)

find-numbered : (q : ℕ) (es : List (ℕ × Bor Stored)) → find nat_cmp q (map numbered es) ≡ option_map (λ n. inode_of n.now) (lookup (λ k. is_eq (nat_cmp q k)) es)
find-numbered q [] = refl
find-numbered q (e ∷ es) =
    elim (is_eq (nat_cmp q e.0)) as (λ b. cond b (Some (inode_of e.1.now)) (find nat_cmp q (map numbered es)) ≡ option_map (λ n. inode_of n.now) (cond b (Some e.1) (lookup (λ k. is_eq (nat_cmp q k)) es))) [
      | true ↦ refl
      | false ↦ find-numbered q es
    ]

below_linked : (n : ℕ) (es : List (ℕ × Inode)) → T (below_all nat_cmp n es) → T (below_all nat_cmp n (filter is_linked es))
below_linked n [] h = tt
below_linked n (e ∷ es) h =
    elim (is_linked e) as (λ b. T (below_all nat_cmp n (cond b (e ∷ filter is_linked es) (filter is_linked es)))) [
      | true ↦ both _ _ (first _ _ h) (below_linked n es (second _ _ h))
      | false ↦ below_linked n es (second _ _ h)
    ]

sorted_linked : (es : List (ℕ × Inode)) → T (is_sorted nat_cmp es) → T (is_sorted nat_cmp (filter is_linked es))
sorted_linked [] h = tt
sorted_linked (e ∷ es) h =
    elim (is_linked e) as (λ b. T (is_sorted nat_cmp (cond b (e ∷ filter is_linked es) (filter is_linked es)))) [
      | true ↦ both _ _ (below_linked e.0 es (first _ _ h)) (sorted_linked es (second _ _ h))
      | false ↦ sorted_linked es (second _ _ h)
    ]

less_is : (o : Ordering) → T (is_lt o) → o ≡ Less
less_is Less p = refl
less_is Equal p = absurd p
less_is Greater p = absurd p

none_below : (q : ℕ) (es : List (ℕ × Inode)) → T (below_all nat_cmp q es) → find nat_cmp q es ≡ None
none_below q [] h = refl
none_below q (e ∷ es) h = ap (λ r. cond (is_eq r) (Some e.1) (find nat_cmp q es)) (less_is (nat_cmp q e.0) (first _ _ h)) ∙ none_below q es (second _ _ h)

-- what a number stands for, where it has a link
abbrev where_linked : Option Inode → Option Inode
where_linked None = None
where_linked (Some i) = cond (nat_lt 0 i.links) (Some i) None

find-linked : (q : ℕ) (es : List (ℕ × Inode)) → T (is_sorted nat_cmp es) → find nat_cmp q (filter is_linked es) ≡ where_linked (find nat_cmp q es)
find-linked q [] h = refl
find-linked q (e ∷ es) h = by (find-linked q es (second _ _ h)) (eq_by_cmp nat_cmp q e.0) (is_linked e) refl refl
  where
    by : find nat_cmp q (filter is_linked es) ≡ where_linked (find nat_cmp q es) → (a b : Bool) → eq_by_cmp nat_cmp q e.0 ≡ a → is_linked e ≡ b
        → find nat_cmp q (cond (is_linked e) (e ∷ filter is_linked es) (filter is_linked es)) ≡ where_linked (cond (eq_by_cmp nat_cmp q e.0) (Some e.1) (find nat_cmp q es))
    by rest true true here linked =
        ap (λ b. find nat_cmp q (cond b (e ∷ filter is_linked es) (filter is_linked es))) linked
        ∙ ap (λ a. cond a (Some e.1) (find nat_cmp q (filter is_linked es))) here
        ∙ sym (ap (λ a. where_linked (cond a (Some e.1) (find nat_cmp q es))) here ∙ ap (λ b. cond b (Some e.1) None) linked)
    by rest true false here loose =
        let same : q ≡ e.0 = eqb-true q e.0 (sym (tied q e.0) ∙ here) in
        ap (λ b. find nat_cmp q (cond b (e ∷ filter is_linked es) (filter is_linked es))) loose
        ∙ ap (λ n. find nat_cmp n (filter is_linked es)) same ∙ none_below e.0 (filter is_linked es) (below_linked e.0 es (first _ _ h))
        ∙ sym (ap (λ a. where_linked (cond a (Some e.1) (find nat_cmp q es))) here ∙ ap (λ b. cond b (Some e.1) None) loose)
    by rest false true apart linked =
        ap (λ b. find nat_cmp q (cond b (e ∷ filter is_linked es) (filter is_linked es))) linked
        ∙ ap (λ a. cond a (Some e.1) (find nat_cmp q (filter is_linked es))) apart
        ∙ rest ∙ sym (ap (λ a. where_linked (cond a (Some e.1) (find nat_cmp q es))) apart)
    by rest false false apart loose =
        ap (λ b. find nat_cmp q (cond b (e ∷ filter is_linked es) (filter is_linked es))) loose
        ∙ rest ∙ sym (ap (λ a. where_linked (cond a (Some e.1) (find nat_cmp q es))) apart)

module _ (table : Table) (distinct : HasDistinctNumbers table) (read : BTreeMap ℕ (Bor Stored)) (is : IsReadFrom table read []) where
  there : (q : ℕ) (i : Inode) → option_map (λ n. inode_of n.now) (tree.get nat_cmp read q) ≡ Some i → where_linked (get (nodes_of table) q) ≡ Some i
  there q i h = by (tree.get nat_cmp read q) refl h
    where
      by : (o : Option (Bor Stored)) → tree.get nat_cmp read q ≡ o → option_map (λ n. inode_of n.now) o ≡ Some i → where_linked (get (nodes_of table) q) ≡ Some i
      by None f h = absurd (not_none i (sym h))
      by (Some node) f h =
          let at = is.found q node f in
          let here : get (nodes_of table) q ≡ Some (inode_of node.now) = ap (get (nodes_of table)) (sym at.same) ∙ node-there table at.key node.now distinct at.at in
          ap where_linked here ∙ ap (λ b. cond b (Some (inode_of node.now)) None) (lt-ltb 0 node.now.links at.linked) ∙ h

  back : (q : ℕ) (i : Inode) → where_linked (get (nodes_of table) q) ≡ Some i → option_map (λ n. inode_of n.now) (tree.get nat_cmp read q) ≡ Some i
  back q i h = by (get (nodes_of table) q) refl h
    where
      by : (o : Option Inode) → get (nodes_of table) q ≡ o → where_linked o ≡ Some i → option_map (λ n. inode_of n.now) (tree.get nat_cmp read q) ≡ Some i
      by None f h = absurd (not_none i (sym h))
      by (Some inode) f h = at_linked (nat_lt 0 inode.links) refl h
        where
          at_linked : (b : Bool) → nat_lt 0 inode.links ≡ b → cond b (Some inode) None ≡ Some i → option_map (λ n. inode_of n.now) (tree.get nat_cmp read q) ≡ Some i
          at_linked false loose h = absurd (not_none i (sym h))
          at_linked true linked h =
              let s = node-found table q inode f in
              let some_links : 0 < s.node.links = ltb-true 0 s.node.links (ap (λ j. nat_lt 0 j.links) s.has_inode ∙ linked) in
              elim (is.all s.key s.node s.at some_links) [
                | inl more ↦ absurd (omega (arith, more.1))
                | inr some ↦ found (tree.get nat_cmp read q) refl (ap (λ n. is_some (tree.get nat_cmp read n)) (sym s.has_number) ∙ some)
              ]
            where
              found : (o : Option (Bor Stored)) → tree.get nat_cmp read q ≡ o → is_some o ≡ true → option_map (λ n. inode_of n.now) o ≡ Some i
              found None g some = absurd (let e : false ≡ true = some in cc)
              found (Some node) g some = sym (there q (inode_of node.now) (ap (option_map (λ n. inode_of n.now)) g)) ∙ ap where_linked f ∙ ap (λ b. cond b (Some inode) None) linked ∙ h

  -- when all is read, the map has the nodes with a link, by rising number
  pub read-all : map numbered read.entries ≡ linked_in (nodes_of table)
  read-all =
      same_entries nat_cmp nat_cmp_total nat_cmp-IsAntisymmetric (map numbered read.entries) (linked_in (nodes_of table))
      (sorted_numbered read.entries is.ordered) (sorted_linked (entries (nodes_of table)) (entries_sorted (nodes_of table)))
      (λ q.
      find-numbered q read.entries
      ∙ same_answer (option_map (λ n. inode_of n.now) (tree.get nat_cmp read q)) (where_linked (get (nodes_of table) q)) (there q) (back q)
      ∙ sym (find-linked q (entries (nodes_of table)) (entries_sorted (nodes_of table)) ∙ ap where_linked (sym (get-entries (nodes_of table) q))))

-- What is saved of them

-- what was made and what is left are all
pub saved-next : (made whole : List Node) (left rest : List (ℕ × Bor Stored)) (e : ℕ × Bor Stored) → left ≡ e ∷ rest → made ++ map saved_of left ≡ whole
    → (made ++ saved_of e ∷ []) ++ map saved_of rest ≡ whole
saved-next made whole left rest e at all = push made (saved_of e) (map saved_of rest) ∙ ap (λ es. made ++ map saved_of es) (sym at) ∙ all
  where
    push : (xs : List Node) (x : Node) (ys : List Node) → (xs ++ x ∷ []) ++ ys ≡ xs ++ x ∷ ys
    push [] x ys = refl
    push (y ∷ xs) x ys = ap (λ r. y ∷ r) (push xs x ys)

-- what holds of what is found holds of each entry
all_entries : (P : Inode → Type 0) (es : List (ℕ × Inode)) → T (is_sorted nat_cmp es) → ((q : ℕ) (i : Inode) → find nat_cmp q es ≡ Some i → P i)
    → AllByRecursion (λ e. P e.1) es
all_entries P [] sorted each = tt
all_entries P (e ∷ es) sorted each = (
  each e.0 e.1 (ap (λ b. cond b (Some e.1) (find nat_cmp e.0 es)) (tied e.0 e.0 ∙ eq-eqb e.0 e.0 refl)),
  all_entries P es (second _ _ sorted) (λ q i found. by q i found (eq_by_cmp nat_cmp q e.0) refl),
)
  where
    by : (q : ℕ) (i : Inode) → find nat_cmp q es ≡ Some i → (b : Bool) → eq_by_cmp nat_cmp q e.0 ≡ b → P i
    by q i found true here =
        let same : q ≡ e.0 = eqb-true q e.0 (sym (tied q e.0) ∙ here) in
        absurd (not_none i (sym found ∙ ap (λ n. find nat_cmp n es) same ∙ none_below e.0 es (first _ _ sorted)))
    by q i found false apart = each q i (ap (λ b. cond b (Some e.1) (find nat_cmp q es)) apart ∙ found)

all_of_map : {X Y : Type 0} (P : Y → Type 0) (f : X → Y) (xs : List X) → AllByRecursion P (map f xs) → AllByRecursion (λ x. P (f x)) xs
all_of_map P f [] h = tt
all_of_map P f (x ∷ xs) h = (h.0, all_of_map P f xs h.1)

module _ (nodes : Nodes) (es : List (ℕ × Bor Stored)) (linked : map numbered es ≡ linked_in nodes) where
  -- each node of a file system has a time that a tree can have
  pub have-times : IsFileSystem nodes → All HasTime es
  have-times system =
      let each = all_entries (λ i. IsTime i.modified) (entries nodes) (entries_sorted nodes) (λ q i found. (system.each q i (get-entries nodes q ∙ found)).modified) in
      let of_linked = All-filter is_linked (λ e. IsTime e.1.modified) (entries nodes) (All-from_recursion (λ e. IsTime e.1.modified) (entries nodes) each) in
      All-from_recursion HasTime es (all_of_map (λ e. IsTime e.1.modified) numbered es
      (recursion_from_All (λ e. IsTime e.1.modified) (map numbered es) (subst (All (λ e. IsTime e.1.modified)) (sym linked) of_linked)))

  -- the nodes that are made are the tree that is saved
  pub saved-is : (made : List Node) → made ≡ map saved_of es → ◌≡◌ {A = Tree} (record { nodes = made }) (saved nodes)
  unfolding saved
  saved-is made is = ap (λ (ns : List Node). record { nodes = ns }) (is ∙ twice es ∙ ap (map (λ e. saved_node e.0 e.1)) linked)
    where
      twice : (es : List (ℕ × Bor Stored)) → map saved_of es ≡ map (λ e. saved_node e.0 e.1) (map numbered es)
      twice [] = refl
      twice (e ∷ es) = ap (λ r. saved_of e ∷ r) (twice es)
