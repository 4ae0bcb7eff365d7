-- Each directory of a tree gets its entries, its parent and its links, and is then as the tree has it.
use Rattle.std.proofs.Common.{◌≡◌, ◌≢◌, ◌≤◌, ◌<◌, ◌+◌, ◌⊎◌, ℕ, Bool, true, false, cond, eqb, ltb, List, [], ◌∷◌, ◌++◌, map, length, take, drop, get_or, Option, Some, None, is_some, Contains, refl, sym, ap, subst, ◌∙◌, arith, inl, inr}
use Rattle.std.specs.Prelude.{All, option_map, find, count_by, IsSomeAnd, slice_get, ◌&&◌, ◌||◌}
use Rattle.std.specs.List.Sorted.{IsStrictlySortedBy}
use Rattle.std.specs.Ordering.{nat_cmp, eq_by_cmp}
use Rattle.std.specs.Cmp.{nat_cmp_total}
use Rattle.std.specs.FinMap as maps
use Rattle.std.specs.FinMap.{get, insert, from_entries, get-from_entries}
use Rattle.std.proofs.lemmas.Bool.{cases_eq, false≢true, eq-eqb, ne_eqb, eqb-true}
use Rattle.std.proofs.lemmas.List.{map-append}
use Rattle.std.proofs.lemmas.List.Elements.{All-weaker, All-contains}
use Rattle.std.proofs.lemmas.List.Sums.{get_or-le-sum_by}
use Rattle.kernel_core.specs.LoadedTree.{loaded_inode, content_of as content_in, links_of, parent_in, is_dir_in, greatest_of}
use Rattle.kernel_core.specs.Nodes.{Inode, NodeContent, Directory, update, listing_in, in_inode, is_directory}
use Rattle.kernel_core.specs.ValidTree.{IsValidTree, IsNode, IsKind, AreEntries, IsNamedRightly, entry_limit, names_in, times_named, entries_of, is_dir, numbers, root}
use Rattle.kernel_core.specs.declared.tree.Node.{Node}
use Rattle.kernel_core.specs.declared.tree.Kind.{Kind}
use Rattle.kernel_core.specs.declared.tree.Kind.TheVariants as kinds
use Rattle.kernel_core.specs.declared.tree.DirEntry.{DirEntry}
use Rattle.file_system_laws.proofs.KeyedLists.{element, get-keyed, none_above, some_one, sum_by-same, Contains-map}
use Rattle.native_vfs.specs.inside.Loading.{tree_of, Places, HasPlace, Namings, AreNamings, parent_told, bare_inode, bare_content, bare_links, bare_entry, loaded_entry, filled, ArePlaced, AreNamed, directory_links, loaded_listing}
use Rattle.native_vfs.specs.inside.Steps.{IsAddition}
use Rattle.native_vfs.specs.inside.Stored.{Table, nodes_of, number_of_key}
use Rattle.native_vfs.proofs.trees.LoadedLists.{split-at, take-next, drop-next, at-index, absent-before}
use Rattle.file_system_laws.proofs.Lookups.{same_nodes, get-insert_same, get-insert_other, update-found}
use Rattle.native_vfs.proofs.tables.Lookups.{tied}
use Rattle.native_vfs.proofs.tables.Tables.{not_none, distinct-kept, leads-kept}

pub no_dir : (kind : Kind) → ((entries : List DirEntry) → kind ≡ kinds.Dir entries → ⊥) → is_dir kind ≡ false
no_dir (kinds.File size blocks) none = refl
no_dir (kinds.Dir entries) none = absurd (none entries refl)
no_dir (kinds.Link target) none = refl

-- A node without entries against the node as the tree has it

-- a file or a link is the same
bare-loaded : (all : List Node) (node : Node) → is_dir node.kind ≡ false → bare_entry all node ≡ loaded_entry all node
bare-loaded all node plain =
    ap (λ p. (node.number, record (bare_inode 0 node) { links = p.0; content = p.1 })) (same node.kind plain)
  where
    same : (kind : Kind) → is_dir kind ≡ false
        → ◌≡◌ {A = ℕ × NodeContent} (bare_links (times_named all node.number) kind, bare_content kind) (links_of all node.number kind, content_in all node.number kind)
    same (kinds.File size blocks) plain = refl
    same (kinds.Dir entries) plain = absurd (false≢true (sym plain))
    same (kinds.Link target) plain = refl

count_same : (p q : ℕ → Bool) → ((n : ℕ) → p n ≡ q n) → (entries : List DirEntry) → count_by (λ e. p e.node) entries ≡ count_by (λ e. q e.node) entries
count_same p q same entries = sum_by-same (λ (e : DirEntry). cond (p e.node) 1 0) (λ e. cond (q e.node) 1 0) entries (λ k d short. ap (λ b. cond b 1 0) (same (get_or entries k d).node))

-- a directory is the same once it has its links and what it lists
filled-loaded : (all : List Node) (node : Node) (entries : List DirEntry) (links parent : ℕ) → node.kind ≡ kinds.Dir entries → links ≡ 2 + count_by (λ e. is_dir_in all e.node) entries
    → parent_in all node.number ≡ Some parent → filled links (loaded_listing parent entries) (bare_inode (times_named all node.number) node) ≡ loaded_inode all node
filled-loaded all node entries links parent is counted above =
    ap (λ n. filled n (loaded_listing parent entries) (bare_inode 0 node)) (counted ∙ sym (ap (links_of all node.number) is))
    ∙ ap (λ c. record (filled (links_of all node.number node.kind) (loaded_listing parent entries) (bare_inode 0 node)) { content = c })
    (ap (λ o. Directory (record { parent = o; greatest = greatest_of entries; entries = entries })) (sym above) ∙ sym (ap (content_in all node.number) is))

-- A value within a list of entries

module _ {V : Type 0} where
  find-at : (xs ys : List (ℕ × V)) (k : ℕ) (a : V) → maps.find nat_cmp k xs ≡ None → maps.find nat_cmp k (xs ++ (k, a) ∷ ys) ≡ Some a
  find-at [] ys k a none = ap (λ b. cond b (Some a) (maps.find nat_cmp k ys)) (tied k k ∙ eq-eqb k k refl)
  find-at (x ∷ xs) ys k a none = by (find-at xs ys k a) (eq_by_cmp nat_cmp k x.0) refl
    where
      by : (maps.find nat_cmp k xs ≡ None → maps.find nat_cmp k (xs ++ (k, a) ∷ ys) ≡ Some a) → (b : Bool) → eq_by_cmp nat_cmp k x.0 ≡ b → maps.find nat_cmp k (x ∷ xs ++ (k, a) ∷ ys) ≡ Some a
      by behind true is = absurd (not_none x.1 (sym (ap (λ b. cond b (Some x.1) (maps.find nat_cmp k xs)) is) ∙ none))
      by behind false is =
          ap (λ b. cond b (Some x.1) (maps.find nat_cmp k (xs ++ (k, a) ∷ ys))) is
          ∙ behind (sym (ap (λ b. cond b (Some x.1) (maps.find nat_cmp k xs)) is) ∙ none)

  find-past : (xs ys : List (ℕ × V)) (k q : ℕ) (a b : V) → q ≢ k → maps.find nat_cmp q (xs ++ (k, a) ∷ ys) ≡ maps.find nat_cmp q (xs ++ (k, b) ∷ ys)
  find-past [] ys k q a b apart =
      ap (λ t. cond t (Some a) (maps.find nat_cmp q ys)) (tied q k ∙ ne_eqb q k apart) ∙ sym (ap (λ t. cond t (Some b) (maps.find nat_cmp q ys)) (tied q k ∙ ne_eqb q k apart))
  find-past (x ∷ xs) ys k q a b apart = ap (cond (eq_by_cmp nat_cmp q x.0) (Some x.1)) (find-past xs ys k q a b apart)

  get-within : (xs ys : List (ℕ × V)) (k : ℕ) (a : V) → maps.find nat_cmp k xs ≡ None → get (from_entries {R = nat_cmp} (xs ++ (k, a) ∷ ys)) k ≡ Some a
  get-within xs ys k a none = get-from_entries nat_cmp_total (xs ++ (k, a) ∷ ys) k ∙ find-at xs ys k a none

  insert-within : (xs ys : List (ℕ × V)) (k : ℕ) (a b : V) → maps.find nat_cmp k xs ≡ None → insert (from_entries {R = nat_cmp} (xs ++ (k, a) ∷ ys)) k b ≡ from_entries (xs ++ (k, b) ∷ ys)
  insert-within xs ys k a b none = same_nodes _ _ (λ q. elim (cases_eq q k) [
    | inl here ↦
        ap (get (insert (from_entries {R = nat_cmp} (xs ++ (k, a) ∷ ys)) k b)) here ∙ get-insert_same (from_entries (xs ++ (k, a) ∷ ys)) k b
        ∙ sym (ap (get (from_entries {R = nat_cmp} (xs ++ (k, b) ∷ ys))) here ∙ get-within xs ys k b none)
    | inr apart ↦
        get-insert_other (from_entries (xs ++ (k, a) ∷ ys)) k b q apart ∙ get-from_entries nat_cmp_total (xs ++ (k, a) ∷ ys) q
        ∙ find-past xs ys k q a b apart ∙ sym (get-from_entries nat_cmp_total (xs ++ (k, b) ∷ ys) q)
  ])

-- Which numbers are directories

abbrev dir_of : Option Node → Bool
dir_of None = false
dir_of (Some n) = is_dir n.kind

any_directory : (nodes : List Node) (q : ℕ) → IsStrictlySortedBy nat_cmp (numbers nodes) → is_dir_in nodes q ≡ dir_of (element (λ n. n.number) (λ n. n) nodes q)
unfolding IsStrictlySortedBy
any_directory [] q rising = refl
any_directory (n ∷ ns) q rising = by (any_directory ns q rising.1) (eqb n.number q) refl
  where
    or_nothing : (b : Bool) → (b || false) ≡ b
    or_nothing true = refl
    or_nothing false = refl

    by : is_dir_in ns q ≡ dir_of (element (λ n. n.number) (λ n. n) ns q) → (b : Bool) → eqb n.number q ≡ b
        → ((eqb n.number q && is_dir n.kind) || is_dir_in ns q) ≡ dir_of (cond (eqb n.number q) (Some n) (element (λ n. n.number) (λ n. n) ns q))
    by rest true here =
        ap (λ b. (b && is_dir n.kind) || is_dir_in ns q) here
        ∙ ap (λ o. is_dir n.kind || o) (rest ∙ ap dir_of (subst (λ k. element (λ n. n.number) (λ n. n) ns k ≡ None) (eqb-true n.number q here) (none_above (λ n. n.number) (λ n. n) n.number ns rising.0)))
        ∙ or_nothing (is_dir n.kind)
        ∙ sym (ap (λ b. dir_of (cond b (Some n) (element (λ n. n.number) (λ n. n) ns q))) here)
    by rest false off =
        ap (λ b. (b && is_dir n.kind) || is_dir_in ns q) off ∙ rest
        ∙ sym (ap (λ b. dir_of (cond b (Some n) (element (λ n. n.number) (λ n. n) ns q))) off)

bare_directory : (kind : Kind) → is_some (listing_in (bare_content kind)) ≡ is_dir kind
bare_directory (kinds.File size blocks) = refl
bare_directory (kinds.Dir entries) = refl
bare_directory (kinds.Link target) = refl

abbrev bare : List Node → Node → Inode
bare all n = bare_inode (times_named all n.number) n

-- when all nodes are placed, none has its entries
pub named-none : (all : List Node) (table : Table) (places : Places) → IsStrictlySortedBy nat_cmp (numbers all) → ArePlaced all all table places → AreNamed all [] all table places
named-none all table places rising placed = record {
  nodes = placed.nodes;
  directories = λ q.
      ap (λ m. is_directory m q) placed.nodes
      ∙ ap (λ o. is_some (in_inode listing_in o)) (get-keyed (λ n. n.number) (bare all) all q)
      ∙ in_option (element (λ n. n.number) (bare all) all q) ∙ sym (any_directory all q rising);
  distinct = placed.distinct;
  references = placed.references;
  leads = placed.leads;
}
  where
    in_option : (o : Option Node) → is_some (in_inode listing_in (option_map (bare all) o)) ≡ dir_of o
    in_option None = refl
    in_option (Some n) = bare_directory n.kind

module _ (all : List Node) (i : ℕ) (node : Node) (short : i < length all) (is : node ≡ get_or all i node) (rising : IsStrictlySortedBy nat_cmp (numbers all))
    (table : Table) (places : Places) (named : AreNamed all (take i all) (drop i all) table places) where
  abbrev before_here : List (ℕ × Inode)
  before_here = map (loaded_entry all) (take i all)

  abbrev after_here : List (ℕ × Inode)
  after_here = map (bare_entry all) (drop (i + 1) all)

  abbrev bare_here : Inode
  bare_here = bare_inode (times_named all node.number) node

  absent_here : maps.find nat_cmp node.number before_here ≡ None
  absent_here =
      absent-before (λ n. n.number) (loaded_inode all) (take i all) node (drop (i + 1) all)
      (subst (λ ns. IsStrictlySortedBy nat_cmp (numbers ns)) (sym (split-at all i node short is)) rising)

  -- the nodes, split at this one
  nodes_here : nodes_of table ≡ from_entries (before_here ++ bare_entry all node ∷ after_here)
  nodes_here = named.nodes ∙ ap (λ ns. from_entries (before_here ++ map (bare_entry all) ns)) (drop-next all i node short is)

  nodes_next : from_entries {R = nat_cmp} (before_here ++ loaded_entry all node ∷ after_here) ≡ from_entries (map (loaded_entry all) (take (i + 1) all) ++ after_here)
  nodes_next =
      ap from_entries (
      push before_here (loaded_entry all node) after_here
      ∙ ap (λ es. es ++ after_here) (sym (map-append (loaded_entry all) (take i all) (node ∷ [])) ∙ ap (map (loaded_entry all)) (sym (take-next all i node short is))))
    where
      push : (xs : List (ℕ × Inode)) (x : ℕ × Inode) (ys : List (ℕ × Inode)) → xs ++ x ∷ ys ≡ (xs ++ x ∷ []) ++ ys
      push [] x ys = refl
      push (y ∷ xs) x ys = ap (λ r. y ∷ r) (push xs x ys)

  -- a file or a link stays as it is
  pub named-plain : is_dir node.kind ≡ false → AreNamed all (take (i + 1) all) (drop (i + 1) all) table places
  named-plain plain = record {
    nodes = nodes_here ∙ ap (λ e. from_entries (before_here ++ e ∷ after_here)) (bare-loaded all node plain) ∙ nodes_next;
    directories = named.directories;
    distinct = named.distinct;
    references = named.references;
    leads = named.leads;
  }

  found_here : get (nodes_of table) node.number ≡ Some bare_here
  found_here = ap (λ m. get m node.number) nodes_here ∙ get-within before_here after_here node.number bare_here absent_here

  abbrev change : ℕ → List DirEntry → Inode → Inode
  change parent entries inode = filled (directory_links table entries) (loaded_listing parent entries) inode

  -- a directory gets its entries
  pub named-directory : (new : Table) (key parent : ℕ) (entries : List DirEntry) → node.kind ≡ kinds.Dir entries → parent_in all node.number ≡ Some parent → number_of_key table key ≡ node.number
      → IsAddition table new key (filled (directory_links table entries) (loaded_listing parent entries)) → AreNamed all (take (i + 1) all) (drop (i + 1) all) new places
  named-directory new key parent entries kind above here step = record {
    nodes =
        changed ∙ ap (λ m. insert m node.number (change parent entries bare_here)) nodes_here
        ∙ insert-within before_here after_here node.number bare_here (change parent entries bare_here) absent_here
        ∙ ap (λ n. from_entries (before_here ++ (node.number, n) ∷ after_here)) same
        ∙ nodes_next;
    directories = λ q. elim (cases_eq q node.number) [
      | inl at ↦
          ap (λ m. is_directory m q) changed
          ∙ ap (λ n. is_directory (insert (nodes_of table) node.number (change parent entries bare_here)) n) at
          ∙ ap (λ o. is_some (in_inode listing_in o)) (get-insert_same (nodes_of table) node.number (change parent entries bare_here))
          ∙ sym (ap (is_dir_in all) at ∙ sym (named.directories node.number) ∙ ap (λ o. is_some (in_inode listing_in o)) found_here ∙ ap (λ k. is_some (listing_in (bare_content k))) kind)
      | inr apart ↦
          ap (λ m. is_directory m q) changed
          ∙ ap (λ o. is_some (in_inode listing_in o)) (get-insert_other (nodes_of table) node.number (change parent entries bare_here) q apart)
          ∙ named.directories q
    ];
    distinct = distinct-kept table new step.numbers named.distinct;
    references = step.references named.references;
    leads = λ number other at. leads-kept table new step.numbers _ (named.leads number other at);
  }
    where
      changed : nodes_of new ≡ insert (nodes_of table) node.number (change parent entries bare_here)
      changed = step.nodes ∙ ap (λ n. update (nodes_of table) n (change parent entries)) here ∙ update-found (nodes_of table) node.number (change parent entries) bare_here found_here

      same : change parent entries bare_here ≡ loaded_inode all node
      same = filled-loaded all node entries (directory_links table entries) parent kind
          (ap (λ n. 2 + n) (count_same (λ n. is_directory (nodes_of table) n) (is_dir_in all) named.directories entries)) above

-- What a valid tree has for a directory

module _ (all : List Node) (valid : IsValidTree (tree_of all)) (places : Places) (found : All (λ n. HasPlace places n.number) all) where
  pub has-place : (q : ℕ) → Contains (numbers all) q → HasPlace places q
  has-place q there =
      let n = Contains-map (λ n. n.number) all q there in
      subst (HasPlace places) n.2 (All-contains (λ n. HasPlace places n.number) all n.0 found n.1)

  pub root-place : HasPlace places root
  root-place =
      let first = valid.begins in
      subst (HasPlace places) first.2 (All-contains (λ n. HasPlace places n.number) all first.0 found (begins all first.0 first.1))
    where
      begins : (ns : List Node) (n : Node) → slice_get ns 0 ≡ Some n → Contains ns n
      begins [] n at = absurd (not_none n (sym at))
      begins (m ∷ ns) n at = (0, omega arith, (let h : Some m ≡ Some n = at in cc))

  module _ (namings : Namings) (are : AreNamings namings all) where
    pub told-parent : (q : ℕ) → parent_told namings q ≡ parent_in all q
    told-parent q = ap (λ o. cond (eqb q root) (Some root) o) (are.first q)

    module _ (i : ℕ) (node : Node) (short : i < length all) (is : node ≡ get_or all i node) (entries : List DirEntry) (kind : node.kind ≡ kinds.Dir entries) where
      pub some-parent : IsSomeAnd (parent_told namings node.number) (HasPlace places)
      some-parent = subst (λ o. IsSomeAnd o (HasPlace places)) (sym (told-parent node.number)) (by (cases_eq node.number root))
        where
          by : (node.number ≡ root) ⊎ (node.number ≢ root) → IsSomeAnd (parent_in all node.number) (HasPlace places)
          by (inl top) = subst (λ b. IsSomeAnd (cond b (Some root) (option_map (λ n. n.number) (find (λ n. ltb 0 (names_in (entries_of n.kind) node.number)) all))) (HasPlace places))
              (sym (eq-eqb node.number root top)) root-place
          by (inr low) =
              let right = at-index (IsNamedRightly all) all i node short is valid.named in
              let one = right.1 low (ap is_dir kind) in
              let namer = some_one (λ n. names_in (entries_of n.kind) node.number) all (omega (arith, one)) in
              subst (λ b. IsSomeAnd (cond b (Some root) (option_map (λ n. n.number) (find (λ n. ltb 0 (names_in (entries_of n.kind) node.number)) all))) (HasPlace places))
              (sym (ne_eqb node.number root low))
              (subst (λ o. IsSomeAnd (option_map (λ n. n.number) o) (HasPlace places)) (sym namer.3) (All-contains (λ n. HasPlace places n.number) all namer.0 found namer.1))

      pub entries-found : All (λ e. HasPlace places e.node) entries
      entries-found =
          All-weaker (λ e. Contains (numbers all) e.node) (λ e. HasPlace places e.node) (λ e there. has-place e.node there) entries
          (subst (λ k. All (λ e. Contains (numbers all) e.node) (entries_of k)) kind (at-index (λ n. All (λ e. Contains (numbers all) e.node) (entries_of n.kind)) all i node short is valid.targets))

      pub entries-valid : AreEntries entries
      entries-valid = subst IsKind kind (at-index IsNode all i node short is valid.each).kind

      pub entries-few : length entries ≤ entry_limit
      entries-few =
          let part = get_or-le-sum_by (λ n. length (entries_of n.kind)) all i node short in
          let same = ap (λ n. length (entries_of n.kind)) is in
          let here = ap (λ k. length (entries_of k)) kind in
          let few = valid.entries in
          omega (arith, part, same, here, few)
