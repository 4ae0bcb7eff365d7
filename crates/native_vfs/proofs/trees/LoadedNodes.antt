-- The nodes of a tree come into the table, first without their entries, and then each directory gets them.
use Rattle.std.proofs.Common.{◌≡◌, ◌<◌, ◌+◌, ℕ, Bool, true, false, cond, eqb, List, [], ◌∷◌, ◌++◌, map, length, take, drop, get_or, Some, None, is_some, IsSome, refl, sym, ap, subst, ◌∙◌, arith}
use Rattle.std.specs.Prelude.{All}
use Rattle.std.specs.List.Sorted.{IsStrictlySortedBy}
use Rattle.std.specs.BTreeMap as tree
use Rattle.std.specs.Ordering.{nat_cmp, is_eq}
use Rattle.std.specs.Cmp.{nat_cmp_total}
use Rattle.std.specs.Map.{lookup}
use Rattle.std.specs.FinMap as maps
use Rattle.std.specs.FinMap.{get, insert, from_entries, get-empty, get-from_entries, from_entries_push, nat_cmp-IsAntisymmetric}
use Rattle.std.proofs.lemmas.Bool.{eq-eqb, eqb-true}
use Rattle.std.proofs.lemmas.List.{map-append}
use Rattle.std.proofs.lemmas.List.Elements.{All-nil, All-push, All-weaker}
use Rattle.std.proofs.lemmas.List.Sums.{count_by_more_yes, count_by_more_no}
use Rattle.slab.specs.Slab.{get as slab_get, with_value}
use Rattle.slab.proofs.SlabLemmas.{Updates-with_value}
use Rattle.kernel_core.specs.Nodes.{Inode, update, is_directory}
use Rattle.kernel_core.specs.ValidTree.{times_named, numbers}
use Rattle.kernel_core.specs.declared.tree.Node.{Node}
use Rattle.kernel_core.specs.declared.tree.DirEntry.{DirEntry}
use Rattle.directory_names.specs.Names.{NamedNode}
use Rattle.native_vfs.specs.inside.Loading.{Places, HasPlace, PlacesLead, IsKeyed, bare_inode, bare_entry, filled, ArePlaced, directory_links}
use Rattle.native_vfs.specs.inside.Steps.{IsAddition, IsInsertion}
use Rattle.native_vfs.specs.inside.Stored.{Table, nodes_of, inode_of, listing_of, number_of_key, HasDistinctNumbers, Leads, DirectoryLeads}
use Rattle.native_vfs.specs.declared.stored.Stored.{Stored}
use Rattle.native_vfs.specs.declared.stored.StoredDirectory.{StoredDirectory}
use Rattle.native_vfs.specs.declared.stored.StoredContent.TheVariants as kept
use Rattle.native_vfs.proofs.trees.LoadedLists.{split-at, take-next, absent-before}
use Rattle.file_system_laws.proofs.Lookups.{same_nodes}
use Rattle.native_vfs.proofs.tables.Lookups.{tied}
use Rattle.native_vfs.proofs.tables.Tables.{same_answer, same_some, not_none, node-found, number-there, updates-nodes, updates-numbers, updates-references, updates-room}

-- What a place leads to

module _ (table : Table) (places : Places) (leads : PlacesLead table places) where
  pub place-live : (number key : ℕ) → tree.get nat_cmp places number ≡ Some key → IsSome (slab_get table key)
  place-live number key at = let l = leads number key at in ap is_some l.1

  pub place-number : (number key : ℕ) → tree.get nat_cmp places number ≡ Some key → number_of_key table key ≡ number
  place-number number key at = let l = leads number key at in number-there table key l.0 l.1 ∙ l.2

  -- names with the keys of their places lead to their nodes
  pub names-lead : (names : List NamedNode) → All (IsKeyed places) names → All (λ e. Leads table (record { number = e.number; key = e.key })) names
  names-lead names keyed = All-weaker _ _ (λ e at. leads e.number e.key at) names keyed

-- Links of a directory

module _ (table : Table) (entries : List DirEntry) (i : ℕ) (next : DirEntry) (short : i < length entries) (is : next ≡ get_or entries i next) where
  pub links-more : is_directory (nodes_of table) next.node ≡ true → directory_links table (take (i + 1) entries) ≡ directory_links table (take i entries) + 1
  links-more is_one =
      let more = count_by_more_yes (λ e. is_directory (nodes_of table) e.node) entries i next short (ap (λ e. is_directory (nodes_of table) e.node) (sym is) ∙ is_one) in
      omega (arith, more)

  pub links-same : is_directory (nodes_of table) next.node ≡ false → directory_links table (take (i + 1) entries) ≡ directory_links table (take i entries)
  links-same is_none =
      let same = count_by_more_no (λ e. is_directory (nodes_of table) e.node) entries i next short (ap (λ e. is_directory (nodes_of table) e.node) (sym is) ∙ is_none) in
      omega (arith, same)

-- A directory is filled

pub fill-step : (table : Table) (key : ℕ) (before : Stored) (links : ℕ) (directory : StoredDirectory) → slab_get table key ≡ Some before → HasDistinctNumbers table → DirectoryLeads table directory
    → IsAddition table (with_value table key (record before { links = links; content = kept.Directory directory })) key (filled links (listing_of directory))
fill-step table key before links directory at distinct leads =
    let after : Stored = record before { links = links; content = kept.Directory directory } in
    let updates = Updates-with_value table key after (ap is_some at) in
    record {
      nodes = updates-nodes table (with_value table key after) key before after at updates refl (filled links (listing_of directory)) distinct refl
          ∙ ap (λ n. update (nodes_of table) n (filled links (listing_of directory))) (sym (number-there table key before at));
      numbers = updates-numbers table (with_value table key after) key before after at updates refl;
      references = updates-references table (with_value table key after) key before after at updates refl (λ _. leads);
      room = λ other apart. updates-room table (with_value table key after) key before after at updates refl other (λ e. absurd (apart e));
    }

-- Nodes are placed

module _ (table : Table) (none : (key : ℕ) → slab_get table key ≡ None) where
  nothing : (number : ℕ) (inode : Inode) → get (nodes_of table) number ≡ Some inode → ⊥
  nothing number inode found = let s = node-found table number inode found in not_none s.node (sym s.at ∙ none s.key)

  -- an empty table has no node
  pub placed-none : (all : List Node) (places : Places) → places.entries ≡ [] → ArePlaced all [] table places
  placed-none all places empty_places = record {
    nodes = same_nodes _ _ (λ q. same_answer _ _ (λ i found. absurd (nothing q i found)) (λ i found. absurd (not_none i (sym found ∙ get-empty nat_cmp q))));
    distinct = λ key other node second at. absurd (not_none node (sym at ∙ none key));
    references = λ key node at. absurd (not_none node (sym at ∙ none key));
    leads = λ number key at. absurd (not_none key (sym at ∙ ap (lookup (λ k. is_eq (nat_cmp number k))) empty_places));
    found = All-nil (λ n. HasPlace places n.number);
  }

rising_split : (all : List Node) (i : ℕ) (node : Node) → i < length all → node ≡ get_or all i node → IsStrictlySortedBy nat_cmp (numbers all)
    → IsStrictlySortedBy nat_cmp (map (λ n. n.number) (take i all ++ node ∷ drop (i + 1) all))
rising_split all i node short is rising = subst (λ ns. IsStrictlySortedBy nat_cmp (numbers ns)) (sym (split-at all i node short is)) rising

module _ (all : List Node) (i : ℕ) (node : Node) (short : i < length all) (is : node ≡ get_or all i node) (rising : IsStrictlySortedBy nat_cmp (numbers all))
    (table : Table) (places : Places) (placed : ArePlaced all (take i all) table places) where
  absent_node : maps.find nat_cmp node.number (map (bare_entry all) (take i all)) ≡ None
  absent_node =
      absent-before (λ n. n.number) (λ n. bare_inode (times_named all n.number) n) (take i all) node (drop (i + 1) all) (rising_split all i node short is rising)

  -- the next number is a new one
  pub placed-new : get (nodes_of table) node.number ≡ None
  placed-new = ap (λ m. get m node.number) placed.nodes ∙ get-from_entries nat_cmp_total (map (bare_entry all) (take i all)) node.number ∙ absent_node

  -- the next node comes in
  pub placed-next : (new : Table) (key : ℕ) (stored : Stored) (more : Places) → IsInsertion table new key stored → stored.number ≡ node.number
      → inode_of stored ≡ bare_inode (times_named all node.number) node
      → ((q : ℕ) → tree.get nat_cmp more q ≡ cond (is_eq (nat_cmp node.number q)) (Some key) (tree.get nat_cmp places q))
      → ArePlaced all (take (i + 1) all) new more
  placed-next new key stored more inserts numbered same puts = record {
    nodes =
        inserts.nodes ∙ ap (λ n. insert (nodes_of table) n (inode_of stored)) numbered ∙ ap (insert (nodes_of table) node.number) same
        ∙ ap (λ m. insert m node.number (bare_inode (times_named all node.number) node)) placed.nodes
        ∙ sym (from_entries_push nat_cmp_total nat_cmp-IsAntisymmetric (map (bare_entry all) (take i all)) node.number (bare_inode (times_named all node.number) node) absent_node)
        ∙ ap from_entries (sym (map-append (bare_entry all) (take i all) (node ∷ [])) ∙ ap (map (bare_entry all)) (sym (take-next all i node short is)));
    distinct = inserts.distinct;
    references = inserts.references placed.references;
    leads = λ number other h. leads number other (eqb node.number number) refl (sym (puts number ∙ ap (λ b. cond b (Some key) (tree.get nat_cmp places number)) (tied node.number number)) ∙ h);
    found = subst (All (λ n. HasPlace more n.number)) (sym (take-next all i node short is))
        (All-push (λ n. HasPlace more n.number) (take i all) node
        (All-weaker (λ n. HasPlace places n.number) (λ n. HasPlace more n.number) (λ n some. kept_place n.number (eqb node.number n.number) refl some) (take i all) placed.found)
        (ap is_some (put node.number true (eq-eqb node.number node.number refl))));
  }
    where
      put : (q : ℕ) (b : Bool) → eqb node.number q ≡ b → tree.get nat_cmp more q ≡ cond b (Some key) (tree.get nat_cmp places q)
      put q b at = puts q ∙ ap (λ b. cond b (Some key) (tree.get nat_cmp places q)) (tied node.number q ∙ at)

      leads : (number other : ℕ) (b : Bool) → eqb node.number number ≡ b → cond (eqb node.number number) (Some key) (tree.get nat_cmp places number) ≡ Some other
          → Leads new (record { number = number; key = other })
      leads number other true here h =
          let same_key : key ≡ other = same_some key other (sym (ap (λ b. cond b (Some key) (tree.get nat_cmp places number)) here) ∙ h) in
          (stored, ap (slab_get new) (sym same_key) ∙ inserts.updates.changed, numbered ∙ eqb-true node.number number here)
      leads number other false apart h =
          let l = placed.leads number other (sym (ap (λ b. cond b (Some key) (tree.get nat_cmp places number)) apart) ∙ h) in
          (l.0, inserts.updates.others other (λ e. not_none l.0 (sym l.1 ∙ ap (slab_get table) e ∙ inserts.free)) ∙ l.1, l.2)

      kept_place : (q : ℕ) (b : Bool) → eqb node.number q ≡ b → HasPlace places q → HasPlace more q
      kept_place q true here some = ap is_some (put q true here)
      kept_place q false apart some = ap is_some (put q false apart) ∙ some
