-- A valid file tree is loaded as a file system.
use Rattle.std.proofs.Common.{◌≡◌, ◌≢◌, ◌≤◌, ◌+◌, ℕ, zero, suc, max, Bool, true, false, cond, eqb, ltb, List, [], ◌∷◌, Option, Some, None, is_some, get_or, refl, sym, ap, subst, ◌∙◌, arith, inl, inr}
use Rattle.std.specs.Int.{w64}
use Rattle.std.specs.Prelude.{ℤ, pos, negsuc, FitsSigned, map, fold, find, length, sum_by, count_by, All, Contains, option_map, slice_get, ◌&&◌, ◌||◌}
use Rattle.std.specs.List.{AllByRecursion}
use Rattle.std.specs.List.Sorted.{IsStrictlySortedBy}
use Rattle.std.specs.Ordering.{nat_cmp}
use Rattle.std.specs.FinMap.{get, len, from_entries}
use Rattle.std.proofs.lemmas.Bool.{cases_eq, ne_eqb, eq-eqb, eqb-true, false≢true}
use Rattle.std.proofs.lemmas.Int.{ints}
use Rattle.std.proofs.lemmas.List.Elements.{All-contains, Contains-get_or, All-weaker, recursion_from_All, All-from_recursion}
use Rattle.kernel_core.specs.FileContent.{IsContent, IsBlock}
use Rattle.kernel_core.specs.Nodes.{Inode, Listing, listing_at, listing_in, in_inode, is_directory, entries_in}
use Rattle.kernel_core.specs.Totals.{total, content_entries, content_blocks, live_entries, live_blocks}
use Rattle.kernel_core.specs.FileSystem.{IsFileSystem, IsLive, IsLiveContent, IsLiveEntry, HasParent, IsBelowRoot, IsBelowRootBy, IsTime, name_count, parent_at, parent_of, subdirectories}
use Rattle.kernel_core.specs.LoadedTree.{loaded, loaded_inode, content_of, links_of, parent_in, is_dir_in, greatest_of, nanoseconds}
use Rattle.kernel_core.specs.ValidTree.{IsValidTree, IsNode, IsKind, IsEntry, IsNamedRightly, IsReached, IsReachedIn, numbers, names_in, times_named, entries_of, blocks_of, is_dir, all_entries, all_blocks, root, greatest_cookie}
use Rattle.kernel_core.specs.declared.tree.Tree.{Tree}
use Rattle.kernel_core.specs.declared.tree.Node.{Node}
use Rattle.kernel_core.specs.declared.tree.Kind.{Kind}
use Rattle.kernel_core.specs.declared.tree.Kind.TheVariants as kinds
use Rattle.kernel_core.specs.declared.tree.Block.{Block}
use Rattle.kernel_core.specs.declared.tree.DirEntry.{DirEntry}
use Rattle.file_system_laws.proofs.KeyedLists.{element, get-keyed, element-found, element-here, none_above, len-keyed, total-keyed, Contains-map, only_one, some_one, contained-le-sum, sum_by-same}
use Rattle.file_system_laws.proofs.Lookups.{parent_found, directory_found}

-- What a kind is as content

kind_entries : (nodes : List Node) (number : ℕ) (kind : Kind) → content_entries (content_of nodes number kind) ≡ entries_of kind
kind_entries nodes number (kinds.File size blocks) = refl
kind_entries nodes number (kinds.Dir entries) = refl
kind_entries nodes number (kinds.Link target) = refl

kind_listing : (nodes : List Node) (number : ℕ) (kind : Kind) → entries_in (listing_in (content_of nodes number kind)) ≡ entries_of kind
kind_listing nodes number (kinds.File size blocks) = refl
kind_listing nodes number (kinds.Dir entries) = refl
kind_listing nodes number (kinds.Link target) = refl

kind_directory : (nodes : List Node) (number : ℕ) (kind : Kind) → is_some (listing_in (content_of nodes number kind)) ≡ is_dir kind
kind_directory nodes number (kinds.File size blocks) = refl
kind_directory nodes number (kinds.Dir entries) = refl
kind_directory nodes number (kinds.Link target) = refl

kind_parent : (nodes : List Node) (number : ℕ) (kind : Kind) → is_dir kind ≡ true → parent_of (listing_in (content_of nodes number kind)) ≡ parent_in nodes number
kind_parent nodes number (kinds.File size blocks) dir = absurd (false≢true dir)
kind_parent nodes number (kinds.Dir entries) dir = refl
kind_parent nodes number (kinds.Link target) dir = absurd (false≢true dir)

-- only a directory has entries
named_in_directory : (kind : Kind) (q : ℕ) → 1 ≤ names_in (entries_of kind) q → is_dir kind ≡ true
named_in_directory (kinds.File size blocks) q some = absurd (omega arith)
named_in_directory (kinds.Dir entries) q some = refl
named_in_directory (kinds.Link target) q some = absurd (omega arith)

-- Times

time_fits : (t : ℤ) → FitsSigned w64 t → IsTime (nanoseconds t)
time_fits (pos n) fits = omega (arith, ints)
time_fits (negsuc n) fits = omega (arith, ints)

-- Cookies

greatest_from : (entries : List DirEntry) (start : ℕ) → start ≤ fold max start (map (λ e. e.cookie) entries)
greatest_from [] start = omega arith
greatest_from (e ∷ es) start = let a = greatest_from es (max start e.cookie) in omega (arith, a)

greatest_past : (entries : List DirEntry) (start : ℕ) → AllByRecursion (λ e. e.cookie ≤ fold max start (map (λ e. e.cookie) entries)) entries
greatest_past [] start = tt
greatest_past (e ∷ es) start = (let a = greatest_from es (max start e.cookie) in omega (arith, a), greatest_past es (max start e.cookie))

greatest_high : (entries : List DirEntry) (start bound : ℕ) → start ≤ bound → AllByRecursion (λ e. e.cookie ≤ bound) entries → fold max start (map (λ e. e.cookie) entries) ≤ bound
greatest_high [] start bound low all = low
greatest_high (e ∷ es) start bound low all = greatest_high es (max start e.cookie) bound (let a = all.0 in omega (arith, a, low)) all.1

-- Directories by their numbers

abbrev dir_of : Option Node → Bool
dir_of None = false
dir_of (Some n) = is_dir n.kind

any_directory : (nodes : List Node) (q : ℕ) → IsStrictlySortedBy nat_cmp (numbers nodes) → is_dir_in nodes q ≡ dir_of (element (λ n. n.number) (λ n. n) nodes q)
unfolding IsStrictlySortedBy
any_directory [] q rising = refl
any_directory (n ∷ ns) q rising =
    elim (eqb n.number q) as (λ b. eqb n.number q ≡ b → ((b && is_dir n.kind) || is_dir_in ns q) ≡ dir_of (cond b (Some n) (element (λ n. n.number) (λ n. n) ns q))) [
      | true ↦ λ here. ap (λ o. is_dir n.kind || o) (any_directory ns q rising.1 ∙ ap dir_of (subst (λ k. element (λ n. n.number) (λ n. n) ns k ≡ None) (eqb-true n.number q here) (none_above (λ n. n.number) (λ n. n) n.number ns rising.0))) ∙ or_nothing (is_dir n.kind)
      | false ↦ λ off. any_directory ns q rising.1
    ] refl
  where
    or_nothing : (b : Bool) → (b || false) ≡ b
    or_nothing true = refl
    or_nothing false = refl

module _ (tree : Tree) (valid : IsValidTree tree) where
  get-loaded : (q : ℕ) → get (loaded tree) q ≡ option_map (loaded_inode tree.nodes) (element (λ n. n.number) (loaded_inode tree.nodes) tree.nodes q)
  unfolding loaded
  get-loaded q = get-keyed (λ n. n.number) (loaded_inode tree.nodes) tree.nodes q

  -- each node of the tree is found
  at : (n : Node) → Contains tree.nodes n → get (loaded tree) n.number ≡ Some (loaded_inode tree.nodes n)
  at n c = get-loaded n.number ∙ ap (option_map (loaded_inode tree.nodes)) (element-here (λ n. n.number) (loaded_inode tree.nodes) tree.nodes n valid.rising c)

  -- and no other
  from : (q : ℕ) (i : Inode) → get (loaded tree) q ≡ Some i → (n : Node) × Contains tree.nodes n × (n.number ≡ q) × (loaded_inode tree.nodes n ≡ i)
  from q i e = go (element (λ n. n.number) (loaded_inode tree.nodes) tree.nodes q) refl (sym (get-loaded q) ∙ e)
    where
      go : (o : Option Node) → element (λ n. n.number) (loaded_inode tree.nodes) tree.nodes q ≡ o → option_map (loaded_inode tree.nodes) o ≡ Some i
          → (n : Node) × Contains tree.nodes n × (n.number ≡ q) × (loaded_inode tree.nodes n ≡ i)
      go None f h = absurd (let g : None ≡ Some i = h in cc)
      go (Some n) f h =
          let r = element-found (λ n. n.number) (loaded_inode tree.nodes) tree.nodes q n f in
          let s : Some (loaded_inode tree.nodes n) ≡ Some i = h in
          (n, r.1, r.0, cc)

  total-loaded : (amount : Inode → ℕ) → total amount (loaded tree) ≡ sum_by (λ n. amount (loaded_inode tree.nodes n)) tree.nodes
  unfolding loaded
  total-loaded amount = total-keyed (λ n. n.number) (loaded_inode tree.nodes) amount tree.nodes valid.rising

  len-loaded : len (loaded tree) ≡ length tree.nodes
  unfolding loaded
  len-loaded = len-keyed (λ n. n.number) (loaded_inode tree.nodes) tree.nodes valid.rising

  names : (q : ℕ) → name_count (loaded tree) q ≡ times_named tree.nodes q
  names q =
      total-loaded (λ i. names_in (content_entries i.content) q)
      ∙ sum_by-same (λ (n : Node). names_in (content_entries (content_of tree.nodes n.number n.kind)) q) (λ n. names_in (entries_of n.kind) q) tree.nodes
      (λ k d short. let n = get_or tree.nodes k d in ap (λ es. names_in es q) (kind_entries tree.nodes n.number n.kind))

  entries_same : live_entries (loaded tree) ≡ all_entries tree.nodes
  entries_same =
      total-loaded (λ i. length (content_entries i.content))
      ∙ sum_by-same (λ (n : Node). length (content_entries (content_of tree.nodes n.number n.kind))) (λ n. length (entries_of n.kind)) tree.nodes
      (λ k d short. let n = get_or tree.nodes k d in ap length (kind_entries tree.nodes n.number n.kind))

  blocks_kept : (n : Node) → IsNode n → content_blocks (content_of tree.nodes n.number n.kind) ≡ length (blocks_of n.kind)
  blocks_kept n is = go n.kind is.kind
    where
      go : (kind : Kind) → IsKind kind → content_blocks (content_of tree.nodes n.number kind) ≡ length (blocks_of kind)
      go (kinds.File size blocks) k = len-keyed (λ b. b.index) (λ b. b.bytes) blocks (k.1).rising
      go (kinds.Dir entries) k = refl
      go (kinds.Link target) k = refl

  blocks_same : live_blocks (loaded tree) ≡ all_blocks tree.nodes
  blocks_same =
      total-loaded (λ i. content_blocks i.content)
      ∙ sum_by-same (λ (n : Node). content_blocks (content_of tree.nodes n.number n.kind)) (λ n. length (blocks_of n.kind)) tree.nodes
      (λ k d short. blocks_kept _ (valid.each k d short))

  listing_of : (n : Node) → Contains tree.nodes n → listing_at (loaded tree) n.number ≡ listing_in (content_of tree.nodes n.number n.kind)
  listing_of n c = ap (in_inode listing_in) (at n c)

  directory_of : (n : Node) → Contains tree.nodes n → is_directory (loaded tree) n.number ≡ is_dir n.kind
  directory_of n c = ap is_some (listing_of n c) ∙ kind_directory tree.nodes n.number n.kind

  right : (n : Node) → Contains tree.nodes n → IsNamedRightly tree.nodes n
  right n c = All-contains (IsNamedRightly tree.nodes) tree.nodes n valid.named c

  -- an entry of a node lowers it: it is not the root
  lower : (n p : Node) → Contains tree.nodes n → Contains tree.nodes p → 1 ≤ names_in (entries_of p.kind) n.number → n.number ≢ root
  lower n p cn cp some top =
      let none = (right n cn).0 top in
      let one = contained-le-sum (λ m. names_in (entries_of m.kind) n.number) tree.nodes p cp in
      absurd (omega (arith, none, one, some))

  -- the parent of a directory is the node that names it
  parent_names : (n p : Node) → Contains tree.nodes n → is_dir n.kind ≡ true → Contains tree.nodes p → 1 ≤ names_in (entries_of p.kind) n.number
      → parent_at (loaded tree) n.number ≡ Some p.number
  parent_names n p cn dir cp some =
      let low = lower n p cn cp some in
      let one = (right n cn).1 low dir in
      ap parent_of (listing_of n cn) ∙ kind_parent tree.nodes n.number n.kind dir
      ∙ ap (λ b. cond b (Some root) (option_map (λ n. n.number) (find (λ m. ltb 0 (names_in (entries_of m.kind) n.number)) tree.nodes))) (ne_eqb n.number root low)
      ∙ ap (option_map (λ n. n.number)) (only_one (λ m. names_in (entries_of m.kind) n.number) tree.nodes p one cp some)

  root_parent : (n : Node) → Contains tree.nodes n → is_dir n.kind ≡ true → n.number ≡ root → parent_at (loaded tree) n.number ≡ Some root
  root_parent n cn dir top =
      ap parent_of (listing_of n cn) ∙ kind_parent tree.nodes n.number n.kind dir
      ∙ ap (λ b. cond b (Some root) (option_map (λ n. n.number) (find (λ m. ltb 0 (names_in (entries_of m.kind) n.number)) tree.nodes))) (eq-eqb n.number root top)

  -- the way of names to a directory is its way of parents
  way : (steps : ℕ) (n : Node) → Contains tree.nodes n → is_dir n.kind ≡ true → IsReachedIn tree.nodes steps n.number → IsBelowRootBy steps (loaded tree) n.number
  unfolding IsBelowRootBy
  way zero n cn dir reached = reached
  way (suc steps) n cn dir reached =
      let p = reached.0 in
      (p.number, parent_names n p cn dir reached.1 reached.2, way steps p reached.1 (named_in_directory p.kind n.number reached.2) reached.3)

  directories : (q : ℕ) → is_dir_in tree.nodes q ≡ is_directory (loaded tree) q
  directories q =
      any_directory tree.nodes q valid.rising
      ∙ go (element (λ n. n.number) (loaded_inode tree.nodes) tree.nodes q) ∙ sym (ap (λ o. is_some (in_inode listing_in o)) (get-loaded q))
    where
      go : (o : Option Node) → dir_of o ≡ is_some (in_inode listing_in (option_map (loaded_inode tree.nodes) o))
      go None = refl
      go (Some n) = sym (kind_directory tree.nodes n.number n.kind)

  -- What each node needs

  links_dirs : (entries : List DirEntry) → count_by (λ e. is_dir_in tree.nodes e.node) entries ≡ subdirectories (loaded tree) entries
  links_dirs entries = sum_by-same (λ (e : DirEntry). cond (is_dir_in tree.nodes e.node) 1 0) (λ e. cond (is_directory (loaded tree) e.node) 1 0) entries
      (λ k d short. ap (λ b. cond b 1 0) (directories ((get_or entries k d).node)))

  content_file : (size : ℕ) (blocks : List Block) → IsKind (kinds.File size blocks)
      → IsContent (record { size = size; blocks = from_entries (map (λ b. (b.index, b.bytes)) blocks) })
  content_file size blocks is = record {
    small = is.0;
    blocks = λ index block found. go index block (element (λ b. b.index) (λ b. b.bytes) blocks index) refl (sym (get-keyed (λ b. b.index) (λ b. b.bytes) blocks index) ∙ found);
  }
    where
      go : (index : ℕ) (block : List ℕ) (o : Option Block) → element (λ b. b.index) (λ b. b.bytes) blocks index ≡ o → option_map (λ b. b.bytes) o ≡ Some block → IsBlock size index block
      go index block None f h = absurd (let g : None ≡ Some block = h in cc)
      go index block (Some b) f h =
          let r = element-found (λ b. b.index) (λ b. b.bytes) blocks index b f in
          let s : b.bytes ≡ block = let t : Some b.bytes ≡ Some block = h in cc in
          subst (λ k. IsBlock size k block) r.0 (subst (IsBlock size b.index) s (All-contains (λ b. IsBlock size b.index b.bytes) blocks b (is.1).each r.1))

  module _ (n : Node) (cn : Contains tree.nodes n) where
    is_node : IsNode n
    is_node = All-contains IsNode tree.nodes n valid.each cn

    entry_live : (entries : List DirEntry) → n.kind ≡ kinds.Dir entries → (e : DirEntry) → Contains entries e → IsLiveEntry (loaded tree) n.number (greatest_of entries) e
    entry_live entries kind e ce =
        let targets = subst (λ k. All (λ e. Contains (numbers tree.nodes) e.node) (entries_of k)) kind (All-contains (λ n. All (λ e. Contains (numbers tree.nodes) e.node) (entries_of n.kind)) tree.nodes n valid.targets cn) in
        let m = Contains-map (λ n. n.number) tree.nodes e.node (All-contains (λ e. Contains (numbers tree.nodes) e.node) entries e targets ce) in
        let some : 1 ≤ names_in (entries_of n.kind) (m.0).number =
        subst (λ k. 1 ≤ names_in (entries_of k) (m.0).number) (sym kind)
        (let a = contained-le-sum (λ (x : DirEntry). cond (eqb x.node (m.0).number) 1 0) entries e ce in
        let b = ap {B = ℕ} (λ b. cond b 1 0) (eq-eqb e.node (m.0).number (sym m.2)) in
        omega (arith, a, b)) in
        record {
          past = All-contains (λ x. x.cookie ≤ greatest_of entries) entries e (All-from_recursion (λ x. x.cookie ≤ greatest_of entries) entries (greatest_past entries 2)) ce;
          live = subst (λ q. is_some (get (loaded tree) q) ≡ true) m.2 (ap is_some (at m.0 m.1));
          child = λ dir. subst (λ q. parent_at (loaded tree) q ≡ Some n.number) m.2
              (parent_names m.0 n m.1 (sym (directory_of m.0 m.1) ∙ ap (is_directory (loaded tree)) m.2 ∙ dir) cn some);
        }

    has_parent : (entries : List DirEntry) → n.kind ≡ kinds.Dir entries
        → HasParent (loaded tree) n.number (2 + count_by (λ e. is_dir_in tree.nodes e.node) entries)
        (record { parent = parent_in tree.nodes n.number; greatest = greatest_of entries; entries = entries }) (parent_in tree.nodes n.number)
    has_parent entries kind = elim (cases_eq n.number root) [
      | inl top ↦
          let p : parent_in tree.nodes n.number ≡ Some root = sym (own_parent) ∙ root_parent n cn dir top in
          subst (HasParent (loaded tree) n.number links listing) (sym p) (
            ap (λ k. 2 + k) (links_dirs entries),
            (λ _. (refl, names n.number ∙ (right n cn).0 top)),
            (λ low. absurd (low top)),
          )
      | inr low ↦
          let one = (right n cn).1 low dir in
          let r = some_one (λ m. names_in (entries_of m.kind) n.number) tree.nodes (omega (arith, one)) in
          let p : parent_in tree.nodes n.number ≡ Some (r.0).number = sym (own_parent) ∙ parent_names n r.0 cn dir r.1 r.2 in
          let count : names_in (entries_in (listing_at (loaded tree) (r.0).number)) n.number ≡ 1 =
          ap (λ o. names_in (entries_in o) n.number) (listing_of r.0 r.1) ∙ ap (λ es. names_in es n.number) (kind_listing tree.nodes (r.0).number (r.0).kind)
          ∙ (let a = contained-le-sum (λ m. names_in (entries_of m.kind) n.number) tree.nodes r.0 r.1 in let b = r.2 in omega (arith, a, b, one)) in
          subst (HasParent (loaded tree) n.number links listing) (sym p) (
            ap (λ k. 2 + k) (links_dirs entries),
            (λ top. absurd (low top)),
            (λ _. (names n.number ∙ one, count)),
          )
    ]
      where
        links : ℕ
        links = 2 + count_by (λ e. is_dir_in tree.nodes e.node) entries

        listing : Listing
        listing = record { parent = parent_in tree.nodes n.number; greatest = greatest_of entries; entries = entries }

        dir : is_dir n.kind ≡ true
        dir = ap is_dir kind

        own_parent : parent_at (loaded tree) n.number ≡ parent_in tree.nodes n.number
        own_parent = ap parent_of (listing_of n cn) ∙ kind_parent tree.nodes n.number n.kind dir

    live_content : (kind : Kind) → n.kind ≡ kind → IsKind kind → IsLiveContent (loaded tree) n.number (links_of tree.nodes n.number kind) (content_of tree.nodes n.number kind)
    live_content (kinds.File size blocks) same is = (content_file size blocks is, sym (names n.number))
    live_content (kinds.Dir entries) same is = record {
      low = greatest_from entries 2;
      high = greatest_high entries 2 greatest_cookie (omega arith) (recursion_from_All (λ e. e.cookie ≤ greatest_cookie) entries (All-weaker IsEntry (λ e. e.cookie ≤ greatest_cookie) (λ e i. i.high) entries is.each));
      entries = is;
      each = λ k d short. entry_live entries same (get_or entries k d) (Contains-get_or entries k d short);
      parent = has_parent entries same;
    }
    live_content (kinds.Link target) same is = (is, sym (names n.number))

    -- a node of the tree has a link
    pub linked : (kind : Kind) → n.kind ≡ kind → 1 ≤ links_of tree.nodes n.number kind
    linked (kinds.File size blocks) same = (right n cn).2 (ap is_dir same)
    linked (kinds.Dir entries) same = omega arith
    linked (kinds.Link target) same = (right n cn).2 (ap is_dir same)

    live : IsLive (loaded tree) n.number (loaded_inode tree.nodes n)
    live =
        let time = time_fits n.mtime is_node.mtime in
        record {
          low = is_node.low;
          high = is_node.high;
          mode = is_node.mode;
          access = time;
          modified = time;
          changed = time;
          used = let h = linked n.kind refl in omega (arith, h);
          held = omega arith;
          content = live_content n.kind refl is_node.kind;
        }

  first_contained : (nodes : List Node) (first : Node) → slice_get nodes 0 ≡ Some first → Contains nodes first
  first_contained [] first e = absurd (let f : None ≡ Some first = e in cc)
  first_contained (n ∷ ns) first e = let f : n ≡ first = let g : Some n ≡ Some first = e in cc in (0, omega arith, f)

  pub loaded_is_file_system : IsFileSystem (loaded tree)
  loaded_is_file_system = record {
    top =
        let r = valid.begins in
        subst (λ q. parent_at (loaded tree) q ≡ Some root) r.2 (root_parent r.0 (first_contained tree.nodes r.0 r.1) r.3 r.2);
    each = λ q i found. let r = from q i found in subst (IsLive (loaded tree) q) r.3 (subst (λ k. IsLive (loaded tree) k (loaded_inode tree.nodes r.0)) r.2 (live r.0 r.1));
    below = λ q parent e.
        let l = parent_found (loaded tree) q parent e in
        let d = directory_found (loaded tree) q l.0 l.1 in
        let r = from q d.0 d.1 in
        let dir : is_dir (r.0).kind ≡ true = sym (directory_of r.0 r.1) ∙ ap (is_directory (loaded tree)) r.2 ∙ ap is_some l.1 in
        let reached = All-contains (λ n. IsReached tree.nodes n.number) tree.nodes r.0 valid.reached r.1 in
        subst (IsBelowRoot (loaded tree)) r.2 (reached.0, way reached.0 r.0 r.1 dir reached.1);
    few_nodes = let a = len-loaded in let b = valid.count in omega (arith, a, b);
    few_blocks = let a = blocks_same in let b = valid.blocks in omega (arith, a, b);
    few_entries = let a = entries_same in let b = valid.entries in omega (arith, a, b);
  }
