-- Lists of a tree that are read one after another: the names that the entries give, a directory's names, and a file's blocks.
use Rattle.std.proofs.Common.{◌≡◌, ◌≤◌, ◌<◌, ◌+◌, ◌*◌, ◌/◌, ◌%◌, ◌^◌, ℕ, max, Bool, true, false, cond, eqb, nat_lt, List, [], ◌∷◌, ◌++◌, map, length, take, drop, get_or, Option, Some, None, refl, sym, ap, subst, ◌∙◌, arith}
use Rattle.std.specs.Prelude.{All, option_map, fold, find}
use Rattle.std.specs.declared.cmp.Ordering.TheVariants.{Less}
use Rattle.std.specs.Ordering.{nat_cmp}
use Rattle.std.specs.Cmp.{nat_cmp_total, ranked}
use Rattle.std.specs.List.{AllByRecursion}
use Rattle.std.specs.List.Sorted.{IsStrictlySortedBy}
use Rattle.std.specs.FinMap as maps
use Rattle.std.specs.FinMap.{get, insert, empty, from_entries, retain_keys, get-empty, get-retain_keys, get-from_entries, from_entries_push, nat_cmp-IsAntisymmetric}
use Rattle.std.proofs.lemmas.Bool.{ne_eqb}
use Rattle.std.proofs.lemmas.List.{drop_more, take_more, take-append-drop, map-append}
use Rattle.std.proofs.lemmas.List.Elements.{recursion_from_All, All-get_or, All-push}
use Rattle.std.proofs.lemmas.List.Sums.{sum_by_more, sum_by_more_le_part, count_by-le-length}
use Rattle.kernel_core.specs.FileContent.{FileContent, Blocks, no_content, resized, with_zero_tail, kept_blocks, block_size}
use Rattle.kernel_core.specs.LoadedTree.{greatest_of}
use Rattle.kernel_core.specs.ValidTree.{AreEntries, AreBlocks, IsEntry, all_entries, entries_of, names_in, times_named, entry_limit}
use Rattle.kernel_core.specs.declared.tree.Node.{Node}
use Rattle.kernel_core.specs.declared.tree.Block.{Block}
use Rattle.kernel_core.specs.declared.tree.DirEntry.{DirEntry}
use Rattle.directory_names.specs.Names.{Names, plain, find_name, with_entry}
use Rattle.directory_names.specs.declared.entry.NodeRef.{NodeRef}
use Rattle.directory_names.proofs.LoadLemmas.{absent-next, below-next}
use Rattle.directory_names.proofs.PlainLemmas.{plain-with_entry}
use Rattle.file_system_laws.proofs.Lookups.{len-insert_new, same_nodes}
use Rattle.native_vfs.specs.inside.Loading.{Namings, AreNamings, Notes, times_at, or_namer, first_namer, Places, IsKeyed, AreLoadedNames}
use Rattle.native_vfs.proofs.tables.Lookups.{tied}

module _ {X : Type 0} where
  -- a list, split at an element
  pub split-at : (xs : List X) (i : ℕ) (x : X) → i < length xs → x ≡ get_or xs i x → take i xs ++ x ∷ drop (i + 1) xs ≡ xs
  split-at xs i x short is =
      ap (λ y. take i xs ++ y ∷ drop (i + 1) xs) is ∙ ap (λ r. take i xs ++ r) (sym (drop_more xs i x short)) ∙ take-append-drop i xs

  pub take-next : (xs : List X) (i : ℕ) (x : X) → i < length xs → x ≡ get_or xs i x → take (i + 1) xs ≡ take i xs ++ x ∷ []
  take-next xs i x short is = take_more xs i x short ∙ ap (λ y. take i xs ++ y ∷ []) (sym is)

  pub drop-next : (xs : List X) (i : ℕ) (x : X) → i < length xs → x ≡ get_or xs i x → drop i xs ≡ x ∷ drop (i + 1) xs
  drop-next xs i x short is = drop_more xs i x short ∙ ap (λ y. y ∷ drop (i + 1) xs) (sym is)

  pub at-index : (P : X → Type 0) (xs : List X) (i : ℕ) (x : X) → i < length xs → x ≡ get_or xs i x → All P xs → P x
  at-index P xs i x short is all = subst P (sym is) (All-get_or P xs i x short all)

-- Keys that rise

less_is : (a b : ℕ) → nat_cmp a b ≡ Less → a < b
less_is a b less = ranked a b Less (sym less)

module _ {X V : Type 0} (key : X → ℕ) (value : X → V) where
  of_next : (P : ℕ → Type 0) (before : List X) (next : X) (rest : List X) → AllByRecursion P (map key (before ++ next ∷ rest)) → P (key next)
  of_next P [] next rest all = all.0
  of_next P (x ∷ before) next rest all = of_next P before next rest all.1

  -- the key of an element is none of those before it
  pub absent-before : (before : List X) (next : X) (rest : List X) → IsStrictlySortedBy nat_cmp (map key (before ++ next ∷ rest))
      → maps.find nat_cmp (key next) (map (λ x. (key x, value x)) before) ≡ None
  unfolding IsStrictlySortedBy
  absent-before [] next rest rising = refl
  absent-before (x ∷ before) next rest rising =
      let lower = less_is (key x) (key next) (of_next (λ y. nat_cmp (key x) y ≡ Less) before next rest rising.0) in
      ap (λ b. cond b (Some (value x)) (maps.find nat_cmp (key next) (map (λ y. (key y, value y)) before)))
      (tied (key next) (key x) ∙ ne_eqb (key next) (key x) (λ same. absurd (omega (arith, lower, same))))
      ∙ absent-before before next rest rising.1

-- Which names there are

names-le : (q : ℕ) (node : Node) → names_in (entries_of node.kind) q ≤ length (entries_of node.kind)
names-le q node = count_by-le-length (λ e. eqb e.node q) (entries_of node.kind)

find-push : (p : Node → Bool) (xs : List Node) (x : Node) → option_map (λ n. n.number) (find p (xs ++ x ∷ [])) ≡ or_namer (option_map (λ n. n.number) (find p xs)) (p x) x.number
find-push p [] x = elim (p x) as (λ b. option_map (λ n. n.number) (cond b (Some x) None) ≡ cond b (Some x.number) None) [ true ↦ refl | false ↦ refl ]
find-push p (y ∷ xs) x =
    elim (p y) as (λ b. option_map (λ n. n.number) (cond b (Some y) (find p (xs ++ x ∷ []))) ≡ or_namer (option_map (λ n. n.number) (cond b (Some y) (find p xs))) (p x) x.number) [
      | true ↦ refl
      | false ↦ find-push p xs x
    ]

module _ (nodes : List Node) (i : ℕ) (node : Node) (short : i < length nodes) (is : node ≡ get_or nodes i node) (namings : Namings) (are : AreNamings namings (take i nodes)) where
  pub few-names : all_entries nodes ≤ entry_limit → (q : ℕ) → times_at namings q + length (entries_of node.kind) < 2 ^ 32
  few-names few q =
      let most = sum_by_more_le_part (λ n. names_in (entries_of n.kind) q) (λ n. length (entries_of n.kind)) nodes i node short (names-le q) in
      let same = ap (λ n. length (entries_of n.kind)) is in
      let times = are.times q in
      omega (arith, most, same, times, few)

  pub namings-next : (more : Namings) → Notes namings more node.number (names_in (entries_of node.kind)) → AreNamings more (take (i + 1) nodes)
  namings-next more notes = record {
    times = λ q.
        let added = sum_by_more (λ n. names_in (entries_of n.kind) q) nodes i node short in
        notes.more q ∙ ap (λ t. t + names_in (entries_of node.kind) q) (are.times q)
        ∙ ap (λ n. times_named (take i nodes) q + names_in (entries_of n.kind) q) is ∙ sym added;
    first = λ q.
        notes.first q ∙ ap (λ o. or_namer o (nat_lt 0 (names_in (entries_of node.kind) q)) node.number) (are.first q)
        ∙ sym (find-push (λ n. nat_lt 0 (names_in (entries_of n.kind) q)) (take i nodes) node)
        ∙ ap (λ ns. first_namer ns q) (sym (take-next nodes i node short is));
  }

-- A directory's names

below_greatest : (es : List DirEntry) (start bound : ℕ) → start < bound → AllByRecursion (λ e. e.cookie < bound) es → fold max start (map (λ e. e.cookie) es) < bound
below_greatest [] start bound low all = low
below_greatest (e ∷ es) start bound low all = below_greatest es (max start e.cookie) bound (let h = all.0 in omega (arith, h, low)) all.1

greatest_push : (es : List DirEntry) (e : DirEntry) (start : ℕ) → fold max start (map (λ e. e.cookie) (es ++ e ∷ [])) ≡ max (fold max start (map (λ e. e.cookie) es)) e.cookie
greatest_push [] e start = refl
greatest_push (f ∷ es) e start = greatest_push es e (max start f.cookie)

module _ (entries : List DirEntry) (i : ℕ) (next : DirEntry) (short : i < length entries) (is : next ≡ get_or entries i next) (are : AreEntries entries) where
  split_here : take i entries ++ next ∷ drop (i + 1) entries ≡ entries
  split_here = split-at entries i next short is

  greatest_below : greatest_of (take i entries) < next.cookie
  greatest_below =
      let low = (at-index IsEntry entries i next short is are.each).low in
      below_greatest (take i entries) 2 next.cookie (omega (arith, low))
      (recursion_from_All (λ e. e.cookie < next.cookie) (take i entries) (below-next (take i entries) next (drop (i + 1) entries) (subst AreEntries (sym split_here) are)))

  module _ (places : Places) (names : Names) (loaded : AreLoadedNames places (take i entries) names) where
    pub load-low : names.greatest < next.cookie
    load-low = let h = greatest_below in let g = loaded.greatest_is in omega (arith, h, g)

    pub load-absent : find_name names.entries next.name ≡ None
    load-absent =
        absent-next names.entries next (drop (i + 1) entries)
        (subst AreEntries (sym (ap (λ es. es ++ next ∷ drop (i + 1) entries) loaded.entries_are ∙ split_here)) are)

    pub names-next : (more : Names) (name : List ℕ) (node : NodeRef) → name ≡ next.name → node.number ≡ next.node → IsKeyed places (record { cookie = next.cookie; name = name; number = node.number; key = node.key })
        → more ≡ record (with_entry names next.cookie name node) { spare = more.spare } → AreLoadedNames places (take (i + 1) entries) more
    names-next more name node named numbered keyed adds = record {
      entries_are =
          ap (λ n. map plain n.entries) adds ∙ plain-with_entry names next.cookie name node
          ∙ ap (λ es. es ++ record { cookie = next.cookie; name = name; node = node.number } ∷ []) loaded.entries_are
          ∙ ap (λ n. take i entries ++ record { cookie = next.cookie; name = n; node = node.number } ∷ []) named
          ∙ ap (λ n. take i entries ++ record { cookie = next.cookie; name = next.name; node = n } ∷ []) numbered
          ∙ sym (take-next entries i next short is);
      greatest_is =
          ap (λ n. n.greatest) adds
          ∙ (let h = greatest_below in let g = greatest_push (take i entries) next 2 in let t = ap greatest_of (take-next entries i next short is) in omega (arith, h, g, t));
      keyed = subst (λ n. All (IsKeyed places) n.entries) (sym adds) (All-push (IsKeyed places) names.entries _ loaded.keyed keyed);
    }

-- A file's blocks

abbrev block_entry : Block → ℕ × List ℕ
block_entry b = (b.index, b.bytes)

-- a file of this size that keeps these blocks
abbrev pub file_of : ℕ → List Block → FileContent
file_of size blocks = record { size = size; blocks = from_entries (map (λ b. (b.index, b.bytes)) blocks) }

none_kept : (p : ℕ → Bool) → retain_keys (empty {X = List ℕ} {R = nat_cmp}) p ≡ empty
none_kept p = same_nodes _ _ (λ q.
    get-retain_keys (empty {X = List ℕ} {R = nat_cmp}) p q (λ x same. ap p (sym (nat_cmp-IsAntisymmetric q x same)))
    ∙ ap (λ o. cond (p q) o None) (get-empty nat_cmp q) ∙ either (p q) ∙ sym (get-empty nat_cmp q))
  where
    either : (b : Bool) → ◌≡◌ {A = Option (List ℕ)} (cond b None None) None
    either true = refl
    either false = refl

-- an empty file of another size keeps no block
pub resized-none : (size : ℕ) → resized no_content size ≡ file_of size []
resized-none size =
    ap (λ m. record { size = size; blocks = with_zero_tail m (size / block_size) (get m (size / block_size)) (size % block_size) }) (none_kept (λ index. nat_lt (index * block_size) size))
    ∙ ap (λ o. record { size = size; blocks = with_zero_tail empty (size / block_size) o (size % block_size) }) (get-empty nat_cmp (size / block_size))

module _ (size : ℕ) (blocks : List Block) (i : ℕ) (next : Block) (short : i < length blocks) (is : next ≡ get_or blocks i next) (are : AreBlocks size blocks) where
  absent_block : maps.find nat_cmp next.index (map block_entry (take i blocks)) ≡ None
  absent_block =
      absent-before (λ b. b.index) (λ b. b.bytes) (take i blocks) next (drop (i + 1) blocks)
      (subst (λ bs. IsStrictlySortedBy nat_cmp (map (λ b. b.index) bs)) (sym (split-at blocks i next short is)) are.rising)

  pub file-next : (content more : FileContent) → content ≡ file_of size (take i blocks) → more ≡ record content { blocks = insert content.blocks next.index next.bytes }
      → more ≡ file_of size (take (i + 1) blocks)
  file-next content more so_far adds =
      adds ∙ ap (λ (c : FileContent). record c { blocks = insert c.blocks next.index next.bytes }) so_far
      ∙ ap (λ (m : Blocks). record { size = size; blocks = m }) (
      sym (from_entries_push nat_cmp_total nat_cmp-IsAntisymmetric (map block_entry (take i blocks)) next.index next.bytes absent_block)
      ∙ ap from_entries (sym (map-append block_entry (take i blocks) (next ∷ [])) ∙ ap (map block_entry) (sym (take-next blocks i next short is))))

  pub kept-next : (content more : FileContent) → content ≡ file_of size (take i blocks) → more ≡ record content { blocks = insert content.blocks next.index next.bytes }
      → kept_blocks content ≤ i → kept_blocks more ≤ i + 1
  kept-next content more so_far adds few =
      let grown = ap kept_blocks adds ∙ len-insert_new content.blocks next.index next.bytes
      (ap (λ c. get c.blocks next.index) so_far ∙ get-from_entries nat_cmp_total (map block_entry (take i blocks)) next.index ∙ absent_block) in
      omega (arith, grown, few)
