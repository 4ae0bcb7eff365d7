-- How many nodes, entries and kept blocks there are after a call, and how many links a node can have.
use Rattle.std.proofs.Common.{◌≡◌, ◌≤◌, ◌+◌, ℕ, eqb, List, [], Option, Some, None, refl, sym, ap, ◌∙◌, arith}
use Rattle.std.specs.Prelude.{ℤ, length}
use Rattle.std.proofs.lemmas.List.Sums.{count_by-le-length}
use Rattle.std.specs.Ordering.{nat_cmp}
use Rattle.std.specs.FinMap.{get, insert, len, len-empty}
use Rattle.kernel_core.specs.FileContent.{FileContent, kept_blocks}
use Rattle.kernel_core.specs.Nodes.{Nodes, Inode, NodeContent, File, Directory, Link, Listing, listing_at, listing_in, in_inode, is_directory, file_at, update}
use Rattle.kernel_core.specs.Totals.{content_entries, content_blocks, live_entries, live_blocks}
use Rattle.kernel_core.specs.NameCalls.{after_make, after_create, after_mkdir, after_symlink, after_link, new_file, new_directory, new_link, one_link_more, changed_at, relisted, with_entry}
use Rattle.kernel_core.specs.NodeCalls.{with_content, modified_at}
use Rattle.kernel_core.specs.FileSystem.{IsFileSystem, IsLiveContent, HasParent, name_count}
use Rattle.kernel_core.specs.PathWalk.{Place}
use Rattle.kernel_core.specs.ValidTree.{names_in, entry_limit}
use Rattle.file_system_laws.proofs.Lookups.{get-insert_other, len-insert_new, len-update, directory_found, file_found}
use Rattle.file_system_laws.proofs.Totals.{total-update, total-kept, total-le, total-at_least}
use Rattle.file_system_laws.proofs.Counts.{live_entries-insert, live_blocks-insert, live_entries-kept, live_blocks-kept, live_blocks-relisted, live_entries-add_name, listing_at-kept}

-- A name that is made

-- one entry more, so many nodes more, and the blocks as they were
pub record IsNamed (before after : Nodes) (more : ℕ) : Type 0 where
  pub nodes : len after ≡ len before + more
  pub entries : live_entries after ≡ live_entries before + 1
  pub blocks : live_blocks after ≡ live_blocks before

module _ (nodes : Nodes) (place : Place) (number : ℕ) (now : ℤ) (listing : Listing) (live : listing_at nodes place.directory ≡ Some listing) (none : get nodes number ≡ None) where
  pub make_counts : (inode : Inode) → content_entries inode.content ≡ [] → content_blocks inode.content ≡ 0 → IsNamed nodes (after_make nodes place number inode now) 1
  make_counts inode empty no_blocks = record {
    nodes = len-update (insert nodes number inode) place.directory (relisted now (with_entry place.name number)) ∙ len-insert_new nodes number inode none;
    entries = live_entries-add_name (insert nodes number inode) place.directory place.name number now listing live_then ∙ ap (λ n. n + 1) (live_entries-insert nodes number inode none empty);
    blocks = live_blocks-relisted (insert nodes number inode) place.directory now (with_entry place.name number) ∙ live_blocks-insert nodes number inode none no_blocks;
  }
    where
      live_then : listing_at (insert nodes number inode) place.directory ≡ Some listing
      live_then = ap (in_inode listing_in) (get-insert_other nodes number inode place.directory (λ same.
          absurd (let d = directory_found nodes place.directory listing live in let e : None ≡ Some d.0 = sym none ∙ ap (get nodes) (sym same) ∙ d.1 in cc))) ∙ live

  pub create_counts : (mode : ℕ) → IsNamed nodes (after_create nodes place number mode now) 1
  create_counts mode = make_counts (new_file mode now) refl (len-empty nat_cmp (List ℕ))

  pub symlink_counts : (target : List ℕ) → IsNamed nodes (after_symlink nodes place number target now) 1
  symlink_counts target = make_counts (new_link target now) refl refl

  pub mkdir_counts : (mode : ℕ) → IsNamed nodes (after_mkdir nodes place number mode now) 1
  mkdir_counts mode =
      let made = make_counts (new_directory mode place.directory now) refl refl in
      let after = after_make nodes place number (new_directory mode place.directory now) now in
      record {
        nodes = len-update after place.directory one_link_more ∙ made.nodes;
        entries = live_entries-kept after place.directory one_link_more (λ i found. refl) ∙ made.entries;
        blocks = live_blocks-kept after place.directory one_link_more (λ i found. refl) ∙ made.blocks;
      }

pub link_counts : (nodes : Nodes) (node : ℕ) (place : Place) (now : ℤ) (listing : Listing) → listing_at nodes place.directory ≡ Some listing → IsNamed nodes (after_link nodes node place now) 0
link_counts nodes node place now listing live = record {
  nodes = let a = len-update linked place.directory (relisted now (with_entry place.name node)) in let b = len-update nodes node more in omega (arith, a, b);
  entries = live_entries-add_name linked place.directory place.name node now listing (listing_at-kept nodes node more (λ i found. refl) place.directory ∙ live)
      ∙ ap (λ n. n + 1) (live_entries-kept nodes node more (λ i found. refl));
  blocks = live_blocks-relisted linked place.directory now (with_entry place.name node) ∙ live_blocks-kept nodes node more (λ i found. refl);
}
  where
    more : Inode → Inode
    more i = changed_at now (one_link_more i)

    linked : Nodes
    linked = update nodes node more

-- A file whose content changes

module _ (nodes : Nodes) (n : ℕ) (content : FileContent) (there : file_at nodes n ≡ Some content) (now : ℤ) (change : FileContent → FileContent) where
  pub live_blocks-content : live_blocks (update nodes n (modified_at now change)) + kept_blocks content ≡ live_blocks nodes + kept_blocks (change content)
  live_blocks-content =
      let d = file_found nodes n content there in
      let a = total-update (λ i. content_blocks i.content) nodes n (modified_at now change) d.0 d.1 in
      let b : content_blocks (d.0).content ≡ kept_blocks content = ap content_blocks d.2 in
      let c : content_blocks (with_content change (d.0).content) ≡ kept_blocks (change content) = ap (λ c. content_blocks (with_content change c)) d.2 in
      omega (arith, a, b, c)

  pub live_entries-content : live_entries (update nodes n (modified_at now change)) ≡ live_entries nodes
  live_entries-content = total-kept (λ i. length (content_entries i.content)) nodes n (modified_at now change) (λ i found. ap length (same i.content))
    where
      same : (c : NodeContent) → content_entries (with_content change c) ≡ content_entries c
      same (File content) = refl
      same (Directory listing) = refl
      same (Link target) = refl

-- Bounds

-- a node is named by at most all entries
pub name_count-le : (nodes : Nodes) (n : ℕ) → name_count nodes n ≤ live_entries nodes
name_count-le nodes n =
    total-le (λ i. names_in (content_entries i.content) n) (λ i. length (content_entries i.content)) nodes (λ q i found. count_by-le-length (λ e. eqb e.node n) (content_entries i.content))

-- a node has at most two links more than there may be entries
pub links-le : (nodes : Nodes) (n : ℕ) (inode : Inode) → IsFileSystem nodes → get nodes n ≡ Some inode → inode.links ≤ entry_limit + 2
links-le nodes n inode is found = go inode.content (total-at_least (λ i. length (content_entries i.content)) nodes n inode found) ((is.each n inode found).content)
  where
    parented : (l : Listing) (p : Option ℕ) → length l.entries ≤ live_entries nodes → HasParent nodes n inode.links l p → inode.links ≤ entry_limit + 2
    parented l None few has = let a = has.1 in omega (arith, a)
    parented l (Some parent) few has = let a = has.0 in let b = count_by-le-length (λ e. is_directory nodes e.node) l.entries in let c = is.few_entries in omega (arith, a, b, c, few)

    go : (c : NodeContent) → length (content_entries c) ≤ live_entries nodes → IsLiveContent nodes n inode.links c → inode.links ≤ entry_limit + 2
    go (File content) few live = let a = live.1 in let b = name_count-le nodes n in let c = is.few_entries in omega (arith, a, b, c)
    go (Directory listing) few live = parented listing listing.parent few live.parent
    go (Link target) few live = let a = live.1 in let b = name_count-le nodes n in let c = is.few_entries in omega (arith, a, b, c)
