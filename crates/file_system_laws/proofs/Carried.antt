-- What a node needs of the others is carried from nodes to changed nodes.
use Rattle.std.proofs.Common.{◌≡◌, ◌≢◌, ◌+◌, ℕ, zero, suc, true, List, Option, Some, None, is_some, refl, sym, ap, subst, ◌∙◌}
use Rattle.std.specs.Prelude.{All}
use Rattle.std.specs.Bool.{⊤}
use Rattle.std.specs.FinMap.{get}
use Rattle.kernel_core.specs.Nodes.{Nodes, Inode, NodeContent, File, Directory, Link, Listing, listing_at, is_directory, entries_in}
use Rattle.kernel_core.specs.FileSystem.{IsLive, IsLiveContent, IsListing, IsLiveEntry, HasParent, IsBelowRoot, IsBelowRootBy, subdirectories, name_count, parent_at, parent_of}
use Rattle.kernel_core.specs.ValidTree.{names_in, root}
use Rattle.kernel_core.specs.declared.tree.DirEntry.{DirEntry}
use Rattle.file_system_laws.proofs.Entries.{count_same}

-- a node that lives on, a directory or none as before and with its parent
pub record Kept (old new : Nodes) (number : ℕ) : Type 0 where
  pub live : is_some (get new number) ≡ true
  pub directory : is_directory new number ≡ is_directory old number
  pub parent : parent_at new number ≡ parent_at old number

pub All-both : {X : Type 0} (P Q R : X → Type 0) → ((x : X) → P x → Q x → R x) → (xs : List X) → All P xs → All Q xs → All R xs
All-both P Q R h xs p q = λ k d short. h _ (p k d short) (q k d short)

-- as many entries name directories, where each names one that is kept
pub subdirectories-carried : (old new : Nodes) (entries : List DirEntry) → All (λ e. is_directory new e.node ≡ is_directory old e.node) entries
    → subdirectories new entries ≡ subdirectories old entries
subdirectories-carried old new entries all = count_same (λ e. is_directory new e.node) (λ e. is_directory old e.node) entries all

module _ (old new : Nodes) where
  -- what a directory needs, where its parent names it as often as before
  pub parent-carried : (number links : ℕ) (listing : Listing) (parent : Option ℕ) → All (λ e. Kept old new e.node) listing.entries → name_count new number ≡ name_count old number
      → ((above : ℕ) → parent ≡ Some above → number ≢ root → names_in (entries_in (listing_at new above)) number ≡ names_in (entries_in (listing_at old above)) number)
      → HasParent old number links listing parent → HasParent new number links listing parent
  parent-carried number links listing None kept names above has = (has.0, has.1, names ∙ has.2, has.3)
  parent-carried number links listing (Some parent) kept names above has =
      let same : subdirectories new listing.entries ≡ subdirectories old listing.entries = subdirectories-carried old new listing.entries (λ k d short. (kept k d short).directory) in
      (has.0 ∙ ap (λ n. 2 + n) (sym same), λ top. ((has.1 top).0, names ∙ (has.1 top).1), λ lower. (names ∙ (has.2 lower).0, above parent refl lower ∙ (has.2 lower).1))

  pub entry-carried : (number greatest : ℕ) (entry : DirEntry) → Kept old new entry.node → IsLiveEntry old number greatest entry → IsLiveEntry new number greatest entry
  entry-carried number greatest entry kept is = record {
    past = is.past;
    live = kept.live;
    child = λ directory. kept.parent ∙ is.child (sym kept.directory ∙ directory);
  }

  pub entries-carried : (number greatest : ℕ) (entries : List DirEntry) → All (λ e. Kept old new e.node) entries → All (IsLiveEntry old number greatest) entries → All (IsLiveEntry new number greatest) entries
  entries-carried number greatest entries kept each =
      All-both (λ e. Kept old new e.node) (IsLiveEntry old number greatest) (IsLiveEntry new number greatest) (λ e k is. entry-carried number greatest e k is) entries kept each

  pub listing-carried : (number links : ℕ) (listing : Listing) → All (λ e. Kept old new e.node) listing.entries → name_count new number ≡ name_count old number
      → ((above : ℕ) → listing.parent ≡ Some above → number ≢ root → names_in (entries_in (listing_at new above)) number ≡ names_in (entries_in (listing_at old above)) number)
      → IsListing old number links listing → IsListing new number links listing
  listing-carried number links listing kept names above is = record {
    low = is.low;
    high = is.high;
    entries = is.entries;
    each = entries-carried number listing.greatest listing.entries kept is.each;
    parent = parent-carried number links listing listing.parent kept names above is.parent;
  }

  -- what a node needs of the others
  pub content-carried : (number links : ℕ) (content : NodeContent) → ((listing : Listing) → content ≡ Directory listing → All (λ e. Kept old new e.node) listing.entries)
      → name_count new number ≡ name_count old number
      → ((listing : Listing) (above : ℕ) → content ≡ Directory listing → listing.parent ≡ Some above → number ≢ root
      → names_in (entries_in (listing_at new above)) number ≡ names_in (entries_in (listing_at old above)) number)
      → IsLiveContent old number links content → IsLiveContent new number links content
  content-carried number links (File content) kept names above is = (is.0, is.1 ∙ sym names)
  content-carried number links (Directory listing) kept names above is =
      listing-carried number links listing (kept listing refl) names (λ p has lower. above listing p refl has lower) is
  content-carried number links (Link target) kept names above is = (is.0, is.1 ∙ sym names)

  pub live-carried : (number : ℕ) (inode : Inode) → ((listing : Listing) → inode.content ≡ Directory listing → All (λ e. Kept old new e.node) listing.entries)
      → name_count new number ≡ name_count old number
      → ((listing : Listing) (above : ℕ) → inode.content ≡ Directory listing → listing.parent ≡ Some above → number ≢ root
      → names_in (entries_in (listing_at new above)) number ≡ names_in (entries_in (listing_at old above)) number)
      → IsLive old number inode → IsLive new number inode
  live-carried number inode kept names above is = record {
    low = is.low;
    high = is.high;
    mode = is.mode;
    access = is.access;
    modified = is.modified;
    changed = is.changed;
    used = is.used;
    held = is.held;
    content = content-carried number inode.links inode.content kept names above is.content;
  }

  -- a way up to the root, of which each directory keeps its parent
  pub below-carried_by : (P : ℕ → Type 0) → ((number parent : ℕ) → P number → parent_at old number ≡ Some parent → (parent_at new number ≡ Some parent) × P parent)
      → (steps number : ℕ) → P number → IsBelowRootBy steps old number → IsBelowRootBy steps new number
  unfolding IsBelowRootBy
  below-carried_by P up zero number at is = is
  below-carried_by P up (suc steps) number at is =
      let one = up number is.0 at is.1 in (is.0, one.0, below-carried_by P up steps is.0 one.1 is.2)

  pub below-carried : ((number parent : ℕ) → parent_at old number ≡ Some parent → parent_at new number ≡ Some parent) → (number : ℕ) → IsBelowRoot old number → IsBelowRoot new number
  below-carried up number is = (is.0, below-carried_by (λ _. ⊤) (λ n p _ e. (up n p e, tt)) is.0 number tt is.1)

-- The other nodes of nodes in which one is changed and keeps its kind of content and, as a directory, its listing

pub record SameShape (old new : Nodes) : Type 0 where
  pub listings : (number : ℕ) → listing_at new number ≡ listing_at old number
  pub lives : (number : ℕ) → is_some (get old number) ≡ true → is_some (get new number) ≡ true
  pub names : (number : ℕ) → name_count new number ≡ name_count old number

pub kept-same_shape : (old new : Nodes) → SameShape old new → (number : ℕ) → is_some (get old number) ≡ true → Kept old new number
kept-same_shape old new shape number live = record {
  live = shape.lives number live;
  directory = ap is_some (shape.listings number);
  parent = ap parent_of (shape.listings number);
}

-- a directory's entries live
pub entries-live : (nodes : Nodes) (number links : ℕ) (content : NodeContent) → IsLiveContent nodes number links content → (listing : Listing) → content ≡ Directory listing
    → IsListing nodes number links listing
entries-live nodes number links (File content) is listing e = absurd (let f : File content ≡ Directory listing = e in cc)
entries-live nodes number links (Directory other) is listing e = subst (IsListing nodes number links) (same other listing e) is
  where
    same : (a b : Listing) → Directory a ≡ Directory b → a ≡ b
    same a b e = cc
entries-live nodes number links (Link target) is listing e = absurd (let f : Link target ≡ Directory listing = e in cc)

pub live-same_shape : (old new : Nodes) → SameShape old new → (number : ℕ) (inode : Inode) → IsLive old number inode → IsLive new number inode
live-same_shape old new shape number inode is =
    live-carried old new number inode
    (λ listing e k d short. kept-same_shape old new shape _ (((entries-live old number inode.links inode.content is.content listing e).each k d short).live))
    (shape.names number)
    (λ listing above e has lower. ap (λ o. names_in (entries_in o) number) (shape.listings above))
    is

pub below-same_shape : (old new : Nodes) → SameShape old new → (number : ℕ) → IsBelowRoot old number → IsBelowRoot new number
below-same_shape old new shape = below-carried old new (λ number parent e. ap parent_of (shape.listings number) ∙ e)
