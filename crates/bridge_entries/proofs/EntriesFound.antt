-- What the entries of a descriptor are: an error, whoever asks, or those behind its position.
use Rattle.std.proofs.Common.{◌≡◌, ◌⊎◌, ℕ, zero, suc, ◌-◌, ◌<◌, ◌≤◌, ◌^◌, Bool, true, false, List, [], ◌∷◌, length, map, Option, Some, None, refl, sym, ap, subst, ◌∙◌, inl, inr, arith, cond}
use Rattle.std.specs.FinMap.{get}
use Rattle.std.specs.List.{AllByRecursion, filter, list_any}
use Rattle.std.specs.Prelude.{◌||◌, codes, is_some, nat_lt, if◌then◌else◌}
use Rattle.std.proofs.lemmas.Bool.Decides.{nat_tests}
use Rattle.std.proofs.lemmas.List.Elements.{recursion_from_All}
use Rattle.kernel_core.specs.FileSystem.{IsBelowRootBy, IsFileSystem, IsListing, IsLiveContent, IsLiveEntry, parent_at, parent_of}
use Rattle.kernel_core.specs.Nodes.{Nodes, Inode, Listing, NodeContent, File, Directory, Link, in_inode, listing_at, listing_in}
use Rattle.kernel_core.specs.ValidTree.{IsEntry, is_no_name_byte, root}
use Rattle.kernel_core.specs.declared.error.Errno.{Errno}
use Rattle.kernel_core.specs.declared.error.Errno.TheVariants.{EBADF, ENOENT, ENOTDIR}
use Rattle.kernel_core.specs.declared.tree.DirEntry.{DirEntry}
use Rattle.kernel_model.specs.Came.{Did, refused, with_some}
use Rattle.kernel_model.specs.ContentRows.{Entry, Records, all_entries, dot_entry, entries, entry_of, fitting, give_entries, is_above, record_length}
use Rattle.kernel_model.specs.Descriptions.{node_of, opened}
use Rattle.kernel_model.specs.State.{Files}
use Rattle.kernel_model.specs.declared.descriptor.Description.{Description}
use Rattle.bridge_entries.specs.inside.Given.{AreListed, IsListed}

-- Numbers of nodes fit 63 bits.

some_is : {A : Type 0} {a b : A} → Some a ≡ Some b → a ≡ b
some_is same = cc

module _ (nodes : Nodes) (valid : IsFileSystem nodes) where
  number_fits : (number : ℕ) → is_some (get nodes number) ≡ true → number < 2 ^ 63
  number_fits number live = by (get nodes number) refl live where
    by : (o : Option Inode) → get nodes number ≡ o → is_some o ≡ true → number < 2 ^ 63
    by None is live = absurd (cc)
    by (Some inode) is live = let high = (valid.each number inode is).high in omega (arith, high)

  directory_lives : (number parent : ℕ) → parent_at nodes number ≡ Some parent → is_some (get nodes number) ≡ true
  directory_lives number parent is = by (get nodes number) is where
    by : (o : Option Inode) → parent_of (in_inode listing_in o) ≡ Some parent → is_some o ≡ true
    by None is = absurd (cc)
    by (Some inode) is = refl

  below_fits : (steps number : ℕ) → IsBelowRootBy steps nodes number → number < 2 ^ 63
  unfolding IsBelowRootBy
  below_fits zero number is = omega (arith, is)
  below_fits (suc steps) number up = number_fits number (directory_lives number up.0 up.1)

  parent_by : (steps number parent : ℕ) → IsBelowRootBy steps nodes number → parent_at nodes number ≡ Some parent → parent < 2 ^ 63
  unfolding IsBelowRootBy
  parent_by zero number parent at is =
      let top : parent ≡ root = some_is (sym is ∙ ap (parent_at nodes) at ∙ valid.top) in omega (arith, top)
  parent_by (suc steps) number parent up is =
      let same : up.0 ≡ parent = some_is (sym up.1 ∙ is) in
      subst (λ (n : ℕ). n < 2 ^ 63) same (below_fits steps up.0 up.2)

  parent_fits : (number parent : ℕ) → parent_at nodes number ≡ Some parent → parent < 2 ^ 63
  parent_fits number parent is = let below = valid.below number parent is in parent_by below.0 number parent below.1 is

  -- what is known of a directory

  is_listing : (number links : ℕ) (content : NodeContent) (listing : Listing) → listing_in content ≡ Some listing → IsLiveContent nodes number links content → IsListing nodes number links listing
  is_listing number links (File content) listing is live = absurd (cc)
  is_listing number links (Directory found) listing is live = subst (λ (l : Listing). IsListing nodes number links l) (some_is is) live
  is_listing number links (Link target) listing is live = absurd (cc)

  -- its entries

  pub record IsKept (entry : Entry) : Type 0 where
    pub node : entry.node < 2 ^ 63
    pub cookie : entry.cookie < 2 ^ 31
    pub short : length entry.name ≤ 255
    pub plain : list_any is_no_name_byte entry.name ≡ false

  kept_one : (directory greatest : ℕ) (entry : DirEntry) → IsEntry entry → IsLiveEntry nodes directory greatest entry → IsKept (entry_of nodes entry)
  kept_one directory greatest entry is live = record {
    node = number_fits entry.node live.live;
    cookie = let high = is.high in omega (arith, high);
    short = is.name.short;
    plain = is.name.plain;
  }

  kept_each : (directory greatest : ℕ) (found : List DirEntry) → AllByRecursion IsEntry found → AllByRecursion (IsLiveEntry nodes directory greatest) found → AllByRecursion IsKept (map (entry_of nodes) found)
  kept_each directory greatest [] are live = tt
  kept_each directory greatest (entry ∷ found) are live = (kept_one directory greatest entry are.0 live.0, kept_each directory greatest found are.1 live.1)

  kept_dots : (cookie : ℕ) (name : List ℕ) (node : ℕ) → node < 2 ^ 63 → cookie < 2 ^ 31 → length name ≤ 255 → list_any is_no_name_byte name ≡ false → IsKept (dot_entry cookie name node)
  kept_dots cookie name node fits low short plain = record { node = fits; cookie = low; short = short; plain = plain }

  kept_listing : (number links parent : ℕ) (listing : Listing) → number < 2 ^ 63 → parent < 2 ^ 63 → IsListing nodes number links listing → AllByRecursion IsKept (all_entries nodes number parent listing.entries)
  kept_listing number links parent listing here above is = (
    kept_dots 1 (codes ".") number here (omega arith) (omega arith) refl,
    (
      kept_dots 2 (codes "..") parent above (omega arith) (omega arith) refl,
      kept_each number listing.greatest listing.entries (recursion_from_All IsEntry listing.entries is.entries.each) (recursion_from_All (IsLiveEntry nodes number listing.greatest) listing.entries is.each),
    ),
  )

  kept_all : (number parent : ℕ) (listing : Listing) → listing_at nodes number ≡ Some listing → listing.parent ≡ Some parent → AllByRecursion IsKept (all_entries nodes number parent listing.entries)
  kept_all number parent listing is up = by (get nodes number) refl is where
    above : parent_at nodes number ≡ Some parent
    above = ap parent_of is ∙ up

    by : (o : Option Inode) → get nodes number ≡ o → in_inode listing_in o ≡ Some listing → AllByRecursion IsKept (all_entries nodes number parent listing.entries)
    by None at found = absurd (cc)
    by (Some inode) at found =
        kept_listing number inode.links parent listing (number_fits number (directory_lives number parent above)) (parent_fits number parent above)
        (is_listing number inode.links inode.content listing found (valid.each number inode at).content)

  behind_by : (position : ℕ) (entry : Entry) (found : List Entry) (b : Bool) → nat_lt position entry.cookie ≡ b → IsKept entry → AreListed position found → AreListed position (cond b (entry ∷ found) found)
  behind_by position entry found true is kept listed = (record { behind = lower position entry.cookie is; node = kept.node; cookie = kept.cookie; short = kept.short; plain = kept.plain }, listed) where
    lower : (a b : ℕ) → nat_lt a b ≡ true → a < b
    lower a b is = grind (arith, nat_tests)
  behind_by position entry found false is kept listed = listed

  behind_all : (position : ℕ) (found : List Entry) → AllByRecursion IsKept found → AreListed position (filter (λ e. nat_lt position e.cookie) found)
  behind_all position [] kept = tt
  behind_all position (entry ∷ found) kept =
      behind_by position entry (filter (λ e. nat_lt position e.cookie) found) (nat_lt position entry.cookie) refl kept.0 (behind_all position found kept.1)

-- The entries of a descriptor

pub record Gives (files : Files) (fd : ℕ) : Type 0 where
  pub description : Description
  pub node : ℕ
  pub behind : List Entry
  pub open' : opened files fd ≡ Some description
  pub is_node : node_of description.object ≡ Some node
  pub listed : AreListed description.position behind
  pub gives : (records : Records) (size room : ℕ) → entries files fd records size room ≡ give_entries files fd description records size room behind

pub record Refuses (files : Files) (fd : ℕ) : Type 0 where
  pub error : Errno
  pub refuses : (records : Records) (size room : ℕ) → entries files fd records size room ≡ refused files error

module _ (files : Files) (fd : ℕ) (valid : IsFileSystem files.nodes) where
  abbrev from_parent : Records → ℕ → ℕ → Description → ℕ → Listing → Option ℕ → Did Files (List Entry)
  from_parent records size room description node listing parent =
      with_some files ENOENT parent (λ parent.
      give_entries files fd description records size room (filter (λ e. nat_lt description.position e.cookie) (all_entries files.nodes node parent listing.entries)))

  abbrev from_listing : Records → ℕ → ℕ → Description → ℕ → Option Listing → Did Files (List Entry)
  from_listing records size room description node listing = with_some files ENOTDIR listing (λ listing. from_parent records size room description node listing listing.parent)

  abbrev from_node : Records → ℕ → ℕ → Description → Option ℕ → Did Files (List Entry)
  from_node records size room description node = with_some files ENOTDIR node (λ node. from_listing records size room description node (listing_at files.nodes node))

  abbrev from_opened : Records → ℕ → ℕ → Option Description → Did Files (List Entry)
  from_opened records size room description = with_some files EBADF description (λ description. from_node records size room description (node_of description.object))

  whole : (records : Records) (size room : ℕ) → entries files fd records size room ≡ from_opened records size room (opened files fd)
  unfolding entries
  whole records size room = refl

  abbrev Found : Type 0
  Found = Refuses files fd ⊎ Gives files fd

  module _ (description : Description) (open' : opened files fd ≡ Some description) where
    module _ (node : ℕ) (is_node : node_of description.object ≡ Some node) where
      module _ (listing : Listing) (is_listing' : listing_at files.nodes node ≡ Some listing) where
        so_far : (records : Records) (size room : ℕ) → entries files fd records size room ≡ from_parent records size room description node listing listing.parent
        so_far records size room =
            whole records size room ∙ ap (from_opened records size room) open' ∙ ap (from_node records size room description) is_node
            ∙ ap (from_listing records size room description node) is_listing'

        by_parent : (o : Option ℕ) → listing.parent ≡ o → Found
        by_parent None is = inl (record { error = ENOENT; refuses = λ records size room. so_far records size room ∙ ap (from_parent records size room description node listing) is })
        by_parent (Some parent) is = inr (record {
          description = description;
          node = node;
          behind = filter (λ e. nat_lt description.position e.cookie) (all_entries files.nodes node parent listing.entries);
          open' = open';
          is_node = is_node;
          listed = behind_all files.nodes valid description.position (all_entries files.nodes node parent listing.entries) (kept_all files.nodes valid node parent listing is_listing' is);
          gives = λ records size room. so_far records size room ∙ ap (from_parent records size room description node listing) is;
        })

      by_listing : (o : Option Listing) → listing_at files.nodes node ≡ o → Found
      by_listing None is = inl (record {
        error = ENOTDIR;
        refuses = λ records size room. whole records size room ∙ ap (from_opened records size room) open' ∙ ap (from_node records size room description) is_node ∙ ap (from_listing records size room description node) is;
      })
      by_listing (Some listing) is = by_parent listing is listing.parent refl

    by_node : (o : Option ℕ) → node_of description.object ≡ o → Found
    by_node None is = inl (record { error = ENOTDIR; refuses = λ records size room. whole records size room ∙ ap (from_opened records size room) open' ∙ ap (from_node records size room description) is })
    by_node (Some node) is = by_listing node is (listing_at files.nodes node) refl

  by_opened : (o : Option Description) → opened files fd ≡ o → Found
  by_opened None is = inl (record { error = EBADF; refuses = λ records size room. whole records size room ∙ ap (from_opened records size room) is })
  by_opened (Some description) is = by_node description is (node_of description.object) refl

  pub found_at : Refuses files fd ⊎ Gives files fd
  found_at = by_opened (opened files fd) refl

-- Those that are given

fitting_by : (position : ℕ) (entry : Entry) (found : List Entry) (long above : Bool) → IsListed position entry → AreListed position found → AreListed position (if long || above then [] else entry ∷ found)
fitting_by position entry found true above here listed = tt
fitting_by position entry found false true here listed = tt
fitting_by position entry found false false here listed = (here, listed)

pub fitting_listed : (records : Records) (size position : ℕ) (found : List Entry) → AreListed position found → AreListed position (fitting records size found)
fitting_listed records size position [] listed = tt
fitting_listed records size position (entry ∷ found) listed =
    fitting_by position entry (fitting records (size - record_length records entry) found) (nat_lt size (record_length records entry)) (is_above records.greatest entry.node) listed.0
    (fitting_listed records (size - record_length records entry) position found listed.1)

pub listed_from_0 : (position : ℕ) (found : List Entry) → AreListed position found → AreListed 0 found
listed_from_0 position [] listed = tt
listed_from_0 position (entry ∷ found) listed =
    (record { behind = let b = listed.0.behind in omega (arith, b); node = listed.0.node; cookie = listed.0.cookie; short = listed.0.short; plain = listed.0.plain }, listed_from_0 position found listed.1)
