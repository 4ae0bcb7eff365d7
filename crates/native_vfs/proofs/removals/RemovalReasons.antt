-- In which order a directory's removal and a renaming look for a reason to be refused.
use Rattle.std.proofs.Common.{◌≡◌, ◌≢◌, ℕ, zero, suc, ◌||◌, ◌&&◌, Bool, true, false, cond, not, eqb, codes, bytes_eq, List, [], ◌∷◌, length, Option, Some, None, is_some, refl, sym, ap, subst, ◌∙◌, arith}
use Rattle.std.specs.Prelude.{option_map}
use Rattle.std.proofs.lemmas.Bool.{eq-eqb, ne_eqb}
use Rattle.slab.specs.Slab.{get as slab_get}
use Rattle.kernel_core.specs.FileSystem.{parent_at, parent_of}
use Rattle.kernel_core.specs.NameCalls.{rmdir_of, rmdir_refusal, is_empty_list, has_entries, is_below, is_in_subtree, passes, parent_passes, is_orphan, is_used_up, is_no_entry, is_node, replace_refusal, move_refusal, rename_of, rename_refusal}
use Rattle.kernel_core.specs.Nodes.{Nodes, Listing, listing_at, listing_in, is_directory}
use Rattle.kernel_core.specs.ValidTree.{root}
use Rattle.kernel_core.specs.declared.error.Errno.{Errno}
use Rattle.kernel_core.specs.declared.error.Errno.TheVariants.{EBUSY, EINVAL, ENOENT, ENOSPC, ENOTDIR, ENOTEMPTY}
use Rattle.directory_names.specs.declared.entry.NodeRef.{NodeRef}
use Rattle.native_vfs.specs.Keyed.{AgreesAt, place_at}
use Rattle.native_vfs.specs.inside.Stored.{Table, nodes_of, keyed_of, content_of, number_of, number_of_key, HasDistinctNumbers, HasReferences, OptionLeads, ContentLeads, DirectoryLeads}
use Rattle.native_vfs.specs.declared.place.Place.{Place as KeyedPlace}
use Rattle.native_vfs.specs.declared.stored.Stored.{Stored}
use Rattle.native_vfs.specs.declared.stored.StoredDirectory.{StoredDirectory}
use Rattle.native_vfs.specs.declared.stored.StoredContent.{StoredContent}
use Rattle.native_vfs.specs.declared.stored.StoredContent.TheVariants as kept
use Rattle.native_vfs.proofs.tables.Reasons.{listing-there, place-table}
use Rattle.native_vfs.proofs.removals.Stages.{named-node}
use Rattle.native_vfs.proofs.tables.Tables.{number-there}

-- a test of two names, by what they are
pub same-test : (one two shown other : List ℕ) (answer : Bool) → one ≡ shown → two ≡ other → answer ≡ bytes_eq one two → bytes_eq shown other ≡ answer
same-test one two shown other answer first second is = sym (is ∙ ap (λ a. bytes_eq a two) first ∙ ap (bytes_eq shown) second)

pub empty-length : (xs : List ℕ) → is_empty_list xs ≡ eqb (length xs) 0
empty-length [] = refl
empty-length (x ∷ xs) = sym (ne_eqb (length (x ∷ xs)) 0 (λ e. omega (arith, e)))

-- The order of rmdir's reasons
abbrev pub in_turn : (dot dots top empty kind full : Bool) → Option Errno
in_turn dot dots top empty kind full =
    cond dot (Some EINVAL) (cond dots (Some ENOTEMPTY) (cond top (Some EBUSY) (cond empty (Some EINVAL) (cond (not kind) (Some ENOTDIR) (cond full (Some ENOTEMPTY) None)))))

pub rmdir-refused : (table : Table) (at : KeyedPlace) (agrees : AgreesAt (keyed_of table) at) (node : ℕ) → at.node ≡ Some node → (dot dots top empty kind full : Bool)
    → bytes_eq at.name (codes ".") ≡ dot → bytes_eq at.name (codes "..") ≡ dots → eqb (number_of_key table node) root ≡ top → is_empty_list at.name ≡ empty
    → is_directory (nodes_of table) (number_of_key table node) ≡ kind → has_entries (nodes_of table) (number_of_key table node) ≡ full
    → in_turn dot dots top empty kind full ≡ rmdir_refusal (nodes_of table) (place_at (keyed_of table) at)
rmdir-refused table at agrees node is dot dots top empty kind full a b c d e f =
    sym (ap (rmdir_of (nodes_of table) at.name) (named-node table at agrees node is)
    ∙ ap (λ x. in_turn x (bytes_eq at.name (codes "..")) (eqb (number_of_key table node) root) (is_empty_list at.name)
    (is_directory (nodes_of table) (number_of_key table node)) (has_entries (nodes_of table) (number_of_key table node))) a
    ∙ ap (λ x. in_turn dot x (eqb (number_of_key table node) root) (is_empty_list at.name)
    (is_directory (nodes_of table) (number_of_key table node)) (has_entries (nodes_of table) (number_of_key table node))) b
    ∙ ap (λ x. in_turn dot dots x (is_empty_list at.name) (is_directory (nodes_of table) (number_of_key table node)) (has_entries (nodes_of table) (number_of_key table node))) c
    ∙ ap (λ x. in_turn dot dots top x (is_directory (nodes_of table) (number_of_key table node)) (has_entries (nodes_of table) (number_of_key table node))) d
    ∙ ap (λ x. in_turn dot dots top empty x (has_entries (nodes_of table) (number_of_key table node))) e
    ∙ ap (in_turn dot dots top empty kind) f)

-- The way up to the root

module _ (test : ℕ → Bool) where
  passes-parent : (o : Option Listing) → parent_passes test o ≡ passes test (parent_of o)
  passes-parent None = refl
  passes-parent (Some listing) = refl

  passes-below : (top : Bool) (o : Option Listing) → (not top && parent_passes test o) ≡ passes test (cond top None (parent_of o))
  passes-below true o = refl
  passes-below false o = passes-parent o

module _ (nodes : Nodes) (above directory : ℕ) where
  -- the parent of a directory other than the root
  abbrev pub up : Option ℕ
  up = cond (eqb directory root) None (parent_at nodes directory)

  below_step : (steps : ℕ) → is_below (suc steps) nodes above directory ≡ (eqb directory above || passes (is_below steps nodes above) up)
  unfolding is_below
  below_step steps = ap (λ b. eqb directory above || b) (passes-below (is_below steps nodes above) (eqb directory root) (listing_at nodes directory))

  pub below-end : is_below zero nodes above directory ≡ eqb directory above
  unfolding is_below
  below-end = refl

  pub below-here : (left steps : ℕ) → left ≡ suc steps → directory ≡ above → is_below left nodes above directory ≡ true
  below-here left steps more here =
      ap (λ n. is_below n nodes above directory) more ∙ below_step steps ∙ ap (λ b. b || passes (is_below steps nodes above) up) (eq-eqb directory above here)

  pub below-none : (left steps : ℕ) → left ≡ suc steps → directory ≢ above → None ≡ up → is_below left nodes above directory ≡ false
  below-none left steps more apart top =
      ap (λ n. is_below n nodes above directory) more ∙ below_step steps ∙ ap (λ b. b || passes (is_below steps nodes above) up) (ne_eqb directory above apart)
      ∙ ap (passes (is_below steps nodes above)) (sym top)

  pub below-up : (left steps parent : ℕ) → left ≡ suc steps → directory ≢ above → Some parent ≡ up → is_below left nodes above directory ≡ is_below steps nodes above parent
  below-up left steps parent more apart top =
      ap (λ n. is_below n nodes above directory) more ∙ below_step steps ∙ ap (λ b. b || passes (is_below steps nodes above) up) (ne_eqb directory above apart)
      ∙ ap (passes (is_below steps nodes above)) (sym top)

-- The parent that is kept

module _ (table : Table) where
  parent_number : (o : Option NodeRef) → OptionLeads table o → option_map (number_of_key table) (option_map (λ (r : NodeRef). r.key) o) ≡ option_map number_of o
  parent_number None leads = refl
  parent_number (Some reference) leads = ap (λ n. Some n) (number-there table reference.key leads.0 leads.1 ∙ leads.2)

  module _ (key : ℕ) (node : Stored) (at : slab_get table key ≡ Some node) (distinct : HasDistinctNumbers table) (below : node.number ≢ root) where
    up_there : cond (eqb (number_of_key table key) root) None (parent_at (nodes_of table) (number_of_key table key)) ≡ parent_of (listing_in (content_of node.content))
    up_there =
        ap (λ b. cond b None (parent_at (nodes_of table) (number_of_key table key))) (ne_eqb (number_of_key table key) root (λ e. below (sym (number-there table key node at) ∙ e)))
        ∙ ap parent_of (listing-there table key node at distinct)

    pub parent-kept : HasReferences table → (directory : StoredDirectory) → node.content ≡ kept.Directory directory → (found : Option ℕ)
        → found ≡ option_map (λ (r : NodeRef). r.key) directory.parent
        → option_map (number_of_key table) found ≡ cond (eqb (number_of_key table key) root) None (parent_at (nodes_of table) (number_of_key table key))
    parent-kept references directory is found same =
        let leads : DirectoryLeads table directory = subst (ContentLeads table) is (references key node at) in
        ap (option_map (number_of_key table)) same ∙ parent_number directory.parent leads.parent
        ∙ sym (up_there ∙ ap (λ c. parent_of (listing_in (content_of c))) is)

    pub no-parent : ((directory : StoredDirectory) → node.content ≡ kept.Directory directory → ⊥)
        → None ≡ cond (eqb (number_of_key table key) root) None (parent_at (nodes_of table) (number_of_key table key))
    no-parent none = by node.content refl ∙ sym up_there
      where
        by : (c : StoredContent) → node.content ≡ c → None ≡ parent_of (listing_in (content_of node.content))
        by (kept.File content) is = sym (ap (λ c. parent_of (listing_in (content_of c))) is)
        by (kept.Directory directory) is = absurd (none directory is)
        by (kept.Link target) is = sym (ap (λ c. parent_of (listing_in (content_of c))) is)

-- The order of a renaming's reasons

abbrev pub move_order : (inside : Bool) (replaced : Option Errno) (orphan used : Bool) → Option Errno
move_order inside replaced orphan used =
    cond inside (Some EINVAL) (cond (is_some replaced) replaced (cond orphan (Some ENOENT) (cond used (Some ENOSPC) None)))

module _ (table : Table) (moved : ℕ) (to : KeyedPlace) where
  -- whether a directory would go into its own subtree
  abbrev pub goes_inside : Bool
  goes_inside = is_directory (nodes_of table) (number_of_key table moved) && is_in_subtree (nodes_of table) (number_of_key table moved) (number_of_key table to.dir)

  abbrev pub replaces : Option Errno
  replaces = replace_refusal (nodes_of table) (number_of_key table moved) (option_map (number_of_key table) to.node)

  abbrev pub is_gone : Bool
  is_gone = is_orphan (listing_at (nodes_of table) (number_of_key table to.dir))

  abbrev pub is_spent : Bool
  is_spent = is_used_up (listing_at (nodes_of table) (number_of_key table to.dir))

  pub move-refused : (inside : Bool) (replaced : Option Errno) (orphan used : Bool) → goes_inside ≡ inside → replaces ≡ replaced → is_gone ≡ orphan → is_spent ≡ used
      → move_order inside replaced orphan used ≡ move_refusal (nodes_of table) (place_at (keyed_of table) to) (number_of_key table moved)
  move-refused inside replaced orphan used a b c d =
      sym (ap (λ place. move_refusal (nodes_of table) place (number_of_key table moved)) (place-table table to)
      ∙ ap (λ x. move_order x replaces is_gone is_spent) a ∙ ap (λ x. move_order inside x is_gone is_spent) b
      ∙ ap (λ x. move_order inside replaced x is_spent) c ∙ ap (move_order inside replaced orphan) d)

  pub stays-outside : is_in_subtree (nodes_of table) (number_of_key table moved) (number_of_key table to.dir) ≡ false → goes_inside ≡ false
  stays-outside outside = ap (λ b. is_directory (nodes_of table) (number_of_key table moved) && b) outside ∙ never (is_directory (nodes_of table) (number_of_key table moved))
    where
      never : (b : Bool) → (b && false) ≡ false
      never true = refl
      never false = refl

  pub stays-file : is_directory (nodes_of table) (number_of_key table moved) ≡ false → goes_inside ≡ false
  stays-file plain = ap (λ b. b && is_in_subtree (nodes_of table) (number_of_key table moved) (number_of_key table to.dir)) plain

  pub goes-inside : is_directory (nodes_of table) (number_of_key table moved) ≡ true
      → is_in_subtree (nodes_of table) (number_of_key table moved) (number_of_key table to.dir) ≡ true → goes_inside ≡ true
  goes-inside kind inside =
      ap (λ b. b && is_in_subtree (nodes_of table) (number_of_key table moved) (number_of_key table to.dir)) kind ∙ inside

  pub replaces-some : (old : ℕ) → to.node ≡ Some old → replaces ≡ replace_refusal (nodes_of table) (number_of_key table moved) (Some (number_of_key table old))
  replaces-some old is = ap (λ o. replace_refusal (nodes_of table) (number_of_key table moved) (option_map (number_of_key table) o)) is

  pub replaces-none : to.node ≡ None → replaces ≡ None
  replaces-none is = ap (λ o. replace_refusal (nodes_of table) (number_of_key table moved) (option_map (number_of_key table) o)) is

abbrev pub rename_order : (dots same : Bool) (refusal : Option Errno) → Option Errno
rename_order dots same refusal = cond dots (Some EBUSY) (cond same None refusal)

pub rename-refused : (table : Table) (from to : KeyedPlace) (agrees : AgreesAt (keyed_of table) from) (moved : ℕ) → from.node ≡ Some moved → (dots same : Bool) (refusal : Option Errno)
    → (is_no_entry from.name || is_no_entry to.name) ≡ dots
    → is_node (place_at (keyed_of table) to).node (number_of_key table moved) ≡ same
    → move_refusal (nodes_of table) (place_at (keyed_of table) to) (number_of_key table moved) ≡ refusal
    → rename_order dots same refusal ≡ rename_refusal (nodes_of table) (place_at (keyed_of table) from) (place_at (keyed_of table) to)
rename-refused table from to agrees moved is dots same refusal a b c =
    let place = place_at (keyed_of table) to in
    sym (ap (rename_of (nodes_of table) (place_at (keyed_of table) from) place) (named-node table from agrees moved is)
    ∙ ap (λ x. rename_order x (is_node place.node (number_of_key table moved)) (move_refusal (nodes_of table) place (number_of_key table moved))) a
    ∙ ap (λ x. rename_order dots x (move_refusal (nodes_of table) place (number_of_key table moved))) b
    ∙ ap (rename_order dots same) c)

-- no name is that of no entry
pub both-proper : (one two : Bool) → one ≡ false → two ≡ false → (one || two) ≡ false
both-proper one two first second = ap (λ b. b || two) first ∙ second
