-- What the keys of a place stand for, and in which order a call on names looks for a reason to be refused.
use Rattle.std.proofs.Common.{◌≡◌, ◌↔◌, ℕ, ◌<◌, ◌≤◌, nat_le, Bool, true, false, cond, not, List, [], ◌∷◌, map, Option, Some, None, is_some, IsSome, IsTrue, refl, sym, ap, subst, ◌∙◌}
use Rattle.std.specs.Prelude.{option_map, ◌||◌}
use Rattle.std.proofs.lemmas.Bool.{le-leb, lt-leb}
use Rattle.slab.specs.Slab.{get as slab_get, slab_len}
use Rattle.kernel_core.specs.NameCalls.{is_orphan, is_used_up, is_empty_list, name_refusal}
use Rattle.kernel_core.specs.Nodes.{Listing, listing_at, listing_in, in_inode, entries_in}
use Rattle.kernel_core.specs.PathWalk.{Place}
use Rattle.kernel_core.specs.Totals.{live_entries, nodes_full, entries_full}
use Rattle.kernel_core.specs.ValidTree.{node_limit, entry_limit}
use Rattle.kernel_core.specs.declared.error.Errno.{Errno}
use Rattle.kernel_core.specs.declared.error.Errno.TheVariants.{EEXIST, ENOENT, ENOSPC}
use Rattle.directory_names.specs.Names.{NamedNode, plain}
use Rattle.native_vfs.specs.Keyed.{place_at, number_at, AgreesAt, IsLiveKey, AreLiveKeys}
use Rattle.native_vfs.specs.inside.Stored.{Table, nodes_of, keyed_of, content_of, listing_of, number_of_key, HasDistinctNumbers}
use Rattle.native_vfs.specs.declared.place.Place.{Place as KeyedPlace}
use Rattle.native_vfs.specs.declared.stored.Stored.{Stored}
use Rattle.native_vfs.specs.declared.stored.StoredDirectory.{StoredDirectory}
use Rattle.native_vfs.specs.declared.stored.StoredContent.{StoredContent}
use Rattle.native_vfs.specs.declared.stored.StoredContent.TheVariants as kept
use Rattle.native_vfs.proofs.tables.Tables.{node-there, number-there, key-get, number_at-table, len-nodes}

pub some-mapped : {A B : Type 0} (f : A → B) (o : Option A) → is_some (option_map f o) ≡ is_some o
some-mapped f None = refl
some-mapped f (Some x) = refl

-- The keys of a place

-- a key of the file system is one of the table
pub live-key : (table : Table) (key : ℕ) → IsLiveKey (keyed_of table) key → IsSome (slab_get table key)
unfolding keyed_of
live-key table key live = sym (some-mapped (λ n. n.number) (slab_get table key)) ∙ sym (ap is_some (key-get table key)) ∙ live

pub live-dir : (table : Table) (at : KeyedPlace) → AgreesAt (keyed_of table) at → IsSome (slab_get table at.dir)
live-dir table at agrees = live-key table at.dir agrees.directory

pub live-node : (table : Table) (at : KeyedPlace) (key : ℕ) → AgreesAt (keyed_of table) at → at.node ≡ Some key → IsSome (slab_get table key)
live-node table at key agrees is = live-key table key (subst (AreLiveKeys (keyed_of table)) is agrees.node)

-- a place by the numbers that its keys have in the table
abbrev pub place_in : Table → KeyedPlace → Place
place_in table at = record {
  directory = number_of_key table at.dir;
  name = at.name;
  node = option_map (number_of_key table) at.node;
}

pub place-table : (table : Table) (at : KeyedPlace) → place_at (keyed_of table) at ≡ place_in table at
place-table table at =
    ap (λ (directory : ℕ). record { directory = directory; name = at.name; node = option_map (number_at (keyed_of table)) at.node }) (number_at-table table at.dir)
    ∙ ap (λ (node : Option ℕ). record { directory = number_of_key table at.dir; name = at.name; node = node }) (by at.node)
  where
    by : (o : Option ℕ) → option_map (number_at (keyed_of table)) o ≡ option_map (number_of_key table) o
    by None = refl
    by (Some key) = ap (λ n. Some n) (number_at-table table key)

-- The directory at a key

module _ (table : Table) (key : ℕ) (node : Stored) (at : slab_get table key ≡ Some node) (distinct : HasDistinctNumbers table) where
  pub listing-there : listing_at (nodes_of table) (number_of_key table key) ≡ listing_in (content_of node.content)
  listing-there = ap (listing_at (nodes_of table)) (number-there table key node at) ∙ ap (in_inode listing_in) (node-there table key node distinct at)

  pub directory-there : (directory : StoredDirectory) → node.content ≡ kept.Directory directory
      → Some (listing_of directory) ≡ listing_at (nodes_of table) (number_of_key table key)
  directory-there directory is = sym (ap (λ c. listing_in (content_of c)) is) ∙ sym listing-there

  pub no_directory-there : ((directory : StoredDirectory) → node.content ≡ kept.Directory directory → ⊥)
      → None ≡ listing_at (nodes_of table) (number_of_key table key)
  no_directory-there none = by node.content refl ∙ sym listing-there
    where
      by : (c : StoredContent) → node.content ≡ c → None ≡ listing_in (content_of node.content)
      by (kept.File content) is = sym (ap (λ c. listing_in (content_of c)) is)
      by (kept.Directory directory) is = absurd (none directory is)
      by (kept.Link target) is = sym (ap (λ c. listing_in (content_of c)) is)

-- A directory has entries where it has names.

empty_names : (entries : List NamedNode) (empty : Bool) → IsTrue empty ↔ (entries ≡ []) → empty ≡ is_empty_list (map plain entries)
empty_names [] empty is = is.1 refl
empty_names (entry ∷ entries) true is = let h = is.0 refl in absurd (cc)
empty_names (entry ∷ entries) false is = refl

pub entries-there : (o : Option Listing) (directory : StoredDirectory) (empty : Bool) → Some (listing_of directory) ≡ o
    → IsTrue empty ↔ (directory.names.entries ≡ []) → not empty ≡ not (is_empty_list (entries_in o))
entries-there o directory empty listing is = ap not (empty_names directory.names.entries empty is ∙ ap (λ o. is_empty_list (entries_in o)) listing)

-- The order of the reasons

abbrev pub in_order : (full there orphan lacks : Bool) → Option Errno
in_order full there orphan lacks = cond there (Some EEXIST) (cond orphan (Some ENOENT) (cond (full || lacks) (Some ENOSPC) None))

same_order : (full a b c there orphan lacks : Bool) → a ≡ there → b ≡ orphan → c ≡ lacks → in_order full a b c ≡ in_order full there orphan lacks
same_order full a b c there orphan lacks is_there orphaned used_up =
    ap (λ t. in_order full t b c) is_there ∙ ap (λ o. in_order full there o c) orphaned ∙ ap (λ l. in_order full there orphan l) used_up

pub name-refused : (table : Table) (at : KeyedPlace) (full there orphan lacks : Bool) → is_some at.node ≡ there
    → is_orphan (listing_at (nodes_of table) (number_of_key table at.dir)) ≡ orphan
    → is_used_up (listing_at (nodes_of table) (number_of_key table at.dir)) ≡ lacks
    → in_order full there orphan lacks ≡ name_refusal (nodes_of table) (place_at (keyed_of table) at) full
name-refused table at full there orphan lacks is_there orphaned used_up =
    sym (
    ap (λ p. name_refusal (nodes_of table) p full) (place-table table at)
    ∙ same_order full (is_some (option_map (number_of_key table) at.node)) (is_orphan (listing_at (nodes_of table) (number_of_key table at.dir)))
    (is_used_up (listing_at (nodes_of table) (number_of_key table at.dir))) there orphan lacks
    (some-mapped (number_of_key table) at.node ∙ is_there) orphaned used_up)

pub is_full : (full lacks : Bool) → full ≡ true → Some ENOSPC ≡ in_order full false false lacks
is_full full lacks is = sym (ap (λ b. in_order b false false lacks) is)

pub no_room : (full : Bool) → Some ENOSPC ≡ in_order full false false true
no_room true = refl
no_room false = refl

-- The limits

pub full-nodes : (table : Table) (count : ℕ) (full : Bool) → HasDistinctNumbers table → count ≡ slab_len table → full ≡ nat_le node_limit count → node_limit ≤ count
    → full ≡ (nodes_full (nodes_of table) || entries_full (nodes_of table))
full-nodes table count full distinct counts is reached =
    is ∙ le-leb node_limit count reached
    ∙ sym (ap (λ n. nat_le node_limit n || entries_full (nodes_of table)) (len-nodes table distinct ∙ sym counts) ∙ ap (λ b. b || entries_full (nodes_of table)) (le-leb node_limit count reached))

pub full-entries : (table : Table) (count entries : ℕ) (full : Bool) → HasDistinctNumbers table → count ≡ slab_len table → full ≡ nat_le entry_limit entries
    → entries ≡ live_entries (nodes_of table) → count < node_limit → full ≡ (nodes_full (nodes_of table) || entries_full (nodes_of table))
full-entries table count entries full distinct counts is total few =
    is ∙ ap (nat_le entry_limit) total
    ∙ sym (ap (λ n. nat_le node_limit n || entries_full (nodes_of table)) (len-nodes table distinct ∙ sym counts) ∙ ap (λ b. b || entries_full (nodes_of table)) (lt-leb node_limit count few))
