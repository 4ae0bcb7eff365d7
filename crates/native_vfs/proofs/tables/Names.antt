-- A directory's names, as it keeps them, against the listing that contracts see.
use Rattle.std.proofs.Common.{◌≡◌, ℕ, ◌+◌, Bool, not, List, map, filter, Option, Some, None, refl, sym, ap, subst, ◌∙◌, Contains}
use Rattle.std.specs.Prelude.{All, option_map, find}
use Rattle.std.specs.Str.{bytes_eq}
use Rattle.std.proofs.lemmas.Cmp.{nat_list_eq_equiv}
use Rattle.kernel_core.specs.NameCalls as calls
use Rattle.kernel_core.specs.Nodes.{entry_named}
use Rattle.kernel_core.specs.NodeCalls.{entry_above}
use Rattle.kernel_core.specs.declared.tree.DirEntry.{DirEntry}
use Rattle.directory_names.proofs.NameLemmas.{entry-find_name}
use Rattle.directory_names.proofs.PlainLemmas.{number-find_name, plain-entry_after, plain-with_entry, plain-without}
use Rattle.directory_names.specs.Names.{NamedNode, Names, plain, find_name, entry_after, added, without}
use Rattle.directory_names.specs.declared.entry.NodeRef.{NodeRef}
use Rattle.native_vfs.specs.inside.Stored.{Table, Leads, listing_of}
use Rattle.native_vfs.specs.declared.stored.StoredDirectory.{StoredDirectory}

-- the test of a name, from either side
abbrev same_names : (name : List ℕ) → ◌≡◌ {A = DirEntry → Bool} (λ e. bytes_eq name e.name) (λ e. bytes_eq e.name name)
same_names name = λ i e. nat_list_eq_equiv.symm name e.name i

-- the number that a name stands for is that of the listing's entry
pub found-named : (entries : List NamedNode) (name : List ℕ)
    → option_map (λ n. n.number) (find_name entries name) ≡ option_map (λ e. e.node) (entry_named (map plain entries) name)
found-named entries name = number-find_name entries name ∙ ap (λ test. option_map (λ e. e.node) (find test (map plain entries))) (same_names name)

-- a name that the listing has not is not found
pub none-named : (entries : List NamedNode) (name : List ℕ) → entry_named (map plain entries) name ≡ None → find_name entries name ≡ None
none-named entries name none = by (find_name entries name) refl
  where
    by : (o : Option NodeRef) → find_name entries name ≡ o → o ≡ None
    by None is = refl
    by (Some node) is =
        let h : Some node.number ≡ None = sym (ap (option_map (λ n. n.number)) is) ∙ found-named entries name ∙ ap (option_map (λ e. e.node)) none in
        absurd (cc)

-- a name that is found leads where its entry does
pub found-leads : (table : Table) (entries : List NamedNode) (name : List ℕ) (node : NodeRef)
    → All (λ e. Leads table (record { number = e.number; key = e.key })) entries → find_name entries name ≡ Some node → Leads table node
found-leads table entries name node leads found =
    let is = entry-find_name entries name node found in
    let at : Contains entries is.entry = is.there in
    let lead = leads at.0 is.entry at.1 in
    subst (Leads table) is.has_node (subst (λ e. Leads table (record { number = e.number; key = e.key })) at.2 lead)

-- the entry after a cookie is the listing's entry above it
pub after-above : (entries : List NamedNode) (cookie : ℕ) → option_map plain (entry_after entries cookie) ≡ entry_above (map plain entries) cookie
after-above entries cookie = plain-entry_after entries cookie

-- a new name
pub listing-added : (directory : StoredDirectory) (names : Names) (name : List ℕ) (node : NodeRef) → names ≡ record (added directory.names name node) { spare = names.spare }
    → listing_of (record directory { names = names }) ≡ calls.with_entry name node.number (listing_of directory)
listing-added directory names name node is =
    ap (λ n. listing_of (record directory { names = n })) is
    ∙ ap (λ entries. record (listing_of directory) { greatest = directory.names.greatest + 1; entries = entries }) (plain-with_entry directory.names (directory.names.greatest + 1) name node)

-- a name less
pub listing-without : (directory : StoredDirectory) (names : Names) (name : List ℕ) → names ≡ record (without directory.names name) { spare = names.spare }
    → listing_of (record directory { names = names }) ≡ calls.without_entry name (listing_of directory)
listing-without directory names name is =
    ap (λ n. listing_of (record directory { names = n })) is
    ∙ ap (λ entries. record (listing_of directory) { entries = entries })
    (plain-without directory.names name ∙ ap (λ test. filter (λ e. not (test e)) (map plain directory.names.entries)) (same_names name))
