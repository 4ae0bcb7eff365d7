-- What each step on a directory makes of its node.
use Rattle.std.proofs.Common.{◌≡◌, ℕ, ◌<◌, ◌≤◌, true, false, not, List, nat_lt, Some, None, is_some, IsSome, refl, sym, ap, subst, ◌∙◌, arith}
use Rattle.std.specs.Prelude.{All, ℤ}
use Rattle.std.specs.Str.{bytes_eq}
use Rattle.std.proofs.lemmas.Bool.{ltb-true, lt-ltb}
use Rattle.std.proofs.lemmas.List.Elements.{All-filter, All-push}
use Rattle.slab.specs.Slab.{get as slab_get, with_value}
use Rattle.slab.proofs.SlabLemmas.{Updates-with_value}
use Rattle.kernel_core.specs.NameCalls.{in_directory, orphaned, reparented, relisted, with_entry, without_entry}
use Rattle.kernel_core.specs.Nodes.{Inode, Listing, NodeContent, listing_at, in_inode, listing_in, entry_named}
use Rattle.kernel_core.specs.Nodes as nodes
use Rattle.kernel_core.specs.ValidTree.{greatest_cookie}
use Rattle.directory_names.specs.Names.{Names, find_name, added, without}
use Rattle.directory_names.specs.declared.entry.NodeRef.{NodeRef}
use Rattle.native_vfs.specs.inside.Steps.{IsSame, IsAddition}
use Rattle.native_vfs.specs.inside.Stored.{Table, nodes_of, inode_of, content_of, listing_of, number_of_key, HasDistinctNumbers, Leads, ContentLeads, DirectoryLeads, content_has_room, IsStep, CanAdd}
use Rattle.native_vfs.specs.declared.stored.Stored.{Stored}
use Rattle.native_vfs.specs.declared.stored.StoredDirectory.{StoredDirectory}
use Rattle.native_vfs.specs.declared.stored.StoredContent.{StoredContent}
use Rattle.native_vfs.specs.declared.stored.StoredContent.TheVariants as kept
use Rattle.native_vfs.proofs.tables.Names.{listing-added, listing-without, none-named}
use Rattle.native_vfs.proofs.tables.Tables.{step-with_value, same-with_value, node-there, number-there, updates-nodes, updates-numbers, updates-references, updates-room}

-- a directory whose listing changes
listed : (content : StoredContent) (directory after : StoredDirectory) (change : Listing → Listing) → content ≡ kept.Directory directory
    → listing_of after ≡ change (listing_of directory) → content_of (kept.Directory after) ≡ in_directory change (content_of content)
listed content directory after change is changes = ap nodes.Directory changes ∙ sym (ap (λ c. in_directory change (content_of c)) is)

-- what is no directory has no listing that could change
unlisted : (content : StoredContent) (change : Listing → Listing) → ((directory : StoredDirectory) → content ≡ kept.Directory directory → ⊥)
    → content_of content ≡ in_directory change (content_of content)
unlisted (kept.File content) change none = refl
unlisted (kept.Directory directory) change none = absurd (none directory refl)
unlisted (kept.Link target) change none = refl

more_room : (m n : ℕ) → m ≤ n → nat_lt 0 m ≡ true → nat_lt 0 n ≡ true
more_room m n more some = let h = ltb-true 0 m some in lt-ltb 0 n (omega (arith, h))

-- what all steps on a directory know
module _ (table : Table) (key : ℕ) (before : Stored) (at : slab_get table key ≡ Some before) (distinct : HasDistinctNumbers table) where
  module _ (directory : StoredDirectory) (is : before.content ≡ kept.Directory directory) where
    leads_in : ContentLeads table before.content → DirectoryLeads table directory
    leads_in = subst (ContentLeads table) is

    room_in : content_has_room before.content ≡ true → nat_lt 0 directory.names.spare ≡ true
    room_in h = sym (ap content_has_room is) ∙ h

    pub orphan-step : IsStep table (with_value table key (record before { links = 0; content = kept.Directory (record directory { parent = None }) })) key orphaned
    orphan-step = step-with_value table key before _ orphaned at distinct refl
        (ap (λ (c : NodeContent). record (inode_of before) { links = 0; content = c }) (listed before.content directory (record directory { parent = None }) (λ l. record l { parent = None }) is refl))
        (λ h. record { parent = tt; names = (leads_in h).names })
        room_in

    pub reparent-step : (parent : NodeRef) → Leads table parent
        → IsStep table (with_value table key (record before { content = kept.Directory (record directory { parent = Some parent }) })) key (reparented parent.number)
    reparent-step parent lead = step-with_value table key before _ (reparented parent.number) at distinct refl
        (ap (λ (c : NodeContent). record (inode_of before) { content = c }) (listed before.content directory (record directory { parent = Some parent }) (λ l. record l { parent = Some parent.number }) is refl))
        (λ h. record { parent = lead; names = (leads_in h).names })
        room_in

    pub take-step : (names : Names) (name : List ℕ) (now : ℤ) → names ≡ record (without directory.names name) { spare = names.spare } → directory.names.spare ≤ names.spare
        → IsStep table (with_value table key (record before { modified = now; changed = now; content = kept.Directory (record directory { names = names }) })) key (relisted now (without_entry name))
    take-step names name now without more = step-with_value table key before _ (relisted now (without_entry name)) at distinct refl
        (ap (λ (c : NodeContent). record (inode_of before) { modified = now; changed = now; content = c })
        (listed before.content directory (record directory { names = names }) (without_entry name) is (listing-without directory names name without)))
        (λ h. record {
          parent = (leads_in h).parent;
          names = subst (λ n. All (λ e. Leads table (record { number = e.number; key = e.key })) n.entries) (sym without)
              (All-filter (λ e. not (bytes_eq name e.name)) (λ e. Leads table (record { number = e.number; key = e.key })) directory.names.entries (leads_in h).names);
        })
        (λ h. more_room directory.names.spare names.spare more (room_in h))

    pub reserve-same : (names : Names) → names ≡ record directory.names { spare = names.spare } → directory.names.spare ≤ names.spare
        → IsSame table (with_value table key (record before { content = kept.Directory (record directory { names = names }) }))
    reserve-same names same more = same-with_value table key before _ at distinct refl
        (ap (λ (c : NodeContent). record (inode_of before) { content = c })
        (ap (λ n. content_of (kept.Directory (record directory { names = n }))) same ∙ sym (ap content_of is)))
        (λ h. record {
          parent = (leads_in h).parent;
          names = subst (λ n. All (λ e. Leads table (record { number = e.number; key = e.key })) n.entries) (sym same) (leads_in h).names;
        })
        (λ h. more_room directory.names.spare names.spare more (room_in h))

    listing_here : listing_at (nodes_of table) (number_of_key table key) ≡ Some (listing_of directory)
    listing_here = ap (listing_at (nodes_of table)) (number-there table key before at) ∙ ap (in_inode listing_in) (node-there table key before distinct at)
        ∙ ap (λ c. listing_in (content_of c)) is

    pub can-cookie : (name : List ℕ) → CanAdd (listing_at (nodes_of table) (number_of_key table key)) name → directory.names.greatest < greatest_cookie
    can-cookie name can = (subst (λ l. CanAdd l name) listing_here can).0

    pub can-absent : (name : List ℕ) → CanAdd (listing_at (nodes_of table) (number_of_key table key)) name → find_name directory.names.entries name ≡ None
    can-absent name can = none-named directory.names.entries name (subst (λ l. CanAdd l name) listing_here can).1

    pub add-step : (names : Names) (name : List ℕ) (node : NodeRef) (now : ℤ) → Leads table node → names ≡ record (added directory.names name node) { spare = names.spare }
        → IsAddition table (with_value table key (record before { modified = now; changed = now; content = kept.Directory (record directory { names = names }) })) key
        (relisted now (with_entry name node.number))
    add-step names name node now lead adds =
        let after : Stored = record before { modified = now; changed = now; content = kept.Directory (record directory { names = names }) } in
        let updates = Updates-with_value table key after (ap is_some at) in
        record {
          nodes = updates-nodes table (with_value table key after) key before after at updates refl (relisted now (with_entry name node.number)) distinct
              (ap (λ (c : NodeContent). record (inode_of before) { modified = now; changed = now; content = c })
              (listed before.content directory (record directory { names = names }) (with_entry name node.number) is (listing-added directory names name node adds)))
              ∙ ap (λ n. nodes.update (nodes_of table) n (relisted now (with_entry name node.number))) (sym (number-there table key before at));
          numbers = updates-numbers table (with_value table key after) key before after at updates refl;
          references = updates-references table (with_value table key after) key before after at updates refl
              (λ h. record {
                parent = (leads_in h).parent;
                names = subst (λ n. All (λ e. Leads table (record { number = e.number; key = e.key })) n.entries) (sym adds)
                    (All-push (λ e. Leads table (record { number = e.number; key = e.key })) directory.names.entries _ (leads_in h).names lead);
              });
          room = λ directory apart. updates-room table (with_value table key after) key before after at updates refl directory (λ e. absurd (apart e));
        }

  -- nothing changes where it is no directory
  module _ (none : (directory : StoredDirectory) → before.content ≡ kept.Directory directory → ⊥) where
    pub orphan-none : IsStep table (with_value table key (record before { links = 0 })) key orphaned
    orphan-none = step-with_value table key before _ orphaned at distinct refl
        (ap (λ (c : NodeContent). record (inode_of before) { links = 0; content = c }) (unlisted before.content (λ l. record l { parent = None }) none)) (λ h. h) (λ h. h)

    pub reparent-none : (parent : ℕ) → IsStep table (with_value table key before) key (reparented parent)
    reparent-none parent = step-with_value table key before _ (reparented parent) at distinct refl
        (ap (λ (c : NodeContent). record (inode_of before) { content = c }) (unlisted before.content (λ l. record l { parent = Some parent }) none)) (λ h. h) (λ h. h)

    pub take-none : (name : List ℕ) (now : ℤ) → IsStep table (with_value table key (record before { modified = now; changed = now })) key (relisted now (without_entry name))
    take-none name now = step-with_value table key before _ (relisted now (without_entry name)) at distinct refl
        (ap (λ (c : NodeContent). record (inode_of before) { modified = now; changed = now; content = c }) (unlisted before.content (without_entry name) none)) (λ h. h) (λ h. h)

    pub no_listing : IsSome (listing_at (nodes_of table) (number_of_key table key)) → ⊥
    no_listing some = by before.content refl (
        sym (ap is_some (ap (listing_at (nodes_of table)) (number-there table key before at) ∙ ap (in_inode listing_in) (node-there table key before distinct at))) ∙ some)
      where
        by : (c : StoredContent) → before.content ≡ c → is_some (listing_in (content_of before.content)) ≡ true → ⊥
        by (kept.File content) is some = let h : false ≡ true = sym (ap (λ c. is_some (listing_in (content_of c))) is) ∙ some in cc
        by (kept.Directory directory) is some = none directory is
        by (kept.Link target) is some = let h : false ≡ true = sym (ap (λ c. is_some (listing_in (content_of c))) is) ∙ some in cc
