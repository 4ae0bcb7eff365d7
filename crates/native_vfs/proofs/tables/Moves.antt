-- A node that comes into the table, and one that goes.
use Rattle.std.proofs.Common.{◌≡◌, ◌≢◌, ℕ, ◌+◌, true, false, cond, eqb, List, [], ◌∷◌, map, Option, Some, None, sym, ap, subst, ◌∙◌, arith, inl, inr}
use Rattle.std.specs.Prelude.{All, option_map}
use Rattle.std.proofs.lemmas.Bool.{cases_eq, eq-eqb}
use Rattle.std.proofs.lemmas.List.Elements.{All-nil, All-cons}
use Rattle.std.proofs.lemmas.List.Sums.{sum_by-cons}
use Rattle.std.specs.FinMap.{get, insert, remove}
use Rattle.slab.specs.Slab.{Updates, get as slab_get}
use Rattle.kernel_core.specs.FileSystem.{parent_of}
use Rattle.kernel_core.specs.Nodes.{Inode, in_inode, listing_in}
use Rattle.kernel_core.specs.Totals.{content_entries}
use Rattle.kernel_core.specs.ValidTree.{names_in}
use Rattle.kernel_core.specs.declared.tree.DirEntry.{DirEntry}
use Rattle.directory_names.specs.Names.{NamedNode, plain}
use Rattle.directory_names.specs.declared.entry.NodeRef.{NodeRef}
use Rattle.native_vfs.specs.inside.Steps.{IsSame, IsInsertion, IsRemoval, IsUnnamed}
use Rattle.native_vfs.specs.inside.Stored.{Table, nodes_of, keys_of, inode_of, content_of, number_of, HasDistinctNumbers, Leads, OptionLeads, ContentLeads, node_has_room}
use Rattle.native_vfs.specs.declared.stored.Stored.{Stored}
use Rattle.native_vfs.specs.declared.stored.StoredContent.{StoredContent}
use Rattle.native_vfs.specs.declared.stored.StoredContent.TheVariants as kept
use Rattle.file_system_laws.proofs.Lookups.{same_nodes, get-insert_same, get-insert_other, get-remove_same, get-remove_other}
use Rattle.file_system_laws.proofs.Totals.{total-zero}
use Rattle.native_vfs.proofs.tables.Tables.{not_none, same_some, same_answer, key-get, node-found, node-there, number-there, nodes-moved, content-leads}

-- A node comes in

module _ (old new : Table) (key : ℕ) (node : Stored) (free : slab_get old key ≡ None) (updates : Updates old new key (Some node)) (distinct : HasDistinctNumbers old)
    (fresh : get (nodes_of old) node.number ≡ None) where
  new_number : (other : ℕ) (second : Stored) → slab_get old other ≡ Some second → second.number ≢ node.number
  new_number other second at same = not_none (inode_of second) (sym (node-there old other second distinct at) ∙ ap (get (nodes_of old)) same ∙ fresh)

  new_key : (other : ℕ) (second : Stored) → slab_get old other ≡ Some second → other ≢ key
  new_key other second at same = not_none second (sym at ∙ ap (slab_get old) same ∙ free)

  -- what stands at a key
  at_key : (other : ℕ) (second : Stored) → slab_get new other ≡ Some second → other ≡ key → second ≡ node
  at_key other second at here = same_some second node (sym at ∙ ap (slab_get new) here ∙ updates.changed)

  at_other : (other : ℕ) (second : Stored) → slab_get new other ≡ Some second → other ≢ key → slab_get old other ≡ Some second
  at_other other second at apart = sym (updates.others other apart) ∙ at

  inserted_distinct : HasDistinctNumbers new
  inserted_distinct one two first second at_one at_two same = elim (cases_eq one key) [
    | inl here ↦ elim (cases_eq two key) [
      | inl there ↦ here ∙ sym there
      | inr apart ↦ absurd (new_number two second (at_other two second at_two apart) (sym same ∙ ap (λ n. n.number) (at_key one first at_one here)))
    ]
    | inr apart ↦ elim (cases_eq two key) [
      | inl there ↦ absurd (new_number one first (at_other one first at_one apart) (same ∙ ap (λ n. n.number) (at_key two second at_two there)))
      | inr away ↦ distinct one two first second (at_other one first at_one apart) (at_other two second at_two away) same
    ]
  ]

  inserted_leads : (reference : NodeRef) → Leads old reference → Leads new reference
  inserted_leads reference leads = (leads.0, updates.others reference.key (new_key reference.key leads.0 leads.1) ∙ leads.1, leads.2)

  inserted_nodes : nodes_of new ≡ insert (nodes_of old) node.number (inode_of node)
  inserted_nodes = same_nodes _ _ (λ q. elim (cases_eq q node.number) [
    | inl here ↦
        ap (get (nodes_of new)) here ∙ node-there new key node inserted_distinct updates.changed
        ∙ sym (ap (get (insert (nodes_of old) node.number (inode_of node))) here ∙ get-insert_same (nodes_of old) node.number (inode_of node))
    | inr apart ↦
        same_answer _ _
        (nodes-moved new old q distinct (λ k n at is. at_other k n at (λ here. apart (sym is ∙ ap (λ n. n.number) (at_key k n at here)))))
        (nodes-moved old new q inserted_distinct (λ k n at is. updates.others k (new_key k n at) ∙ at))
        ∙ sym (get-insert_other (nodes_of old) node.number (inode_of node) q apart)
  ])

  inserted_keys : keys_of new ≡ insert (keys_of old) key node.number
  inserted_keys = same_nodes _ _ (λ q. elim (cases_eq q key) [
    | inl here ↦
        ap (get (keys_of new)) here ∙ key-get new key ∙ ap (option_map (λ n. n.number)) updates.changed
        ∙ sym (ap (get (insert (keys_of old) key node.number)) here ∙ get-insert_same (keys_of old) key node.number)
    | inr apart ↦
        key-get new q ∙ ap (option_map (λ n. n.number)) (updates.others q apart) ∙ sym (key-get old q)
        ∙ sym (get-insert_other (keys_of old) key node.number q apart)
  ])

  pub insertion : ContentLeads old node.content → IsInsertion old new key node
  insertion leads = record {
    free = free;
    updates = updates;
    nodes = inserted_nodes;
    keys = inserted_keys;
    distinct = inserted_distinct;
    references = λ references other second at. elim (cases_eq other key) [
      | inl here ↦ subst (λ n. ContentLeads new n.content) (sym (at_key other second at here)) (content-leads old new inserted_leads node.content leads)
      | inr apart ↦ content-leads old new inserted_leads second.content (references other second (at_other other second at apart))
    ];
    room = λ directory room. elim (cases_eq directory key) [
      | inl here ↦ let h : false ≡ true = sym (ap node_has_room (ap (slab_get old) here ∙ free)) ∙ room in absurd (cc)
      | inr apart ↦ ap node_has_room (updates.others directory apart) ∙ room
    ];
  }

-- the same values at each key are the same nodes
pub same-slots : (old new : Table) → old.slots ≡ new.slots → IsSame old new
unfolding nodes_of keys_of
same-slots old new same =
    let get_same : (key : ℕ) → slab_get new key ≡ slab_get old key = λ key. ap (λ slots. slab_get (record old { slots = slots }) key) (sym same) in
    record {
      nodes = ap (λ slots. nodes_of (record old { slots = slots })) (sym same);
      keys = ap (λ slots. keys_of (record old { slots = slots })) (sym same);
      numbers = λ key. ap (option_map (λ n. n.number)) (get_same key);
      references = λ references key node at. content-leads old new (λ r l. (l.0, get_same r.key ∙ l.1, l.2)) node.content (references key node (sym (get_same key) ∙ at));
      room = λ directory room. ap node_has_room (get_same directory) ∙ room;
    }

-- A node goes

-- entries of which none is for the number
no_entries : (entries : List NamedNode) (number : ℕ) → names_in (map plain entries) number ≡ 0 → All (λ e. e.number ≢ number) entries
no_entries [] number none = All-nil _
no_entries (e ∷ entries) number none =
    let split : cond (eqb e.number number) 1 0 + names_in (map plain entries) number ≡ 0 =
    sym (sum_by-cons (λ (d : DirEntry). cond (eqb d.node number) 1 0) (plain e) (map plain entries)) ∙ none in
    All-cons (λ e. e.number ≢ number) e entries
    (λ same. let one = ap {B = ℕ} (λ b. cond b 1 0) (eq-eqb e.number number same) in omega (arith, split, one))
    (no_entries entries number (omega (arith, split)))

-- references that lead on, but to one number to which none leads
leads_but : (old new : Table) (number : ℕ) → ((reference : NodeRef) → reference.number ≢ number → Leads old reference → Leads new reference) → (content : StoredContent)
    → names_in (content_entries (content_of content)) number ≡ 0 → parent_of (listing_in (content_of content)) ≢ Some number
    → ContentLeads old content → ContentLeads new content
leads_but old new number lead (kept.File content) unnamed childless leads = leads
leads_but old new number lead (kept.Directory directory) unnamed childless leads = record {
  parent = above directory.parent childless leads.parent;
  names = let apart = no_entries directory.names.entries number unnamed in λ k d short. lead _ (apart k d short) (leads.names k d short);
}
  where
    above : (o : Option NodeRef) → option_map number_of o ≢ Some number → OptionLeads old o → OptionLeads new o
    above None apart h = h
    above (Some reference) apart h = lead reference (λ same. apart (ap (λ n. Some n) same)) h
leads_but old new number lead (kept.Link target) unnamed childless leads = leads

module _ (old new : Table) (key : ℕ) (node : Stored) (at : slab_get old key ≡ Some node) (updates : Updates old new key None) (distinct : HasDistinctNumbers old) where
  was : (other : ℕ) (second : Stored) → slab_get new other ≡ Some second → (other ≢ key) × (slab_get old other ≡ Some second)
  was other second there = (
    λ here. not_none second (sym there ∙ ap (slab_get new) here ∙ updates.changed),
    elim (cases_eq other key) [
      | inl here ↦ absurd (not_none second (sym there ∙ ap (slab_get new) here ∙ updates.changed))
      | inr apart ↦ sym (updates.others other apart) ∙ there
    ],
  )

  removed_distinct : HasDistinctNumbers new
  removed_distinct one two first second at_one at_two same = distinct one two first second (was one first at_one).1 (was two second at_two).1 same

  -- what stands under another number stays
  stays : (other : ℕ) (second : Stored) → slab_get old other ≡ Some second → second.number ≢ node.number → slab_get new other ≡ Some second
  stays other second there apart = updates.others other (λ here. apart (ap (λ n. n.number) (same_some second node (sym there ∙ ap (slab_get old) here ∙ at)))) ∙ there

  removed_nodes : nodes_of new ≡ remove (nodes_of old) node.number
  removed_nodes = same_nodes _ _ (λ q. elim (cases_eq q node.number) [
    | inl here ↦
        same_answer (get (nodes_of new) q) None
        (λ i found. absurd (none_here q here i found))
        (λ i h. absurd (not_none i (sym h)))
        ∙ sym (ap (get (remove (nodes_of old) node.number)) here ∙ get-remove_same (nodes_of old) node.number)
    | inr apart ↦
        same_answer _ _
        (nodes-moved new old q distinct (λ k n there is. (was k n there).1))
        (nodes-moved old new q removed_distinct (λ k n there is. stays k n there (λ same. apart (sym is ∙ same))))
        ∙ sym (get-remove_other (nodes_of old) node.number q apart)
  ])
    where
      none_here : (q : ℕ) → q ≡ node.number → (i : Inode) → get (nodes_of new) q ≡ Some i → ⊥
      none_here q here i found =
          let f = node-found new q i found in
          let w = was f.key f.node f.at in
          w.0 (distinct f.key key f.node node w.1 at (f.has_number ∙ here))

  removed_keys : keys_of new ≡ remove (keys_of old) key
  removed_keys = same_nodes _ _ (λ q. elim (cases_eq q key) [
    | inl here ↦
        ap (get (keys_of new)) here ∙ key-get new key ∙ ap (option_map (λ n. n.number)) updates.changed
        ∙ sym (ap (get (remove (keys_of old) key)) here ∙ get-remove_same (keys_of old) key)
    | inr apart ↦
        key-get new q ∙ ap (option_map (λ n. n.number)) (updates.others q apart) ∙ sym (key-get old q)
        ∙ sym (get-remove_other (keys_of old) key q apart)
  ])

  pub removal : IsUnnamed (nodes_of old) node.number → IsRemoval old new key
  removal unnamed = record {
    updates = updates;
    nodes = removed_nodes ∙ ap (remove (nodes_of old)) (sym (number-there old key node at));
    keys = removed_keys;
    distinct = removed_distinct;
    references = λ references other second there.
        let w = was other second there in
        let found = node-there old other second distinct w.1 in
        leads_but old new node.number
        (λ r apart l. (l.0, stays r.key l.0 l.1 (λ same. apart (sym l.2 ∙ same)), l.2)) second.content
        (total-zero (λ i. names_in (content_entries i.content) node.number) (nodes_of old) second.number (inode_of second) unnamed.names found)
        (λ h. unnamed.parents second.number (ap (λ o. parent_of (in_inode listing_in o)) found ∙ h))
        (references other second w.1);
    room = λ directory apart room. ap node_has_room (updates.others directory apart) ∙ room;
  }
