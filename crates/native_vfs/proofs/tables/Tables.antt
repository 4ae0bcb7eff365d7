-- The table of nodes: which node each number and each key stands for, and what a change of one slot makes of both.
use Rattle.std.proofs.Common.{◌≡◌, ℕ, ◌+◌, ◌≤◌, true, false, List, [], ◌∷◌, map, Option, Some, None, is_some, IsSome, refl, sym, ap, subst, ◌∙◌, arith, inl, inr, Contains}
use Rattle.std.specs.Prelude.{option_map}
use Rattle.std.specs.Option.{unwrap_or}
use Rattle.std.proofs.lemmas.Bool.{cases_eq}
use Rattle.std.proofs.lemmas.List.Elements.{All-weaker}
use Rattle.std.specs.Cmp.{nat_cmp_total}
use Rattle.std.specs.FinMap.{get, insert, len, get-from_entries}
use Rattle.slab.specs.Slab.{get as slab_get, entries, entries_from, slab_len, Updates, with_value}
use Rattle.slab.proofs.SlabLemmas.{Contains-cons, Contains-cons_cases, Contains-entries, length-entries, Updates-with_value}
use Rattle.kernel_core.specs.Nodes.{Nodes, Inode, update, changed_inode}
use Rattle.directory_names.specs.declared.entry.NodeRef.{NodeRef}
use Rattle.native_vfs.specs.Keyed.{AreKeys, number_at}
use Rattle.native_vfs.specs.inside.Steps.{IsSame, links_in, links_at, holds_in, holds_at}
use Rattle.native_vfs.specs.inside.Stored.{Table, nodes_of, keys_of, keyed_of, inode_of, number_of_key, number_in, HasDistinctNumbers, KeepsNumbers, Leads, OptionLeads, ContentLeads, HasReferences, HasRoom, node_has_room, content_has_room, IsStep}
use Rattle.native_vfs.specs.declared.stored.Stored.{Stored}
use Rattle.native_vfs.specs.declared.stored.StoredContent.{StoredContent}
use Rattle.native_vfs.specs.declared.stored.StoredContent.TheVariants as kept
use Rattle.file_system_laws.proofs.Lookups.{same_nodes, get-insert_same, get-insert_other, update-found}
use Rattle.native_vfs.proofs.tables.Lookups.{find-found, find-there, AreApart, len-apart}

pub not_none : {T : Type 0} (x : T) → Some x ≡ None → ⊥
not_none x h = cc

pub same_some : {T : Type 0} (x y : T) → Some x ≡ Some y → x ≡ y
same_some x y h = cc

-- answers of which each is the other's
pub same_answer : {X : Type 0} (a b : Option X) → ((x : X) → a ≡ Some x → b ≡ Some x) → ((x : X) → b ≡ Some x → a ≡ Some x) → a ≡ b
same_answer None None there back = refl
same_answer None (Some y) there back = back y refl
same_answer (Some x) b there back = sym (there x refl)

-- The nodes by their numbers

abbrev node_entry : ℕ × Stored → ℕ × Inode
node_entry e = (e.1.number, inode_of e.1)

abbrev key_entry : ℕ × Stored → ℕ × ℕ
key_entry e = (e.0, e.1.number)

-- a node of this number that stands at a key of the table
pub record IsStored (table : Table) (number : ℕ) (inode : Inode) : Type 0 where
  pub key : ℕ
  pub node : Stored
  pub at : slab_get table key ≡ Some node
  pub has_number : node.number ≡ number
  pub has_inode : inode_of node ≡ inode

-- what a number stands for is kept at a key
pub node-found : (table : Table) (number : ℕ) (inode : Inode) → get (nodes_of table) number ≡ Some inode → IsStored table number inode
unfolding nodes_of
node-found table number inode found =
    let f = find-found node_entry (entries table) number inode (sym (get-from_entries nat_cmp_total _ number) ∙ found) in
    record { key = f.entry.0; node = f.entry.1; at = (Contains-entries table f.entry.0 f.entry.1).0 f.there; has_number = f.key; has_inode = f.value }

-- the number of each node that is kept stands for it
pub node-there : (table : Table) (key : ℕ) (node : Stored) → HasDistinctNumbers table → slab_get table key ≡ Some node
    → get (nodes_of table) node.number ≡ Some (inode_of node)
unfolding nodes_of
node-there table key node distinct at = by (get (nodes_of table) node.number) refl
  where
    some : is_some (get (nodes_of table) node.number) ≡ true
    some = ap is_some (get-from_entries nat_cmp_total (map node_entry (entries table)) node.number)
        ∙ find-there node_entry (entries table) (key, node) ((Contains-entries table key node).1 at)

    by : (o : Option Inode) → get (nodes_of table) node.number ≡ o → get (nodes_of table) node.number ≡ Some (inode_of node)
    by None is = absurd (let h : true ≡ false = sym some ∙ ap is_some is in cc)
    by (Some inode) is =
        let found = node-found table node.number inode is in
        let here : found.key ≡ key = distinct found.key key found.node node found.at at found.has_number in
        let same : found.node ≡ node = same_some found.node node (sym found.at ∙ ap (slab_get table) here ∙ at) in
        is ∙ ap (λ i. Some i) (sym found.has_inode ∙ ap inode_of same)

-- The numbers by their keys

pub key-found : (table : Table) (key number : ℕ) → get (keys_of table) key ≡ Some number → (node : Stored) × (slab_get table key ≡ Some node) × (node.number ≡ number)
unfolding keys_of
key-found table key number found =
    let f = find-found key_entry (entries table) key number (sym (get-from_entries nat_cmp_total _ key) ∙ found) in
    (f.entry.1, ap (slab_get table) (sym f.key) ∙ (Contains-entries table f.entry.0 f.entry.1).0 f.there, f.value)

pub key-there : (table : Table) (key : ℕ) (node : Stored) → slab_get table key ≡ Some node → get (keys_of table) key ≡ Some node.number
unfolding keys_of
key-there table key node at = by (get (keys_of table) key) refl
  where
    some : is_some (get (keys_of table) key) ≡ true
    some = ap is_some (get-from_entries nat_cmp_total (map key_entry (entries table)) key)
        ∙ find-there key_entry (entries table) (key, node) ((Contains-entries table key node).1 at)

    by : (o : Option ℕ) → get (keys_of table) key ≡ o → get (keys_of table) key ≡ Some node.number
    by None is = absurd (let h : true ≡ false = sym some ∙ ap is_some is in cc)
    by (Some number) is =
        let found = key-found table key number is in
        let same : found.0 ≡ node = same_some found.0 node (sym found.1 ∙ at) in
        is ∙ ap (λ n. Some n) (sym found.2 ∙ ap (λ n. n.number) same)

-- a key has the number of the node that is kept there
pub key-get : (table : Table) (key : ℕ) → get (keys_of table) key ≡ option_map (λ n. n.number) (slab_get table key)
key-get table key = by (slab_get table key) refl
  where
    by : (o : Option Stored) → slab_get table key ≡ o → get (keys_of table) key ≡ option_map (λ n. n.number) o
    by None is = same_answer _ None (λ n found. let f = key-found table key n found in absurd (not_none f.0 (sym f.1 ∙ is))) (λ n h. absurd (not_none n (sym h)))
    by (Some node) is = key-there table key node is

pub number_at-table : (table : Table) (key : ℕ) → number_at (keyed_of table) key ≡ number_of_key table key
unfolding keyed_of
number_at-table table key =
    ap (λ o. unwrap_or o 0) (key-get table key)
    ∙ elim (slab_get table key) as (λ o. unwrap_or (option_map (λ n. n.number) o) 0 ≡ number_in o) [ None ↦ refl | Some node ↦ refl ]

-- Each key stands for a live node, and each live node has one key.
pub AreKeys-table : (table : Table) → HasDistinctNumbers table → AreKeys (keyed_of table)
unfolding keyed_of
AreKeys-table table distinct = record {
  live = λ key number found.
      let f = key-found table key number found in
      ap (λ n. is_some (get (nodes_of table) n)) (sym f.2) ∙ ap is_some (node-there table key f.0 distinct f.1);
  each = λ number some. each number (get (nodes_of table) number) refl some;
  once = λ key other number found second.
      let f = key-found table key number found in
      let g = key-found table other number second in
      distinct key other f.0 g.0 f.1 g.1 (f.2 ∙ sym g.2);
}
  where
    each : (number : ℕ) (o : Option Inode) → get (nodes_of table) number ≡ o → is_some (get (nodes_of table) number) ≡ true → (key : ℕ) × (get (keys_of table) key ≡ Some number)
    each number None is some = absurd (let h : true ≡ false = sym some ∙ ap is_some is in cc)
    each number (Some inode) is some =
        let f = node-found table number inode is in
        (f.key, key-there table f.key f.node f.at ∙ ap (λ n. Some n) f.has_number)

-- How many nodes there are

later_keys : (first : ℕ) (slots : List (Option Stored)) (e : ℕ × Stored) → Contains (entries_from first slots) e → first ≤ e.0
later_keys first [] e there = absurd (omega (arith, there.1))
later_keys first (None ∷ rest) e there = let h = later_keys (first + 1) rest e there in omega (arith, h)
later_keys first (Some node ∷ rest) e there = elim (Contains-cons_cases (first, node) e (entries_from (first + 1) rest) there) [
  | inl here ↦ omega (arith, ap (λ e. e.0) here)
  | inr later ↦ let h = later_keys (first + 1) rest e later in omega (arith, h)
]

apart_from : (table : Table) → HasDistinctNumbers table → (first : ℕ) (slots : List (Option Stored))
    → ((e : ℕ × Stored) → Contains (entries_from first slots) e → slab_get table e.0 ≡ Some e.1) → AreApart node_entry (entries_from first slots)
apart_from table distinct first [] are = tt
apart_from table distinct first (None ∷ rest) are = apart_from table distinct (first + 1) rest are
apart_from table distinct first (Some node ∷ rest) are = (
  λ e there same.
      let here = distinct e.0 first e.1 node (are e (Contains-cons (first, node) e (entries_from (first + 1) rest) there)) (are (first, node) (0, omega arith, refl)) same in
      let later = later_keys (first + 1) rest e there in
      omega (arith, here, later),
  apart_from table distinct (first + 1) rest (λ e there. are e (Contains-cons (first, node) e (entries_from (first + 1) rest) there)),
)

pub len-nodes : (table : Table) → HasDistinctNumbers table → len (nodes_of table) ≡ slab_len table
unfolding nodes_of
len-nodes table distinct =
    len-apart node_entry (entries table) (apart_from table distinct 0 table.slots (λ e there. (Contains-entries table e.0 e.1).0 there))
    ∙ length-entries table

-- What stays where each key keeps its number

module _ (old new : Table) (numbers : KeepsNumbers old new) where
  pub keys-kept : keys_of new ≡ keys_of old
  keys-kept = same_nodes _ _ (λ key. key-get new key ∙ numbers key ∙ sym (key-get old key))

  -- a node that is kept has one before of the same number
  pub node-before : (key : ℕ) (node : Stored) → slab_get new key ≡ Some node → (before : Stored) × (slab_get old key ≡ Some before) × (before.number ≡ node.number)
  node-before key node at = by (slab_get old key) refl
    where
      by : (o : Option Stored) → slab_get old key ≡ o → (before : Stored) × (slab_get old key ≡ Some before) × (before.number ≡ node.number)
      by None is = absurd (let h : Some node.number ≡ None = sym (ap (option_map (λ n. n.number)) at) ∙ numbers key ∙ ap (option_map (λ n. n.number)) is in cc)
      by (Some before) is =
          let h : Some node.number ≡ Some before.number = sym (ap (option_map (λ n. n.number)) at) ∙ numbers key ∙ ap (option_map (λ n. n.number)) is in
          (before, is, sym (same_some _ _ h))

  -- and the other way round
  pub node-after : (key : ℕ) (node : Stored) → slab_get old key ≡ Some node → (after : Stored) × (slab_get new key ≡ Some after) × (after.number ≡ node.number)
  node-after key node at = by (slab_get new key) refl
    where
      by : (o : Option Stored) → slab_get new key ≡ o → (after : Stored) × (slab_get new key ≡ Some after) × (after.number ≡ node.number)
      by None is = absurd (let h : Some node.number ≡ None = sym (ap (option_map (λ n. n.number)) at) ∙ sym (numbers key) ∙ ap (option_map (λ n. n.number)) is in cc)
      by (Some after) is =
          let h : Some node.number ≡ Some after.number = sym (ap (option_map (λ n. n.number)) at) ∙ sym (numbers key) ∙ ap (option_map (λ n. n.number)) is in
          (after, is, sym (same_some _ _ h))

  pub distinct-kept : HasDistinctNumbers old → HasDistinctNumbers new
  distinct-kept distinct key other node second at at_other same =
      let a = node-before key node at in
      let b = node-before other second at_other in
      distinct key other a.0 b.0 a.1 b.1 (a.2 ∙ same ∙ sym b.2)

  pub live-kept : (key : ℕ) → IsSome (slab_get old key) → IsSome (slab_get new key)
  live-kept key live = by (slab_get old key) refl live
    where
      by : (o : Option Stored) → slab_get old key ≡ o → IsSome o → IsSome (slab_get new key)
      by None is some = absurd (cc)
      by (Some node) is some = let a = node-after key node is in ap is_some a.1

  pub number-kept : (key : ℕ) → number_of_key new key ≡ number_of_key old key
  number-kept key = in_option (slab_get new key) ∙ ap (λ o. unwrap_or o 0) (numbers key) ∙ sym (in_option (slab_get old key))
    where
      in_option : (o : Option Stored) → number_in o ≡ unwrap_or (option_map (λ n. n.number) o) 0
      in_option None = refl
      in_option (Some node) = refl

  pub leads-kept : (reference : NodeRef) → Leads old reference → Leads new reference
  leads-kept reference leads = let a = node-after reference.key leads.0 leads.1 in (a.0, a.1, a.2 ∙ leads.2)

-- References of a node that lead on

pub content-leads : (old new : Table) → ((reference : NodeRef) → Leads old reference → Leads new reference) → (content : StoredContent) → ContentLeads old content → ContentLeads new content
content-leads old new lead (kept.File content) leads = leads
content-leads old new lead (kept.Directory directory) leads = record {
  parent = above directory.parent leads.parent;
  names = All-weaker _ _ (λ e h. lead (record { number = e.number; key = e.key }) h) directory.names.entries leads.names;
}
  where
    above : (o : Option NodeRef) → OptionLeads old o → OptionLeads new o
    above None h = h
    above (Some reference) h = lead reference h
content-leads old new lead (kept.Link target) leads = leads

-- nodes of one number that another table has at the same key
pub nodes-moved : (from to : Table) (number : ℕ) → HasDistinctNumbers to
    → ((key : ℕ) (node : Stored) → slab_get from key ≡ Some node → node.number ≡ number → slab_get to key ≡ Some node)
    → (inode : Inode) → get (nodes_of from) number ≡ Some inode → get (nodes_of to) number ≡ Some inode
nodes-moved from to number distinct move inode found =
    let f = node-found from number inode found in
    ap (get (nodes_of to)) (sym f.has_number) ∙ node-there to f.key f.node distinct (move f.key f.node f.at f.has_number) ∙ ap (λ i. Some i) f.has_inode

-- One node changes

module _ (old new : Table) (key : ℕ) (before after : Stored) (at : slab_get old key ≡ Some before) (updates : Updates old new key (Some after))
    (same : after.number ≡ before.number) where
  pub updates-numbers : KeepsNumbers old new
  updates-numbers other = elim (cases_eq other key) [
    | inl here ↦
        ap (λ k. option_map (λ n. n.number) (slab_get new k)) here ∙ ap (option_map (λ n. n.number)) updates.changed ∙ ap (λ n. Some n) same
        ∙ sym (ap (λ k. option_map (λ n. n.number) (slab_get old k)) here ∙ ap (option_map (λ n. n.number)) at)
    | inr apart ↦ ap (option_map (λ n. n.number)) (updates.others other apart)
  ]

  pub updates-nodes : (change : Inode → Inode) → HasDistinctNumbers old → inode_of after ≡ change (inode_of before)
      → nodes_of new ≡ update (nodes_of old) before.number change
  updates-nodes change distinct changes = same_nodes _ _ each ∙ sym (update-found (nodes_of old) before.number change (inode_of before) (node-there old key before distinct at))
    where
      distinct_new : HasDistinctNumbers new
      distinct_new = distinct-kept old new updates-numbers distinct

      each : (q : ℕ) → get (nodes_of new) q ≡ get (insert (nodes_of old) before.number (change (inode_of before))) q
      each q = elim (cases_eq q before.number) [
        | inl here ↦
            ap (get (nodes_of new)) (here ∙ sym same) ∙ node-there new key after distinct_new updates.changed ∙ ap (λ i. Some i) changes
            ∙ sym (ap (get (insert (nodes_of old) before.number (change (inode_of before)))) here ∙ get-insert_same (nodes_of old) before.number (change (inode_of before)))
        | inr apart ↦
            same_answer _ _
            (nodes-moved new old q distinct (λ k n there is. sym (updates.others k (λ e. apart (sym is ∙ ap (λ n. n.number) (same_some n after (sym there ∙ ap (slab_get new) e ∙ updates.changed)) ∙ same))) ∙ there))
            (nodes-moved old new q distinct_new (λ k n there is. updates.others k (λ e. apart (sym is ∙ ap (λ n. n.number) (same_some n before (sym there ∙ ap (slab_get old) e ∙ at)))) ∙ there))
            ∙ sym (get-insert_other (nodes_of old) before.number (change (inode_of before)) q apart)
      ]

  -- each reference still leads to its node, where those of the changed node do
  pub updates-references : (ContentLeads old before.content → ContentLeads old after.content) → HasReferences old → HasReferences new
  updates-references leads references other node there = elim (cases_eq other key) [
    | inl here ↦
        let is : after ≡ node = same_some after node (sym updates.changed ∙ ap (slab_get new) (sym here) ∙ there) in
        subst (λ n. ContentLeads new n.content) is (content-leads old new (leads-kept old new updates-numbers) after.content (leads (references key before at)))
    | inr apart ↦ content-leads old new (leads-kept old new updates-numbers) node.content (references other node (sym (updates.others other apart) ∙ there))
  ]

  pub updates-room : (directory : ℕ) → (directory ≡ key → content_has_room before.content ≡ true → content_has_room after.content ≡ true)
      → HasRoom old directory → HasRoom new directory
  updates-room directory keeps room = elim (cases_eq directory key) [
    | inl here ↦
        ap (λ k. node_has_room (slab_get new k)) here ∙ ap node_has_room updates.changed
        ∙ keeps here (sym (ap (λ k. node_has_room (slab_get old k)) here ∙ ap node_has_room at) ∙ room)
    | inr apart ↦ ap node_has_room (updates.others directory apart) ∙ room
  ]

pub number-there : (table : Table) (key : ℕ) (node : Stored) → slab_get table key ≡ Some node → number_of_key table key ≡ node.number
number-there table key node at = ap number_in at

-- the links and holds of a node that is kept
pub links-there : (table : Table) (key : ℕ) (node : Stored) → HasDistinctNumbers table → slab_get table key ≡ Some node → links_at table key ≡ node.links
links-there table key node distinct at =
    ap (λ n. links_in (get (nodes_of table) n)) (number-there table key node at) ∙ ap links_in (node-there table key node distinct at)

pub holds-there : (table : Table) (key : ℕ) (node : Stored) → HasDistinctNumbers table → slab_get table key ≡ Some node → holds_at table key ≡ node.holds
holds-there table key node distinct at =
    ap (λ n. holds_in (get (nodes_of table) n)) (number-there table key node at) ∙ ap holds_in (node-there table key node distinct at)

live_some : (table : Table) (key : ℕ) (node : Stored) → slab_get table key ≡ Some node → IsSome (slab_get table key)
live_some table key node at = ap is_some at

-- A node is written in its place: this is a step.
pub step-with_value : (table : Table) (key : ℕ) (before after : Stored) (change : Inode → Inode) → slab_get table key ≡ Some before → HasDistinctNumbers table
    → after.number ≡ before.number → inode_of after ≡ change (inode_of before)
    → (ContentLeads table before.content → ContentLeads table after.content)
    → (content_has_room before.content ≡ true → content_has_room after.content ≡ true)
    → IsStep table (with_value table key after) key change
step-with_value table key before after change at distinct same changes leads room =
    let updates = Updates-with_value table key after (live_some table key before at) in
    record {
      nodes = updates-nodes table (with_value table key after) key before after at updates same change distinct changes
          ∙ ap (λ n. update (nodes_of table) n change) (sym (number-there table key before at));
      numbers = updates-numbers table (with_value table key after) key before after at updates same;
      references = updates-references table (with_value table key after) key before after at updates same leads;
      room = λ directory. updates-room table (with_value table key after) key before after at updates same directory (λ _. room);
    }

-- A node that is changed into itself
insert_again : (nodes : Nodes) (n : ℕ) (i : Inode) → get nodes n ≡ Some i → insert nodes n i ≡ nodes
insert_again nodes n i found = same_nodes _ _ (λ q. elim (cases_eq q n) [
  | inl here ↦ ap (get (insert nodes n i)) here ∙ get-insert_same nodes n i ∙ sym (ap (get nodes) here ∙ found)
  | inr apart ↦ get-insert_other nodes n i q apart
])

-- no node changes where the one at a key is changed into itself
pub update_same : (nodes : Nodes) (n : ℕ) → update nodes n (λ i. i) ≡ nodes
unfolding update
update_same nodes n = by (get nodes n) refl
  where
    by : (o : Option Inode) → get nodes n ≡ o → changed_inode nodes n (λ i. i) o ≡ nodes
    by None is = refl
    by (Some i) is = insert_again nodes n i is

-- A node is written in its place and stands for what it stood for: nothing changes.
pub same-with_value : (table : Table) (key : ℕ) (before after : Stored) → slab_get table key ≡ Some before → HasDistinctNumbers table
    → after.number ≡ before.number → inode_of after ≡ inode_of before
    → (ContentLeads table before.content → ContentLeads table after.content)
    → (content_has_room before.content ≡ true → content_has_room after.content ≡ true)
    → IsSame table (with_value table key after)
same-with_value table key before after at distinct same unchanged leads room =
    let step = step-with_value table key before after (λ i. i) at distinct same unchanged leads room in
    let here = node-there table key before distinct at in
    record {
      nodes = step.nodes ∙ ap (λ n. update (nodes_of table) n (λ i. i)) (number-there table key before at)
          ∙ update-found (nodes_of table) before.number (λ i. i) (inode_of before) here
          ∙ insert_again (nodes_of table) before.number (inode_of before) here;
      keys = keys-kept table (with_value table key after) step.numbers;
      numbers = step.numbers;
      references = step.references;
      room = step.room;
    }
