-- The whole of a renaming, from the table before it to that after it.
use Rattle.std.proofs.Common.{◌≡◌, ◌<◌, ◌+◌, ◌^◌, ℕ, Bool, true, false, ℤ, List, Option, Some, None, is_some, IsSome, refl, sym, ap, subst, ◌∙◌, arith}
use Rattle.std.specs.Prelude.{Result, Ok, Err, OnErr}
use Rattle.std.specs.FinMap.{get}
use Rattle.slab.specs.Slab.{get as slab_get}
use Rattle.kernel_core.specs.FileSystem.{IsFileSystem, IsTime}
use Rattle.file_system_laws.proofs.Counts.{live_blocks-kept, live_blocks-relisted}
use Rattle.kernel_core.specs.NameCalls.{add_name, changed_at, move_parent, with_entry, without_entry, take_name, replace_name, is_node, rename_refusal, after_move}
use Rattle.kernel_core.specs.Nodes.{Nodes, Inode, listing_at}
use Rattle.kernel_core.specs.PathWalk.{Place, Agrees}
use Rattle.kernel_core.specs.Totals.{live_entries, live_blocks}
use Rattle.kernel_core.specs.ValidTree.{IsName, root}
use Rattle.native_vfs.specs.Keyed.{Keyed, AgreesAt, KeepsKeys, place_at, number_at}
use Rattle.native_vfs.specs.inside.Renames.{entry_moved, MayGive, IsCleared, Becomes}
use Rattle.native_vfs.specs.inside.Steps.{IsSame, links_in, links_at}
use Rattle.native_vfs.specs.inside.Stored.{Table, nodes_of, keyed_of, number_of_key, HasDistinctNumbers, KeepsNumbers, Leads, AgreesPool, IsSound, CanAdd}
use Rattle.native_vfs.specs.declared.place.Place.{Place as KeyedPlace}
use Rattle.native_vfs.specs.declared.stored.Stored.{Stored}
use Rattle.native_vfs.proofs.removals.Ends.{root-lives}
use Rattle.native_vfs.proofs.tables.Kept.{IsWhole, nodes-view, keys-view, same-lives, pool-numbers}
use Rattle.native_vfs.proofs.tables.Reasons.{live-dir, live-node}
use Rattle.native_vfs.proofs.renames.Movable.{move_parent-blocks, to-name, may-give, moved-after, moved-system, from-lives, to-lives, moved-lives, from-links, to-links, can-add, moved-entries, moved-blocks}
use Rattle.native_vfs.proofs.removals.Stages.{placed, named-node}
use Rattle.native_vfs.proofs.tables.Tables.{number-there, number_at-table, keys-kept, distinct-kept, leads-kept}

-- A table of which no node changes

module _ (old one : Table) (same : IsSame old one) where
  pub same-view : keyed_of one ≡ keyed_of old
  unfolding keyed_of
  same-view = λ i. record { nodes = same.nodes i; keys = same.keys i }

  pub same-whole : (taken : List Bool) (entries blocks key : ℕ) → IsWhole old taken entries blocks key → IsWhole one taken entries blocks key
  same-whole taken entries blocks key is = record {
    distinct = distinct-kept old one same.numbers is.distinct;
    references = same.references is.references;
    system = subst IsFileSystem (sym same.nodes) is.system;
    pool = λ place below. is.pool place below ∙ sym (ap (λ nodes. is_some (get nodes (place + 2))) same.nodes);
    entry_total = is.entry_total ∙ sym (ap live_entries same.nodes);
    block_total = is.block_total ∙ sym (ap live_blocks same.nodes);
    top = leads-kept old one same.numbers (record { number = root; key = key }) is.top;
  }

-- A renaming that is not refused, at a table that stands for what callers see.
pub record IsRenaming (one : Table) (system : Keyed) (from to : KeyedPlace) (moved : ℕ) (now : ℤ) : Type 0 where
  pub view : keyed_of one ≡ system
  pub system_is : IsFileSystem (nodes_of one)
  pub from_agrees : AgreesAt system from
  pub to_agrees : AgreesAt system to
  pub node : from.node ≡ Some moved
  pub other : is_node (place_at system to).node (number_at system moved) ≡ false
  pub allowed : rename_refusal system.nodes (place_at system from) (place_at system to) ≡ None
  pub time : IsTime now

-- it begins with a table of which no node has changed yet
pub renaming-same : (old one : Table) → IsSame old one → (taken : List Bool) (entries blocks key : ℕ) → IsWhole old taken entries blocks key
    → (system : Keyed) (from to : KeyedPlace) (moved : ℕ) (now : ℤ) → IsRenaming old system from to moved now → IsRenaming one system from to moved now
renaming-same old one same taken entries blocks key kept system from to moved now renaming = record {
  view = same-view old one same ∙ renaming.view;
  system_is = (same-whole old one same taken entries blocks key kept).system;
  from_agrees = renaming.from_agrees;
  to_agrees = renaming.to_agrees;
  node = renaming.node;
  other = renaming.other;
  allowed = renaming.allowed;
  time = renaming.time;
}

module _ (one : Table) (system : Keyed) (from to : KeyedPlace) (moved : ℕ) (now : ℤ) (renaming : IsRenaming one system from to moved now) where
  view : keyed_of one ≡ system
  view = renaming.view

  fs : IsFileSystem (nodes_of one)
  fs = renaming.system_is

  time : IsTime now
  time = renaming.time

  abbrev pf : Place
  pf = place_at (keyed_of one) from

  abbrev pt : Place
  pt = place_at (keyed_of one) to

  abbrev m : ℕ
  m = number_of_key one moved

  pub agrees-from : AgreesAt (keyed_of one) from
  agrees-from = subst (λ (s : Keyed). AgreesAt s from) (sym view) renaming.from_agrees

  pub agrees-to : AgreesAt (keyed_of one) to
  agrees-to = subst (λ (s : Keyed). AgreesAt s to) (sym view) renaming.to_agrees

  at_from : Agrees (nodes_of one) pf
  at_from = placed one from agrees-from

  at_to : Agrees (nodes_of one) pt
  at_to = placed one to agrees-to

  found : pf.node ≡ Some m
  found = named-node one from agrees-from moved renaming.node

  free : rename_refusal (nodes_of one) pf pt ≡ None
  free =
      ap (λ nodes. rename_refusal nodes pf pt) (sym (nodes-view one)) ∙ ap (λ (s : Keyed). rename_refusal s.nodes (place_at s from) (place_at s to)) view ∙ renaming.allowed

  differs : is_node pt.node m ≡ false
  differs = ap (is_node pt.node) (sym (number_at-table one moved)) ∙ ap (λ (s : Keyed). is_node (place_at s to).node (number_at s moved)) view ∙ renaming.other

  pub entry-gives : MayGive (nodes_of one) pt.node
  entry-gives = may-give (nodes_of one) fs pf pt m at_from at_to found free differs now time

  pub entry-name : IsName to.name
  entry-name = to-name (nodes_of one) fs pf pt m at_from at_to found free differs now time

  abbrev cleared_nodes : Nodes
  cleared_nodes = replace_name (nodes_of one) pt pt.node now

  module _ (two : Table) (nodes : nodes_of two ≡ cleared_nodes) (cleared : IsCleared one two to.dir) where
    record Stays (key : ℕ) (number : ℕ) : Type 0 where
      live : IsSome (slab_get two key)
      number_is : number_of_key two key ≡ number

    -- a key of a node that lives on
    stays_with : (key : ℕ) (node : Stored) → slab_get one key ≡ Some node → is_some (get cleared_nodes node.number) ≡ true → Stays key node.number
    stays_with key node at lives =
        let lead = cleared.leads (record { number = node.number; key = key }) (node, at, refl) (ap (λ n. is_some (get n node.number)) nodes ∙ lives) in
        record { live = ap is_some lead.1; number_is = number-there two key lead.0 lead.1 ∙ lead.2 }

    stays : (key number : ℕ) → IsSome (slab_get one key) → number_of_key one key ≡ number → is_some (get cleared_nodes number) ≡ true → Stays key number
    stays key number live same lives = go (slab_get one key) refl live
      where
        go : (o : Option Stored) → slab_get one key ≡ o → IsSome o → Stays key number
        go None none e = absurd (let f : false ≡ true = e in cc)
        go (Some node) at e =
            let number_is : node.number ≡ number = sym (number-there one key node at) ∙ same in
            subst (λ n. Stays key n) number_is (stays_with key node at (ap (λ n. is_some (get cleared_nodes n)) number_is ∙ lives))

    -- what the move needs
    from_stays : Stays from.dir pf.directory
    from_stays =
        stays from.dir pf.directory (live-dir one from agrees-from) (sym (number_at-table one from.dir))
        (from-lives (nodes_of one) fs pf pt m at_from at_to found free differs now time)

    to_stays : Stays to.dir pt.directory
    to_stays =
        stays to.dir pt.directory (live-dir one to agrees-to) (sym (number_at-table one to.dir))
        (to-lives (nodes_of one) fs pf pt m at_from at_to found free differs now time)

    moved_stays : Stays moved m
    moved_stays =
        stays moved m (live-node one from moved agrees-from renaming.node) refl
        (moved-lives (nodes_of one) fs pf pt m at_from at_to found free differs now time)

    pub entry-from : IsSome (slab_get two from.dir)
    entry-from = from_stays.live

    pub entry-to : IsSome (slab_get two to.dir)
    entry-to = to_stays.live

    pub entry-moved-live : IsSome (slab_get two moved)
    entry-moved-live = moved_stays.live

    n_from : number_of_key two from.dir ≡ pf.directory
    n_from = from_stays.number_is

    n_to : number_of_key two to.dir ≡ pt.directory
    n_to = to_stays.number_is

    n_moved : number_of_key two moved ≡ m
    n_moved = moved_stays.number_is

    pub entry-some : 0 < links_at two from.dir
    entry-some =
        subst (λ n. 0 < links_in (get n (number_of_key two from.dir))) (sym nodes)
        (subst (λ k. 0 < links_in (get cleared_nodes k)) (sym n_from) (from-links (nodes_of one) fs pf pt m at_from at_to found free differs now time))

    pub entry-few : links_at two to.dir + 1 < 2 ^ 32
    entry-few =
        let few = to-links (nodes_of one) fs pf pt m at_from at_to found free differs now time in
        let same = ap (λ n. links_in (get n (number_of_key two to.dir))) nodes in
        let here = ap (λ k. links_in (get cleared_nodes k)) n_to in
        omega (arith, few, same, here)

    pub entry-can : (name : List ℕ) → name ≡ to.name → CanAdd (listing_at (take_name (nodes_of two) (number_of_key two from.dir) from.name now) (number_of_key two to.dir)) name
    entry-can name named =
        subst (λ l. CanAdd (listing_at (take_name (nodes_of two) (number_of_key two from.dir) from.name now) (number_of_key two to.dir)) l) (sym named)
        (subst (λ n. CanAdd (listing_at (take_name n (number_of_key two from.dir) from.name now) (number_of_key two to.dir)) to.name) (sym nodes)
        (subst (λ k. CanAdd (listing_at (take_name cleared_nodes k from.name now) (number_of_key two to.dir)) to.name) (sym n_from)
        (subst (λ k. CanAdd (listing_at (take_name cleared_nodes pf.directory from.name now) k) to.name) (sym n_to)
        (can-add (nodes_of one) fs pf pt m at_from at_to found free differs now time))))

    -- what the move leaves
    module _ (three : Table) (name : List ℕ) (named : name ≡ to.name)
        (becomes : Becomes two three (entry_moved (nodes_of two) (number_of_key two from.dir) from.name (number_of_key two moved) (number_of_key two to.dir) name now)) where
      nodes_end : nodes_of three ≡ entry_moved cleared_nodes pf.directory from.name m pt.directory to.name now
      nodes_end =
          becomes.nodes
          ∙ ap (λ n. entry_moved n (number_of_key two from.dir) from.name (number_of_key two moved) (number_of_key two to.dir) name now) nodes
          ∙ ap (λ k. entry_moved cleared_nodes k from.name (number_of_key two moved) (number_of_key two to.dir) name now) n_from
          ∙ ap (λ k. entry_moved cleared_nodes pf.directory from.name k (number_of_key two to.dir) name now) n_moved
          ∙ ap (λ k. entry_moved cleared_nodes pf.directory from.name m k name now) n_to
          ∙ ap (λ l. entry_moved cleared_nodes pf.directory from.name m pt.directory l now) named

      pub entry-nodes : (keyed_of three).nodes ≡ after_move system.nodes (place_at system from) (place_at system to) (number_at system moved) now
      entry-nodes =
          nodes-view three ∙ nodes_end ∙ sym (moved-after (nodes_of one) fs pf pt m at_from at_to found free differs now time)
          ∙ ap (λ n. after_move n pf pt m now) (sym (nodes-view one)) ∙ ap (λ k. after_move (keyed_of one).nodes pf pt k now) (sym (number_at-table one moved))
          ∙ ap (λ (s : Keyed). after_move s.nodes (place_at s from) (place_at s to) (number_at s moved) now) view

      pub entry-whole : (taken : List Bool) (entries blocks key : ℕ) → HasDistinctNumbers two → AgreesPool (nodes_of two) taken → blocks ≡ live_blocks (nodes_of two) → IsSound two entries
          → Leads one (record { number = root; key = key }) → IsWhole three taken entries blocks key
      entry-whole taken entries blocks key distinct pool counted sound top = record {
        distinct = distinct-kept two three becomes.numbers distinct;
        references = becomes.references sound.references;
        system = subst IsFileSystem (sym nodes_end) (moved-system (nodes_of one) fs pf pt m at_from at_to found free differs now time);
        pool = pool-numbers two three becomes.numbers distinct taken pool;
        entry_total = sound.entry_total ∙ sym (ap live_entries nodes_end ∙ moved-entries (nodes_of one) fs pf pt m at_from at_to found free differs now time ∙ sym (ap live_entries nodes));
        block_total = counted ∙ sym (ap live_blocks nodes_end ∙ moved-blocks (nodes_of one) fs pf pt m at_from at_to found free differs now time ∙ sym (ap live_blocks nodes));
        top = leads-kept two three becomes.numbers (record { number = root; key = key })
            (cleared.leads (record { number = root; key = key }) top (root-lives (nodes_of two) sound.system));
      }

      pub entry-keeps : HasDistinctNumbers two → KeepsKeys system (keyed_of three)
      entry-keeps distinct = subst (λ (s : Keyed). KeepsKeys s (keyed_of three)) view keeps
        where
          same_keys : (keyed_of three).keys ≡ (keyed_of two).keys
          same_keys = keys-view three ∙ keys-kept two three becomes.numbers ∙ sym (keys-view two)

          same_life : (number : ℕ) → is_some (get (keyed_of three).nodes number) ≡ is_some (get (keyed_of two).nodes number)
          same_life number =
              ap (λ n. is_some (get n number)) (nodes-view three) ∙ same-lives two three becomes.numbers distinct number ∙ sym (ap (λ n. is_some (get n number)) (nodes-view two))

          keeps : KeepsKeys (keyed_of one) (keyed_of three)
          keeps key number =
              let both = cleared.keys key number in (
                λ there. let b = both.0 (sym (ap (λ k. get k key) same_keys) ∙ there) in (b.0, same_life number ∙ b.1),
                λ b. ap (λ k. get k key) same_keys ∙ both.1 (b.0, sym (same_life number) ∙ b.1),
              )

-- A moved name leaves the blocks, at a time that is shown in another way.
pub becomes-blocks : (two three : Table) (from moved to : ℕ) (old new : List ℕ) (shown now : ℤ) → shown ≡ now
    → Becomes two three (entry_moved (nodes_of two) (number_of_key two from) old (number_of_key two moved) (number_of_key two to) new shown)
    → (blocks : ℕ) → blocks ≡ live_blocks (nodes_of two) → blocks ≡ live_blocks (nodes_of three)
becomes-blocks two three from moved to old new shown now same becomes blocks counted =
    let nodes = nodes_of two in
    let f = number_of_key two from in
    let m = number_of_key two moved in
    let t = number_of_key two to in
    let taken = take_name nodes f old shown in
    let added = add_name taken t new m shown in
    counted ∙ sym (ap live_blocks becomes.nodes
    ∙ live_blocks-kept (move_parent added m f t) m (changed_at shown) (λ i found. refl) ∙ move_parent-blocks added m f t
    ∙ live_blocks-relisted taken t shown (with_entry new m) ∙ live_blocks-relisted nodes f shown (without_entry old))

-- what holds whatever a call answers holds after an error
pub after-error : {A E : Type 0} (answer : Result A E) (P : Type 0) → P → OnErr answer P
after-error (Ok value) P p = tt
after-error (Err error) P p = p
