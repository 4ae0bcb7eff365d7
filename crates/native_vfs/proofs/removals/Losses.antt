-- The steps by which a name is taken away, and what they make of the table.
use Rattle.std.proofs.Common.{◌≡◌, ℕ, ◌+◌, ◌-◌, ◌<◌, true, false, List, Some, sym, ap, subst, ◌∙◌, arith}
use Rattle.std.specs.Prelude.{ℤ}
use Rattle.std.specs.FinMap.{get}
use Rattle.kernel_core.specs.FileSystem.{IsTime}
use Rattle.kernel_core.specs.NameCalls.{relisted, without_entry, take_name, one_link_less, unlinked, orphaned, after_unlink, after_rmdir, has_entries, is_no_entry}
use Rattle.kernel_core.specs.Nodes.{is_directory, update, is_unused}
use Rattle.kernel_core.specs.PathWalk.{Place}
use Rattle.kernel_core.specs.Totals.{live_entries, live_blocks}
use Rattle.file_system_laws.proofs.Places.{Stands, stands_of, stands_of_file}
use Rattle.file_system_laws.proofs.Removing.{file_removed, directory_removed, no_entries}
use Rattle.file_system_laws.proofs.Tallies.{own, IsTree, opened, closed, listing_exists}
use Rattle.native_vfs.specs.Keyed.{AgreesAt, place_at}
use Rattle.native_vfs.specs.inside.Steps.{IsSettled, IsUnnamed, links_in, links_at}
use Rattle.native_vfs.specs.inside.Stored.{Table, nodes_of, keyed_of, number_of_key, IsSound, IsStep}
use Rattle.native_vfs.specs.declared.place.Place.{Place as KeyedPlace}
use Rattle.native_vfs.proofs.removals.LostNames.{taken-links, file-links, file-stage, file-entries, directory-stage, directory-entries, unused-unnamed}
use Rattle.native_vfs.proofs.removals.RemovalCounts.{unlinked-entries, unlinked-blocks, removed-entries, removed-blocks}
use Rattle.native_vfs.proofs.removals.Stages.{IsChanged, unchanged, one-more, nodes-more, changed-links, changed-unnamed, nodes-settled, sound-settled, placed, named-node}
use Rattle.native_vfs.proofs.tables.Tables.{number_at-table}

module _ (old : Table) (entries : ℕ) (sound : IsSound old entries) (at : KeyedPlace) (agrees : AgreesAt (keyed_of old) at) (node : ℕ) (is : at.node ≡ Some node)
    (now : ℤ) (time : IsTime now) where
  abbrev place : Place
  place = place_at (keyed_of old) at

  abbrev number : ℕ
  number = number_of_key old node

  abbrev tree : IsTree (own (nodes_of old)) (nodes_of old)
  tree = opened (nodes_of old) sound.system

  -- the name is taken
  module _ (mid : Table) (name : List ℕ) (same : name ≡ at.name) (take : IsStep old mid at.dir (relisted now (without_entry name))) where
    pub taken-changed : IsChanged old mid
    taken-changed = one-more old old mid at.dir (relisted now (without_entry name)) (unchanged old) take

    pub taken-nodes : nodes_of mid ≡ take_name (nodes_of old) place.directory at.name now
    taken-nodes =
        take.nodes ∙ ap (λ n. update (nodes_of old) n (relisted now (without_entry name))) (sym (number_at-table old at.dir))
        ∙ ap (λ name. take_name (nodes_of old) place.directory name now) same

    -- from a file or link
    module _ (plain : is_directory (nodes_of old) number ≡ false) where
      stands : Stands (nodes_of old) place.directory at.name number
      stands = stands_of_file (nodes_of old) tree place number (placed old at agrees) (named-node old at agrees node is) plain

      pub file-has-links : 0 < links_at mid node
      file-has-links = changed-links old mid taken-changed node _ taken-nodes (file-links (nodes_of old) tree place.directory at.name number stands now time plain)

      module _ (stage : Table) (step : IsStep mid stage node (unlinked now)) where
        pub file-changed : IsChanged old stage
        file-changed = one-more old mid stage node (unlinked now) taken-changed step

        file_nodes : nodes_of stage ≡ update (take_name (nodes_of old) place.directory at.name now) number (unlinked now)
        file_nodes = nodes-more old mid stage node (unlinked now) taken-changed step _ taken-nodes

        pub file-unnamed : is_unused (get (nodes_of stage) (number_of_key stage node)) ≡ true → IsUnnamed (nodes_of stage) (number_of_key stage node)
        file-unnamed =
            changed-unnamed old stage file-changed node _ file_nodes
            (unused-unnamed _ number (file-stage (nodes_of old) tree place.directory at.name number stands now time plain))

        pub file-blocks : (count : ℕ) → count ≡ live_blocks (nodes_of old) → count ≡ live_blocks (nodes_of stage)
        file-blocks count counted = counted ∙ sym (ap live_blocks file_nodes ∙ unlinked-blocks (nodes_of old) tree place.directory at.name number stands now)

        module _ (new : Table) (went : IsSettled stage new node) where
          pub file-nodes : nodes_of new ≡ after_unlink (nodes_of old) place number now
          file-nodes = nodes-settled old stage file-changed node _ file_nodes new went

          pub file-less : live_entries (nodes_of new) + 1 ≡ live_entries (nodes_of old)
          file-less =
              ap (λ nodes. live_entries nodes + 1) file-nodes
              ∙ ap (λ n. n + 1) (file-entries (nodes_of old) tree place.directory at.name number stands now time plain)
              ∙ unlinked-entries (nodes_of old) tree place.directory at.name number stands now

          pub file-sound : (left : ℕ) → left ≡ entries - 1 → IsSound new left
          file-sound left is_left =
              sound-settled old stage file-changed node _ file_nodes new went entries left sound
              (closed (after_unlink (nodes_of old) place number now) (file_removed (nodes_of old) tree place.directory at.name number stands now time plain).tree)
              (let less = file-less in let all = sound.entry_total in omega (arith, is_left, less, all))

    -- from an empty directory
    module _ (proper : is_no_entry at.name ≡ false) (kind : is_directory (nodes_of old) number ≡ true) (empty : has_entries (nodes_of old) number ≡ false) where
      entry_stands : Stands (nodes_of old) place.directory at.name number
      entry_stands = stands_of (nodes_of old) place number (placed old at agrees) (named-node old at agrees node is) proper

      pub directory-has-links : 0 < links_at mid at.dir
      directory-has-links =
          changed-links old mid taken-changed at.dir _ taken-nodes
          (subst (λ n. 0 < links_in (get (take_name (nodes_of old) place.directory at.name now) n)) (number_at-table old at.dir)
          (taken-links (nodes_of old) tree place.directory at.name number entry_stands now time))

      module _ (parted stage : Table) (part : IsStep mid parted at.dir one_link_less) (step : IsStep parted stage node orphaned) where
        pub parted-changed : IsChanged old parted
        parted-changed = one-more old mid parted at.dir one_link_less taken-changed part

        pub directory-changed : IsChanged old stage
        directory-changed = one-more old parted stage node orphaned parted-changed step

        parted_nodes : nodes_of parted ≡ update (take_name (nodes_of old) place.directory at.name now) place.directory one_link_less
        parted_nodes =
            nodes-more old mid parted at.dir one_link_less taken-changed part _ taken-nodes
            ∙ ap (λ n. update (take_name (nodes_of old) place.directory at.name now) n one_link_less) (sym (number_at-table old at.dir))

        directory_nodes : nodes_of stage ≡ update (update (take_name (nodes_of old) place.directory at.name now) place.directory one_link_less) number orphaned
        directory_nodes = nodes-more old parted stage node orphaned parted-changed step _ parted_nodes

        pub directory-unnamed : is_unused (get (nodes_of stage) (number_of_key stage node)) ≡ true → IsUnnamed (nodes_of stage) (number_of_key stage node)
        directory-unnamed =
            changed-unnamed old stage directory-changed node _ directory_nodes
            (unused-unnamed _ number (directory-stage (nodes_of old) tree place.directory at.name number entry_stands now time kind empty))

        pub directory-blocks : (count : ℕ) → count ≡ live_blocks (nodes_of old) → count ≡ live_blocks (nodes_of stage)
        directory-blocks count counted = counted ∙ sym (ap live_blocks directory_nodes ∙ removed-blocks (nodes_of old) tree place.directory at.name number entry_stands now)

        module _ (new : Table) (went : IsSettled stage new node) where
          pub directory-nodes : nodes_of new ≡ after_rmdir (nodes_of old) place number now
          directory-nodes = nodes-settled old stage directory-changed node _ directory_nodes new went

          pub directory-less : live_entries (nodes_of new) + 1 ≡ live_entries (nodes_of old)
          directory-less =
              ap (λ nodes. live_entries nodes + 1) directory-nodes
              ∙ ap (λ n. n + 1) (directory-entries (nodes_of old) tree place.directory at.name number entry_stands now time kind empty)
              ∙ removed-entries (nodes_of old) tree place.directory at.name number entry_stands now

          pub directory-sound : (left : ℕ) → left ≡ entries - 1 → IsSound new left
          directory-sound left is_left =
              let l = listing_exists (nodes_of old) number kind in
              sound-settled old stage directory-changed node _ directory_nodes new went entries left sound
              (closed (after_rmdir (nodes_of old) place number now)
              (directory_removed (nodes_of old) tree place.directory at.name number entry_stands now time l.0 l.1 (no_entries (nodes_of old) number l.0 l.1 empty)).tree)
              (let less = directory-less in let all = sound.entry_total in omega (arith, is_left, less, all))
