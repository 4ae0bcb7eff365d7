-- What callers see after a renaming.
use Rattle.std.proofs.Common.{◌≡◌, ℕ, Bool, true, false, cond, ℤ, Some, sym, ap, subst, ◌∙◌}
use Rattle.std.specs.Prelude.{option_map}
use Rattle.kernel_core.specs.NameCalls.{is_node, after_move, after_rename}
use Rattle.kernel_core.specs.Nodes.{Nodes}
use Rattle.kernel_core.specs.PathWalk.{Place}
use Rattle.native_vfs.specs.Answers.{with_node}
use Rattle.native_vfs.specs.Keyed.{Keyed, KeepsKeys, place_at, number_at}
use Rattle.native_vfs.specs.inside.Stored.{Table, nodes_of, keyed_of, number_of_key, HasDistinctNumbers}
use Rattle.native_vfs.specs.declared.place.Place.{Place as KeyedPlace}
use Rattle.native_vfs.proofs.renames.Clearing.{keeps-same}
use Rattle.native_vfs.proofs.tables.Kept.{nodes-view}
use Rattle.native_vfs.proofs.tables.Tables.{number_at-table}

module _ (table : Table) (system : Keyed) (view : keyed_of table ≡ system) where
  -- what is found on the table at two places is found on the nodes that callers see
  pub seen-both : {X : Type 0} (find : Nodes → Place → Place → X) (one two : KeyedPlace)
      → find (nodes_of table) (place_at (keyed_of table) one) (place_at (keyed_of table) two) ≡ find system.nodes (place_at system one) (place_at system two)
  seen-both find one two =
      ap (λ nodes. find nodes (place_at (keyed_of table) one) (place_at (keyed_of table) two)) (sym (nodes-view table))
      ∙ ap (λ (s : Keyed). find s.nodes (place_at s one) (place_at s two)) view

  pub seen-node : (at : KeyedPlace) (node : ℕ) → is_node (place_at (keyed_of table) at).node (number_of_key table node) ≡ is_node (place_at system at).node (number_at system node)
  seen-node at node =
      ap (is_node (place_at (keyed_of table) at).node) (sym (number_at-table table node)) ∙ ap (λ (s : Keyed). is_node (place_at s at).node (number_at s node)) view

  pub keeps-seen-same : HasDistinctNumbers table → KeepsKeys system system
  keeps-seen-same distinct = subst (λ (s : Keyed). KeepsKeys s s) view (keeps-same table distinct)

module _ (system : Keyed) (from to : KeyedPlace) (moved : ℕ) (is : from.node ≡ Some moved) (now : ℤ) where
  after_moved : (b : Bool) → is_node (place_at system to).node (number_at system moved) ≡ b
      → with_node (place_at system from).node system.nodes (λ m. after_rename system.nodes (place_at system from) (place_at system to) m now)
      ≡ cond b system.nodes (after_move system.nodes (place_at system from) (place_at system to) (number_at system moved) now)
  after_moved b same =
      ap (λ o. with_node (option_map (number_at system) o) system.nodes (λ m. after_rename system.nodes (place_at system from) (place_at system to) m now)) is
      ∙ ap (λ b. cond b system.nodes (after_move system.nodes (place_at system from) (place_at system to) (number_at system moved) now)) same

  -- two names of one node are left as they are
  pub renamed-same : is_node (place_at system to).node (number_at system moved) ≡ true
      → system.nodes ≡ with_node (place_at system from).node system.nodes (λ m. after_rename system.nodes (place_at system from) (place_at system to) m now)
  renamed-same same = sym (after_moved true same)

  pub renamed-moved : is_node (place_at system to).node (number_at system moved) ≡ false
      → after_move system.nodes (place_at system from) (place_at system to) (number_at system moved) now
      ≡ with_node (place_at system from).node system.nodes (λ m. after_rename system.nodes (place_at system from) (place_at system to) m now)
  renamed-moved other = sym (after_moved false other)
