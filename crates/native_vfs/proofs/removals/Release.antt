-- A hold is released: what is left where the node goes, and where it stays.
use Rattle.std.proofs.Common.{◌≡◌, ℕ, Bool, true, false, eqb, List, Option, Some, None, refl, sym, ap, subst, ◌∙◌}
use Rattle.std.specs.Prelude.{option_map}
use Rattle.std.proofs.lemmas.Bool.{and_parts, eqb-true}
use Rattle.std.specs.FinMap.{get}
use Rattle.kernel_core.specs.FileSystem.{IsFileSystem}
use Rattle.kernel_core.specs.NodeCalls.{let_go, released}
use Rattle.kernel_core.specs.Nodes.{Nodes, Inode, update, settled, is_unused}
use Rattle.kernel_core.specs.Totals.{content_entries, live_entries, live_blocks}
use Rattle.file_system_laws.proofs.Counts.{live_entries-kept, live_entries-settled}
use Rattle.file_system_laws.proofs.Lookups.{get-update_same}
use Rattle.file_system_laws.proofs.NodeLaws.{release_keeps}
use Rattle.native_vfs.specs.Keyed.{Keyed, KeepsKeys, number_at}
use Rattle.native_vfs.specs.inside.Steps.{IsSettled, IsUnnamed}
use Rattle.native_vfs.specs.inside.Stored.{Table, nodes_of, keyed_of, number_of_key, AgreesPool, IsStep}
use Rattle.native_vfs.proofs.tables.Kept.{IsWhole, nodes-view, number-seen, nodes-seen, whole-settled, keys-stepped}
use Rattle.native_vfs.proofs.tables.Tables.{number-kept, leads-kept}
use Rattle.native_vfs.proofs.removals.Unnamed.{unlinked-loose, unlinked-unnamed, unnamed-after}

module _ (nodes : Nodes) (n : ℕ) (is : IsFileSystem nodes) where
  -- a node that is unused after it was let go
  pub record WasLast : Type 0 where
    pub inode : Inode
    pub found : get nodes n ≡ Some inode
    pub unlinked : inode.links ≡ 0

  pub last : is_unused (get (update nodes n let_go) n) ≡ true → WasLast
  last unused = by (get nodes n) refl (sym (ap is_unused (get-update_same nodes n let_go)) ∙ unused)
    where
      by : (o : Option Inode) → get nodes n ≡ o → is_unused (option_map let_go (get nodes n)) ≡ true → WasLast
      by None none un = let h : false ≡ true = sym (ap (λ o. is_unused (option_map let_go o)) none) ∙ un in absurd (cc)
      by (Some i) found un = record {
        inode = i;
        found = found;
        unlinked = eqb-true i.links 0 ((and_parts (eqb i.links 0) _ (sym (ap (λ o. is_unused (option_map let_go o)) found) ∙ un)).0);
      }

  pub last-unnamed : is_unused (get (update nodes n let_go) n) ≡ true → IsUnnamed (update nodes n let_go) n
  last-unnamed unused = let w = last unused in unnamed-after nodes n let_go (λ i found. refl) n (unlinked-unnamed nodes n w.inode is w.found w.unlinked)

  -- what goes had no entries
  pub released-entries : live_entries (released nodes n) ≡ live_entries nodes
  released-entries =
      live_entries-settled (update nodes n let_go) n (λ i found unused.
      let w = last (ap is_unused found ∙ unused) in
      let same : Some i ≡ Some (let_go w.inode) = sym found ∙ get-update_same nodes n let_go ∙ ap (option_map let_go) w.found in
      let here : i ≡ let_go w.inode = cc in
      ap (λ i. content_entries i.content) here ∙ (unlinked-loose nodes n w.inode is w.found w.unlinked).entries)
      ∙ live_entries-kept nodes n let_go (λ i found. refl)

module _ (old mid : Table) (key : ℕ) (step : IsStep old mid key let_go) where
  nodes_mid : (n : ℕ) → number_of_key old key ≡ n → nodes_of mid ≡ update (nodes_of old) n let_go
  nodes_mid n same = step.nodes ∙ ap (λ n. update (nodes_of old) n let_go) same

  pub let_go-unnamed : IsFileSystem (nodes_of old) → is_unused (get (nodes_of mid) (number_of_key mid key)) ≡ true → IsUnnamed (nodes_of mid) (number_of_key mid key)
  let_go-unnamed is unused =
      let here = number-kept old mid step.numbers key in
      let before : is_unused (get (update (nodes_of old) (number_of_key old key) let_go) (number_of_key old key)) ≡ true =
      sym (ap (λ n. is_unused (get (nodes_of mid) n)) here ∙ ap (λ nodes. is_unused (get nodes (number_of_key old key))) step.nodes) ∙ unused in
      let unnamed = last-unnamed (nodes_of old) (number_of_key old key) is before in
      subst (IsUnnamed (nodes_of mid)) (sym here) (subst (λ nodes. IsUnnamed nodes (number_of_key old key)) (sym step.nodes) unnamed)

  module _ (new : Table) (went : IsSettled mid new key) where
    pub nodes-released : nodes_of new ≡ released (nodes_of old) (number_of_key old key)
    nodes-released = went.nodes ∙ ap (settled (nodes_of mid)) (number-kept old mid step.numbers key) ∙ ap (λ nodes. settled nodes (number_of_key old key)) step.nodes

    pub nodes-released-seen : (system : Keyed) → keyed_of old ≡ system → (keyed_of new).nodes ≡ released system.nodes (number_at system key)
    nodes-released-seen system view =
        nodes-view new ∙ nodes-released ∙ ap (released (nodes_of old)) (number-seen old system view key)
        ∙ ap (λ nodes. released nodes (number_at system key)) (nodes-seen old system view)

    pub keys-released : (system : Keyed) → keyed_of old ≡ system → KeepsKeys system (keyed_of new)
    keys-released system view other number =
        let same = keys-stepped old mid key let_go step system view in
        subst (λ keys. KeepsKeys (record { nodes = system.nodes; keys = keys }) (keyed_of new)) same went.keys other number

    pub whole-released : (taken left : List Bool) (entries blocks blocks_left top : ℕ) → IsWhole old taken entries blocks top → AgreesPool (nodes_of new) left
        → blocks_left ≡ live_blocks (nodes_of new) → IsWhole new left entries blocks_left top
    whole-released taken left entries blocks blocks_left top is pool counted =
        whole-settled mid new key left entries blocks_left top went (step.references is.references)
        (subst IsFileSystem (sym nodes-released) (release_keeps (nodes_of old) (number_of_key old key) is.system))
        pool
        (is.entry_total ∙ sym (ap live_entries nodes-released ∙ released-entries (nodes_of old) (number_of_key old key) is.system))
        counted
        (leads-kept old mid step.numbers _ is.top)
