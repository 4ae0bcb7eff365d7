-- A node that goes where it has no link and no hold.
use Rattle.std.proofs.Common.{◌≡◌, ◌≢◌, ℕ, ◌+◌, ◌<◌, ◌≤◌, Bool, true, false, cond, ◌&&◌, eqb, List, Some, None, is_some, refl, sym, ap, ◌∙◌, arith, inl, inr}
use Rattle.std.proofs.lemmas.Bool.{cases_eq, eq-eqb, ne_eqb}
use Rattle.std.specs.FinMap.{get, remove}
use Rattle.slab.specs.Slab.{get as slab_get}
use Rattle.kernel_core.specs.Nodes.{is_unused}
use Rattle.kernel_core.specs.Totals.{content_blocks, live_blocks}
use Rattle.file_system_laws.proofs.Lookups.{settled-used, settled-unused, get-remove_same, get-remove_other}
use Rattle.file_system_laws.proofs.Totals.{total-remove}
use Rattle.number_pool.specs.Places.{is_taken_at}
use Rattle.native_vfs.specs.Keyed.{KeepsKeys}
use Rattle.native_vfs.specs.inside.Steps.{IsRemoval, IsSettled, GivesBack}
use Rattle.native_vfs.specs.inside.Stored.{Table, nodes_of, keyed_of, inode_of, content_of, number_of_key, HasDistinctNumbers, AgreesPool}
use Rattle.native_vfs.specs.declared.stored.Stored.{Stored}
use Rattle.native_vfs.proofs.tables.Tables.{not_none, same_some, key-found, key-there, node-there, number-there}

-- A node that is used

pub used-settled : (table : Table) (key : ℕ) → HasDistinctNumbers table → is_unused (get (nodes_of table) (number_of_key table key)) ≡ false → IsSettled table table key
unfolding keyed_of
used-settled table key distinct used = record {
  nodes = sym (settled-used (nodes_of table) (number_of_key table key) used);
  keys = λ other number. (
    λ found. (found, let f = key-found table other number found in ap (λ n. is_some (get (nodes_of table) n)) (sym f.2) ∙ ap is_some (node-there table other f.0 distinct f.1)),
    λ both. both.0,
  );
  others = λ other apart. refl;
  distinct = distinct;
  references = λ h. h;
  leads = λ reference lead live. lead;
  room = λ directory apart room. room;
}

-- whether a node that is kept is used
pub unused-there : (table : Table) (key : ℕ) (node : Stored) → HasDistinctNumbers table → slab_get table key ≡ Some node
    → is_unused (get (nodes_of table) (number_of_key table key)) ≡ is_unused (Some (inode_of node))
unused-there table key node distinct at = ap (λ n. is_unused (get (nodes_of table) n)) (number-there table key node at) ∙ ap is_unused (node-there table key node distinct at)

pub linked-used : (node : Stored) → 0 < node.links → is_unused (Some (inode_of node)) ≡ false
linked-used node some = ap (λ b. b && eqb node.holds 0) (ne_eqb node.links 0 (λ none. omega (arith, some, none)))

pub held-used : (node : Stored) → 0 < node.holds → is_unused (Some (inode_of node)) ≡ false
held-used node some = ap (λ b. eqb node.links 0 && b) (ne_eqb node.holds 0 (λ none. omega (arith, some, none))) ∙ either (eqb node.links 0)
  where
    either : (b : Bool) → (b && false) ≡ false
    either true = refl
    either false = refl

pub free-unused : (node : Stored) → node.links ≤ 0 → node.holds ≤ 0 → is_unused (Some (inode_of node)) ≡ true
free-unused node no_link no_hold =
    ap (λ b. b && eqb node.holds 0) (eq-eqb node.links 0 (omega (arith, no_link))) ∙ eq-eqb node.holds 0 (omega (arith, no_hold))

-- A node that goes

module _ (old new : Table) (key : ℕ) (node : Stored) (at : slab_get old key ≡ Some node) (distinct : HasDistinctNumbers old) (goes : IsRemoval old new key) where
  -- a key of the new table had its node before
  before : (other : ℕ) (second : Stored) → slab_get new other ≡ Some second → slab_get old other ≡ Some second
  before other second there = elim (cases_eq other key) [
    | inl here ↦ absurd (not_none second (sym there ∙ ap (slab_get new) here ∙ goes.updates.changed))
    | inr apart ↦ sym (goes.updates.others other apart) ∙ there
  ]

  -- a live number is not the one that went
  apart_number : (number : ℕ) → is_some (get (nodes_of new) number) ≡ true → number ≢ node.number
  apart_number number live same =
      let none : get (nodes_of new) number ≡ None =
      ap (λ nodes. get nodes number) goes.nodes ∙ ap (λ n. get (remove (nodes_of old) n) number) (number-there old key node at)
      ∙ ap (get (remove (nodes_of old) node.number)) same ∙ get-remove_same (nodes_of old) node.number in
      let h : false ≡ true = sym (ap is_some none) ∙ live in
      cc

  apart_key : (other : ℕ) (second : Stored) → slab_get old other ≡ Some second → is_some (get (nodes_of new) second.number) ≡ true → other ≢ key
  apart_key other second there live here =
      apart_number second.number live (ap (λ n. n.number) (same_some second node (sym there ∙ ap (slab_get old) here ∙ at)))

  removed_keys : KeepsKeys (keyed_of old) (keyed_of new)
  unfolding keyed_of
  removed_keys other number = (
    λ found.
        let f = key-found new other number found in (
          key-there old other f.0 (before other f.0 f.1) ∙ ap (λ n. Some n) f.2,
          ap (λ n. is_some (get (nodes_of new) n)) (sym f.2) ∙ ap is_some (node-there new other f.0 goes.distinct f.1),
        ),
    λ both.
        let f = key-found old other number both.0 in
        key-there new other f.0 (goes.updates.others other (apart_key other f.0 f.1 (ap (λ n. is_some (get (nodes_of new) n)) f.2 ∙ both.1)) ∙ f.1) ∙ ap (λ n. Some n) f.2,
  )

  pub removed-settled : is_unused (get (nodes_of old) (number_of_key old key)) ≡ true → IsSettled old new key
  removed-settled unused = record {
    nodes = goes.nodes ∙ sym (settled-unused (nodes_of old) (number_of_key old key) unused);
    keys = removed_keys;
    others = goes.updates.others;
    distinct = goes.distinct;
    references = goes.references;
    leads = λ reference lead live.
        (lead.0, goes.updates.others reference.key (apart_key reference.key lead.0 lead.1 (ap (λ n. is_some (get (nodes_of new) n)) lead.2 ∙ live)) ∙ lead.1, lead.2);
    room = goes.room;
  }

  removed_number : nodes_of new ≡ remove (nodes_of old) node.number
  removed_number = goes.nodes ∙ ap (remove (nodes_of old)) (number-there old key node at)

  pub removed-pool : (taken left : List Bool) → AgreesPool (nodes_of old) taken → GivesBack taken left node.number → AgreesPool (nodes_of new) left
  removed-pool taken left agrees back place below = back place below ∙ (elim (cases_eq (place + 2) node.number) [
    | inl here ↦
        ap (λ b. cond b false (is_taken_at taken place)) (eq-eqb (place + 2) node.number here)
        ∙ sym (ap (λ nodes. is_some (get nodes (place + 2))) removed_number
        ∙ ap (λ n. is_some (get (remove (nodes_of old) node.number) n)) here ∙ ap is_some (get-remove_same (nodes_of old) node.number))
    | inr apart ↦
        ap (λ b. cond b false (is_taken_at taken place)) (ne_eqb (place + 2) node.number apart) ∙ agrees place below
        ∙ sym (ap (λ nodes. is_some (get nodes (place + 2))) removed_number ∙ ap is_some (get-remove_other (nodes_of old) node.number (place + 2) apart))
  ])

  pub removed-blocks : live_blocks (nodes_of new) + content_blocks (content_of node.content) ≡ live_blocks (nodes_of old)
  removed-blocks =
      let gone = total-remove (λ i. content_blocks i.content) (nodes_of old) node.number (inode_of node) (node-there old key node distinct at) in
      let is = ap live_blocks removed_number in
      omega (arith, gone, is)
