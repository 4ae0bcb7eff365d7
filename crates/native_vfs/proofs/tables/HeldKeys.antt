-- The keys of held nodes after a call: they follow from the nodes and the keys that the call's other clauses tell.
use Rattle.std.proofs.Common.{◌≡◌, ◌≢◌, ◌≤◌, ◌+◌, ◌-◌, ℕ, true, Option, Some, None, is_some, refl, sym, ap, subst, ◌∙◌, arith}
use Rattle.std.specs.Prelude.{ℤ, Result, Ok, Err, OnOk, OnErr}
use Rattle.std.specs.FinMap.{get}
use Rattle.kernel_core.specs.NameCalls.{IsNewNumber}
use Rattle.kernel_core.specs.FileContent.{resized}
use Rattle.kernel_core.specs.FileSystem.{IsTime}
use Rattle.kernel_core.specs.NodeCalls.{held, released, modified_at}
use Rattle.kernel_core.specs.Nodes.{Nodes, Inode, update}
use Rattle.kernel_core.specs.Queries.{KeepsHolds, KeepsKinds, kind_of, kind_at, holds_at}
use Rattle.kernel_core.specs.declared.core_error.CoreError.{CoreError}
use Rattle.file_system_laws.proofs.HeldNodes.{Loses, Keeps, keeps-lost, loses-nothing, loses-update, content_kind, live_on, hold_counts, hold_kinds, release_counts, release_kinds}
use Rattle.file_system_laws.proofs.Lookups.{get-insert_other}
use Rattle.native_vfs.specs.Answers.{Makes, with_node}
use Rattle.native_vfs.specs.Held.{KeepsHeld, ChangesHeld}
use Rattle.native_vfs.specs.Keyed.{Keyed, KeepsKeys, number_at}
use Rattle.native_vfs.specs.inside.Steps.{IsFileStep}
use Rattle.native_vfs.specs.inside.Stored.{Table, IsStep, keyed_of}
use Rattle.native_vfs.proofs.contents.FileKept.{IsContentOnly, modified-only}
use Rattle.native_vfs.proofs.tables.Kept.{nodes-stepped, keys-stepped}

-- a call that changes nothing
pub held-same : (old new : Keyed) → new ≡ old → KeepsHeld old new
held-same old new same = subst (KeepsHeld old) (sym same) (record {
  holds = λ number. refl;
  keys = λ key number is some. (is, refl);
})

module _ (old new : Keyed) (after : Nodes) (nodes : new.nodes ≡ after) (kept : Keeps old.nodes after) where
  holds_kept : KeepsHolds old.nodes new.nodes
  holds_kept = subst (KeepsHolds old.nodes) (sym nodes) kept.holds

  -- a node that is held lives afterwards, and is of its kind
  held_on : (number : ℕ) → 1 ≤ holds_at old.nodes number → (is_some (get new.nodes number) ≡ true) × (kind_at new.nodes number ≡ kind_at old.nodes number)
  held_on number some =
      let same = holds_kept number in
      live_on old.nodes new.nodes (subst (KeepsKinds old.nodes) (sym nodes) kept.kinds) number some (omega (arith, some, same))

  -- where the keys stay
  pub held-same_keys : new.keys ≡ old.keys → KeepsHeld old new
  held-same_keys same = record {
    holds = holds_kept;
    keys = λ key number is some. (ap (λ keys. get keys key) same ∙ is, (held_on number some).1);
  }

  -- where the keys of nodes that live stay
  pub held-kept : KeepsKeys old new → KeepsHeld old new
  held-kept stay = record {
    holds = holds_kept;
    keys = λ key number is some. let on = held_on number some in ((stay key number).1 (is, on.0), on.1);
  }

-- where a node is made
pub held-made : (old new : Keyed) (key : ℕ) (after : ℕ → Nodes) → Makes old new key after
    → ((number : ℕ) → IsNewNumber old.nodes number → Keeps old.nodes (after number)) → KeepsHeld old new
held-made old new key after makes kept =
    let each = kept makes.number makes.least in
    record {
      holds = holds_kept old new (after makes.number) makes.nodes each;
      keys = λ other number is some. (
        (let apart : other ≢ key = λ here. let f : None ≡ Some number = sym makes.fresh ∙ sym (ap (get old.keys) here) ∙ is in absurd (cc) in
            ap (λ keys. get keys other) makes.keys ∙ get-insert_other old.keys key makes.number other apart ∙ is),
        (held_on old new (after makes.number) makes.nodes each number some).1,
      );
    }

-- the node of a place, where there is one
pub loses-with_node : (node : Option ℕ) (nodes : Nodes) (after : ℕ → Nodes) → ((number : ℕ) → Loses nodes (after number)) → Loses nodes (with_node node nodes after)
loses-with_node None nodes after loses = loses-nothing nodes
loses-with_node (Some node) nodes after loses = loses node

-- a file whose content changes
module _ (old new : Table) (key : ℕ) (system : Keyed) (view : keyed_of old ≡ system) where
  pub held-step : (change : Inode → Inode) → IsStep old new key change → IsContentOnly change → KeepsHeld system (keyed_of new)
  held-step change step only =
      held-same_keys system (keyed_of new) (update system.nodes (number_at system key) change)
      (nodes-stepped old new key change step system view)
      (keeps-lost _ _ (loses-update system.nodes (number_at system key) change (λ i. ap kind_of (only.content i) ∙ content_kind only.part i.content) only.holds))
      (keys-stepped old new key change step system view)

  -- however another size is answered
  pub held-resized : (size : ℕ) (now : ℤ) → IsTime now → (result : Result (Unit {0}) CoreError)
      → OnOk result (IsFileStep old new key (modified_at now (λ c. resized c size))) → OnErr result (new ≡ old) → KeepsHeld system (keyed_of new)
  held-resized size now time (Ok answer) step same =
      held-step (modified_at now (λ c. resized c size)) step.step (modified-only now (λ c. resized c size) time)
  held-resized size now time (Err error) step same = held-same system (keyed_of new) (ap keyed_of same ∙ view)

-- Holds

module _ (old new : Keyed) (key : ℕ) where
  pub held-hold : is_some (get old.nodes (number_at old key)) ≡ true → new.nodes ≡ update old.nodes (number_at old key) held → new.keys ≡ old.keys
      → ChangesHeld old new (number_at old key) (λ n. n + 1)
  held-hold live nodes keys = record {
    holds = λ number. ap (λ ns. holds_at ns number) nodes ∙ hold_counts old.nodes (number_at old key) live number;
    keys = λ other number is before after. (
      ap (λ ks. get ks other) keys ∙ is,
      (live_on old.nodes new.nodes (subst (KeepsKinds old.nodes) (sym nodes) (hold_kinds old.nodes (number_at old key))) number before after).1,
    );
  }

  pub held-release : new.nodes ≡ released old.nodes (number_at old key) → KeepsKeys old new → ChangesHeld old new (number_at old key) (λ n. n - 1)
  held-release nodes stay = record {
    holds = λ number. ap (λ ns. holds_at ns number) nodes ∙ release_counts old.nodes (number_at old key) number;
    keys = λ other number is before after.
        let on = live_on old.nodes new.nodes (subst (KeepsKinds old.nodes) (sym nodes) (release_kinds old.nodes (number_at old key))) number before after in
        ((stay other number).1 (is, on.0), on.1);
  }
