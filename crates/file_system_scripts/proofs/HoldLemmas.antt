-- What a call leaves of the nodes that a test holds.
use Rattle.std.proofs.Common.{◌≡◌, ℕ, ◌+◌, ◌-◌, ◌<◌, ◌≤◌, ◌^◌, Bool, true, false, cond, Option, Some, None, List, [], ◌∷◌, refl, sym, ◌∙◌, ap, arith, IfSome}
use Rattle.std.specs.Prelude.{◌==◌, map, is_some, unwrap_or}
use Rattle.std.specs.Cmp.{nat_cmp_total}
use Rattle.std.specs.FinMap.{get, from_entries, get-empty, get-insert}
use Rattle.std.specs.Ordering.{nat_cmp, eq_by_cmp}
use Rattle.std.proofs.lemmas.Bool.Decides.{nat_tests}
use Rattle.std.proofs.lemmas.Option.{same_Some}
use Rattle.kernel_core.specs.LoadedTree.{loaded, loaded_inode}
use Rattle.kernel_core.specs.Nodes.{Inode}
use Rattle.kernel_core.specs.Queries.{holds_at, holds_in}
use Rattle.kernel_core.specs.declared.tree.Node.{Node}
use Rattle.kernel_core.specs.declared.tree.Tree.{Tree}
use Rattle.native_vfs.specs.Held.{KeepsHeld, ChangesHeld, StaysKey}
use Rattle.native_vfs.specs.Keyed.{Keyed, IsLiveKey, number_at, inode_at}
use Rattle.file_system_scripts.specs.Named.{AreHeld}

-- no node of a tree is held

loaded_holds : (all nodes : List Node) (number : ℕ) → holds_in (get (from_entries {R = nat_cmp} (map (λ (n : Node). (n.number, loaded_inode all n)) nodes)) number) ≡ 0
loaded_holds all [] number = ap holds_in (get-empty nat_cmp number)
loaded_holds all (node ∷ nodes) number =
    ap holds_in (get-insert nat_cmp_total (from_entries (map (λ (n : Node). (n.number, loaded_inode all n)) nodes)) node.number (loaded_inode all node) number)
    ∙ by (eq_by_cmp nat_cmp number node.number) (loaded_holds all nodes number)
  where
    by : (b : Bool) → holds_in (get (from_entries {R = nat_cmp} (map (λ (n : Node). (n.number, loaded_inode all n)) nodes)) number) ≡ 0
        → holds_in (cond b (Some (loaded_inode all node)) (get (from_entries {R = nat_cmp} (map (λ (n : Node). (n.number, loaded_inode all n)) nodes)) number)) ≡ 0
    by true rest = refl
    by false rest = rest

tree_holds : (tree : Tree) (number : ℕ) → holds_at (loaded tree) number ≡ 0
unfolding loaded
tree_holds tree number = loaded_holds tree.nodes tree.nodes number

none_named : (key : ℕ) → None ≡ Some key → ⊥
none_named key e = cc

pub held_at_first : (system : Keyed) (tree : Tree) → system.nodes ≡ loaded tree → AreHeld system None 0 0
held_at_first system tree is = record {
  few = λ number. omega (arith, ap (λ nodes. holds_at nodes number) is ∙ tree_holds tree number);
  live = λ key e. absurd (none_named key e);
  held = λ key e. absurd (none_named key e);
  once = λ key e. absurd (none_named key e);
}

-- the number of a live key
numbered : (system : Keyed) (key : ℕ) → is_some (get system.keys key) ≡ true → get system.keys key ≡ Some (number_at system key)
numbered system key = by (get system.keys key)
  where
    by : (o : Option ℕ) → is_some o ≡ true → o ≡ Some (unwrap_or o 0)
    by None e = absurd (let bad : false ≡ true = e in cc)
    by (Some number) e = refl

-- a key that stays stands for the number that it stood for
stays : (old new : Keyed) (key : ℕ) → StaysKey old new key (number_at old key) → (is_some (get new.keys key) ≡ true) × (number_at new key ≡ number_at old key)
stays old new key same = (ap is_some same.0, ap (λ o. unwrap_or o 0) same.0)

-- A call that changes no hold

pub held_still : (old new : Keyed) (named : Option ℕ) (times most : ℕ) → KeepsHeld old new → AreHeld old named times most → AreHeld new named times most
held_still old new named times most keeps are = record {
  few = λ number. omega (arith, keeps.holds number, are.few number);
  live = λ key e. (kept key e).0;
  held = λ key e. omega (arith, ap (holds_at new.nodes) (kept key e).1, keeps.holds (number_at old key), are.held key e);
  once = are.once;
}
  where
    kept : (key : ℕ) → named ≡ Some key → (is_some (get new.keys key) ≡ true) × (number_at new key ≡ number_at old key)
    kept key e =
        stays old new key
        (keeps.keys key (number_at old key) (numbered old key (are.live key e)) (omega (arith, are.held key e, are.once key e)))

-- A hold

pub hold_fits : (system : Keyed) (named : Option ℕ) (times most key : ℕ) → AreHeld system named times most → most < 9
    → IfSome (inode_at system key) (λ inode. inode.holds + 1 < 2 ^ 32)
hold_fits system named times most key are few = by (inode_at system key) (are.few (number_at system key))
  where
    by : (o : Option Inode) → holds_in o ≤ most → IfSome o (λ inode. inode.holds + 1 < 2 ^ 32)
    by None low = tt
    by (Some inode) low = omega (arith, low, few)

more : (b : Bool) (before after : ℕ) → after ≡ cond b (before + 1) before → (before ≤ after) × (after ≤ before + 1)
more true before after e = (omega (arith, e), omega (arith, e))
more false before after e = (omega (arith, e), omega (arith, e))

module _ (old new : Keyed) (key : ℕ) (changes : ChangesHeld old new (number_at old key) (λ holds. holds + 1)) where
  least : (number : ℕ) → (holds_at old.nodes number ≤ holds_at new.nodes number) × (holds_at new.nodes number ≤ holds_at old.nodes number + 1)
  least number = more (number == number_at old key) (holds_at old.nodes number) (holds_at new.nodes number) (changes.holds number)

  grown : holds_at new.nodes (number_at old key) ≡ holds_at old.nodes (number_at old key) + 1
  grown =
      changes.holds (number_at old key)
      ∙ ap (λ b. cond b (holds_at old.nodes (number_at old key) + 1) (holds_at old.nodes (number_at old key)))
      (let t : (number_at old key == number_at old key) ≡ true = grind (arith, nat_tests) in t)

  still : (other : ℕ) → is_some (get old.keys other) ≡ true → 1 ≤ holds_at old.nodes (number_at old other)
      → (is_some (get new.keys other) ≡ true) × (number_at new other ≡ number_at old other)
  still other live first =
      stays old new other (changes.keys other (number_at old other) (numbered old other live) first (omega (arith, first, (least (number_at old other)).0)))

  pub held_once_more : (named : Option ℕ) (times most : ℕ) → AreHeld old named times most → AreHeld new named times (most + 1)
  held_once_more named times most are = record {
    few = λ number. omega (arith, (least number).1, are.few number);
    live = λ other e. (kept other e).0;
    held = λ other e. omega (arith, ap (holds_at new.nodes) (kept other e).1, (least (number_at old other)).0, are.held other e);
    once = are.once;
  }
    where
      kept : (other : ℕ) → named ≡ Some other → (is_some (get new.keys other) ≡ true) × (number_at new other ≡ number_at old other)
      kept other e = still other (are.live other e) (omega (arith, are.held other e, are.once other e))

  pub held_by_name : (named : Option ℕ) (times most : ℕ) → new.keys ≡ old.keys → IsLiveKey old key → AreHeld old named times most → AreHeld new (Some key) 1 (most + 1)
  held_by_name named times most same live are = record {
    few = λ number. omega (arith, (least number).1, are.few number);
    live = λ other e. there other (same_Some key other e);
    held = λ other e. omega (arith, ap (λ o. holds_at new.nodes (number_at new o)) (sym (same_Some key other e)), ap (holds_at new.nodes) at, grown);
    once = λ other e. omega arith;
  }
    where
      at : number_at new key ≡ number_at old key
      at = ap (λ keys. unwrap_or (get keys key) 0) same

      there : (other : ℕ) → key ≡ other → is_some (get new.keys other) ≡ true
      there other e = ap (λ o. is_some (get new.keys o)) (sym e) ∙ ap (λ keys. is_some (get keys key)) same ∙ live

  pub held_by_name_again : (named : Option ℕ) (times most : ℕ) → named ≡ Some key → AreHeld old named times most → AreHeld new named (times + 1) (most + 1)
  held_by_name_again named times most is are = record {
    few = λ number. omega (arith, (least number).1, are.few number);
    live = λ other e. (kept other e).0;
    held = λ other e. omega (arith, ap (holds_at new.nodes) ((kept other e).1 ∙ same other e), grown, are.held key is);
    once = λ other e. omega arith;
  }
    where
      kept : (other : ℕ) → named ≡ Some other → (is_some (get new.keys other) ≡ true) × (number_at new other ≡ number_at old other)
      kept other e = still other (are.live other e) (omega (arith, are.held other e, are.once other e))

      same : (other : ℕ) → named ≡ Some other → number_at old other ≡ number_at old key
      same other e = ap (number_at old) (same_Some other key (sym e ∙ is))

-- A release

pub named_is_held : (system : Keyed) (named : Option ℕ) (times most key : ℕ) → AreHeld system named times most → named ≡ Some key
    → IfSome (inode_at system key) (λ inode. 0 < inode.holds)
named_is_held system named times most key are e = by (inode_at system key) (omega (arith, are.held key e, are.once key e))
  where
    by : (o : Option Inode) → 1 ≤ holds_in o → IfSome o (λ inode. 0 < inode.holds)
    by None low = tt
    by (Some inode) low = omega (arith, low)

less : (b : Bool) (before after : ℕ) → after ≡ cond b (before - 1) before → (before ≤ after + 1) × (after ≤ before)
less true before after e = (omega (arith, e), omega (arith, e))
less false before after e = (omega (arith, e), omega (arith, e))

module _ (old new : Keyed) (key : ℕ) (changes : ChangesHeld old new (number_at old key) (λ holds. holds - 1)) where
  most_less : (number : ℕ) → (holds_at old.nodes number ≤ holds_at new.nodes number + 1) × (holds_at new.nodes number ≤ holds_at old.nodes number)
  most_less number = less (number == number_at old key) (holds_at old.nodes number) (holds_at new.nodes number) (changes.holds number)

  pub held_no_more : (named : Option ℕ) (times left most : ℕ) → AreHeld old named times most → AreHeld new None left most
  held_no_more named times left most are = record {
    few = λ number. omega (arith, (most_less number).1, are.few number);
    live = λ other e. absurd (none_named other e);
    held = λ other e. absurd (none_named other e);
    once = λ other e. absurd (none_named other e);
  }

  pub held_once_less : (named : Option ℕ) (times left most : ℕ) → named ≡ Some key → times ≡ left + 1 → 1 ≤ left → AreHeld old named times most → AreHeld new named left most
  held_once_less named times left most is e once are = record {
    few = λ number. omega (arith, (most_less number).1, are.few number);
    live = λ other f. (kept other f).0;
    held = λ other f. omega (arith, ap (holds_at new.nodes) (kept other f).1, (most_less (number_at old other)).0, are.held other f, e);
    once = λ other f. once;
  }
    where
      kept : (other : ℕ) → named ≡ Some other → (is_some (get new.keys other) ≡ true) × (number_at new other ≡ number_at old other)
      kept other f =
          stays old new other
          (changes.keys other (number_at old other) (numbered old other (are.live other f)) (omega (arith, are.held other f, e, once))
          (omega (arith, are.held other f, e, once, (most_less (number_at old other)).0)))

pub ruleset releases = (named_is_held, held_no_more, held_once_less)
