-- The number of a new node: a map of so many numbers can't have more in a row.
use Rattle.std.proofs.Common.{◌≡◌, ◌≤◌, ◌<◌, ◌+◌, ◌-◌, ℕ, zero, suc, Bool, true, false, Option, Some, None, is_some, refl, sym, ap, ◌∙◌, arith, inl, inr}
use Rattle.std.specs.Prelude.{if◌then◌else◌}
use Rattle.std.proofs.lemmas.Bool.{cases_eq, false≢true}
use Rattle.std.proofs.lemmas.Bool.Decides.{nat_tests}
use Rattle.std.specs.FinMap.{FinMap, get, remove, len}
use Rattle.std.specs.Ordering.{nat_cmp}
use Rattle.kernel_core.specs.FileSystem.{IsFileSystem}
use Rattle.kernel_core.specs.NameCalls.{IsNewNumber}
use Rattle.kernel_core.specs.Nodes.{Nodes, Inode}
use Rattle.kernel_core.specs.Queries.{unused_from, new_number}
use Rattle.kernel_core.specs.Totals.{nodes_full}
use Rattle.kernel_core.specs.ValidTree.{root, node_limit}
use Rattle.file_system_laws.proofs.Lookups.{get-remove_same, get-remove_other, put_back, len-insert_new, parent_found, directory_found}

-- a map that has each of so many numbers in a row has as many keys
module _ {X : Type 0} where
  taken_away : (m : FinMap nat_cmp X) (key : ℕ) (o : Option X) → get m key ≡ o → is_some o ≡ true → len (remove m key) + 1 ≡ len m
  taken_away m key None at some = absurd (false≢true some)
  taken_away m key (Some v) at some = sym (ap len (put_back m key v at) ∙ len-insert_new (remove m key) key v (get-remove_same m key))

  pub row-len : (count from : ℕ) (m : FinMap nat_cmp X) → ((q : ℕ) → from ≤ q → q < from + count → is_some (get m q) ≡ true) → count ≤ len m
  row-len zero from m each = omega arith
  row-len (suc count) from m each =
      let key = from + count in
      let less = taken_away m key (get m key) refl (each key (omega arith) (omega arith)) in
      let kept = row-len count from (remove m key)
      (λ q low high. let apart : q ≡ key → ⊥ = λ e. omega (arith, e, high) in
      ap is_some (get-remove_other m key q apart) ∙ each q low (omega (arith, high))) in
      omega (arith, less, kept)

-- what the search for a number finds
record Finds (nodes : Nodes) (from count number : ℕ) : Type 0 where
  low : from ≤ number
  high : number ≤ from + count
  live : (q : ℕ) → from ≤ q → q < number → is_some (get nodes q) ≡ true
  last : is_some (get nodes number) ≡ true → number ≡ from + count

module _ (nodes : Nodes) where
  finds : (count from : ℕ) → Finds nodes from count (unused_from count nodes from)
  unfolding unused_from
  finds zero from = record {
    low = omega arith;
    high = omega arith;
    live = λ q low high. absurd (omega (arith, low, high));
    last = λ some. omega arith;
  }
  finds (suc count) from = go (finds count (from + 1)) (is_some (get nodes from)) refl
    where
      go : Finds nodes (from + 1) count (unused_from count nodes (from + 1)) → (some : Bool) → is_some (get nodes from) ≡ some → Finds nodes from (suc count) (if some then unused_from count nodes (from + 1) else from)
      go h true is =
          record {
            low = let l = h.low in omega (arith, l);
            high = let g = h.high in omega (arith, g);
            live = λ q low high. elim (cases_eq q from) [
              | inl here ↦ ap (λ k. is_some (get nodes k)) here ∙ is
              | inr apart ↦ h.live q (omega (arith, low, apart)) high
            ];
            last = λ some. let e = h.last some in omega (arith, e);
          }
      go h false is = record {
        low = omega arith;
        high = omega arith;
        live = λ q low high. absurd (omega (arith, low, high));
        last = λ some. absurd (false≢true (sym is ∙ some));
      }

  unused : (o : Option Inode) → (is_some o ≡ true → ⊥) → o ≡ None
  unused None some = refl
  unused (Some inode) some = absurd (some refl)

  -- the function's number is one
  pub new_number_is_new : IsNewNumber nodes (new_number nodes)
  new_number_is_new =
      let h = finds (len nodes) 2 in
      record {
        from_two = h.low;
        unused = unused (get nodes (new_number nodes)) (λ some.
            let last = h.last some in
            let count = row-len (len nodes + 1) 2 nodes (λ q low high. elim (cases_eq q (new_number nodes)) [
              | inl here ↦ ap (λ k. is_some (get nodes k)) here ∙ some
              | inr apart ↦ h.live q low (omega (arith, high, last, apart))
            ]) in
            omega (arith, count));
        least = h.live;
      }

  -- the root lives too, so the number is at most one above the count of nodes
  pub new_number-limit : IsFileSystem nodes → (number : ℕ) → IsNewNumber nodes number → number ≤ len nodes + 1
  new_number-limit is number new =
      let listing = parent_found nodes root root is.top in
      let top = directory_found nodes root listing.0 listing.1 in
      let two = new.from_two in
      let count = row-len (number - 1) 1 nodes (λ q low high. elim (cases_eq q root) [
        | inl here ↦ ap (λ k. is_some (get nodes k)) here ∙ ap is_some top.1
        | inr apart ↦ new.least q (omega (arith, low, apart)) (omega (arith, high, two))
      ]) in
      omega (arith, count, two)

  pub new_number-below : IsFileSystem nodes → nodes_full nodes ≡ false → (number : ℕ) → IsNewNumber nodes number → number ≤ node_limit
  new_number-below is free number new =
      let few = new_number-limit is number new in
      let room : len nodes < node_limit = grind (arith, nat_tests) in
      omega (arith, few, room)

pub one_new_number : (nodes : Nodes) (first second : ℕ) → IsNewNumber nodes first → IsNewNumber nodes second → first ≡ second
one_new_number nodes first second is other = grind (arith, lower first second is other, lower second first other is)
  where
    lower : (low high : ℕ) → IsNewNumber nodes low → IsNewNumber nodes high → low < high → ⊥
    lower low high is other less =
        false≢true (ap is_some (sym is.unused) ∙ other.least low is.from_two less)
