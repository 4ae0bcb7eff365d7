-- The extents beside an index, as the ordered map's ranges give them.
use Rattle.std.proofs.Common.{◌≡◌, ◌≤◌, ◌<◌, ◌+◌, ℕ, false, List, [], ◌∷◌, ◌++◌, Option, Some, None, is_some, refl, sym, ap, ◌∙◌, subst, arith, BTreeMap}
use Rattle.std.specs.Option.{IsSome, IfSome, IfNone}
use Rattle.std.specs.List.{slice_get}
use Rattle.std.specs.declared.ops.Bound.TheVariants.{Included, Unbounded}
use Rattle.std.specs.declared.cmp.Ordering.TheVariants.{Less, Equal, Greater}
use Rattle.std.specs.Ordering.{nat_cmp, is_gt, MatchOrdering}
use Rattle.std.specs.BTreeMap.Range.{IsRangeOf, IsEntryInRange, IsLeBy}
use Rattle.std.specs.Cmp.{ranks}
use Rattle.std.specs.FinMap as map
use Rattle.std.proofs.lemmas.Map.Keys.{le_from_not_gt, ge_from_not_lt}
use Rattle.file_blocks.specs.inside.Extents.{IsLastUpTo, NoneUpTo, IsNextFrom, NoneNextFrom}
use Rattle.paged_bytes.proofs.Entries.{lookup-get}

pub in_none : {X : Type 0} {P : Type 0} (o : Option X) → P → IfNone o P
in_none None p = p
in_none (Some x) p = tt

not_some : {X : Type 0} (o : Option X) → (IsSome o → ⊥) → o ≡ None
not_some None never = refl
not_some (Some x) never = absurd (never refl)

not_gt : (a b : ℕ) → a ≤ b → is_gt (nat_cmp a b) ≡ false
not_gt a b h = elim (nat_cmp a b) as (λ r. nat_cmp a b ≡ r → is_gt r ≡ false) [
  | Less ↦ λ e. refl
  | Equal ↦ λ e. refl
  | Greater ↦ λ e. absurd (let above = subst (λ r. MatchOrdering r (a < b) (a ≡ b) (b < a)) e (ranks a b) in omega arith)
] refl

module _ (m : BTreeMap ℕ (List (List ℕ))) where
  pub none_up_to : (index : ℕ) (r : List (ℕ × List (List ℕ))) → IsRangeOf nat_cmp Unbounded (Included index) m r → r ≡ [] → NoneUpTo (map.from_entries m.entries) index
  none_up_to index r range empty other low =
      sym (lookup-get other m.entries) ∙ range.5 empty other (tt, not_gt other index low)

  -- the last of those up to a key
  pub last_up_to : (index first : ℕ) (blocks : List (List ℕ)) (r t : List (ℕ × List (List ℕ))) → IsRangeOf nat_cmp Unbounded (Included index) m r → r ≡ t ++ (first, blocks) ∷ []
      → IsLastUpTo (map.from_entries m.entries) index first blocks
  last_up_to index first blocks r t range is =
      let here = range.3 (first, blocks) t is in
      record {
        up_to = le_from_not_gt first index here.0.1;
        there = sym (lookup-get first m.entries) ∙ here.1;
        none_between = λ other high low.
            sym (lookup-get other m.entries)
            ∙ not_some _ (λ some.
            let h = ge_from_not_lt first other (range.4 (first, blocks) t is other (tt, not_gt other index low) some) in omega arith);
      }

  pub none_from : (index : ℕ) (r : List (ℕ × List (List ℕ))) → IsRangeOf nat_cmp (Included index) Unbounded m r → r ≡ [] → NoneNextFrom (map.from_entries m.entries) index
  none_from index r range empty other high =
      sym (lookup-get other m.entries) ∙ range.5 empty other (not_gt index other high, tt)

  -- the first of those from a key on
  pub next_from : (index first : ℕ) (blocks : List (List ℕ)) (r t : List (ℕ × List (List ℕ))) → IsRangeOf nat_cmp (Included index) Unbounded m r → r ≡ (first, blocks) ∷ t
      → IsNextFrom (map.from_entries m.entries) index first blocks
  next_from index first blocks r t range is =
      let at : slice_get r 0 ≡ Some (first, blocks) = ap (λ s. slice_get s 0) is in
      let here = subst (λ o. IfSome o (IsEntryInRange nat_cmp (Included index) Unbounded m)) at range.1 in
      record {
        from_there = le_from_not_gt index first here.0.0;
        there = sym (lookup-get first m.entries) ∙ here.1;
        none_before = λ other low high.
            sym (lookup-get other m.entries)
            ∙ not_some _ (λ some.
            let least = subst (λ o. IfSome o (λ e. IsLeBy nat_cmp e.0 other)) at (range.2 other (not_gt index other low, tt) some) in
            let h = le_from_not_gt first other least in omega arith);
      }
