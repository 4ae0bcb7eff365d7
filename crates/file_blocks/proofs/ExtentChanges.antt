-- Changes of the extents, as the blocks that they keep show them.
use Rattle.std.proofs.Common.{◌≡◌, ◌≢◌, ◌≤◌, ◌<◌, ◌+◌, ◌-◌, ◌^◌, zero, suc, ℕ, Bool, true, false, cond, ltb, List, [], ◌∷◌, ◌++◌, Option, Some, None, IsSome, is_some, length, refl, sym, ap, ◌∙◌, subst, arith}
use Rattle.std.proofs.lemmas.Bool.{ltb-true, ltb-false}
use Rattle.std.proofs.lemmas.Bool.Decides.{nat_tests}
use Rattle.std.proofs.lemmas.List.{length-append}
use Rattle.std.proofs.lemmas.Map.Lookups.{exact_unsigned}
use Rattle.std.proofs.lemmas.Map.Views.{tells_apart}
use Rattle.std.proofs.lemmas.Option.{slice_get_past}
use Rattle.std.specs.List.{slice_get}
use Rattle.std.specs.Ordering.{nat_cmp, eq_by_cmp}
use Rattle.std.specs.Cmp.{nat_cmp_total, tied_itself}
use Rattle.std.specs.FinMap.{FinMap, get, insert, remove, empty, len, get-insert, get-remove, get-empty, same_map, nat_cmp-IsAntisymmetric}
use Rattle.kernel_core.specs.FileContent.{Blocks}
use Rattle.paged_bytes.proofs.Puts.{get-insert_same}
use Rattle.file_blocks.specs.inside.Extents.{Extents, IsLastUpTo, NoneUpTo, AreExtents, block_at, blocks_in, blocks_or_none, blocks_from, joined}
use Rattle.file_blocks.proofs.ListLemmas.{get-append_left, get-append_right, get-cons}
use Rattle.file_blocks.proofs.ExtentLaws.{Extent, Found, nowhere, last, found, last_once, at-none, at-last, there_not_none, get-blocks_in}

-- Maps at one key and at the others

module _ {X : Type 0} where
  pub get-insert_other : (m : FinMap nat_cmp X) (k q : ℕ) (v : X) → q ≢ k → get (insert m k v) q ≡ get m q
  get-insert_other m k q v apart =
      let other : eq_by_cmp nat_cmp q k ≡ false = grind (arith, nat_tests) in
      get-insert nat_cmp_total m k v q ∙ ap (λ b. cond b (Some v) (get m q)) other

  pub get-remove_same : (m : FinMap nat_cmp X) (k q : ℕ) → q ≡ k → get (remove m k) q ≡ None
  get-remove_same m k q same =
      let here : eq_by_cmp nat_cmp q k ≡ true = grind (arith, nat_tests) in
      get-remove nat_cmp_total m k q ∙ ap (λ b. cond b None (get m q)) here

  pub get-remove_other : (m : FinMap nat_cmp X) (k q : ℕ) → q ≢ k → get (remove m k) q ≡ get m q
  get-remove_other m k q apart =
      let other : eq_by_cmp nat_cmp q k ≡ false = grind (arith, nat_tests) in
      get-remove nat_cmp_total m k q ∙ ap (λ b. cond b None (get m q)) other

  same_go : (m : FinMap nat_cmp X) (k q : ℕ) (v : X) (b : Bool) → get m k ≡ Some v → eq_by_cmp nat_cmp q k ≡ b → cond b (Some v) (get m q) ≡ get m q
  same_go m k q v true there same = sym (ap (get m) (tells_apart exact_unsigned q k same) ∙ there)
  same_go m k q v false there apart = refl

  -- a value put where it is
  pub insert-same : (m : FinMap nat_cmp X) (k : ℕ) (v : X) → get m k ≡ Some v → insert m k v ≡ m
  insert-same m k v there = same_map nat_cmp_total nat_cmp-IsAntisymmetric _ _ (λ q. get-insert nat_cmp_total m k v q ∙ same_go m k q v _ there refl)

  none_go : (m : FinMap nat_cmp X) (k q : ℕ) (b : Bool) → get m k ≡ None → eq_by_cmp nat_cmp q k ≡ b → cond b None (get m q) ≡ get m q
  none_go m k q true none same = sym (ap (get m) (tells_apart exact_unsigned q k same) ∙ none)
  none_go m k q false none apart = refl

  -- a key taken away where there is none
  pub remove-absent : (m : FinMap nat_cmp X) (k : ℕ) → get m k ≡ None → remove m k ≡ m
  remove-absent m k none = same_map nat_cmp_total nat_cmp-IsAntisymmetric _ _ (λ q. get-remove nat_cmp_total m k q ∙ none_go m k q _ none refl)

  put_go : (m : FinMap nat_cmp X) (k q : ℕ) (v : X) (b : Bool) → get m k ≡ None → eq_by_cmp nat_cmp q k ≡ b → cond b None (cond b (Some v) (get m q)) ≡ get m q
  put_go m k q v true none same = sym (ap (get m) (tells_apart exact_unsigned q k same) ∙ none)
  put_go m k q v false none apart = refl

  -- a key put anew and taken away
  pub remove-insert : (m : FinMap nat_cmp X) (k : ℕ) (v : X) → get m k ≡ None → remove (insert m k v) k ≡ m
  remove-insert m k v none = same_map nat_cmp_total nat_cmp-IsAntisymmetric _ _ (λ q.
      get-remove nat_cmp_total (insert m k v) k q
      ∙ ap (cond (eq_by_cmp nat_cmp q k) None) (get-insert nat_cmp_total m k v q)
      ∙ put_go m k q v _ none refl)

  over_go : (p : Option X) (b c : Bool) (v w : X) → cond b (Some w) (cond c None (cond b (Some v) p)) ≡ cond b (Some w) (cond c None p)
  over_go p true c v w = refl
  over_go p false c v w = refl

  -- what was put at a key counts no more once another value is put there
  pub insert-remove_over : (m : FinMap nat_cmp X) (k n : ℕ) (v w : X) → insert (remove (insert m k v) n) k w ≡ insert (remove m n) k w
  insert-remove_over m k n v w = same_map nat_cmp_total nat_cmp-IsAntisymmetric _ _ (λ q.
      get-insert nat_cmp_total (remove (insert m k v) n) k w q
      ∙ ap (cond (eq_by_cmp nat_cmp q k) (Some w)) (get-remove nat_cmp_total (insert m k v) n q ∙ ap (cond (eq_by_cmp nat_cmp q n) None) (get-insert nat_cmp_total m k v q))
      ∙ over_go (get m q) (eq_by_cmp nat_cmp q k) (eq_by_cmp nat_cmp q n) v w
      ∙ sym (get-insert nat_cmp_total (remove m n) k w q ∙ ap (cond (eq_by_cmp nat_cmp q k) (Some w)) (get-remove nat_cmp_total m n q)))

-- Other blocks in one extent

module _ (m : Extents) (first : ℕ) (old new : Extent) (there : get m first ≡ Some old) where
  put_there : get (insert m first new) first ≡ Some new
  put_there = get-insert_same m first new

  still_none : (q : ℕ) → get m q ≡ None → get (insert m first new) q ≡ None
  still_none q none = get-insert_other m first q new (λ same. there_not_none there (ap (get m) (sym same) ∙ none)) ∙ none

  pub changed-nowhere : (q : ℕ) → NoneUpTo m q → NoneUpTo (insert m first new) q
  changed-nowhere q none = λ other low. still_none other (none other low)

  pub changed-here : (q : ℕ) (blocks : Extent) → IsLastUpTo m q first blocks → IsLastUpTo (insert m first new) q first new
  changed-here q blocks is = record { up_to = is.up_to; there = put_there; none_between = λ other high low. still_none other (is.none_between other high low) }

  pub changed-other : (q other : ℕ) (blocks : Extent) → other ≢ first → IsLastUpTo m q other blocks → IsLastUpTo (insert m first new) q other blocks
  changed-other q other blocks apart is = record {
    up_to = is.up_to;
    there = get-insert_other m first other new apart ∙ is.there;
    none_between = λ next high low. still_none next (is.none_between next high low);
  }

-- where one block of an extent is another one, or gone, so it is in what the extents keep
module _ (m : Extents) (first index : ℕ) (old new : Extent) (o : Option (List ℕ)) (at : IsLastUpTo m index first old)
    (same : (q : ℕ) → first ≤ q → slice_get new (q - first) ≡ cond (eq_by_cmp nat_cmp q index) o (slice_get old (q - first))) where
  abbrev changed : Extents
  changed = insert m first new

  not_here : (q : ℕ) → q ≢ index → (p : Option (List ℕ)) → p ≡ cond (eq_by_cmp nat_cmp q index) o p
  not_here q apart p = let other : eq_by_cmp nat_cmp q index ≡ false = grind (arith, nat_tests) in ap (λ b. cond b o p) (sym other)

  change_go : (q : ℕ) → Found m q → block_at changed q ≡ cond (eq_by_cmp nat_cmp q index) o (block_at m q)
  change_go q (nowhere none) =
      let apart : q ≢ index = λ is. there_not_none at.there (none first (let h = at.up_to in omega arith)) in
      at-none changed q (changed-nowhere m first old new at.there q none) ∙ sym (at-none m q none) ∙ not_here q apart _
  change_go q (last other blocks is) = go _ refl
    where
      go : (b : Bool) → eq_by_cmp nat_cmp other first ≡ b → block_at changed q ≡ cond (eq_by_cmp nat_cmp q index) o (block_at m q)
      go true here =
          let one : other ≡ first = tells_apart exact_unsigned other first here in
          let stands : IsLastUpTo m q first blocks = subst (λ n. IsLastUpTo m q n blocks) one is in
          let blocks_same : blocks ≡ old = (let e : Some blocks ≡ Some old = sym stands.there ∙ at.there in cc) in
          at-last changed q first new (changed-here m first old new at.there q blocks stands)
          ∙ same q stands.up_to
          ∙ ap (λ s. cond (eq_by_cmp nat_cmp q index) o (slice_get s (q - first))) (sym blocks_same)
          ∙ ap (cond (eq_by_cmp nat_cmp q index) o) (sym (at-last m q first blocks stands))
      go false there =
          let two : other ≢ first = (λ e. grind (arith, nat_tests)) in
          let apart : q ≢ index = λ e. two (last_once m index other first blocks old (subst (λ n. IsLastUpTo m n other blocks) e is) at) in
          at-last changed q other blocks (changed-other m first old new at.there q other blocks two is)
          ∙ sym (at-last m q other blocks is)
          ∙ not_here q apart _

  pub at-changed : (q : ℕ) → block_at changed q ≡ cond (eq_by_cmp nat_cmp q index) o (block_at m q)
  at-changed q = change_go q (found m q)

-- the other blocks are no more than those before, and one at least
pub changed-extents : (m : Extents) (first : ℕ) (old new : Extent) → AreExtents m → get m first ≡ Some old → 0 < length new → length new ≤ length old → AreExtents (insert m first new)
changed-extents m first old new are there some few = record {
  filled = λ f blocks is. filled_go f blocks _ refl is;
  apart = λ f blocks next is above is_next. apart_go f blocks next _ refl is above (still next _ refl is_next);
  small = λ f blocks is. small_go f blocks _ refl is;
}
  where
    at : (f : ℕ) (blocks : Extent) (b : Bool) → eq_by_cmp nat_cmp f first ≡ b → get (insert m first new) f ≡ Some blocks
        → cond b (Some new) (get m f) ≡ Some blocks
    at f blocks b test is = ap (λ c. cond c (Some new) (get m f)) (sym test) ∙ sym (get-insert nat_cmp_total m first new f) ∙ is

    filled_go : (f : ℕ) (blocks : Extent) (b : Bool) → eq_by_cmp nat_cmp f first ≡ b → get (insert m first new) f ≡ Some blocks → 0 < length blocks
    filled_go f blocks true test is = let e : new ≡ blocks = (let h : Some new ≡ Some blocks = at f blocks true test is in cc) in subst (λ s. 0 < length s) e some
    filled_go f blocks false test is = are.filled f blocks (at f blocks false test is)

    small_go : (f : ℕ) (blocks : Extent) (b : Bool) → eq_by_cmp nat_cmp f first ≡ b → get (insert m first new) f ≡ Some blocks → f + length blocks ≤ 2 ^ 32
    small_go f blocks true test is =
        let e : new ≡ blocks = (let h : Some new ≡ Some blocks = at f blocks true test is in cc) in
        let same : f ≡ first = tells_apart exact_unsigned f first test in
        let most = are.small first old there in
        let shorter : length blocks ≤ length old = subst (λ s. length s ≤ length old) e few in
        omega arith
    small_go f blocks false test is = are.small f blocks (at f blocks false test is)

    still : (next : ℕ) (b : Bool) → eq_by_cmp nat_cmp next first ≡ b → IsSome (get (insert m first new) next) → IsSome (get m next)
    still next true test is = subst IsSome (sym (ap (get m) (tells_apart exact_unsigned next first test) ∙ there)) refl
    still next false test is = subst IsSome (get-insert nat_cmp_total m first new next ∙ ap (λ c. cond c (Some new) (get m next)) test) is

    apart_go : (f : ℕ) (blocks : Extent) (next : ℕ) (b : Bool) → eq_by_cmp nat_cmp f first ≡ b → get (insert m first new) f ≡ Some blocks
        → f < next → IsSome (get m next) → f + length blocks < next
    apart_go f blocks next true test is above is_next =
        let e : new ≡ blocks = (let h : Some new ≡ Some blocks = at f blocks true test is in cc) in
        let same : f ≡ first = tells_apart exact_unsigned f first test in
        let far = are.apart first old next there (let h = above in omega arith) is_next in
        let shorter : length blocks ≤ length old = subst (λ s. length s ≤ length old) e few in
        omega arith
    apart_go f blocks next false test is above is_next = are.apart f blocks next (at f blocks false test is) above is_next
