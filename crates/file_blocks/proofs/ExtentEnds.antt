-- The last block of the extents, and the first one from an index on.
use Rattle.std.proofs.Common.{◌≡◌, ◌≢◌, ◌≤◌, ◌<◌, ◌+◌, ◌-◌, ◌^◌, ℕ, Bool, true, false, cond, ltb, List, [], ◌∷◌, Option, Some, None, IsSome, is_some, length, take, refl, sym, ap, ◌∙◌, subst, arith}
use Rattle.std.proofs.lemmas.Bool.{ltb-true, ltb-false}
use Rattle.std.proofs.lemmas.Bool.Decides.{nat_tests}
use Rattle.std.proofs.lemmas.List.{length-take-le}
use Rattle.std.proofs.lemmas.Option.{slice_get_past}
use Rattle.std.specs.List.{slice_get}
use Rattle.std.specs.Ordering.{nat_cmp, eq_by_cmp}
use Rattle.std.specs.FinMap.{get, insert, remove}
use Rattle.kernel_core.specs.FileContent.{Blocks}
use Rattle.file_blocks.specs.Kept.{NoneFrom, IsFirstFrom}
use Rattle.file_blocks.specs.inside.Extents.{Extents, IsLastUpTo, NoneUpTo, IsNextFrom, NoneNextFrom, AreExtents, IsSpot, block_at, blocks_in, blocks_or_none, blocks_from, without_last}
use Rattle.file_blocks.proofs.ListLemmas.{get-cons, get-some, get-take_below, get-take_past}
use Rattle.file_blocks.proofs.ExtentLaws.{Extent, Found, nowhere, last, found, last_once, at-none, at-last, there_not_none, get-blocks_in}
use Rattle.file_blocks.proofs.ExtentChanges.{get-remove_same, get-remove_other, at-changed, changed-extents}
use Rattle.file_blocks.proofs.ExtentJoins.{Side, below, same, above, side, none_begins}

-- The extent that begins last of all

-- each extent begins below 2^32
pub begins_low : (m : Extents) (f : ℕ) (bs : Extent) → AreExtents m → get m f ≡ Some bs → f < 2 ^ 32
begins_low m f bs are there = let h = are.filled f bs there in let k = are.small f bs there in omega arith

none_high : (m : Extents) (f : ℕ) → AreExtents m → 2 ^ 32 ≤ f → get m f ≡ None
none_high m f are high = go _ refl
  where
    go : (o : Option Extent) → get m f ≡ o → get m f ≡ None
    go None e = e
    go (Some bs) e = absurd (let h = begins_low m f bs are e in omega arith)

-- the last one up to 2^32 - 1 is so up to any index
last_of_all : (m : Extents) (q f : ℕ) (bs : Extent) → AreExtents m → IsLastUpTo m (2 ^ 32 - 1) f bs → f ≤ q → IsLastUpTo m q f bs
last_of_all m q f bs are is h = record { up_to = h; there = is.there; none_between = λ other high most. go other high (ltb other (2 ^ 32)) refl }
  where
    go : (other : ℕ) → f < other → (b : Bool) → ltb other (2 ^ 32) ≡ b → get m other ≡ None
    go other high true low = is.none_between other high (let h = ltb-true other (2 ^ 32) low in omega arith)
    go other high false far = none_high m other are (ltb-false other (2 ^ 32) far)

pub last-kept : (m : Extents) (f index : ℕ) (bs : Extent) → AreExtents m → IsLastUpTo m (2 ^ 32 - 1) f bs → index ≡ f + length bs - 1 → IsSome (get (blocks_in m) index)
last-kept m f index bs are is at =
    let some = are.filled f bs is.there in
    let x = get-some bs (index - f) (omega arith) in
    subst IsSome (sym (get-blocks_in m are index ∙ at-last m index f bs (last_of_all m index f bs are is (omega arith)) ∙ x.1)) refl

pub last-greatest : (m : Extents) (f index : ℕ) (bs : Extent) → AreExtents m → IsLastUpTo m (2 ^ 32 - 1) f bs → index ≡ f + length bs - 1 → NoneFrom (blocks_in m) (index + 1)
last-greatest m f index bs are is at = λ q past.
    let some = are.filled f bs is.there in
    get-blocks_in m are q ∙ at-last m q f bs (last_of_all m q f bs are is (omega arith)) ∙ slice_get_past bs (q - f) (omega arith)

pub none-kept : (m : Extents) → AreExtents m → NoneUpTo m (2 ^ 32 - 1) → NoneFrom (blocks_in m) 0
none-kept m are none = λ q from. get-blocks_in m are q ∙ at-none m q (λ other h. go other (ltb other (2 ^ 32)) refl)
  where
    go : (other : ℕ) → (b : Bool) → ltb other (2 ^ 32) ≡ b → get m other ≡ None
    go other true low = none other (let h = ltb-true other (2 ^ 32) low in omega arith)
    go other false far = none_high m other are (ltb-false other (2 ^ 32) far)

-- The first block from an index on

-- from an index where no block is up to the next extent there is none
between : (m : Extents) (from q : ℕ) → block_at m from ≡ None → from ≤ q → ((other : ℕ) → from ≤ other → other ≤ q → get m other ≡ None) → Found m from → block_at m q ≡ None
between m from q none h empty (nowhere before) = at-none m q (λ other most. go other most (side other from))
  where
    go : (other : ℕ) → other ≤ q → Side other from → get m other ≡ None
    go other most (below less) = before other (omega arith)
    go other most (same e) = empty other (omega arith) most
    go other most (above more) = empty other (omega arith) most
between m from q none h empty (last f bs is) =
    at-last m q f bs stands ∙ slice_get_past bs (q - f) (go (ltb (from - f) (length bs)) refl)
  where
    stands : IsLastUpTo m q f bs
    stands = record { up_to = let k = is.up_to in omega arith; there = is.there; none_between = λ other high most. by other high most (side other from) }
      where
        by : (other : ℕ) → f < other → other ≤ q → Side other from → get m other ≡ None
        by other high most (below less) = is.none_between other high (omega arith)
        by other high most (same e) = empty other (omega arith) most
        by other high most (above more) = empty other (omega arith) most

    go : (b : Bool) → ltb (from - f) (length bs) ≡ b → length bs ≤ q - f
    go true inside =
        let x = get-some bs (from - f) (ltb-true _ _ inside) in
        absurd (there_not_none x.1 (sym (at-last m from f bs is) ∙ none))
    go false past = let k = ltb-false _ _ past in omega arith

pub first-here : (blocks : Blocks) (from : ℕ) (block : List ℕ) → get blocks from ≡ Some block → IsFirstFrom blocks from from block
first-here blocks from block there = record { from_there = omega arith; kept = there; none_before = λ other low high. absurd (omega arith) }

pub first-next : (m : Extents) (from first : ℕ) (bs : Extent) (block : List ℕ) → AreExtents m → get (blocks_in m) from ≡ None → IsNextFrom m from first bs → slice_get bs 0 ≡ Some block
    → IsFirstFrom (blocks_in m) from first block
first-next m from first bs block are none is head = record {
  from_there = is.from_there;
  kept =
      let stands : IsLastUpTo m first first bs = record { up_to = omega arith; there = is.there; none_between = λ other high most. absurd (omega arith) } in
      get-blocks_in m are first ∙ at-last m first first bs stands ∙ (let n : first - first ≡ 0 = omega arith in ap (slice_get bs) n) ∙ head;
  none_before = λ other low high.
      get-blocks_in m are other
      ∙ between m from other (sym (get-blocks_in m are from) ∙ none) low (λ n h most. is.none_before n h (omega arith)) (found m from);
}

pub first-none : (m : Extents) (from : ℕ) → AreExtents m → get (blocks_in m) from ≡ None → NoneNextFrom m from → NoneFrom (blocks_in m) from
first-none m from are none empty = λ q low.
    get-blocks_in m are q ∙ between m from q (sym (get-blocks_in m are from) ∙ none) low (λ n h most. empty n h) (found m from)

-- The last block taken away

module _ (m : Extents) (index first : ℕ) (bs : Extent) (are : AreExtents m) (is : IsLastUpTo m index first bs) (inside : index - first < length bs)
    (greatest : (q : ℕ) → index < q → block_at m q ≡ None) where
  -- no extent begins behind it
  none_behind : (q : ℕ) → index < q → get m q ≡ None
  none_behind q past = none_begins m q are (greatest q past)

  last_past : (q : ℕ) → first ≤ q → IsLastUpTo m q first bs
  last_past q h = record { up_to = h; there = is.there; none_between = λ other high most. go other high (side other index) }
    where
      go : (other : ℕ) → first < other → Side other index → get m other ≡ None
      go other high (below less) = is.none_between other high (omega arith)
      go other high (same e) = is.none_between other high (omega arith)
      go other high (above more) = none_behind other more

  -- it is the last one of its extent
  pub whole : length bs ≡ index - first + 1
  whole = go (ltb (index + 1 - first) (length bs)) refl
    where
      go : (b : Bool) → ltb (index + 1 - first) (length bs) ≡ b → length bs ≡ index - first + 1
      go true more =
          let h = is.up_to in
          let x = get-some bs (index + 1 - first) (ltb-true _ _ more) in
          absurd (there_not_none x.1 (sym (at-last m (index + 1) first bs (last_past (index + 1) (omega arith))) ∙ greatest (index + 1) (omega arith)))
      go false most = let h = is.up_to in let k = ltb-false _ _ most in omega arith

  shortened_go : (q : ℕ) → first ≤ q → Side q index → slice_get (without_last bs) (q - first) ≡ cond (eq_by_cmp nat_cmp q index) None (slice_get bs (q - first))
  shortened_go q h (below less) =
      let other : eq_by_cmp nat_cmp q index ≡ false = grind (arith, nat_tests) in
      let w = whole in
      get-take_below (length bs - 1) bs (q - first) (omega arith) ∙ ap (λ b. cond b None (slice_get bs (q - first))) (sym other)
  shortened_go q h (same e) =
      let here : eq_by_cmp nat_cmp q index ≡ true = grind (arith, nat_tests) in
      let w = whole in
      get-take_past (length bs - 1) bs (q - first) (omega arith) ∙ ap (λ b. cond b None (slice_get bs (q - first))) (sym here)
  shortened_go q h (above more) =
      let other : eq_by_cmp nat_cmp q index ≡ false = grind (arith, nat_tests) in
      let w = whole in
      get-take_past (length bs - 1) bs (q - first) (omega arith)
      ∙ sym (slice_get_past bs (q - first) (omega arith))
      ∙ ap (λ b. cond b None (slice_get bs (q - first))) (sym other)

  -- a longer extent is one block shorter
  pub at-shortened : (q : ℕ) → block_at (insert m first (without_last bs)) q ≡ cond (eq_by_cmp nat_cmp q index) None (block_at m q)
  at-shortened = at-changed m first index bs (without_last bs) None is (λ q h. shortened_go q h (side q index))

  pub shortened-extents : first ≢ index → AreExtents (insert m first (without_last bs))
  shortened-extents longer =
      let w = whole in
      let h = is.up_to in
      let l : length (without_last bs) ≡ length bs - 1 = length-take-le (length bs - 1) bs (omega arith) in
      changed-extents m first bs (without_last bs) are is.there (omega arith) (omega arith)

  -- an extent of one block goes
  module _ (one : first ≡ index) where
    gone_there : (f : ℕ) (b : Extent) → get (remove m first) f ≡ Some b → (f ≢ first) × (get m f ≡ Some b)
    gone_there f b there =
        let apart : f ≢ first = λ e. there_not_none there (get-remove_same m first f e) in
        (apart, sym (get-remove_other m first f apart) ∙ there)

    abbrev Was : ℕ → Type 0
    Was q = block_at (remove m first) q ≡ cond (eq_by_cmp nat_cmp q index) None (block_at m q)

    here_none : (q : ℕ) → q ≡ index → (o p : Option (List ℕ)) → o ≡ None → o ≡ cond (eq_by_cmp nat_cmp q index) None p
    here_none q e o p none = let here : eq_by_cmp nat_cmp q index ≡ true = grind (arith, nat_tests) in none ∙ ap (λ b. cond b None p) (sym here)

    apart_same : (q : ℕ) → q ≢ index → (o p : Option (List ℕ)) → o ≡ p → o ≡ cond (eq_by_cmp nat_cmp q index) None p
    apart_same q e o p is = let other : eq_by_cmp nat_cmp q index ≡ false = grind (arith, nat_tests) in is ∙ ap (λ b. cond b None p) (sym other)

    -- before the one that goes all is as it was
    gone_before : (q : ℕ) → q < first → Found m q → block_at (remove m first) q ≡ block_at m q
    gone_before q less (nowhere none) = at-none (remove m first) q (λ other h. get-remove_other m first other (λ e. omega arith) ∙ none other h) ∙ sym (at-none m q none)
    gone_before q less (last f b at) =
        at-last (remove m first) q f b (record {
          up_to = at.up_to;
          there = get-remove_other m first f (let h = at.up_to in λ e. omega arith) ∙ at.there;
          none_between = λ other high most. get-remove_other m first other (λ e. omega arith) ∙ at.none_between other high most;
        })
        ∙ sym (at-last m q f b at)

    -- at and behind it there is none
    gone_behind : (q : ℕ) → first ≤ q → Found (remove m first) q → block_at (remove m first) q ≡ None
    gone_behind q h (nowhere none) = at-none (remove m first) q none
    gone_behind q h (last f b at) =
        let was = gone_there f b at.there in
        at-last (remove m first) q f b at ∙ slice_get_past b (q - f) (go was (side f first))
      where
        go : (f ≢ first) × (get m f ≡ Some b) → Side f first → length b ≤ q - f
        go was (below less) = let k = are.apart f b first was.1 less (subst IsSome (sym is.there) refl) in omega arith
        go was (same e) = absurd (was.0 e)
        go was (above more) = absurd (there_not_none was.1 (none_behind f (omega arith)))

    gone_go : (q : ℕ) → Side q index → Was q
    gone_go q (below less) = apart_same q (λ e. omega arith) _ _ (gone_before q (omega arith) (found m q))
    gone_go q (same e) = here_none q e _ _ (gone_behind q (omega arith) (found (remove m first) q))
    gone_go q (above more) = apart_same q (λ e. omega arith) _ _ (gone_behind q (omega arith) (found (remove m first) q) ∙ sym (greatest q more))

    pub at-gone : (q : ℕ) → Was q
    at-gone q = gone_go q (side q index)

    pub gone-extents : AreExtents (remove m first)
    gone-extents = record {
      filled = λ f b there. are.filled f b (gone_there f b there).1;
      apart = λ f b n there less some. are.apart f b n (gone_there f b there).1 less (still n some (side n first));
      small = λ f b there. are.small f b (gone_there f b there).1;
    }
      where
        still : (n : ℕ) → IsSome (get (remove m first) n) → Side n first → IsSome (get m n)
        still n some (below less) = subst IsSome (get-remove_other m first n (λ e. omega arith)) some
        still n some (same e) = absurd (let f : false ≡ true = sym (ap is_some (get-remove_same m first n e)) ∙ some in cc)
        still n some (above more) = subst IsSome (get-remove_other m first n (λ e. omega arith)) some
