-- A block that is new among the extents, which joins its neighbours.
use Rattle.std.proofs.Common.{◌≡◌, ◌≢◌, ◌⊎◌, ◌≤◌, ◌<◌, ◌+◌, ◌-◌, ◌^◌, ℕ, Bool, true, false, cond, ltb, List, [], ◌∷◌, ◌++◌, Option, Some, None, IsSome, length, refl, sym, ap, ◌∙◌, subst, arith, inl, inr}
use Rattle.std.proofs.lemmas.Bool.{ltb-true, ltb-false}
use Rattle.std.proofs.lemmas.Bool.Decides.{nat_tests}
use Rattle.std.proofs.lemmas.List.{length-append}
use Rattle.std.proofs.lemmas.Option.{slice_get_past}
use Rattle.std.specs.List.{slice_get}
use Rattle.std.specs.Ordering.{nat_cmp, eq_by_cmp}
use Rattle.std.specs.FinMap.{get, insert, remove}
use Rattle.paged_bytes.proofs.Puts.{get-insert_same}
use Rattle.file_blocks.specs.inside.Extents.{Extents, IsLastUpTo, NoneUpTo, AreExtents, EndsBefore, NoneEndsBefore, block_at, blocks_or_none, blocks_from, joined}
use Rattle.file_blocks.proofs.ListLemmas.{get-append_left, get-append_right, get-cons, get-some}
use Rattle.file_blocks.proofs.ExtentLaws.{Extent, Found, nowhere, last, found, last_once, at-none, at-last, there_not_none, some_not_none, strictly}
use Rattle.file_blocks.proofs.ExtentChanges.{get-insert_other, get-remove_same, get-remove_other}

pub data Side (a b : ℕ) : Type 0 where
  below : a < b → Side a b
  same : a ≡ b → Side a b
  above : b < a → Side a b

side_go : (a b : ℕ) (p q : Bool) → ltb a b ≡ p → ltb b a ≡ q → Side a b
side_go a b true q low high = below (ltb-true a b low)
side_go a b false true low high = above (ltb-true b a high)
side_go a b false false low high = same (let h = ltb-false a b low in let k = ltb-false b a high in omega arith)

pub side : (a b : ℕ) → Side a b
side a b = side_go a b _ _ refl refl

-- What makes room for a block at an index: the extent at `first` has the blocks up to there, or begins there with none, no other
-- one reaches it, and those before `first` end before it.
pub record HasRoom (m : Extents) (index : ℕ) (first : ℕ) (blocks : Extent) : Type 0 where
  pub ends : first + length blocks ≡ index
  pub kept : (q : ℕ) → first ≤ q → q < index → IsLastUpTo m q first blocks
  pub none_between : (other : ℕ) → first < other → other ≤ index → get m other ≡ None
  pub free : (other : ℕ) (others : Extent) → IsLastUpTo m index other others → other + length others ≤ index
  pub behind : (other : ℕ) (others : Extent) → get m other ≡ Some others → other < first → other + length others < first

module _ (m : Extents) (index first : ℕ) (blocks : Extent) (block : List ℕ) (are : AreExtents m) (low : index < 2 ^ 32) (room : HasRoom m index first blocks) where
  abbrev next : ℕ
  next = index + 1

  abbrev rest : Extent
  rest = blocks_from m next

  abbrev all : Extent
  all = blocks ++ block ∷ rest

  abbrev J : Extents
  J = joined m first blocks block next

  at_first : get J first ≡ Some all
  at_first = get-insert_same (remove m next) first all

  at_next : get J next ≡ None
  at_next = get-insert_other (remove m next) first next all (let h = room.ends in λ e. omega arith) ∙ get-remove_same m next next refl

  at_other : (q : ℕ) → q ≢ first → q ≢ next → get J q ≡ get m q
  at_other q apart far = get-insert_other (remove m next) first q all apart ∙ get-remove_other m next q far

  none_here : (q : ℕ) → first < q → q ≤ index → get J q ≡ None
  none_here q high h = at_other q (λ e. omega arith) (λ e. omega arith) ∙ room.none_between q high h

  -- `first` is the last one up to an index past it where no other one is there past `next`
  first_last : (q : ℕ) → first ≤ q → ((other : ℕ) → next < other → other ≤ q → get m other ≡ None) → IsLastUpTo J q first all
  first_last q h none = record { up_to = h; there = at_first; none_between = λ other high most. go other high most (side other next) }
    where
      go : (other : ℕ) → first < other → other ≤ q → Side other next → get J other ≡ None
      go other high most (below less) = none_here other high (omega arith)
      go other high most (same is) = ap (get J) is ∙ at_next
      go other high most (above more) = let e = room.ends in at_other other (λ s. omega arith) (λ s. omega arith) ∙ none other more most

  past_rest : (q : ℕ) → index < q → rest ≡ [] → slice_get all (q - first) ≡ None
  past_rest q past none =
      let e = room.ends in
      slice_get_past all (q - first) (let g = length-append blocks (block ∷ rest) in let k : length rest ≡ 0 = ap length none in omega arith)

  in_rest : (q : ℕ) → index < q → slice_get all (q - first) ≡ slice_get rest (q - next)
  in_rest q past =
      let e = room.ends in
      get-append_right blocks (block ∷ rest) (q - first) (q - index) (omega arith)
      ∙ get-cons block rest (q - index) (omega arith)
      ∙ (let n : q - index - 1 ≡ q - next = omega arith in ap (slice_get rest) n)

  other_last : (q other : ℕ) (others : Extent) → other ≢ first → other ≢ next → ((first < other) ⊎ (q < first)) → IsLastUpTo m q other others → IsLastUpTo J q other others
  other_last q other others apart far where_ is = record {
    up_to = is.up_to;
    there = at_other other apart far ∙ is.there;
    none_between = λ n high most. go n high most (side n next);
  }
    where
      not_first : (n : ℕ) → other < n → n ≤ q → n ≢ first
      not_first n high most = elim where_ [ inl h ↦ λ e. omega arith | inr h ↦ λ e. omega arith ]

      go : (n : ℕ) → other < n → n ≤ q → Side n next → get J n ≡ None
      go n high most (same e) = ap (get J) e ∙ at_next
      go n high most (below less) = at_other n (not_first n high most) (λ s. omega arith) ∙ is.none_between n high most
      go n high most (above more) = at_other n (not_first n high most) (λ s. omega arith) ∙ is.none_between n high most

  abbrev Is : ℕ → Type 0
  Is q = block_at J q ≡ cond (eq_by_cmp nat_cmp q index) (Some block) (block_at m q)

  not_new : (q : ℕ) → q ≢ index → block_at J q ≡ block_at m q → Is q
  not_new q apart e = let other : eq_by_cmp nat_cmp q index ≡ false = grind (arith, nat_tests) in e ∙ ap (λ b. cond b (Some block) (block_at m q)) (sym other)

  before_go : (q : ℕ) → q < first → Found m q → block_at J q ≡ block_at m q
  before_go q less (nowhere none) =
      let e = room.ends in
      at-none J q (λ other h. at_other other (λ s. omega arith) (λ s. omega arith) ∙ none other h) ∙ sym (at-none m q none)
  before_go q less (last other others is) =
      let e = room.ends in
      let h = is.up_to in
      at-last J q other others (other_last q other others (λ s. omega arith) (λ s. omega arith) (inr less) is) ∙ sym (at-last m q other others is)

  within : (q : ℕ) → first ≤ q → q < index → block_at J q ≡ block_at m q
  within q h less =
      let e = room.ends in
      at-last J q first all (first_last q h (λ other high most. absurd (omega arith)))
      ∙ get-append_left blocks (block ∷ rest) (q - first) (omega arith)
      ∙ sym (at-last m q first blocks (room.kept q h less))

  new_here : (q : ℕ) → q ≡ index → Is q
  new_here q is =
      let e = room.ends in
      let here : eq_by_cmp nat_cmp q index ≡ true = grind (arith, nat_tests) in
      at-last J q first all (first_last q (omega arith) (λ other high most. absurd (omega arith)))
      ∙ get-append_right blocks (block ∷ rest) (q - first) 0 (omega arith)
      ∙ ap (λ b. cond b (Some block) (block_at m q)) (sym here)

  none_next : get m next ≡ None → rest ≡ []
  none_next none = ap blocks_or_none none

  after_go : (q : ℕ) → index < q → Found m q → block_at J q ≡ block_at m q
  after_go q past (nowhere none) =
      let e = room.ends in
      at-last J q first all (first_last q (omega arith) (λ other high most. none other most))
      ∙ past_rest q past (none_next (none next (omega arith)))
      ∙ sym (at-none m q none)
  after_go q past (last other others is) = go (side other next)
    where
      go : Side other next → block_at J q ≡ block_at m q
      go (above more) =
          let e = room.ends in
          at-last J q other others (other_last q other others (λ s. omega arith) (λ s. omega arith) (inl (omega arith)) is) ∙ sym (at-last m q other others is)
      go (same here) =
          let e = room.ends in
          let there : get m next ≡ Some others = ap (get m) (sym here) ∙ is.there in
          at-last J q first all (first_last q (omega arith) (λ n high most. is.none_between n (omega arith) most))
          ∙ in_rest q past
          ∙ ap (λ s. slice_get s (q - next)) (ap blocks_or_none there)
          ∙ ap (λ n. slice_get others (q - n)) (sym here)
          ∙ sym (at-last m q other others is)
      go (below less) =
          let e = room.ends in
          let stands : IsLastUpTo m index other others = record { up_to = omega arith; there = is.there; none_between = λ n high most. is.none_between n high (omega arith) } in
          let short = room.free other others stands in
          at-last J q first all (first_last q (omega arith) (λ n high most. is.none_between n (omega arith) most))
          ∙ past_rest q past (none_next (is.none_between next (omega arith) (omega arith)))
          ∙ sym (slice_get_past others (q - other) (omega arith))
          ∙ sym (at-last m q other others is)

  pub at-joined : (q : ℕ) → Is q
  at-joined q = go (side q index) (side q first)
    where
      go : Side q index → Side q first → Is q
      go (below less) (below before) = not_new q (λ e. omega arith) (before_go q before (found m q))
      go (below less) (same is) = not_new q (λ e. omega arith) (within q (omega arith) less)
      go (below less) (above more) = not_new q (λ e. omega arith) (within q (omega arith) less)
      go (same is) _ = new_here q is
      go (above more) _ = not_new q (λ e. omega arith) (after_go q more (found m q))

  -- What stands among the extents afterwards

  length_all : length all ≡ length blocks + (length rest + 1)
  length_all = let e : length (block ∷ rest) ≡ length rest + 1 = omega arith in length-append blocks (block ∷ rest) ∙ ap (λ n. length blocks + n) e

  stood : (f : ℕ) (bs : Extent) → f ≢ first → get J f ≡ Some bs → get m f ≡ Some bs
  stood f bs apart is = go (side f next)
    where
      go : Side f next → get m f ≡ Some bs
      go (same e) = absurd (there_not_none is (ap (get J) e ∙ at_next))
      go (below less) = sym (at_other f apart (λ s. omega arith)) ∙ is
      go (above more) = sym (at_other f apart (λ s. omega arith)) ∙ is

  is_all : (f : ℕ) (bs : Extent) → f ≡ first → get J f ≡ Some bs → all ≡ bs
  is_all f bs here is = let e : Some all ≡ Some bs = sym (ap (get J) here ∙ at_first) ∙ is in cc

  rest_small : (o : Option Extent) → get m next ≡ o → next + length (blocks_or_none o) ≤ 2 ^ 32
  rest_small None e = omega arith
  rest_small (Some r) e = are.small next r e

  rest_apart : (n : ℕ) (o : Option Extent) → get m next ≡ o → next < n → IsSome (get m n) → next + length (blocks_or_none o) < n
  rest_apart n None e more some = omega arith
  rest_apart n (Some r) e more some = are.apart next r n e more some

  some_of : (n : ℕ) → n ≢ first → n ≢ next → IsSome (get J n) → IsSome (get m n)
  some_of n apart far some = subst IsSome (at_other n apart far) some

  apart_first : (n : ℕ) → first < n → IsSome (get J n) → first + length all < n
  apart_first n more some = go (side n next)
    where
      go : Side n next → first + length all < n
      go (below less) = absurd (some_not_none some (none_here n more (omega arith)))
      go (same e) = absurd (some_not_none some (ap (get J) e ∙ at_next))
      go (above high) =
          let far = rest_apart n _ refl high (some_of n (λ s. omega arith) (λ s. omega arith) some) in
          let e = room.ends in let g = length_all in omega arith

  apart_other : (f : ℕ) (bs : Extent) (n : ℕ) → get m f ≡ Some bs → f < n → IsSome (get J n) → f + length bs < n
  apart_other f bs n there less some = go (side n first) (side n next)
    where
      go : Side n first → Side n next → f + length bs < n
      go (same e) _ = let h = room.behind f bs there (omega arith) in omega arith
      go _ (same e) = absurd (some_not_none some (ap (get J) e ∙ at_next))
      go (below a) (below b) = are.apart f bs n there less (some_of n (λ s. omega arith) (λ s. omega arith) some)
      go (below a) (above b) = are.apart f bs n there less (some_of n (λ s. omega arith) (λ s. omega arith) some)
      go (above a) (below b) = are.apart f bs n there less (some_of n (λ s. omega arith) (λ s. omega arith) some)
      go (above a) (above b) = are.apart f bs n there less (some_of n (λ s. omega arith) (λ s. omega arith) some)

  pub joined-extents : AreExtents J
  joined-extents = record {
    filled = λ f bs is. filled_go f bs is (side f first);
    apart = λ f bs n is less some. apart_go f bs n is less some (side f first);
    small = λ f bs is. small_go f bs is (side f first);
  }
    where
      filled_go : (f : ℕ) (bs : Extent) → get J f ≡ Some bs → Side f first → 0 < length bs
      filled_go f bs is (same e) = subst (λ s. 0 < length s) (is_all f bs e is) (let g = length_all in omega arith)
      filled_go f bs is (below less) = are.filled f bs (stood f bs (λ s. omega arith) is)
      filled_go f bs is (above more) = are.filled f bs (stood f bs (λ s. omega arith) is)

      small_go : (f : ℕ) (bs : Extent) → get J f ≡ Some bs → Side f first → f + length bs ≤ 2 ^ 32
      small_go f bs is (same e) =
          subst (λ s. f + length s ≤ 2 ^ 32) (is_all f bs e is) (let g = length_all in let h = rest_small _ refl in let k = room.ends in omega arith)
      small_go f bs is (below less) = are.small f bs (stood f bs (λ s. omega arith) is)
      small_go f bs is (above more) = are.small f bs (stood f bs (λ s. omega arith) is)

      apart_go : (f : ℕ) (bs : Extent) (n : ℕ) → get J f ≡ Some bs → f < n → IsSome (get J n) → Side f first → f + length bs < n
      apart_go f bs n is less some (same e) = subst (λ s. f + length s < n) (is_all f bs e is) (let h = apart_first n (omega arith) some in omega arith)
      apart_go f bs n is less some (below b) = apart_other f bs n (stood f bs (λ s. omega arith) is) less some
      apart_go f bs n is less some (above b) = apart_other f bs n (stood f bs (λ s. omega arith) is) less some

-- Where there is room

-- behind the extent that ends just before the index
pub room_behind : (m : Extents) (index first : ℕ) (blocks : Extent) → AreExtents m → IsLastUpTo m index first blocks → first + length blocks ≡ index
    → HasRoom m index first blocks
room_behind m index first blocks are is ends = record {
  ends = ends;
  kept = λ q h less. record { up_to = h; there = is.there; none_between = λ other high most. is.none_between other high (omega arith) };
  none_between = is.none_between;
  free = λ other others stands.
      let one : first ≡ other = last_once m index first other blocks others is stands in
      let e : blocks ≡ others = (let f : Some blocks ≡ Some others = sym is.there ∙ ap (get m) one ∙ stands.there in cc) in
      let l : length blocks ≡ length others = ap length e in omega arith;
  behind = λ other others there less. are.apart other others first there less (subst IsSome (sym is.there) refl);
}

-- an extent that has nothing at an index ends by there
ends_by : (m : Extents) (index other : ℕ) (others : Extent) → block_at m index ≡ None → IsLastUpTo m index other others → other + length others ≤ index
ends_by m index other others none is = go _ refl
  where
    go : (b : Bool) → ltb (index - other) (length others) ≡ b → other + length others ≤ index
    go true inside =
        let some = get-some others (index - other) (ltb-true _ _ inside) in
        absurd (there_not_none some.1 (sym (at-last m index other others is) ∙ none))
    go false past = let h = ltb-false _ _ past in let k = is.up_to in omega arith

-- where no block is and no extent ends just before
pub room_alone : (m : Extents) (index : ℕ) → AreExtents m → block_at m index ≡ None → NoneEndsBefore m index → HasRoom m index index []
room_alone m index are none touch = record {
  ends = omega arith;
  kept = λ q h less. absurd (omega arith);
  none_between = λ other high most. absurd (omega arith);
  free = λ other others is. ends_by m index other others none is;
  behind = λ other others there less. go other others there less (found m index);
}
  where
    go : (other : ℕ) (others : Extent) → get m other ≡ Some others → other < index → Found m index → other + length others < index
    go other others there less (nowhere empty) = absurd (there_not_none there (empty other (omega arith)))
    go other others there less (last f bs is) = by (side other f)
      where
        by : Side other f → other + length others < index
        by (below b) = let h = are.apart other others f there b (subst IsSome (sym is.there) refl) in let k = is.up_to in omega arith
        by (above b) = absurd (there_not_none there (is.none_between other b (omega arith)))
        by (same e) =
            let g : bs ≡ others = (let h : Some bs ≡ Some others = sym is.there ∙ ap (get m) (sym e) ∙ there in cc) in
            let l : length bs ≡ length others = ap length g in
            let most = ends_by m index f bs none is in
            let far = touch f bs is in
            strictly (other + length others) index (omega arith) (λ s. far (omega arith))

-- no extent begins where no block is
pub none_begins : (m : Extents) (index : ℕ) → AreExtents m → block_at m index ≡ None → get m index ≡ None
none_begins m index are none = go _ refl
  where
    go : (o : Option Extent) → get m index ≡ o → get m index ≡ None
    go None e = e
    go (Some bs) e =
        absurd (let some = get-some bs (index - index) (let h = are.filled index bs e in omega arith) in
        let is : IsLastUpTo m index index bs = record { up_to = omega arith; there = e; none_between = λ other high most. absurd (omega arith) } in
        there_not_none some.1 (sym (at-last m index index bs is) ∙ none))
