-- The changes of the store's extents as changes of the blocks that it keeps.
use Rattle.std.proofs.Common.{◌≡◌, ◌≢◌, ◌≤◌, ◌<◌, ◌+◌, ◌-◌, ◌^◌, ℕ, Bool, true, false, cond, List, [], ◌∷◌, ◌++◌, Option, Some, None, IsSome, is_some, length, take, set, replicate, refl, sym, ap, ◌∙◌, subst, arith}
use Rattle.std.proofs.Math.ListN.{length-set}
use Rattle.std.proofs.lemmas.Bool.Decides.{nat_tests}
use Rattle.std.proofs.lemmas.Option.{slice_get_within}
use Rattle.std.specs.List.{slice_get}
use Rattle.std.specs.Ordering.{nat_cmp, eq_by_cmp}
use Rattle.std.specs.Cmp.{nat_cmp_total}
use Rattle.std.specs.FinMap.{get, insert, remove, empty, len, get-insert, get-remove, get-empty, len-insert, len-remove, same_map, nat_cmp-IsAntisymmetric}
use Rattle.kernel_core.specs.FileContent.{Blocks, with_zero_tail}
use Rattle.paged_bytes.specs.Pages.{put_at}
use Rattle.file_blocks.specs.Kept.{NoneFrom}
use Rattle.file_blocks.specs.inside.Pieces.{with_kept_piece}
use Rattle.file_blocks.specs.inside.Extents.{Extents, IsLastUpTo, NoneUpTo, AreExtents, IsSpot, EndsBefore, NoneEndsBefore, block_at, blocks_in, blocks_or_none, blocks_from, with_piece_at, with_zeros_at, changed_at, without_last, joined}
use Rattle.file_blocks.proofs.Cuts.{len-remove-fewer}
use Rattle.file_blocks.proofs.ListLemmas.{get-set_same, get-set_other, get-some}
use Rattle.file_blocks.proofs.ExtentLaws.{Extent, at-last, at-none, get-blocks_in, there_not_none}
use Rattle.file_blocks.proofs.ExtentChanges.{at-changed, changed-extents}
use Rattle.file_blocks.proofs.ExtentJoins.{HasRoom, room_behind, room_alone, none_begins, at-joined, joined-extents, Side, below, same, above, side}
use Rattle.file_blocks.proofs.ExtentEnds.{whole, at-shortened, shortened-extents, at-gone, gone-extents}

-- None at all

pub no_extents : AreExtents empty
no_extents = record {
  filled = λ f bs there. absurd (there_not_none there (get-empty nat_cmp f));
  apart = λ f bs n there less some. absurd (there_not_none there (get-empty nat_cmp f));
  small = λ f bs there. absurd (there_not_none there (get-empty nat_cmp f));
}

pub no_blocks : blocks_in empty ≡ empty
no_blocks =
    same_map nat_cmp_total nat_cmp-IsAntisymmetric _ _ (λ q.
    get-blocks_in empty no_extents q ∙ at-none empty q (λ other h. get-empty nat_cmp other) ∙ sym (get-empty nat_cmp q))

-- what is seen at an index
pub seen_at : (m : Extents) (blocks : Blocks) (index : ℕ) → AreExtents m → blocks_in m ≡ blocks → block_at m index ≡ get blocks index
seen_at m blocks index are seen = sym (get-blocks_in m are index) ∙ ap (λ b. get b index) seen

-- A new block

module _ (m : Extents) (index first : ℕ) (blocks : Extent) (block : List ℕ) (are : AreExtents m) (low : index < 2 ^ 32) (room : HasRoom m index first blocks) where
  pub inserted : blocks_in (joined m first blocks block (index + 1)) ≡ insert (blocks_in m) index block
  inserted =
      same_map nat_cmp_total nat_cmp-IsAntisymmetric _ _ (λ q.
      get-blocks_in (joined m first blocks block (index + 1)) (joined-extents m index first blocks block are low room) q
      ∙ at-joined m index first blocks block are low room q
      ∙ ap (cond (eq_by_cmp nat_cmp q index) (Some block)) (sym (get-blocks_in m are q))
      ∙ sym (get-insert nat_cmp_total (blocks_in m) index block q))

-- one more than before
pub one_more : (blocks : Blocks) (index : ℕ) (block : List ℕ) → get blocks index ≡ None → len (insert blocks index block) ≡ len blocks + 1
one_more blocks index block none =
    len-insert nat_cmp_total blocks index block ∙ ap (λ o. cond (is_some o) (len blocks) (len blocks + 1)) none

pub room_there : (m : Extents) (index first : ℕ) → AreExtents m → EndsBefore m index first → HasRoom m index first (blocks_from m first)
room_there m index first are is = room_behind m index first (blocks_from m first) are is.last is.ends

-- Another block in place of one that is kept

module _ (m : Extents) (index first number : ℕ) (are : AreExtents m) (spot : IsSpot m index first number) where
  abbrev old : Extent
  old = blocks_from m first

  number_is : number ≡ index - first
  number_is = let e = spot.place in omega arith

  -- the block that is kept there
  kept_there : block_at m index ≡ slice_get old number
  kept_there = at-last m index first old spot.last ∙ ap (slice_get old) (sym number_is)

  pub is_there : IsSome (block_at m index)
  is_there = let x = get-some old number spot.inside in subst IsSome (sym (kept_there ∙ x.1)) refl

  is_kept : IsSome (get (blocks_in m) index)
  is_kept = subst IsSome (sym (get-blocks_in m are index)) is_there

  set_go : (q : ℕ) (block : List ℕ) → first ≤ q → Side q index → slice_get (set old number block) (q - first) ≡ cond (eq_by_cmp nat_cmp q index) (Some block) (slice_get old (q - first))
  set_go q block h (below less) =
      let other : eq_by_cmp nat_cmp q index ≡ false = grind (arith, nat_tests) in
      let e = spot.place in
      get-set_other old number (q - first) block (λ s. omega arith) ∙ ap (λ b. cond b (Some block) (slice_get old (q - first))) (sym other)
  set_go q block h (same is) =
      let here : eq_by_cmp nat_cmp q index ≡ true = grind (arith, nat_tests) in
      let e = spot.place in
      get-set_same old number (q - first) block (omega arith) spot.inside ∙ ap (λ b. cond b (Some block) (slice_get old (q - first))) (sym here)
  set_go q block h (above more) =
      let other : eq_by_cmp nat_cmp q index ≡ false = grind (arith, nat_tests) in
      let e = spot.place in
      get-set_other old number (q - first) block (λ s. omega arith) ∙ ap (λ b. cond b (Some block) (slice_get old (q - first))) (sym other)

  set-extents : (block : List ℕ) → AreExtents (insert m first (set old number block))
  set-extents block =
      let l = length-set old number block in
      let some = spot.inside in
      changed-extents m first old (set old number block) are spot.last.there (omega arith) (omega arith)

  set-blocks : (block : List ℕ) → blocks_in (insert m first (set old number block)) ≡ insert (blocks_in m) index block
  set-blocks block =
      same_map nat_cmp_total nat_cmp-IsAntisymmetric _ _ (λ q.
      get-blocks_in (insert m first (set old number block)) (set-extents block) q
      ∙ at-changed m first index old (set old number block) (Some block) spot.last (λ n h. set_go n block h (side n index)) q
      ∙ ap (cond (eq_by_cmp nat_cmp q index) (Some block)) (sym (get-blocks_in m are q))
      ∙ sym (get-insert nat_cmp_total (blocks_in m) index block q))

  set-count : (block : List ℕ) → len (blocks_in (insert m first (set old number block))) ≡ len (blocks_in m)
  set-count block =
      ap len (set-blocks block)
      ∙ len-insert nat_cmp_total (blocks_in m) index block
      ∙ ap (λ b. cond b (len (blocks_in m)) (len (blocks_in m) + 1)) is_kept

  -- A change of the block

  abbrev Stands : Extents → Blocks → Type 0
  Stands extents blocks = AreExtents extents × (blocks_in extents ≡ blocks) × (len (blocks_in extents) ≡ len (blocks_in m))

  piece_go : (place : ℕ) (piece : List ℕ) (o : Option (List ℕ)) → slice_get old number ≡ o
      → Stands (insert m first (changed_at old number o (λ block. put_at block place piece))) (with_kept_piece (blocks_in m) index o place piece)
  piece_go place piece None none = absurd (let x = get-some old number spot.inside in there_not_none x.1 none)
  piece_go place piece (Some block) there =
      (set-extents (put_at block place piece), set-blocks (put_at block place piece), set-count (put_at block place piece))

  pub written : (place : ℕ) (piece : List ℕ) → Stands (insert m first (with_piece_at old number place piece)) (with_kept_piece (blocks_in m) index (block_at m index) place piece)
  written place piece =
      subst (λ o. Stands (insert m first (with_piece_at old number place piece)) (with_kept_piece (blocks_in m) index o place piece)) (sym kept_there)
      (piece_go place piece _ refl)

  tail_go : (place : ℕ) (o : Option (List ℕ)) → slice_get old number ≡ o
      → Stands (insert m first (changed_at old number o (λ block. take place block ++ replicate (4096 - place) 0))) (with_zero_tail (blocks_in m) index o place)
  tail_go place None none = absurd (let x = get-some old number spot.inside in there_not_none x.1 none)
  tail_go place (Some block) there =
      let zeroed = take place block ++ replicate (4096 - place) 0 in
      (set-extents zeroed, set-blocks zeroed, set-count zeroed)

  pub cleared : (place : ℕ) → Stands (insert m first (with_zeros_at old number place)) (with_zero_tail (blocks_in m) index (block_at m index) place)
  cleared place =
      subst (λ o. Stands (insert m first (with_zeros_at old number place)) (with_zero_tail (blocks_in m) index o place)) (sym kept_there)
      (tail_go place _ refl)

  -- The last block taken away

  module _ (greatest : NoneFrom (blocks_in m) (index + 1)) where
    none_past : (q : ℕ) → index < q → block_at m q ≡ None
    none_past q past = sym (get-blocks_in m are q) ∙ greatest q (omega arith)

    inside : index - first < length old
    inside = let e = spot.place in let h = spot.inside in omega arith

    abbrev Lost : Extents → Type 0
    Lost extents = AreExtents extents × (blocks_in extents ≡ remove (blocks_in m) index) × (len (blocks_in extents) + 1 ≡ len (blocks_in m))

    lost_go : (extents : Extents) → AreExtents extents → ((q : ℕ) → block_at extents q ≡ cond (eq_by_cmp nat_cmp q index) None (block_at m q)) → Lost extents
    lost_go extents ext at =
        let e : blocks_in extents ≡ remove (blocks_in m) index =
        same_map nat_cmp_total nat_cmp-IsAntisymmetric _ _ (λ q.
        get-blocks_in extents ext q ∙ at q ∙ ap (cond (eq_by_cmp nat_cmp q index) None) (sym (get-blocks_in m are q))
        ∙ sym (get-remove nat_cmp_total (blocks_in m) index q)) in
        let l : len (blocks_in extents) ≡ len (blocks_in m) - 1 = ap len e ∙ len-remove nat_cmp_total (blocks_in m) index ∙ ap (λ b. cond b (len (blocks_in m) - 1) (len (blocks_in m))) is_kept in
        let fewer = len-remove-fewer (blocks_in m) index is_kept in
        (ext, e, omega (arith, l, fewer))

    -- a block of a longer extent
    pub shortened : number ≢ 0 → Lost (insert m first (without_last old))
    shortened longer =
        lost_go (insert m first (without_last old))
        (shortened-extents m index first old are spot.last inside none_past (let e = spot.place in λ s. longer (omega arith)))
        (at-shortened m index first old are spot.last inside none_past)

    -- an extent's only block
    pub gone : number ≡ 0 → Lost (remove m first)
    gone one =
        let e : first ≡ index = (let p = spot.place in omega arith) in
        lost_go (remove m first) (gone-extents m index first old are spot.last inside none_past e) (at-gone m index first old are spot.last inside none_past e)
