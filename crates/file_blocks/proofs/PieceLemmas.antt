-- A piece that is written into one block.
use Rattle.std.proofs.Common.{◌≡◌, ◌+◌, ◌-◌, suc, ℕ, true, false, cond, List, [], ◌∷◌, length, set, Option, Some, None, is_some, refl, sym, ap, ◌∙◌, arith}
use Rattle.std.specs.Cmp.{nat_cmp_total}
use Rattle.std.specs.FinMap.{get, insert, len, len-insert}
use Rattle.kernel_core.specs.FileContent.{Blocks, block_or_zeros, zero_block}
use Rattle.file_blocks.specs.inside.Pieces.{with_piece, with_kept_piece, taken_by, WritesPiece}
use Rattle.paged_bytes.specs.Pages.{put_at, zero_page}

-- a page of zeros is a block of zeros
pub zero_page-block : zero_page ≡ zero_block
unfolding zero_page zero_block
zero_page-block = refl

module _ (blocks : Blocks) (index place : ℕ) (piece : List ℕ) where
  kept_go : (o : Option (List ℕ)) → true ≡ is_some o → get blocks index ≡ o
      → (with_kept_piece blocks index o place piece ≡ with_piece blocks index place piece) × (taken_by o ≡ 0)
  kept_go None kept found = absurd (cc)
  kept_go (Some block) kept found =
      (ap (λ o. insert blocks index (put_at (block_or_zeros o) place piece)) (sym found), refl)

  new_go : (o : Option (List ℕ)) → false ≡ is_some o → get blocks index ≡ o
      → (with_kept_piece blocks index o place piece ≡ blocks) × (insert blocks index (put_at zero_block place piece) ≡ with_piece blocks index place piece) × (taken_by o ≡ 1) × (o ≡ None)
  new_go None kept found = (refl, ap (λ o. insert blocks index (put_at (block_or_zeros o) place piece)) (sym found), refl, refl)
  new_go (Some block) kept found = absurd (cc)

  -- into a block that is kept
  pub writes_kept : (after : Blocks) (spare : ℕ) → true ≡ is_some (get blocks index) → after ≡ with_kept_piece blocks index (get blocks index) place piece
      → WritesPiece (Some spare) blocks after index place piece spare
  writes_kept after spare kept is =
      let facts = kept_go _ kept refl in
      let same = is ∙ facts.0 in
      let grown : len after ≡ len blocks =
      ap len same
      ∙ len-insert nat_cmp_total blocks index (put_at (block_or_zeros (get blocks index)) place piece)
      ∙ ap (λ b. cond b (len blocks) (len blocks + 1)) (sym kept) in
      (same, omega (arith, facts.1), omega (arith, grown))

  -- a block that is not kept stays so
  pub not_written : (after : Blocks) → false ≡ is_some (get blocks index) → after ≡ with_kept_piece blocks index (get blocks index) place piece
      → (after ≡ blocks) × (get blocks index ≡ None)
  not_written after kept is = let facts = new_go _ kept refl in (is ∙ facts.0, facts.3)

  -- into a new block
  pub writes_new : (before after : Blocks) (spare : ℕ) → false ≡ is_some (get blocks index) → before ≡ blocks → after ≡ insert before index (put_at zero_block place piece)
      → (spare ≡ 0 → ⊥) → WritesPiece (Some (spare - 1)) blocks after index place piece spare
  writes_new before after spare kept unchanged is some =
      let facts = new_go _ kept refl in
      let same = is ∙ ap (λ m. insert m index (put_at zero_block place piece)) unchanged ∙ facts.1 in
      let grown : len after ≡ len blocks + 1 =
      ap len same
      ∙ len-insert nat_cmp_total blocks index (put_at (block_or_zeros (get blocks index)) place piece)
      ∙ ap (λ b. cond b (len blocks) (len blocks + 1)) (sym kept) in
      (same, omega (arith, facts.2), omega (arith, grown))

-- A whole block

put_at-suc : (bs : List ℕ) (x : ℕ) (all : List ℕ) (place : ℕ) → put_at (x ∷ all) (suc place) bs ≡ x ∷ put_at all place bs
put_at-suc [] x all place = refl
put_at-suc (b ∷ bs) x all place = put_at-suc bs x (set all place b) (suc place)

-- a piece as long as the block is the block from then on
pub put_at-all : (bs all : List ℕ) → length bs ≡ length all → put_at all 0 bs ≡ bs
put_at-all [] [] long = refl
put_at-all [] (x ∷ all) long = absurd (omega arith)
put_at-all (b ∷ bs) [] long = absurd (omega arith)
put_at-all (b ∷ bs) (x ∷ all) long = put_at-suc bs b all 0 ∙ ap (λ s. b ∷ s) (put_at-all bs all (omega arith))

-- a piece that is a whole block, where one block may be taken
pub whole_piece : (before after : Blocks) (index : ℕ) (block : List ℕ) (left : Option ℕ) → length block ≡ 4096 → length (block_or_zeros (get before index)) ≡ 4096
    → WritesPiece left before after index 0 block 1 → after ≡ insert before index block
whole_piece before after index block None long whole is = absurd (let none = is.2 in omega arith)
whole_piece before after index block (Some left) long whole is =
    is.0 ∙ ap (insert before index) (put_at-all block (block_or_zeros (get before index)) (omega arith))
