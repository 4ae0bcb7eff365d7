-- Bytes that stand in a file, and writes of them, block by block.
use Rattle.std.proofs.Common.{◌≡◌, ◌≤◌, ◌<◌, ◌+◌, ◌/◌, ◌%◌, suc, ℕ, List, [], ◌∷◌, ◌++◌, Option, Some, None, length, take, drop, set, replicate, refl, ap, ◌∙◌, arith}
use Rattle.std.specs.FinMap.{get, insert}
use Rattle.kernel_core.specs.FileContent.{Blocks, byte_at, bytes_at, block_byte, block_or_zeros, with_byte, with_bytes}
use Rattle.file_blocks.specs.inside.Pieces.{with_piece}
use Rattle.paged_bytes.specs.Pages.{put_at}
use Rattle.paged_bytes.proofs.ByteRuns.{length-run, run-append, run-part, run-zeros, puts-append, puts-page}
use Rattle.paged_bytes.proofs.Puts.{get-insert_same, insert-insert}

module _ (blocks : Blocks) where
  pub bytes_at-same : {a b m n : ℕ} → a ≡ b → m ≡ n → bytes_at blocks a m ≡ bytes_at blocks b n
  bytes_at-same p q = λ i. bytes_at blocks (p i) (q i)

  bytes_at-suc : (a n : ℕ) → bytes_at blocks a (suc n) ≡ byte_at blocks a ∷ bytes_at blocks (a + 1) n
  unfolding bytes_at
  bytes_at-suc a n = refl

  pub bytes_at-zero : (a : ℕ) → bytes_at blocks a 0 ≡ []
  unfolding bytes_at
  bytes_at-zero a = refl

  -- as many bytes as were asked for
  pub length-bytes_at : (n a : ℕ) → length (bytes_at blocks a n) ≡ n
  length-bytes_at = length-run (byte_at blocks) (bytes_at blocks) bytes_at-zero bytes_at-suc

  -- the first bytes, and then those after them
  pub bytes_at-append : (k n a : ℕ) → bytes_at blocks a (k + n) ≡ bytes_at blocks a k ++ bytes_at blocks (a + k) n
  bytes_at-append = run-append (byte_at blocks) (bytes_at blocks) bytes_at-zero bytes_at-suc

  byte_at-block : (a j : ℕ) (o : Option (List ℕ)) → get blocks (a / 4096) ≡ o → a % 4096 + j < 4096 → byte_at blocks (a + j) ≡ block_byte o (a % 4096 + j)
  unfolding byte_at
  byte_at-block a j o found room =
      let index : (a + j) / 4096 ≡ a / 4096 = omega arith in
      let place : (a + j) % 4096 ≡ a % 4096 + j = omega arith in
      (λ i. block_byte (get blocks (index i)) (place i)) ∙ ap (λ p. block_byte p (a % 4096 + j)) found

  -- bytes of one block are a part of its bytes
  pub bytes_at-block : (a k : ℕ) (block : List ℕ) → get blocks (a / 4096) ≡ Some block → a % 4096 + k ≤ 4096 → length block ≡ 4096
      → bytes_at blocks a k ≡ take k (drop (a % 4096) block)
  bytes_at-block a k block found room whole =
      run-part (byte_at blocks) (bytes_at blocks) bytes_at-zero bytes_at-suc block k (a % 4096) a (omega arith) (λ j h. byte_at-block a j (Some block) found (omega arith))

  -- where no block is kept the bytes are 0
  pub bytes_at-absent : (a k : ℕ) → get blocks (a / 4096) ≡ None → a % 4096 + k ≤ 4096 → bytes_at blocks a k ≡ replicate k 0
  bytes_at-absent a k missing room =
      run-zeros (byte_at blocks) (bytes_at blocks) bytes_at-zero bytes_at-suc k a (λ j h. byte_at-block a j None missing (omega arith))

pub with_bytes-nil : (blocks : Blocks) (a : ℕ) → with_bytes blocks a [] ≡ blocks
unfolding with_bytes
with_bytes-nil blocks a = refl

with_byte-at : (blocks : Blocks) (a b n p : ℕ) → a / 4096 ≡ n → a % 4096 ≡ p → with_byte blocks a b ≡ insert blocks n (set (block_or_zeros (get blocks n)) p b)
unfolding with_byte
with_byte-at blocks a b n p index place =
    λ i. insert blocks (index i) (set (block_or_zeros (get blocks (index i))) (place i) b)

with_bytes-cons : (blocks : Blocks) (a b : ℕ) (bs : List ℕ) → with_bytes blocks a (b ∷ bs) ≡ with_bytes (with_byte blocks a b) (a + 1) bs
unfolding with_bytes
with_bytes-cons blocks a b bs = refl

-- some bytes, and then others after them
pub with_bytes-append : (xs ys : List ℕ) (blocks : Blocks) (a : ℕ) → with_bytes blocks a (xs ++ ys) ≡ with_bytes (with_bytes blocks a xs) (a + length xs) ys
with_bytes-append = puts-append with_byte with_bytes with_bytes-nil with_bytes-cons

-- a byte of a block that is kept
with_byte-kept : (blocks : Blocks) (a b n p : ℕ) (block : List ℕ) → a / 4096 ≡ n → a % 4096 ≡ p → get blocks n ≡ Some block
    → with_byte blocks a b ≡ insert blocks n (set block p b)
with_byte-kept blocks a b n p block index place found =
    with_byte-at blocks a b n p index place ∙ ap (λ o. insert blocks n (set (block_or_zeros o) p b)) found

-- bytes written within one block are a piece of it
pub with_bytes-piece : (xs : List ℕ) (blocks : Blocks) (a : ℕ) → 0 < length xs → a % 4096 + length xs ≤ 4096
    → with_bytes blocks a xs ≡ with_piece blocks (a / 4096) (a % 4096) xs
with_bytes-piece [] blocks a some room = absurd (omega arith)
with_bytes-piece (x ∷ []) blocks a some room =
    with_bytes-cons blocks a x [] ∙ with_bytes-nil (with_byte blocks a x) (a + 1) ∙ with_byte-at blocks a x _ _ refl refl
with_bytes-piece (x ∷ y ∷ ys) blocks a some room =
    let n = a / 4096 in
    let first = set (block_or_zeros (get blocks n)) (a % 4096) x in
    with_bytes-cons blocks a x (y ∷ ys)
    ∙ ap (λ m. with_bytes m (a + 1) (y ∷ ys)) (with_byte-at blocks a x n (a % 4096) refl refl)
    ∙ puts-page with_byte with_bytes with_bytes-nil with_bytes-cons set put_at (λ _ _ _. refl) (λ _ _ _ _. refl) with_byte-kept
    ys y (insert blocks n first) (a + 1) n (suc (a % 4096)) first (get-insert_same blocks n first)
    (λ j h. omega arith) (λ j h. omega arith)
    ∙ insert-insert blocks n first _
