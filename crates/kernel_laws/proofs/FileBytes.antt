-- The bytes of a file after a write and with another size.
use Rattle.std.proofs.Common.{◌≡◌, ◌≢◌, ℕ, zero, suc, ◌+◌, ◌-◌, ◌*◌, ◌/◌, ◌%◌, ◌<◌, ◌≤◌, min, true, false, cond, List, [], ◌∷◌, ◌++◌, length, take, get_or, set, replicate, Option, Some, None, refl, sym, ◌∙◌, ap, arith, inl, inr}
use Rattle.std.specs.Prelude.{nat_lt, ◌⊎◌}
use Rattle.std.specs.FinMap.{get, get-retain_keys, insert, retain_keys}
use Rattle.std.proofs.lemmas.Bool.{cases_eq, cases_lt}
use Rattle.std.proofs.lemmas.Bool.Decides.{nat_tests}
use Rattle.std.proofs.lemmas.List.{get_or_append_left, get_or-append_right, get_or-set_other, get_or-set_same, get_or-take, length-replicate, length-set, length-take-le}
use Rattle.std.proofs.lemmas.Map.Lookups.{exact_unsigned}
use Rattle.kernel_core.specs.FileContent.{Blocks, FileContent, IsContent, block_byte, block_or_zeros, block_size, byte_at, bytes_at, cut, resized, size_with, with_byte, with_bytes, with_zero_tail, written, zero_block}
use Rattle.file_system_laws.proofs.Lookups.{get-insert_other, get-insert_same}
use Rattle.kernel_model.specs.Transfers.{file_bytes}

-- each block has 4096 bytes
abbrev AreWhole : Blocks → Type 0
AreWhole blocks = (index : ℕ) (block : List ℕ) → get blocks index ≡ Some block → length block ≡ 4096

-- A block that is not kept reads as zeros

zeros : (n k : ℕ) → get_or (replicate n 0) k 0 ≡ zero
zeros zero k = refl
zeros (suc n) zero = refl
zeros (suc n) (suc k) = zeros n k

padded : (found : Option (List ℕ)) (k : ℕ) → get_or (block_or_zeros found) k 0 ≡ block_byte found k
unfolding zero_block
padded None k = zeros 4096 k
padded (Some block) k = refl

padded_long : (blocks : Blocks) → AreWhole blocks → (index : ℕ) (found : Option (List ℕ)) → get blocks index ≡ found → length (block_or_zeros found) ≡ 4096
unfolding zero_block
padded_long blocks whole index None e = length-replicate {A = ℕ} 4096 0
padded_long blocks whole index (Some block) e = whole index block e

-- One byte is written

module _ (blocks : Blocks) (whole : AreWhole blocks) (a b : ℕ) where
  abbrev old : List ℕ
  old = block_or_zeros (get blocks (a / 4096))

  abbrev new : List ℕ
  new = set old (a % 4096) b

  long : length old ≡ 4096
  long = padded_long blocks whole (a / 4096) (get blocks (a / 4096)) refl

  still_whole : AreWhole (with_byte blocks a b)
  unfolding with_byte
  still_whole index block e = elim (cases_eq index (a / 4096)) [
    | inl here ↦
        let found : Some new ≡ Some block = sym (ap (get (insert blocks (a / 4096) new)) here ∙ get-insert_same blocks (a / 4096) new) ∙ e in
        let is : new ≡ block = cc in
        ap length (sym is) ∙ length-set old (a % 4096) b ∙ long
    | inr other ↦ whole index block (sym (get-insert_other blocks (a / 4096) new index other) ∙ e)
  ]

  written_there : byte_at (with_byte blocks a b) a ≡ b
  unfolding byte_at with_byte
  written_there = ap (λ o. block_byte o (a % 4096)) (get-insert_same blocks (a / 4096) new) ∙ get_or-set_same old (a % 4096) b 0 (omega (arith, long))

  written_elsewhere : (p : ℕ) → p ≢ a → byte_at (with_byte blocks a b) p ≡ byte_at blocks p
  unfolding byte_at with_byte
  written_elsewhere p other = elim (cases_eq (p / 4096) (a / 4096)) [
    | inl here ↦
        let apart : p % 4096 ≢ a % 4096 = λ e. other (omega (arith, here, e)) in
        ap (λ q. block_byte (get (insert blocks (a / 4096) new) q) (p % 4096)) here
        ∙ ap (λ o. block_byte o (p % 4096)) (get-insert_same blocks (a / 4096) new)
        ∙ get_or-set_other old (a % 4096) (p % 4096) b 0 apart
        ∙ padded (get blocks (a / 4096)) (p % 4096)
        ∙ ap (λ q. block_byte (get blocks q) (p % 4096)) (sym here)
    | inr apart ↦ ap (λ o. block_byte o (p % 4096)) (get-insert_other blocks (a / 4096) new (p / 4096) apart)
  ]

-- Many are

outside : (bytes : List ℕ) (blocks : Blocks) → AreWhole blocks → (a p : ℕ) → (p < a) ⊎ (a + length bytes ≤ p) → byte_at (with_bytes blocks a bytes) p ≡ byte_at blocks p
unfolding with_bytes
outside [] blocks whole a p far = refl
outside (b ∷ bytes) blocks whole a p (inl before) =
    outside bytes (with_byte blocks a b) (still_whole blocks whole a b) (a + 1) p (inl (omega (arith, before))) ∙ written_elsewhere blocks whole a b p (λ e. omega (arith, e, before))
outside (b ∷ bytes) blocks whole a p (inr behind) =
    outside bytes (with_byte blocks a b) (still_whole blocks whole a b) (a + 1) p (inr (omega (arith, behind))) ∙ written_elsewhere blocks whole a b p (λ e. omega (arith, e, behind))

inside : (bytes : List ℕ) (blocks : Blocks) → AreWhole blocks → (a k : ℕ) → k < length bytes → byte_at (with_bytes blocks a bytes) (a + k) ≡ get_or bytes k 0
unfolding with_bytes
inside [] blocks whole a k low = absurd (omega (arith, low))
inside (b ∷ bytes) blocks whole a zero low =
    let here : a + 0 ≡ a = omega arith in
    ap (λ p. byte_at (with_bytes (with_byte blocks a b) (a + 1) bytes) p) here
    ∙ outside bytes (with_byte blocks a b) (still_whole blocks whole a b) (a + 1) a (inl (omega arith))
    ∙ written_there blocks whole a b
inside (b ∷ bytes) blocks whole a (suc k) low =
    let here : a + suc k ≡ a + 1 + k = omega arith in
    ap (λ p. byte_at (with_bytes (with_byte blocks a b) (a + 1) bytes) p) here
    ∙ inside bytes (with_byte blocks a b) (still_whole blocks whole a b) (a + 1) k (omega (arith, low))

-- bytes, one after another
each_byte : (bytes : List ℕ) (blocks : Blocks) (a : ℕ) → ((k : ℕ) → k < length bytes → byte_at blocks (a + k) ≡ get_or bytes k 0) → bytes_at blocks a (length bytes) ≡ bytes
unfolding bytes_at
each_byte [] blocks a all = refl
each_byte (b ∷ bytes) blocks a all =
    let first : byte_at blocks a ≡ b = ap (λ p. byte_at blocks p) (let here : a ≡ a + 0 = omega arith in here) ∙ all 0 (omega arith) in
    let rest : bytes_at blocks (a + 1) (length bytes) ≡ bytes
    = each_byte bytes blocks (a + 1) (λ k low. ap (λ p. byte_at blocks p) (let here : a + 1 + k ≡ a + suc k = omega arith in here) ∙ all (suc k) (omega (arith, low))) in
    λ i. first i ∷ rest i

whole_of : (content : FileContent) → IsContent content → AreWhole content.blocks
whole_of content is index block e = (is.blocks index block e).whole

reads_all : (size at : ℕ) (bytes : List ℕ) → min (length bytes) (size_with size at (length bytes) - at) ≡ length bytes
reads_all size at [] = omega arith
reads_all size at (b ∷ bytes) = omega arith

pub gives_written : (content : FileContent) (at : ℕ) (bytes : List ℕ) → IsContent content → file_bytes (written content at bytes) at (length bytes) ≡ bytes
gives_written content at bytes is =
    ap (λ n. bytes_at (with_bytes content.blocks at bytes) at n) (reads_all content.size at bytes)
    ∙ each_byte bytes (with_bytes content.blocks at bytes) at (λ k low. inside bytes content.blocks (whole_of content is) at k low)

pub gives_elsewhere : (content : FileContent) (at : ℕ) (bytes : List ℕ) → IsContent content → (place : ℕ) → (place < at) ⊎ (at + length bytes ≤ place)
    → byte_at (written content at bytes).blocks place ≡ byte_at content.blocks place
gives_elsewhere content at bytes is place far = outside bytes content.blocks (whole_of content is) at place far

-- Another size

module _ (content : FileContent) (is : IsContent content) (size : ℕ) where
  abbrev kept : Blocks
  kept = retain_keys content.blocks (λ index. nat_lt (index * block_size) size)

  get_kept : (q : ℕ) → get kept q ≡ cond (nat_lt (q * 4096) size) (get content.blocks q) None
  get_kept q = get-retain_keys content.blocks (λ index. nat_lt (index * 4096) size) q (λ x tied. ap (λ n. nat_lt (n * 4096) size) (sym (exact_unsigned q x tied)))

  kept_before : (q : ℕ) → q * 4096 < size → get kept q ≡ get content.blocks q
  kept_before q low = get_kept q ∙ ap (λ b. cond b (get content.blocks q) None) (let yes : nat_lt (q * 4096) size ≡ true = grind (arith, nat_tests) in yes)

  gone_behind : (q : ℕ) → size ≤ q * 4096 → get kept q ≡ None
  gone_behind q high = get_kept q ∙ ap (λ b. cond b (get content.blocks q) None) (let no : nat_lt (q * 4096) size ≡ false = grind (arith, nat_tests) in no)

  tail_other : (found : Option (List ℕ)) (q : ℕ) → q ≢ size / 4096 → get (with_zero_tail kept (size / 4096) found (size % 4096)) q ≡ get kept q
  tail_other None q other = refl
  tail_other (Some block) q other = get-insert_other kept (size / 4096) _ q other

  long_kept : (block : List ℕ) → get kept (size / 4096) ≡ Some block → (get content.blocks (size / 4096) ≡ Some block) × (length block ≡ 4096)
  long_kept block e = elim (cases_lt (size / 4096 * 4096) size) [
    | inl low ↦ let found = sym (kept_before (size / 4096) low) ∙ e in (found, (is.blocks (size / 4096) block found).whole)
    | inr high ↦ absurd (let wrong : None ≡ Some block = sym (gone_behind (size / 4096) high) ∙ e in cc)
  ]

  -- the last block, up to the size and from there on
  tail_before : (found : Option (List ℕ)) → get kept (size / 4096) ≡ found → (k : ℕ) → k < size % 4096
      → block_byte (get (with_zero_tail kept (size / 4096) found (size % 4096)) (size / 4096)) k ≡ block_byte (get content.blocks (size / 4096)) k
  tail_before None e k low = ap (λ o. block_byte o k) (kept_before (size / 4096) (omega (arith, low)))
  tail_before (Some block) e k low =
      let whole = long_kept block e in
      let head = take (size % 4096) block in
      let short : length head ≡ size % 4096 = length-take-le (size % 4096) block (omega (arith, whole.1)) in
      ap (λ o. block_byte o k) (get-insert_same kept (size / 4096) (head ++ replicate (4096 - size % 4096) 0))
      ∙ get_or_append_left head (replicate (4096 - size % 4096) 0) 0 k (omega (arith, short, low))
      ∙ get_or-take (size % 4096) block k 0 low
      ∙ sym (ap (λ o. block_byte o k) whole.0)

  tail_behind : (found : Option (List ℕ)) → get kept (size / 4096) ≡ found → (k : ℕ) → size % 4096 ≤ k
      → block_byte (get (with_zero_tail kept (size / 4096) found (size % 4096)) (size / 4096)) k ≡ 0
  tail_behind None e k high = ap (λ o. block_byte o k) e
  tail_behind (Some block) e k high =
      let whole = long_kept block e in
      let head = take (size % 4096) block in
      let short : length head ≡ size % 4096 = length-take-le (size % 4096) block (omega (arith, whole.1)) in
      ap (λ o. block_byte o k) (get-insert_same kept (size / 4096) (head ++ replicate (4096 - size % 4096) 0))
      ∙ get_or-append_right head (replicate (4096 - size % 4096) 0) (size % 4096) k 0 short high
      ∙ zeros (4096 - size % 4096) (k - size % 4096)

  pub keeps_below : (place : ℕ) → place < size → byte_at (resized content size).blocks place ≡ byte_at content.blocks place
  unfolding byte_at
  keeps_below place low = elim (cases_eq (place / 4096) (size / 4096)) [
    | inl here ↦
        ap (λ q. block_byte (get (cut content.blocks size) q) (place % 4096)) here
        ∙ tail_before (get kept (size / 4096)) refl (place % 4096) (omega (arith, here, low))
        ∙ ap (λ q. block_byte (get content.blocks q) (place % 4096)) (sym here)
    | inr other ↦
        ap (λ o. block_byte o (place % 4096)) (tail_other (get kept (size / 4096)) (place / 4096) other ∙ kept_before (place / 4096) (omega (arith, low)))
  ]

  pub zeros_past : (place : ℕ) → size ≤ place → byte_at (resized content size).blocks place ≡ 0
  unfolding byte_at
  zeros_past place high = elim (cases_eq (place / 4096) (size / 4096)) [
    | inl here ↦
        ap (λ q. block_byte (get (cut content.blocks size) q) (place % 4096)) here
        ∙ tail_behind (get kept (size / 4096)) refl (place % 4096) (omega (arith, here, high))
    | inr other ↦
        ap (λ o. block_byte o (place % 4096)) (tail_other (get kept (size / 4096)) (place / 4096) other ∙ gone_behind (place / 4096) (omega (arith, other, high)))
  ]
