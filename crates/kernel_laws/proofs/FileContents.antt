-- The content of a file after a write and with another size: one that a file may have, and no more blocks than there are.
use Rattle.std.proofs.Common.{◌≡◌, ◌≢◌, ℕ, zero, suc, ◌+◌, ◌-◌, ◌*◌, ◌/◌, ◌%◌, ◌<◌, ◌≤◌, Bool, true, false, cond, List, [], ◌∷◌, length, take, Option, Some, None, is_some, refl, sym, ◌∙◌, ap, subst, arith, inl, inr}
use Rattle.std.specs.Prelude.{All, nat_lt, nat_le, ◌==◌, ℤ, if◌then◌else◌}
use Rattle.std.specs.Ordering.{nat_cmp}
use Rattle.std.specs.FinMap.{entries, entries_sorted, entries-from_sorted, from_sorted, get, get-entries, get-from_sorted, get-retain_keys, insert, len, len-entries, retain_keys}
use Rattle.std.specs.FinMap.Entries.{find-where_key, is_sorted-where_key, where_key}
use Rattle.std.proofs.lemmas.Bool.{cases_eq, leb-false, leb-true}
use Rattle.std.proofs.lemmas.List.Sums.{length-filter, count_by-le-length}
use Rattle.std.proofs.lemmas.List.{length-take-le}
use Rattle.std.proofs.lemmas.Map.Lookups.{exact_unsigned}
use Rattle.kernel_core.specs.FileContent.{Blocks, FileContent, IsContent, absent_blocks, block_size, cut, greatest_size, kept_blocks, longest_write, new_blocks, size_with, with_byte, with_bytes, with_zero_tail, written}
use Rattle.kernel_core.specs.FileSystem.{IsFileSystem, IsLiveContent, IsTime}
use Rattle.kernel_core.specs.NodeCalls.{after_resize, after_write, write_length, write_refusal}
use Rattle.kernel_core.specs.Nodes.{Nodes, File, Inode, file_at}
use Rattle.kernel_core.specs.Totals.{spare_blocks}
use Rattle.kernel_core.specs.declared.error.Errno.TheVariants.{EFBIG, ENOSPC}
use Rattle.file_blocks.proofs.Validity.{AreBytes, cut-valid, write-valid}
use Rattle.file_system_laws.proofs.Lookups.{file_found, get-insert_other, get-insert_same, len-insert_new, len-insert_old, same_nodes}
use Rattle.file_system_laws.proofs.NodeLaws.{resize_keeps, write_keeps}

-- Fewer blocks

module _ (blocks : Blocks) (p : ℕ → Bool) where
  abbrev passing : List (ℕ × List ℕ)
  passing = where_key nat_cmp p (entries blocks)

  same_kept : from_sorted {R = nat_cmp} passing ≡ retain_keys blocks p
  same_kept =
      same_nodes _ _ (λ q.
      get-from_sorted nat_cmp passing q (is_sorted-where_key nat_cmp p (entries blocks) (entries_sorted blocks))
      ∙ find-where_key nat_cmp p q (λ x tied. ap p (sym (exact_unsigned q x tied))) (entries blocks)
      ∙ ap (λ o. cond (p q) o None) (sym (get-entries blocks q))
      ∙ sym (get-retain_keys blocks p q (λ x tied. ap p (sym (exact_unsigned q x tied)))))

  fewer_kept : len (retain_keys blocks p) ≤ len blocks
  fewer_kept =
      let first = ap len (sym same_kept) ∙ len-entries (from_sorted {R = nat_cmp} passing) in
      let second = ap length (entries-from_sorted nat_cmp passing (is_sorted-where_key nat_cmp p (entries blocks) (entries_sorted blocks))) in
      omega (arith, first, second, length-filter (λ e. p e.0) (entries blocks), count_by-le-length (λ e. p e.0) (entries blocks), len-entries blocks)

zero_tail_len : (blocks : Blocks) (index place : ℕ) (found : Option (List ℕ)) → get blocks index ≡ found → len (with_zero_tail blocks index found place) ≡ len blocks
zero_tail_len blocks index place None e = refl
zero_tail_len blocks index place (Some block) e = len-insert_old blocks index _ block e

cut_fewer : (blocks : Blocks) (size : ℕ) → len (cut blocks size) ≤ len blocks
cut_fewer blocks size =
    let kept = retain_keys blocks (λ index. nat_lt (index * block_size) size) in
    omega (arith, zero_tail_len kept (size / block_size) (size % block_size) (get kept (size / block_size)) refl, fewer_kept blocks (λ index. nat_lt (index * block_size) size))

-- Blocks that a write takes anew

lacks : Option (List ℕ) → ℕ
lacks o = if is_some o then 0 else 1

module _ (blocks : Blocks) (k : ℕ) (v : List ℕ) where
  same_lacks : (q : ℕ) → q ≢ k → lacks (get (insert blocks k v) q) ≡ lacks (get blocks q)
  same_lacks q other = ap lacks (get-insert_other blocks k v q other)

  absent_before : (first count : ℕ) → first + count ≤ k → absent_blocks (insert blocks k v) first count ≡ absent_blocks blocks first count
  unfolding absent_blocks lacks
  absent_before first zero low = refl
  absent_before first (suc count) low =
      let same : lacks (get (insert blocks k v) (first + count)) ≡ lacks (get blocks (first + count)) = same_lacks (first + count) (λ e. omega (arith, e, low)) in
      let before = absent_before first count (omega (arith, low)) in
      omega (arith, before, same)

  one_place : lacks (get (insert blocks k v) k) + len (insert blocks k v) ≡ lacks (get blocks k) + len blocks
  unfolding lacks
  one_place = by (get blocks k) refl where
    by : (found : Option (List ℕ)) → get blocks k ≡ found → lacks (get (insert blocks k v) k) + len (insert blocks k v) ≡ lacks (get blocks k) + len blocks
    by None e =
        let now : lacks (get (insert blocks k v) k) ≡ 0 = ap lacks (get-insert_same blocks k v) in
        let was : lacks (get blocks k) ≡ 1 = ap lacks e in
        omega (arith, now, was, len-insert_new blocks k v e)
    by (Some old) e =
        let now : lacks (get (insert blocks k v) k) ≡ 0 = ap lacks (get-insert_same blocks k v) in
        let was : lacks (get blocks k) ≡ 0 = ap lacks e in
        omega (arith, now, was, len-insert_old blocks k v old e)

  absent_among : (first count : ℕ) → first ≤ k → k < first + count
      → absent_blocks (insert blocks k v) first count + len (insert blocks k v) ≡ absent_blocks blocks first count + len blocks
  unfolding absent_blocks lacks
  absent_among first zero low high = absurd (omega (arith, low, high))
  absent_among first (suc count) low high = elim (cases_eq (first + count) k) [
    | inl here ↦
        let before = absent_before first count (omega (arith, here)) in
        let new : lacks (get (insert blocks k v) (first + count)) ≡ lacks (get (insert blocks k v) k) = ap (λ q. lacks (get (insert blocks k v) q)) here in
        let old : lacks (get blocks (first + count)) ≡ lacks (get blocks k) = ap (λ q. lacks (get blocks q)) here in
        omega (arith, before, new, old, one_place)
    | inr other ↦
        let same : lacks (get (insert blocks k v) (first + count)) ≡ lacks (get blocks (first + count)) = same_lacks (first + count) other in
        let before = absent_among first count low (omega (arith, high, other)) in
        omega (arith, before, same)
  ]

bytes_among : (bytes : List ℕ) (blocks : Blocks) (at first count : ℕ) → first ≤ at / 4096 → at + length bytes ≤ (first + count) * 4096
    → absent_blocks (with_bytes blocks at bytes) first count + len (with_bytes blocks at bytes) ≡ absent_blocks blocks first count + len blocks
unfolding with_bytes with_byte
bytes_among [] blocks at first count low high = refl
bytes_among (byte ∷ bytes) blocks at first count low high =
    bytes_among bytes (with_byte blocks at byte) (at + 1) first count (omega (arith, low)) (omega (arith, high))
    ∙ absent_among blocks (at / 4096) _ first count low (omega (arith, high))

longest_fits : (blocks : Blocks) (at count spare : ℕ) → new_blocks blocks at (longest_write blocks at count spare) ≤ spare
unfolding longest_write
longest_fits blocks at zero spare = omega arith
longest_fits blocks at (suc count) spare = by (nat_le (new_blocks blocks at (suc count)) spare) refl (longest_fits blocks at count spare) where
  by : (b : Bool) → nat_le (new_blocks blocks at (suc count)) spare ≡ b → new_blocks blocks at (longest_write blocks at count spare) ≤ spare
      → new_blocks blocks at (if b then suc count else longest_write blocks at count spare) ≤ spare
  by true e h = leb-true _ _ e
  by false e h = h

longest_le : (blocks : Blocks) (at count spare : ℕ) → longest_write blocks at count spare ≤ count
unfolding longest_write
longest_le blocks at zero spare = omega arith
longest_le blocks at (suc count) spare = by (nat_le (new_blocks blocks at (suc count)) spare) (longest_le blocks at count spare) where
  by : (b : Bool) → longest_write blocks at count spare ≤ count → (if b then suc count else longest_write blocks at count spare) ≤ suc count
  by true h = omega arith
  by false h = omega (arith, h)

kept_by : (blocks : Blocks) (at : ℕ) (bytes : List ℕ) (spare : ℕ) → new_blocks blocks at (length bytes) ≤ spare → len (with_bytes blocks at bytes) ≤ len blocks + spare
unfolding with_bytes
kept_by blocks at [] spare fits = omega arith
kept_by blocks at (byte ∷ bytes) spare fits =
    let whole = bytes_among (byte ∷ bytes) blocks at (at / 4096) ((at + length bytes) / 4096 - at / 4096 + 1) (omega arith) (omega arith) in
    omega (arith, whole, fits)

-- bytes, in two forms
pub bytes_of : (bytes : List ℕ) → All (λ byte. byte < 256) bytes → AreBytes bytes
bytes_of [] all place = omega arith
bytes_of (byte ∷ bytes) all zero = all 0 0 (omega arith)
bytes_of (byte ∷ bytes) all (suc place) = bytes_of bytes (λ k d h. all (suc k) d (omega (arith, h))) place

-- A write

size_of_file : (nodes : Nodes) (node : ℕ) (content : FileContent) → IsFileSystem nodes → file_at nodes node ≡ Some content → IsContent content
size_of_file nodes node content fs there = by (file_found nodes node content there) where
  by : ((i : Inode) × (get nodes node ≡ Some i) × (i.content ≡ File content)) → IsContent content
  by found = (subst (λ c. IsLiveContent nodes node (found.0).links c) found.2 (fs.each node found.0 found.1).content).0

pub is_content : (nodes : Nodes) (node : ℕ) (content : FileContent) → IsFileSystem nodes → file_at nodes node ≡ Some content → IsContent content
is_content = size_of_file

bounded : (nodes : Nodes) (content : FileContent) (at count : ℕ) → write_refusal nodes content at (suc count) ≡ None → at + suc count ≤ greatest_size
bounded nodes content at count = by (nat_lt greatest_size (at + suc count)) refl where
  by : (b : Bool) → nat_lt greatest_size (at + suc count) ≡ b
      → (if b then Some EFBIG else (if write_length nodes content at (suc count) == 0 then Some ENOSPC else None)) ≡ None → at + suc count ≤ greatest_size
  by true e h = absurd cc
  by false e h = omega (arith, leb-false (suc greatest_size) (at + suc count) e)

module _ (nodes : Nodes) (node : ℕ) (content : FileContent) (fs : IsFileSystem nodes) (there : file_at nodes node ≡ Some content) (now : ℤ) (time : IsTime now) where
  module _ (at : ℕ) (byte : ℕ) (bytes : List ℕ) (are : AreBytes (byte ∷ bytes)) (allowed : write_refusal nodes content at (length (byte ∷ bytes)) ≡ None) where
    abbrev count : ℕ
    count = write_length nodes content at (length (byte ∷ bytes))

    short : count ≤ length (byte ∷ bytes)
    short = longest_le content.blocks at (length (byte ∷ bytes)) (spare_blocks nodes)

    taken : length (take count (byte ∷ bytes)) ≡ count
    taken = length-take-le count (byte ∷ bytes) short

    valid : IsContent (written content at (take count (byte ∷ bytes)))
    valid =
        write-valid content.size (size_with content.size at (length (take count (byte ∷ bytes)))) content.blocks (with_bytes content.blocks at (take count (byte ∷ bytes))) at count (byte ∷ bytes)
        (size_of_file nodes node content fs there) are (bounded nodes content at (length bytes) allowed) short (ap (size_with content.size at) taken) refl

    few : kept_blocks (written content at (take count (byte ∷ bytes))) ≤ kept_blocks content + spare_blocks nodes
    few =
        kept_by content.blocks at (take count (byte ∷ bytes)) (spare_blocks nodes)
        (subst (λ n. new_blocks content.blocks at n ≤ spare_blocks nodes) (sym taken) (longest_fits content.blocks at (length (byte ∷ bytes)) (spare_blocks nodes)))

    some_written : IsFileSystem (after_write nodes node at (take count (byte ∷ bytes)) now)
    some_written = write_keeps nodes node content fs there at (take count (byte ∷ bytes)) now time valid few

  pub write_is : (at : ℕ) (bytes : List ℕ) → AreBytes bytes → write_refusal nodes content at (length bytes) ≡ None
      → IsFileSystem (after_write nodes node at (take (write_length nodes content at (length bytes)) bytes) now)
  unfolding longest_write
  write_is at [] are allowed = fs
  write_is at (byte ∷ bytes) are allowed = some_written at byte bytes are allowed

  pub write_end_small : (at : ℕ) (bytes : List ℕ) → at ≤ greatest_size → write_refusal nodes content at (length bytes) ≡ None
      → at + write_length nodes content at (length bytes) ≤ greatest_size
  unfolding longest_write
  write_end_small at [] low allowed = omega (arith, low)
  write_end_small at (byte ∷ bytes) low allowed =
      omega (arith, bounded nodes content at (length bytes) allowed, longest_le content.blocks at (length (byte ∷ bytes)) (spare_blocks nodes))

  -- Another size

  pub resize_is : (size : ℕ) → size ≤ greatest_size → IsFileSystem (after_resize nodes node size now)
  resize_is size small =
      resize_keeps nodes node content fs there size now time
      (record { small = small; blocks = cut-valid content.size size content.blocks (size_of_file nodes node content fs there).blocks })
      (cut_fewer content.blocks size)
