-- One step of a write that goes block by block.
use Rattle.std.proofs.Common.{◌≡◌, ◌≤◌, ◌<◌, ◌+◌, ◌-◌, ◌/◌, ◌%◌, ℕ, false, cond, List, ◌++◌, Some, length, take, drop, sym, ap, ◌∙◌, arith}
use Rattle.std.proofs.lemmas.Bool.Decides.{nat_tests}
use Rattle.std.proofs.lemmas.List.{length-take-le, take-append-drop, take-take, drop-take}
use Rattle.std.specs.Ordering.{nat_cmp, eq_by_cmp}
use Rattle.std.specs.Cmp.{nat_cmp_total}
use Rattle.std.specs.FinMap.{get, get-insert}
use Rattle.kernel_core.specs.FileContent.{Blocks, block_or_zeros, with_bytes, longest_write}
use Rattle.file_blocks.specs.inside.Pieces.{with_piece, taken_by}
use Rattle.paged_bytes.specs.Pages.{put_at}
use Rattle.paged_bytes.proofs.Puts.{length-part}
use Rattle.file_blocks.proofs.ByteLemmas.{with_bytes-append, with_bytes-piece}
use Rattle.file_blocks.proofs.Spare.{longest_write-step}

-- a first part, and then the part after it
take-part : (xs : List ℕ) (d s : ℕ) → d + s ≤ length xs → take (d + s) xs ≡ take d xs ++ take (d + s - d) (drop d xs)
take-part xs d s h =
    let n : s ≡ d + s - d = omega arith in
    sym (take-append-drop d (take (d + s) xs))
    ∙ ap (λ t. t ++ drop d (take (d + s) xs)) (take-take d (d + s) xs (omega arith))
    ∙ ap (λ t. take d xs ++ t) (drop-take d s xs)
    ∙ ap (λ k. take d xs ++ take k (drop d xs)) n

-- a piece leaves the other blocks as they were
get-with_piece_other : (blocks : Blocks) (index place q : ℕ) (piece : List ℕ) → index < q → get (with_piece blocks index place piece) q ≡ get blocks q
get-with_piece_other blocks index place q piece above =
    let apart : eq_by_cmp nat_cmp q index ≡ false = grind (arith, nat_tests) in
    let block = put_at (block_or_zeros (get blocks index)) place piece in
    get-insert nat_cmp_total blocks index block q ∙ ap (λ b. cond b (Some block) (get blocks q)) apart

pub written-step : (old now new : Blocks) (at done size : ℕ) (bytes : List ℕ) → 0 < size → done + size ≤ length bytes → (at + done) % 4096 + size ≤ 4096
    → now ≡ with_bytes old at (take done bytes) → new ≡ with_piece now ((at + done) / 4096) ((at + done) % 4096) (take (done + size - done) (drop done bytes))
    → new ≡ with_bytes old at (take (done + size) bytes)
written-step old now new at done size bytes some within room before is =
    let first = take done bytes in
    let piece = take (done + size - done) (drop done bytes) in
    let long : length piece ≡ size = length-part bytes done size within in
    let short : length first ≡ done = length-take-le done bytes (omega arith) in
    is
    ∙ sym (with_bytes-piece piece now (at + done) (omega arith) (omega arith))
    ∙ ap (λ m. with_bytes m (at + done) piece) before
    ∙ ap (λ n. with_bytes (with_bytes old at first) (at + n) piece) (sym short)
    ∙ sym (with_bytes-append first piece old at)
    ∙ ap (with_bytes old at) (sym (take-part bytes done size within))

pub reach-step : (now new : Blocks) (a size left rest r : ℕ) (piece : List ℕ) → 0 < size → a % 4096 + size ≤ 4096 → (0 < r → a % 4096 + size ≡ 4096)
    → new ≡ with_piece now (a / 4096) (a % 4096) piece → taken_by (get now (a / 4096)) + rest ≡ left
    → longest_write now a (size + r) left ≡ size + longest_write new (a + size) r rest
reach-step now new a size left rest r piece some room whole is enough =
    longest_write-step now new a size some room
    (λ q above. ap (λ m. get m q) is ∙ get-with_piece_other now (a / 4096) (a % 4096) q piece above) r rest left whole enough

pub longest_write-same : (blocks : Blocks) {a b m n : ℕ} (spare : ℕ) → a ≡ b → m ≡ n → longest_write blocks a m spare ≡ longest_write blocks b n spare
longest_write-same blocks spare p q = λ i. longest_write blocks (p i) (q i) spare
