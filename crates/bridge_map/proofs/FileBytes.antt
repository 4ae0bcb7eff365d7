-- The bytes of a file, piece by piece, and memory with them.
use Rattle.std.proofs.Common.{◌≡◌, ◌≤◌, ◌<◌, ◌+◌, ◌-◌, ℕ, List, [], ◌++◌, length, min, refl, sym, ap, ◌∙◌, arith}
use Rattle.file_blocks.proofs.ByteLemmas.{bytes_at-append, bytes_at-same, length-bytes_at}
use Rattle.guest_space.proofs.ByteLemmas.{with_bytes-append}
use Rattle.guest_space.specs.Bytes.{copied_out, with_bytes}
use Rattle.guest_space.specs.Memory.{Memory, Pages}
use Rattle.kernel_core.specs.FileContent.{FileContent, bytes_at}
use Rattle.kernel_model.specs.Transfers.{file_bytes}

pub length-file_bytes : (content : FileContent) (at most : ℕ) → length (file_bytes content at most) ≡ min most (content.size - at)
length-file_bytes content at most = length-bytes_at content.blocks (min most (content.size - at)) at

-- all of the first bytes, and then those after them
pub file_bytes-append : (content : FileContent) (at done want : ℕ) → length (file_bytes content at done) ≡ done
    → file_bytes content at (done + want) ≡ file_bytes content at done ++ file_bytes content (at + done) want
file_bytes-append content at done want whole =
    let long = length-file_bytes content at done in
    let first : min done (content.size - at) ≡ done = omega arith in
    let both : min (done + want) (content.size - at) ≡ min done (content.size - at) + min want (content.size - (at + done)) = omega arith in
    bytes_at-same content.blocks {a = at} {b = at} refl both
    ∙ bytes_at-append content.blocks (min done (content.size - at)) (min want (content.size - (at + done))) at
    ∙ ap (λ (n : ℕ). file_bytes content at done ++ bytes_at content.blocks (at + n) (min want (content.size - (at + done)))) first

-- where a piece is shorter than what was wanted, the file ends there
pub file_bytes-end : (content : FileContent) (at done want count : ℕ) → length (file_bytes content at done) ≡ done → length (file_bytes content (at + done) want) < want → done + want ≤ count
    → file_bytes content at (done + want) ≡ file_bytes content at count
file_bytes-end content at done want count whole short within =
    let long = length-file_bytes content at done in
    let piece = length-file_bytes content (at + done) want in
    bytes_at-same content.blocks {a = at} {b = at} refl (omega arith)

-- and where it is not, all bytes so far were there
pub file_bytes-whole : (content : FileContent) (at done want : ℕ) → length (file_bytes content at done) ≡ done → length (file_bytes content (at + done) want) ≡ want
    → length (file_bytes content at (done + want)) ≡ done + want
file_bytes-whole content at done want whole more =
    let long = length-file_bytes content at done in
    let piece = length-file_bytes content (at + done) want in
    let all = length-file_bytes content at (done + want) in
    omega arith

-- Memory

pub copied_out-append : (memory : Memory) (address : ℕ) (first second : List ℕ)
    → copied_out (copied_out memory address first) (address + length first) second ≡ copied_out memory address (first ++ second)
unfolding copied_out
copied_out-append memory address first second =
    ap (λ (p : Pages). record memory { pages = p }) (sym (with_bytes-append first second memory.pages address))

pub copied_out-none : (memory : Memory) (address : ℕ) → copied_out memory address [] ≡ memory
unfolding copied_out with_bytes
copied_out-none memory address = refl

-- a piece after the bytes so far
pub next_piece : (start now : Memory) (content : FileContent) (address at done want : ℕ) → length (file_bytes content at done) ≡ done → now ≡ copied_out start address (file_bytes content at done)
    → copied_out now (address + done) (file_bytes content (at + done) want) ≡ copied_out start address (file_bytes content at (done + want))
next_piece start now content address at done want whole so_far =
    ap (λ (m : Memory). copied_out m (address + done) (file_bytes content (at + done) want)) so_far
    ∙ ap (λ (n : ℕ). copied_out (copied_out start address (file_bytes content at done)) (address + n) (file_bytes content (at + done) want)) (sym whole)
    ∙ copied_out-append start address (file_bytes content at done) (file_bytes content (at + done) want)
    ∙ ap (copied_out start address) (sym (file_bytes-append content at done want whole))
