-- Bytes that stand in memory, piece by piece.
use Rattle.std.proofs.Common.{◌≡◌, ◌≤◌, ◌<◌, ◌+◌, ◌/◌, ◌%◌, zero, suc, ℕ, List, [], ◌∷◌, ◌++◌, Option, Some, None, length, take, drop, get_or, replicate, refl, sym, ap, ◌∙◌, arith}
use Rattle.std.proofs.Math.Seq.{drop-cons}
use Rattle.std.specs.FinMap.{get, insert}
use Rattle.guest_space.specs.Memory.{MappedPage, Pages}
use Rattle.guest_space.specs.Bytes.{byte_at, bytes_at, page_byte, with_byte, with_bytes, page_with_byte, pages_with_byte}
use Rattle.raw_pages.specs.Pages.{with_piece, pages_with_piece}
use Rattle.raw_pages.proofs.Puts.{get-insert_same, insert-insert}

module _ (pages : Pages) where
  pub bytes_at-same : {a b m n : ℕ} → a ≡ b → m ≡ n → bytes_at pages a m ≡ bytes_at pages b n
  bytes_at-same p q = λ i. bytes_at pages (p i) (q i)

  bytes_at-suc : (a n : ℕ) → bytes_at pages a (suc n) ≡ byte_at pages a ∷ bytes_at pages (a + 1) n
  unfolding bytes_at
  bytes_at-suc a n = refl

  pub bytes_at-zero : (a : ℕ) → bytes_at pages a 0 ≡ []
  unfolding bytes_at
  bytes_at-zero a = refl

  -- as many bytes as were asked for
  pub length-bytes_at : (n a : ℕ) → length (bytes_at pages a n) ≡ n
  length-bytes_at zero a = ap length (bytes_at-zero a)
  length-bytes_at (suc n) a = ap length (bytes_at-suc a n) ∙ ap suc (length-bytes_at n (a + 1))

  -- the first bytes, and then those after them
  pub bytes_at-append : (k n a : ℕ) → bytes_at pages a (k + n) ≡ bytes_at pages a k ++ bytes_at pages (a + k) n
  bytes_at-append zero n a =
      bytes_at-same (omega arith) (omega arith) ∙ ap (λ s. s ++ bytes_at pages (a + 0) n) (sym (bytes_at-zero a))
  bytes_at-append (suc k) n a =
      bytes_at-same refl (omega arith)
      ∙ bytes_at-suc a (k + n)
      ∙ ap (λ s. byte_at pages a ∷ s) (bytes_at-append k n (a + 1))
      ∙ ap (λ s. (byte_at pages a ∷ bytes_at pages (a + 1) k) ++ s) (bytes_at-same (omega arith) refl)
      ∙ ap (λ s. s ++ bytes_at pages (a + suc k) n) (sym (bytes_at-suc a k))

  -- bytes that stand in a list one after another are a part of it
  bytes_at-part : (bs : List ℕ) (k p a : ℕ) → p + k ≤ length bs → ((j : ℕ) → j < k → byte_at pages (a + j) ≡ get_or bs (p + j) 0)
      → bytes_at pages a k ≡ take k (drop p bs)
  bytes_at-part bs zero p a room stand = bytes_at-zero a
  bytes_at-part bs (suc k) p a room stand =
      let first : byte_at pages a ≡ get_or bs p 0 = ap (byte_at pages) (omega arith) ∙ stand 0 (omega arith) ∙ ap (λ n. get_or bs n 0) (omega arith) in
      let rest = bytes_at-part bs k (suc p) (a + 1) (omega arith) (λ j h. ap (byte_at pages) (omega arith) ∙ stand (j + 1) (omega arith) ∙ ap (λ n. get_or bs n 0) (omega arith)) in
      bytes_at-suc a k
      ∙ ap (λ b. b ∷ bytes_at pages (a + 1) k) first
      ∙ ap (λ s. get_or bs p 0 ∷ s) rest
      ∙ ap (take (suc k)) (sym (drop-cons bs p 0 (omega arith)))

  byte_at-page : (a j : ℕ) (o : Option MappedPage) → get pages (a / 4096) ≡ o → a % 4096 + j < 4096 → byte_at pages (a + j) ≡ page_byte o (a % 4096 + j)
  unfolding byte_at
  byte_at-page a j o found room =
      let page : (a + j) / 4096 ≡ a / 4096 = omega arith in
      let place : (a + j) % 4096 ≡ a % 4096 + j = omega arith in
      (λ i. page_byte (get pages (page i)) (place i)) ∙ ap (λ p. page_byte p (a % 4096 + j)) found

  -- bytes of one page are a part of its bytes
  pub bytes_at-page : (a k : ℕ) (page : MappedPage) → get pages (a / 4096) ≡ Some page → a % 4096 + k ≤ 4096 → length page.bytes ≡ 4096
      → bytes_at pages a k ≡ take k (drop (a % 4096) page.bytes)
  bytes_at-page a k page found room whole =
      bytes_at-part page.bytes k (a % 4096) a (omega arith) (λ j h. byte_at-page a j (Some page) found (omega arith))

  zeros_go : (k a : ℕ) → ((j : ℕ) → j < k → byte_at pages (a + j) ≡ 0) → bytes_at pages a k ≡ replicate k 0
  zeros_go zero a none = bytes_at-zero a
  zeros_go (suc k) a none =
      let first : byte_at pages a ≡ 0 = ap (byte_at pages) (omega arith) ∙ none 0 (omega arith) in
      bytes_at-suc a k
      ∙ ap (λ b. b ∷ bytes_at pages (a + 1) k) first
      ∙ ap (λ s. 0 ∷ s) (zeros_go k (a + 1) (λ j h. ap (byte_at pages) (omega arith) ∙ none (j + 1) (omega arith)))

  -- where no page is the bytes are 0
  pub bytes_at-absent : (a k : ℕ) → get pages (a / 4096) ≡ None → a % 4096 + k ≤ 4096 → bytes_at pages a k ≡ replicate k 0
  bytes_at-absent a k missing room = zeros_go k a (λ j h. byte_at-page a j None missing (omega arith))

-- some bytes, and then others after them
pub with_bytes-append : (xs ys : List ℕ) (pages : Pages) (a : ℕ) → with_bytes pages a (xs ++ ys) ≡ with_bytes (with_bytes pages a xs) (a + length xs) ys
unfolding with_bytes
with_bytes-append [] ys pages a = λ i. with_bytes pages (let e : a ≡ a + 0 = omega arith in e i) ys
with_bytes-append (x ∷ xs) ys pages a =
    let e : a + 1 + length xs ≡ a + suc (length xs) = omega arith in
    with_bytes-append xs ys (with_byte pages a x) (a + 1)
    ∙ ap (λ n. with_bytes (with_bytes (with_byte pages a x) (a + 1) xs) n ys) e

pub with_bytes-nil : (pages : Pages) (a : ℕ) → with_bytes pages a [] ≡ pages
unfolding with_bytes
with_bytes-nil pages a = refl

with_byte-found : (pages : Pages) (a b n p : ℕ) (o : Option MappedPage) → a / 4096 ≡ n → a % 4096 ≡ p → get pages n ≡ o → with_byte pages a b ≡ pages_with_byte pages n o p b
unfolding with_byte
with_byte-found pages a b n p o number place found =
    (λ i. pages_with_byte pages (number i) (get pages (number i)) (place i) b) ∙ ap (λ q. pages_with_byte pages n q p b) found

absent_go : (xs : List ℕ) (pages : Pages) (a n : ℕ) → get pages n ≡ None → ((j : ℕ) → j < length xs → (a + j) / 4096 ≡ n) → with_bytes pages a xs ≡ pages
unfolding with_bytes
absent_go [] pages a n missing numbers = refl
absent_go (x ∷ xs) pages a n missing numbers =
    let number : a / 4096 ≡ n = ap (λ m. m / 4096) (omega arith) ∙ numbers 0 (omega arith) in
    ap (λ m. with_bytes m (a + 1) xs) (with_byte-found pages a x n (a % 4096) None number refl missing)
    ∙ absent_go xs pages (a + 1) n missing (λ j h. ap (λ m. m / 4096) (omega arith) ∙ numbers (j + 1) (omega arith))

present_go : (xs : List ℕ) (x : ℕ) (pages : Pages) (a n p : ℕ) (page : MappedPage) → get pages n ≡ Some page
    → ((j : ℕ) → j ≤ length xs → (a + j) / 4096 ≡ n) → ((j : ℕ) → j ≤ length xs → (a + j) % 4096 ≡ p + j)
    → with_bytes pages a (x ∷ xs) ≡ insert pages n (with_piece page p (x ∷ xs))
unfolding with_bytes
present_go [] x pages a n p page found numbers places =
    let number : a / 4096 ≡ n = ap (λ m. m / 4096) (omega arith) ∙ numbers 0 (omega arith) in
    let place : a % 4096 ≡ p = ap (λ m. m % 4096) (omega arith) ∙ places 0 (omega arith) ∙ omega arith in
    with_byte-found pages a x n p (Some page) number place found
present_go (y ∷ ys) x pages a n p page found numbers places =
    let number : a / 4096 ≡ n = ap (λ m. m / 4096) (omega arith) ∙ numbers 0 (omega arith) in
    let place : a % 4096 ≡ p = ap (λ m. m % 4096) (omega arith) ∙ places 0 (omega arith) ∙ omega arith in
    let changed = page_with_byte page p x in
    ap (λ m. with_bytes m (a + 1) (y ∷ ys)) (with_byte-found pages a x n p (Some page) number place found)
    ∙ present_go ys y (insert pages n changed) (a + 1) n (suc p) changed (get-insert_same pages n changed)
    (λ j h. ap (λ m. m / 4096) (omega arith) ∙ numbers (j + 1) (omega arith))
    (λ j h. ap (λ m. m % 4096) (omega arith) ∙ places (j + 1) (omega arith) ∙ omega arith)
    ∙ insert-insert pages n changed _

-- bytes written within one page are a piece of it
pub with_bytes-page : (xs : List ℕ) (pages : Pages) (a : ℕ) (o : Option MappedPage) → get pages (a / 4096) ≡ o → 0 < length xs → a % 4096 + length xs ≤ 4096
    → with_bytes pages a xs ≡ pages_with_piece pages (a / 4096) o (a % 4096) xs
with_bytes-page [] pages a o found some room = absurd (omega arith)
with_bytes-page (x ∷ xs) pages a None found some room = absent_go (x ∷ xs) pages a (a / 4096) found (λ j h. omega arith)
with_bytes-page (x ∷ xs) pages a (Some page) found some room =
    present_go xs x pages a (a / 4096) (a % 4096) page found (λ j h. omega arith) (λ j h. omega arith)
