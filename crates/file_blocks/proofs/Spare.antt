-- How far a write comes with the blocks that are to spare, one block at a time.
use Rattle.std.proofs.Common.{◌≡◌, ◌≤◌, ◌<◌, ◌+◌, ◌-◌, ◌/◌, ◌%◌, zero, suc, ℕ, Bool, true, false, cond, leb, None, refl, sym, ap, ◌∙◌, arith}
use Rattle.std.proofs.lemmas.Bool.Decides.{nat_tests}
use Rattle.std.specs.FinMap.{get}
use Rattle.kernel_core.specs.FileContent.{Blocks, absent_blocks, new_blocks, longest_write}
use Rattle.file_blocks.specs.inside.Pieces.{taken_by}

absent-same : (blocks : Blocks) {a b m n : ℕ} → a ≡ b → m ≡ n → absent_blocks blocks a m ≡ absent_blocks blocks b n
absent-same blocks p q = λ i. absent_blocks blocks (p i) (q i)

-- the first block, and then those after it
absent-first : (blocks : Blocks) (f k : ℕ) → absent_blocks blocks f (suc k) ≡ taken_by (get blocks f) + absent_blocks blocks (f + 1) k
unfolding absent_blocks
absent-first blocks f zero = let e : taken_by (get blocks (f + 0)) ≡ taken_by (get blocks f) = ap (λ n. taken_by (get blocks n)) (omega arith) in omega (arith, e)
absent-first blocks f (suc k) =
    let before = absent-first blocks f k in
    let e : taken_by (get blocks (f + suc k)) ≡ taken_by (get blocks (f + 1 + k)) = ap (λ n. taken_by (get blocks n)) (omega arith) in
    omega (arith, e, before)

-- blocks that are alike from a place on lack the same blocks there
absent-alike : (now then : Blocks) (f k : ℕ) → ((q : ℕ) → f ≤ q → get now q ≡ get then q) → absent_blocks now f k ≡ absent_blocks then f k
unfolding absent_blocks
absent-alike now then f zero alike = refl
absent-alike now then f (suc k) alike =
    λ i. absent-alike now then f k alike i + taken_by (alike (f + k) (omega arith) i)

absent-none : (blocks : Blocks) (f : ℕ) → absent_blocks blocks f 0 ≡ 0
unfolding absent_blocks
absent-none blocks f = refl

new_blocks-some : (blocks : Blocks) (a n k : ℕ) → 0 < n → (a + (n - 1)) / 4096 - a / 4096 + 1 ≡ suc k
    → new_blocks blocks a n ≡ taken_by (get blocks (a / 4096)) + absent_blocks blocks (a / 4096 + 1) k
new_blocks-some blocks a zero k some last = absurd (omega arith)
new_blocks-some blocks a (suc n) k some last =
    let count : (a + n) / 4096 - a / 4096 + 1 ≡ suc k = omega arith in
    absent-same blocks refl count ∙ absent-first blocks (a / 4096) k

longest_write-some : (blocks : Blocks) (a n m spare : ℕ) → n ≡ suc m
    → longest_write blocks a n spare ≡ cond (leb (new_blocks blocks a n) spare) n (longest_write blocks a m spare)
unfolding longest_write
longest_write-some blocks a n m spare is =
    ap (λ k. longest_write blocks a k spare) is
    ∙ sym (ap (λ k. cond (leb (new_blocks blocks a k) spare) k (longest_write blocks a m spare)) is)

pub longest_write-zero : (blocks : Blocks) (a spare : ℕ) → longest_write blocks a 0 spare ≡ 0
unfolding longest_write
longest_write-zero blocks a spare = refl

leb-alike : (n x taken left spare : ℕ) → n ≡ taken + x → taken + left ≡ spare → leb n spare ≡ leb x left
leb-alike n x taken left spare is enough = go (leb n spare) (leb x left) refl refl
  where
    go : (b d : Bool) → leb n spare ≡ b → leb x left ≡ d → b ≡ d
    go true true p q = refl
    go true false p q = grind (arith, nat_tests)
    go false true p q = grind (arith, nat_tests)
    go false false p q = refl

longer : (b : Bool) (s r m n : ℕ) → m ≡ s + n → cond b (s + suc r) m ≡ s + cond b (suc r) n
longer true s r m n e = refl
longer false s r m n e = e

module _ (now then : Blocks) (a s : ℕ) (some : 0 < s) (room : a % 4096 + s ≤ 4096) (alike : (q : ℕ) → a / 4096 < q → get then q ≡ get now q) where
  abbrev taken : ℕ
  taken = taken_by (get now (a / 4096))

  -- a write takes what its first block takes, and then what its other blocks take
  new_blocks-step : (j : ℕ) → (0 < j → a % 4096 + s ≡ 4096) → new_blocks now a (s + j) ≡ taken + new_blocks then (a + s) j
  new_blocks-step zero whole =
      let last : (a + (s + 0 - 1)) / 4096 - a / 4096 + 1 ≡ suc 0 = omega arith in
      new_blocks-some now a (s + 0) 0 (omega arith) last ∙ ap (λ n. taken + n) (absent-none now (a / 4096 + 1))
  new_blocks-step (suc j) whole =
      let full : a % 4096 + s ≡ 4096 = whole (omega arith) in
      let k = (a + s + j) / 4096 - (a + s) / 4096 + 1 in
      let next : a / 4096 + 1 ≡ (a + s) / 4096 = omega arith in
      let last : (a + (s + suc j - 1)) / 4096 - a / 4096 + 1 ≡ suc k = omega arith in
      new_blocks-some now a (s + suc j) k (omega arith) last
      ∙ ap (λ n. taken + n) (absent-alike now then (a / 4096 + 1) k (λ q h. sym (alike q (omega arith))) ∙ absent-same then next refl)

  -- how far the write comes with a first piece, and how far from there
  pub longest_write-step : (r left spare : ℕ) → (0 < r → a % 4096 + s ≡ 4096) → taken + left ≡ spare
      → longest_write now a (s + r) spare ≡ s + longest_write then (a + s) r left
  longest_write-step zero left spare whole enough =
      let is : new_blocks now a (s + 0) ≡ taken + 0 = new_blocks-step 0 (λ h. absurd (omega arith)) in
      let least : leb 0 left ≡ true = grind (arith, nat_tests) in
      let fits : leb (new_blocks now a (s + 0)) spare ≡ true = leb-alike _ 0 taken left spare is enough ∙ least in
      longest_write-some now a (s + 0) (s - 1) spare (omega arith)
      ∙ ap (λ b. cond b (s + 0) (longest_write now a (s - 1) spare)) fits
      ∙ ap (λ n. s + n) (sym (longest_write-zero then (a + s) left))
  longest_write-step (suc r) left spare whole enough =
      let fits = leb-alike _ _ taken left spare (new_blocks-step (suc r) whole) enough in
      longest_write-some now a (s + suc r) (s + r) spare (omega arith)
      ∙ ap (λ b. cond b (s + suc r) (longest_write now a (s + r) spare)) fits
      ∙ longer (leb (new_blocks then (a + s) (suc r)) left) s r _ _ (longest_write-step r left spare (λ h. whole (omega arith)) enough)
      ∙ ap (λ n. s + n) (sym (longest_write-some then (a + s) (suc r) r left refl))

-- where nothing is to spare, a write whose first block is not kept does not begin
pub longest_write-none : (blocks : Blocks) (a count : ℕ) → get blocks (a / 4096) ≡ None → longest_write blocks a count 0 ≡ 0
longest_write-none blocks a zero missing = longest_write-zero blocks a 0
longest_write-none blocks a (suc count) missing =
    let takes : new_blocks blocks a (suc count) ≡ taken_by (get blocks (a / 4096)) + absent_blocks blocks (a / 4096 + 1) ((a + count) / 4096 - a / 4096) =
    new_blocks-some blocks a (suc count) ((a + count) / 4096 - a / 4096) (omega arith) (omega arith) in
    let one : taken_by (get blocks (a / 4096)) ≡ 1 = ap taken_by missing in
    let none : leb (new_blocks blocks a (suc count)) 0 ≡ false = more_than_none _ (omega (arith, takes, one)) in
    longest_write-some blocks a (suc count) count 0 refl
    ∙ ap (λ b. cond b (suc count) (longest_write blocks a count 0)) none
    ∙ longest_write-none blocks a count missing
  where
    more_than_none : (n : ℕ) → 0 < n → leb n 0 ≡ false
    more_than_none n h = grind (arith, nat_tests)
