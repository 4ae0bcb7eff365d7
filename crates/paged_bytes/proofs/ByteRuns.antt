-- Bytes that stand one after another in pages, and bytes that are put one after another, whatever the pages hold beside them.
use Rattle.std.proofs.Common.{◌≡◌, ◌≤◌, ◌<◌, ◌+◌, ◌/◌, ◌%◌, zero, suc, ℕ, List, [], ◌∷◌, ◌++◌, Some, length, take, drop, get_or, replicate, refl, sym, ap, ◌∙◌, arith}
use Rattle.std.proofs.Math.Seq.{drop-cons}
use Rattle.std.specs.Ordering.{nat_cmp}
use Rattle.std.specs.FinMap.{FinMap, get, insert}
use Rattle.paged_bytes.proofs.Puts.{get-insert_same, insert-insert}

-- Runs of bytes: `run a n` are the `n` bytes from `a` on, and `byte a` is the first of them.
module _ (byte : ℕ → ℕ) (run : ℕ → ℕ → List ℕ) (run-zero : (a : ℕ) → run a 0 ≡ []) (run-suc : (a n : ℕ) → run a (suc n) ≡ byte a ∷ run (a + 1) n) where
  pub run-same : {a b m n : ℕ} → a ≡ b → m ≡ n → run a m ≡ run b n
  run-same p q = λ i. run (p i) (q i)

  -- as many bytes as were asked for
  pub length-run : (n a : ℕ) → length (run a n) ≡ n
  length-run zero a = ap length (run-zero a)
  length-run (suc n) a = ap length (run-suc a n) ∙ ap suc (length-run n (a + 1))

  -- the first bytes, and then those after them
  pub run-append : (k n a : ℕ) → run a (k + n) ≡ run a k ++ run (a + k) n
  run-append zero n a =
      run-same (omega arith) (omega arith) ∙ ap (λ s. s ++ run (a + 0) n) (sym (run-zero a))
  run-append (suc k) n a =
      run-same refl (omega arith)
      ∙ run-suc a (k + n)
      ∙ ap (λ s. byte a ∷ s) (run-append k n (a + 1))
      ∙ ap (λ s. (byte a ∷ run (a + 1) k) ++ s) (run-same (omega arith) refl)
      ∙ ap (λ s. s ++ run (a + suc k) n) (sym (run-suc a k))

  -- bytes that stand in a list one after another are a part of it
  pub run-part : (bs : List ℕ) (k p a : ℕ) → p + k ≤ length bs → ((j : ℕ) → j < k → byte (a + j) ≡ get_or bs (p + j) 0)
      → run a k ≡ take k (drop p bs)
  run-part bs zero p a room stand = run-zero a
  run-part bs (suc k) p a room stand =
      let first : byte a ≡ get_or bs p 0 = ap byte (omega arith) ∙ stand 0 (omega arith) ∙ ap (λ n. get_or bs n 0) (omega arith) in
      let rest = run-part bs k (suc p) (a + 1) (omega arith) (λ j h. ap byte (omega arith) ∙ stand (j + 1) (omega arith) ∙ ap (λ n. get_or bs n 0) (omega arith)) in
      run-suc a k
      ∙ ap (λ b. b ∷ run (a + 1) k) first
      ∙ ap (λ s. get_or bs p 0 ∷ s) rest
      ∙ ap (take (suc k)) (sym (drop-cons bs p 0 (omega arith)))

  -- bytes that are 0
  pub run-zeros : (k a : ℕ) → ((j : ℕ) → j < k → byte (a + j) ≡ 0) → run a k ≡ replicate k 0
  run-zeros zero a none = run-zero a
  run-zeros (suc k) a none =
      let first : byte a ≡ 0 = ap byte (omega arith) ∙ none 0 (omega arith) in
      run-suc a k
      ∙ ap (λ b. b ∷ run (a + 1) k) first
      ∙ ap (λ s. 0 ∷ s) (run-zeros k (a + 1) (λ j h. ap byte (omega arith) ∙ none (j + 1) (omega arith)))

-- Bytes that are put one after another: `puts m a bs` is `m` with the bytes from `a` on, and `put m a b` has one of them.
module _ {M : Type 0} (put : M → ℕ → ℕ → M) (puts : M → ℕ → List ℕ → M) (puts-nil : (m : M) (a : ℕ) → puts m a [] ≡ m)
    (puts-cons : (m : M) (a b : ℕ) (bs : List ℕ) → puts m a (b ∷ bs) ≡ puts (put m a b) (a + 1) bs) where
  -- some bytes, and then others after them
  pub puts-append : (xs ys : List ℕ) (m : M) (a : ℕ) → puts m a (xs ++ ys) ≡ puts (puts m a xs) (a + length xs) ys
  puts-append [] ys m a = (λ i. puts (sym (puts-nil m a) i) (let e : a ≡ a + 0 = omega arith in e i) ys)
  puts-append (x ∷ xs) ys m a =
      let e : a + 1 + length xs ≡ a + suc (length xs) = omega arith in
      puts-cons m a x (xs ++ ys)
      ∙ puts-append xs ys (put m a x) (a + 1)
      ∙ ap (λ n. puts (puts (put m a x) (a + 1) xs) n ys) e
      ∙ ap (λ k. puts k (a + suc (length xs)) ys) (sym (puts-cons m a x xs))

-- Pages in a map, where a byte that is put changes the one page that it lies in: `change page place b` is the page with the byte,
-- and `changes page place bs` the page with each of the bytes.
module _ {X : Type 0} (put : FinMap nat_cmp X → ℕ → ℕ → FinMap nat_cmp X) (puts : FinMap nat_cmp X → ℕ → List ℕ → FinMap nat_cmp X)
    (puts-nil : (m : FinMap nat_cmp X) (a : ℕ) → puts m a [] ≡ m)
    (puts-cons : (m : FinMap nat_cmp X) (a b : ℕ) (bs : List ℕ) → puts m a (b ∷ bs) ≡ puts (put m a b) (a + 1) bs)
    (change : X → ℕ → ℕ → X) (changes : X → ℕ → List ℕ → X)
    (changes-one : (page : X) (p b : ℕ) → changes page p (b ∷ []) ≡ change page p b)
    (changes-cons : (page : X) (p b : ℕ) (bs : List ℕ) → changes page p (b ∷ bs) ≡ changes (change page p b) (suc p) bs)
    (put-found : (m : FinMap nat_cmp X) (a b n p : ℕ) (page : X) → a / 4096 ≡ n → a % 4096 ≡ p → get m n ≡ Some page → put m a b ≡ insert m n (change page p b)) where
  -- bytes put within one page that is there are a piece of it
  pub puts-page : (xs : List ℕ) (x : ℕ) (m : FinMap nat_cmp X) (a n p : ℕ) (page : X) → get m n ≡ Some page
      → ((j : ℕ) → j ≤ length xs → (a + j) / 4096 ≡ n) → ((j : ℕ) → j ≤ length xs → (a + j) % 4096 ≡ p + j)
      → puts m a (x ∷ xs) ≡ insert m n (changes page p (x ∷ xs))
  puts-page [] x m a n p page found numbers places =
      let number : a / 4096 ≡ n = ap (λ k. k / 4096) (omega arith) ∙ numbers 0 (omega arith) in
      let place : a % 4096 ≡ p = ap (λ k. k % 4096) (omega arith) ∙ places 0 (omega arith) ∙ omega arith in
      puts-cons m a x [] ∙ puts-nil (put m a x) (a + 1) ∙ put-found m a x n p page number place found
      ∙ ap (insert m n) (sym (changes-one page p x))
  puts-page (y ∷ ys) x m a n p page found numbers places =
      let number : a / 4096 ≡ n = ap (λ k. k / 4096) (omega arith) ∙ numbers 0 (omega arith) in
      let place : a % 4096 ≡ p = ap (λ k. k % 4096) (omega arith) ∙ places 0 (omega arith) ∙ omega arith in
      let changed = change page p x in
      puts-cons m a x (y ∷ ys)
      ∙ ap (λ k. puts k (a + 1) (y ∷ ys)) (put-found m a x n p page number place found)
      ∙ puts-page ys y (insert m n changed) (a + 1) n (suc p) changed (get-insert_same m n changed)
      (λ j h. ap (λ k. k / 4096) (omega arith) ∙ numbers (j + 1) (omega arith))
      (λ j h. ap (λ k. k % 4096) (omega arith) ∙ places (j + 1) (omega arith) ∙ omega arith)
      ∙ insert-insert m n changed _
      ∙ ap (insert m n) (sym (changes-cons page p x (y ∷ ys)))
