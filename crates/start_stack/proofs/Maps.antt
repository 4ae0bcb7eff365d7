-- Look-ups in a finite map of pages after an insertion.
use Rattle.std.proofs.Common.{◌≡◌, ◌≢◌, ℕ, cond, Some, None, ap, ◌∙◌, arith, eqb}
use Rattle.std.specs.Ordering.{nat_cmp}
use Rattle.std.specs.Cmp.{nat_cmp_total, unsigned_tied}
use Rattle.std.specs.FinMap.{FinMap, get, insert, remove, get-insert, get-remove}
use Rattle.std.proofs.lemmas.Bool.Decides.{nat_tests}

module _ {X : Type 0} where
  pub get-insert_at : (m : FinMap nat_cmp X) (k : ℕ) (v : X) (q : ℕ) → get (insert m k v) q ≡ cond (eqb q k) (Some v) (get m q)
  get-insert_at m k v q = get-insert nat_cmp_total m k v q ∙ ap (λ b. cond b (Some v) (get m q)) (unsigned_tied q k)

  pub get-insert_same : (m : FinMap nat_cmp X) (k : ℕ) (v : X) (q : ℕ) → q ≡ k → get (insert m k v) q ≡ Some v
  get-insert_same m k v q e = get-insert_at m k v q ∙ grind (arith, nat_tests)

  pub get-insert_other : (m : FinMap nat_cmp X) (k : ℕ) (v : X) (q : ℕ) → q ≢ k → get (insert m k v) q ≡ get m q
  get-insert_other m k v q e = get-insert_at m k v q ∙ grind (arith, nat_tests)

  pub get-remove_at : (m : FinMap nat_cmp X) (k q : ℕ) → get (remove m k) q ≡ cond (eqb q k) None (get m q)
  get-remove_at m k q = get-remove nat_cmp_total m k q ∙ ap (λ b. cond b None (get m q)) (unsigned_tied q k)

  pub get-remove_same : (m : FinMap nat_cmp X) (k : ℕ) → get (remove m k) k ≡ None
  get-remove_same m k = get-remove_at m k k ∙ grind (arith, nat_tests)

  pub get-remove_other : (m : FinMap nat_cmp X) (k q : ℕ) → q ≢ k → get (remove m k) q ≡ get m q
  get-remove_other m k q e = get-remove_at m k q ∙ grind (arith, nat_tests)
