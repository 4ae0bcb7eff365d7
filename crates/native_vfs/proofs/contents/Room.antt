-- Whether a write has a block for its first byte.
use Rattle.std.proofs.Common.{◌≡◌, ◌⊎◌, ℕ, zero, suc, ◌+◌, ◌-◌, ◌/◌, ◌<◌, ◌≤◌, Bool, true, false, cond, leb, is_some, ap, ◌∙◌, arith, inl, inr}
use Rattle.std.proofs.lemmas.Bool.{le-leb}
use Rattle.std.specs.FinMap.{get}
use Rattle.kernel_core.specs.FileContent.{Blocks, absent_blocks, new_blocks, longest_write}

-- a first byte takes no block anew where its block is kept, and else one
first_absent : (blocks : Blocks) (first : ℕ) → absent_blocks blocks first 1 ≡ cond (is_some (get blocks first)) 0 1
unfolding absent_blocks
first_absent blocks first = ap {B = ℕ} (λ n. 0 + cond (is_some (get blocks n)) 0 1) (let e : first + 0 ≡ first = omega arith in e) ∙ bare (cond (is_some (get blocks first)) 0 1)
  where
    bare : (n : ℕ) → 0 + n ≡ n
    bare n = omega arith

first_new : (blocks : Blocks) (at : ℕ) → new_blocks blocks at 1 ≡ cond (is_some (get blocks (at / 4096))) 0 1
first_new blocks at =
    let one : (at + 0) / 4096 - at / 4096 + 1 ≡ 1 = omega arith in
    ap (absent_blocks blocks (at / 4096)) one ∙ first_absent blocks (at / 4096)

fits : (blocks : Blocks) (at spare : ℕ) → (1 ≤ spare) ⊎ (is_some (get blocks (at / 4096)) ≡ true) → new_blocks blocks at 1 ≤ spare
fits blocks at spare (inl some) = let is = first_new blocks at in omega (arith, is, most (is_some (get blocks (at / 4096))), some)
  where
    most : (b : Bool) → cond b 0 1 ≤ 1
    most true = omega arith
    most false = omega arith
fits blocks at spare (inr there) = let is = first_new blocks at in let none = ap {B = ℕ} (λ b. cond b 0 1) there in omega (arith, is, none)

pub length-some : (blocks : Blocks) (at count spare : ℕ) → 0 < count → (1 ≤ spare) ⊎ (is_some (get blocks (at / 4096)) ≡ true) → 1 ≤ longest_write blocks at count spare
unfolding longest_write
length-some blocks at zero spare some room = absurd (omega (arith, some))
length-some blocks at (suc zero) spare some room =
    let is = ap (λ b. cond b 1 (longest_write blocks at 0 spare)) (le-leb (new_blocks blocks at 1) spare (fits blocks at spare room)) in
    omega (arith, is)
length-some blocks at (suc (suc count)) spare some room = by (leb (new_blocks blocks at (suc (suc count))) spare) (length-some blocks at (suc count) spare (omega arith) room)
  where
    by : (b : Bool) → 1 ≤ longest_write blocks at (suc count) spare → 1 ≤ cond b (suc (suc count)) (longest_write blocks at (suc count) spare)
    by true h = omega arith
    by false h = h
