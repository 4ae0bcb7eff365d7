-- How many bytes a field has.
use Rattle.std.proofs.Common.{◌≡◌, ℕ, ◌≤◌, Bool, true, false, cond, ltb, List, length, take, drop, Result, Ok, Err, refl, ap, sym, ◌∙◌, arith}
use Rattle.std.proofs.lemmas.Bool.{ltb-false}
use Rattle.std.proofs.lemmas.List.{length-take}
use Rattle.journal.specs.Reading.{bytes_at}

-- a test that did not fail
guard_ok : {A : Type 0} (b : Bool) (at : ℕ) (x y : A) → cond b (Err at) (Ok x) ≡ Ok y → (b ≡ false) × (x ≡ y)
guard_ok true at x y e = absurd cc
guard_ok false at x y e = (refl, cc)

pub bytes_len : (count file : ℕ) (rest bytes after : List ℕ) → bytes_at count file rest ≡ Ok (bytes, after) → length bytes ≡ count
bytes_len count file rest bytes after e =
    let g = guard_ok (ltb (length rest) count) file (take count rest, drop count rest) (bytes, after) e in
    let long : count ≤ length rest = ltb-false _ _ g.0 in
    let same : length (take count rest) ≡ length bytes = ap (λ (p : List ℕ × List ℕ). length p.0) g.1 in
    omega (arith, same, length-take count rest)
