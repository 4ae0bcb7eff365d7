-- Bytes that were stored in host memory, and others beside them.
use Rattle.std.proofs.Common.{◌≡◌, ℕ, zero, suc, ◌+◌, ◌-◌, ◌<◌, ◌≤◌, ◌⊎◌, Bool, true, false, List, [], ◌∷◌, ◌++◌, length, take, drop, refl, sym, ap, ◌∙◌, inl, inr, arith, append_assoc, append-nil}
use Rattle.std.specs.Prelude.{Option, None, Some, nat_le, ◌&&◌, if◌then◌else◌}
use Rattle.std.proofs.lemmas.Bool.Decides.{nat_tests}
use Rattle.std.proofs.lemmas.List.{length-append, length-drop, length-take-le, drop-append-le, drop_at, drop-drop, drop-take, take-append-le}
use Rattle.native_calls.proofs.Lengths.{written_length}
use Rattle.host_mem.specs.Memory.{bytes_at, end_address, is_inside, replaced, written}

is_or_not : (b : Bool) → (b ≡ true) ⊎ (b ≡ false)
is_or_not true = inl refl
is_or_not false = inr refl

-- Where bytes are

-- the bytes in their order
laid_out : (memory bytes : List ℕ) (place : ℕ) → replaced memory place bytes ≡ take place memory ++ (bytes ++ drop (place + length bytes) memory)
laid_out memory bytes place = append_assoc (take place memory) bytes (drop (place + length bytes) memory)

inside_is : (memory : List ℕ) (address count : ℕ) → is_inside memory address count ≡ true → (65536 ≤ address) × (address + count ≤ 65536 + length memory)
inside_is memory address count there = (grind (arith, nat_tests), grind (arith, nat_tests))

is_there : (memory : List ℕ) (address count : ℕ) → 65536 ≤ address → address + count ≤ 65536 + length memory → is_inside memory address count ≡ true
is_there memory address count low high = grind (arith, nat_tests)

is_not_there : (memory : List ℕ) (address count : ℕ) → address < 65536 → is_inside memory address count ≡ false
is_not_there memory address count low = grind (arith, nat_tests)

-- nothing is stored below the first byte
pub written_nowhere : (memory bytes : List ℕ) (address : ℕ) → address < 65536 → written memory address bytes ≡ memory
written_nowhere memory bytes address low =
    ap (λ (b : Bool). if b then replaced memory (address - 65536) bytes else memory) (is_not_there memory address (length bytes) low)

pub written_there : (memory bytes : List ℕ) (address : ℕ) → 65536 ≤ address → address + length bytes ≤ end_address memory → written memory address bytes ≡ replaced memory (address - 65536) bytes
written_there memory bytes address low high =
    ap (λ (b : Bool). if b then replaced memory (address - 65536) bytes else memory) (is_there memory address (length bytes) low high)

pub bytes_there : (memory : List ℕ) (address count : ℕ) → 65536 ≤ address → address + count ≤ end_address memory → bytes_at memory address count ≡ Some (take count (drop (address - 65536) memory))
bytes_there memory address count low high =
    ap (λ (b : Bool). if b then Some (take count (drop (address - 65536) memory)) else None) (is_there memory address count low high)

-- What was stored, and so many bytes behind it

from_stored : (memory bytes : List ℕ) (place : ℕ) → place + length bytes ≤ length memory → drop place (replaced memory place bytes) ≡ bytes ++ drop (place + length bytes) memory
from_stored memory bytes place inside = ap (drop place) (laid_out memory bytes place) ∙ drop_at (take place memory) (bytes ++ drop (place + length bytes) memory) place (length-take-le place memory (omega arith))

first_taken : (bytes behind : List ℕ) (count : ℕ) → length bytes ≤ count → take count (bytes ++ behind) ≡ bytes ++ take (count - length bytes) behind
first_taken [] behind count few = let e : count ≡ count - 0 = omega arith in ap (λ (n : ℕ). take n behind) e
first_taken (byte ∷ bytes) behind zero few = absurd (omega arith)
first_taken (byte ∷ bytes) behind (suc count) few =
    let e : count - length bytes ≡ suc count - suc (length bytes) = omega arith in
    ap (λ (bs : List ℕ). byte ∷ bs) (first_taken bytes behind count (omega arith) ∙ ap (λ (n : ℕ). bytes ++ take n behind) e)

pub stored_there : (memory bytes : List ℕ) (address count : ℕ) → 65536 ≤ address → length bytes ≤ count → address + count ≤ end_address memory
    → (behind : List ℕ) × (bytes_at (written memory address bytes) address count ≡ Some (bytes ++ behind))
stored_there memory bytes address count low few high = (
  take (count - length bytes) (drop (address - 65536 + length bytes) memory),
  bytes_there (written memory address bytes) address count low (omega (arith, written_length memory address bytes))
      ∙ ap (λ (m : List ℕ). Some (take count (drop (address - 65536) m))) (written_there memory bytes address low (omega arith))
      ∙ ap (λ (bs : List ℕ). Some (take count bs)) (from_stored memory bytes (address - 65536) (omega arith))
      ∙ ap (λ (bs : List ℕ). Some bs) (first_taken bytes (drop (address - 65536 + length bytes) memory) count few),
)

pub stored_whole : (memory bytes : List ℕ) (address count : ℕ) → 65536 ≤ address → length bytes ≡ count → address + count ≤ end_address memory → bytes_at (written memory address bytes) address count ≡ Some bytes
unfolding stored_there
stored_whole memory bytes address count low same high =
    let stored = stored_there memory bytes address count low (omega arith) high in
    let behind : List ℕ = take (count - length bytes) (drop (address - 65536 + length bytes) memory) in
    let none : count - length bytes ≡ 0 = omega arith in
    stored.1 ∙ ap (λ (n : ℕ). Some (bytes ++ take n (drop (address - 65536 + length bytes) memory))) none ∙ ap (λ (bs : List ℕ). Some bs) (append-nil bytes)

-- Other bytes stay.

take_less : (xs : List ℕ) (few many : ℕ) → few ≤ many → take few (take many xs) ≡ take few xs
take_less xs zero many le = refl
take_less [] (suc few) zero le = refl
take_less [] (suc few) (suc many) le = refl
take_less (x ∷ xs) (suc few) zero le = absurd (omega arith)
take_less (x ∷ xs) (suc few) (suc many) le = ap (λ (ns : List ℕ). x ∷ ns) (take_less xs few many (omega arith))

before_stays : (memory bytes : List ℕ) (place at count : ℕ) → at + count ≤ place → place + length bytes ≤ length memory → take count (drop at (replaced memory place bytes)) ≡ take count (drop at memory)
before_stays memory bytes place at count apart inside =
    let front : List ℕ = take place memory in
    let rest : List ℕ = bytes ++ drop (place + length bytes) memory in
    let long : length front ≡ place = length-take-le place memory (omega arith) in
    let split : place ≡ at + (place - at) = omega arith in
    ap (λ (bs : List ℕ). take count (drop at bs)) (laid_out memory bytes place)
    ∙ ap (λ (bs : List ℕ). take count bs) (drop-append-le at front rest (omega arith))
    ∙ take-append-le count (drop at front) rest (omega (arith, length-drop at front))
    ∙ ap (λ (n : ℕ). take count (drop at (take n memory))) split
    ∙ ap (λ (bs : List ℕ). take count bs) (drop-take at (place - at) memory)
    ∙ take_less (drop at memory) count (place - at) (omega arith)

after_stays : (memory bytes : List ℕ) (place at count : ℕ) → place + length bytes ≤ at → place + length bytes ≤ length memory → take count (drop at (replaced memory place bytes)) ≡ take count (drop at memory)
after_stays memory bytes place at count apart inside =
    let front : List ℕ = take place memory in
    let tail : List ℕ = drop (place + length bytes) memory in
    let long : length front ≡ place = length-take-le place memory (omega arith) in
    let split : at ≡ (place + length bytes) + (at - (place + length bytes)) = omega arith in
    let one : drop (place + length bytes) (replaced memory place bytes) ≡ tail =
    sym (drop-drop (length bytes) place (replaced memory place bytes))
    ∙ ap (drop (length bytes)) (from_stored memory bytes place inside) ∙ drop_at bytes tail (length bytes) refl in
    ap (λ (n : ℕ). take count (drop n (replaced memory place bytes))) split
    ∙ ap (λ (bs : List ℕ). take count bs) (sym (drop-drop (at - (place + length bytes)) (place + length bytes) (replaced memory place bytes)))
    ∙ ap (λ (bs : List ℕ). take count (drop (at - (place + length bytes)) bs)) one
    ∙ ap (λ (bs : List ℕ). take count bs) (drop-drop (at - (place + length bytes)) (place + length bytes) memory)
    ∙ ap (λ (n : ℕ). take count (drop n memory)) (sym split)

pub others_stay : (memory bytes : List ℕ) (stored address count : ℕ) → (stored + length bytes ≤ address) ⊎ (address + count ≤ stored) → bytes_at (written memory stored bytes) address count ≡ bytes_at memory address count
others_stay memory bytes stored address count apart = elim (is_or_not (is_inside memory stored (length bytes))) [
  | inl there ↦
      let at = inside_is memory stored (length bytes) there in
      elim (is_or_not (is_inside memory address count)) [
        | inl read ↦
            let from = inside_is memory address count read in
            bytes_there (written memory stored bytes) address count from.0 (omega (arith, from.1, written_length memory stored bytes))
            ∙ ap (λ (m : List ℕ). Some (take count (drop (address - 65536) m))) (written_there memory bytes stored at.0 at.1)
            ∙ ap (λ (bs : List ℕ). Some bs) (same_part apart at.0 at.1 from.0)
            ∙ sym (bytes_there memory address count from.0 from.1)
        | inr out ↦
            ap (λ (b : Bool). part (written memory stored bytes) b) (same_room out) ∙ sym (ap (λ (b : Bool). part memory b) out)
      ]
  | inr nowhere ↦ ap (λ (b : Bool). bytes_at (if b then replaced memory (stored - 65536) bytes else memory) address count) nowhere
] where
  part : List ℕ → Bool → Option (List ℕ)
  part m there = if there then Some (take count (drop (address - 65536) m)) else None

  same_room : is_inside memory address count ≡ false → is_inside (written memory stored bytes) address count ≡ false
  same_room out = ap (λ (n : ℕ). nat_le 65536 address && nat_le (address + count) (65536 + n)) (written_length memory stored bytes) ∙ out

  same_part : (stored + length bytes ≤ address) ⊎ (address + count ≤ stored) → 65536 ≤ stored → stored + length bytes ≤ 65536 + length memory → 65536 ≤ address
      → take count (drop (address - 65536) (replaced memory (stored - 65536) bytes)) ≡ take count (drop (address - 65536) memory)
  same_part (inl before) low high from = after_stays memory bytes (stored - 65536) (address - 65536) count (omega arith) (omega arith)
  same_part (inr behind) low high from = before_stays memory bytes (stored - 65536) (address - 65536) count (omega arith) (omega arith)
