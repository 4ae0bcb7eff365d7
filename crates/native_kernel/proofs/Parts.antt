-- Parts of host memory that are written in place.
use Rattle.std.proofs.Common.{◌≡◌, ℕ, zero, suc, ◌+◌, ◌-◌, ◌<◌, ◌≤◌, Bool, true, false, List, [], ◌∷◌, ◌++◌, length, take, drop, refl, sym, ap, ◌∙◌, arith, append_assoc, append-nil, add-zero, if◌then◌else◌}
use Rattle.std.proofs.lemmas.List.{take-append-drop, length-take-le, length-drop, drop-drop, drop-append-le}
use Rattle.std.proofs.Math.ListN.{drop_of_length-le}
use Rattle.host_mem.specs.Lending.{overwritten}
use Rattle.host_mem.specs.Memory.{first_address, is_inside, replaced, written}
use Rattle.native_calls.specs.HostBytes.{accessible}
use Rattle.native_kernel.specs.inside.Moving.{part_place}

part_tail : (memory : List ℕ) (place room count : ℕ) → place + room ≤ length memory → count ≤ room
    → drop count (take room (drop place memory)) ++ drop (place + room) memory ≡ drop (place + count) memory
part_tail memory place room count inside few =
    let behind : List ℕ = drop place memory in
    let some : room ≤ length behind = omega (arith, length-drop place memory) in
    let enough : count ≤ length (take room behind) = omega (arith, length-take-le room behind some) in
    ap (λ (t : List ℕ). drop count (take room behind) ++ t) (sym (drop-drop room place memory))
    ∙ sym (drop-append-le count (take room behind) (drop room behind) enough)
    ∙ ap (λ (t : List ℕ). drop count t) (take-append-drop room behind)
    ∙ drop-drop count place memory

-- a part whose first bytes are replaced
pub part_replaced : (memory bytes : List ℕ) (place room : ℕ) → place + room ≤ length memory → length bytes ≤ room
    → take place memory ++ ((bytes ++ drop (length bytes) (take room (drop place memory))) ++ drop (place + room) memory) ≡ replaced memory place bytes
part_replaced memory bytes place room inside few =
    let rest : List ℕ = drop (length bytes) (take room (drop place memory)) in
    let behind : List ℕ = drop (place + room) memory in
    ap (λ (t : List ℕ). take place memory ++ t)
    (append_assoc bytes rest behind ∙ ap (λ (t : List ℕ). bytes ++ t) (part_tail memory place room (length bytes) inside few))
    ∙ sym (append_assoc (take place memory) bytes (drop (place + length bytes) memory))

-- the part as it was
pub part_kept : (memory : List ℕ) (place room : ℕ) → place + room ≤ length memory
    → take place memory ++ (take room (drop place memory) ++ drop (place + room) memory) ≡ memory
part_kept memory place room inside =
    ap (λ (t : List ℕ). take place memory ++ t)
    (ap (λ (t : List ℕ). take room (drop place memory) ++ t) (sym (drop-drop room place memory)) ∙ take-append-drop room (drop place memory))
    ∙ take-append-drop place memory

replaced_nothing : (memory : List ℕ) (place : ℕ) → replaced memory place [] ≡ memory
replaced_nothing memory place =
    ap (λ (t : List ℕ). t ++ drop (place + 0) memory) (append-nil (take place memory))
    ∙ ap (λ (n : ℕ). take place memory ++ drop n memory) (add-zero place)
    ∙ take-append-drop place memory

written_nothing : (memory : List ℕ) (address : ℕ) → written memory address [] ≡ memory
written_nothing memory address =
    elim (is_inside memory address 0) as (λ v. (if v then replaced memory (address - first_address) [] else memory) ≡ memory)
    [ true ↦ replaced_nothing memory (address - first_address) | false ↦ refl ]

inside_of : (memory : List ℕ) (address count some : ℕ) → 0 < accessible memory address count → some ≤ accessible memory address count
    → is_inside memory address some ≡ true
inside_of memory address count some there few = grind (arith)

-- how the place and the room of a part fit into memory
pub part_inside : (memory : List ℕ) (address count room : ℕ) → room ≡ accessible memory address count → part_place address room + room ≤ length memory
part_inside memory address count room e = grind (arith)

place_of : (address room : ℕ) → 0 < room → part_place address room ≡ address - first_address
place_of address room there = grind (arith)

nothing_of : (bytes : List ℕ) → length bytes ≤ 0 → bytes ≡ []
nothing_of [] few = refl
nothing_of (byte ∷ bytes) few = absurd (omega arith)

written_there : (memory bytes : List ℕ) (address : ℕ) → is_inside memory address (length bytes) ≡ true
    → written memory address bytes ≡ replaced memory (address - first_address) bytes
written_there memory bytes address e = ap (λ (v : Bool). if v then replaced memory (address - first_address) bytes else memory) e

-- memory whose part got these bytes is memory with them written
pub part_written : (memory bytes : List ℕ) (address count room : ℕ) → room ≡ accessible memory address count → length bytes ≤ room
    → take (part_place address room) memory
    ++ ((bytes ++ drop (length bytes) (take room (drop (part_place address room) memory))) ++ drop (part_place address room + room) memory)
    ≡ written memory address bytes
part_written memory bytes address count zero e few =
    let none : bytes ≡ [] = nothing_of bytes few in
    rw none (refl ∙ sym (written_nothing memory address))
part_written memory bytes address count (suc more) e few =
    let inside = part_inside memory address count (suc more) e in
    part_replaced memory bytes (part_place address (suc more)) (suc more) inside few
    ∙ ap (λ (n : ℕ). replaced memory n bytes) (place_of address (suc more) (omega arith))
    ∙ sym (written_there memory bytes address (inside_of memory address count (length bytes) (omega arith) (omega arith)))

-- memory that was lent whole is what was left of it
pub overwritten_all : (memory new : List ℕ) → length new ≡ length memory → overwritten memory new ≡ new
overwritten_all memory new long =
    let none : drop (length new) memory ≡ [] = drop_of_length-le memory (omega arith) in
    ap (λ (t : List ℕ). take (length memory) (new ++ t)) none
    ∙ ap (λ (t : List ℕ). take (length memory) t) (append-nil new)
    ∙ ap (λ (n : ℕ). take n new) (sym long)
    ∙ taken_whole new
  where
    taken_whole : (xs : List ℕ) → take (length xs) xs ≡ xs
    taken_whole [] = refl
    taken_whole (x ∷ xs) = ap (λ (t : List ℕ). x ∷ t) (taken_whole xs)
