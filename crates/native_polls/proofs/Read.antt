-- Structures that are read from host memory.
use Rattle.std.proofs.Common.{◌≡◌, ℕ, ◌-◌, ◌≤◌, Bool, true, false, List, length, take, drop, Some, None, refl, arith, if◌then◌else◌, length-take-le, length-drop}
use Rattle.std.proofs.lemmas.Bool.Decides.{nat_tests}
use Rattle.host_mem.specs.Memory.{first_address, is_inside, bytes_at}

enough : (memory : List ℕ) (address count : ℕ) → is_inside memory address count ≡ true → count ≤ length memory - (address - first_address)
enough memory address count inside = grind (arith, nat_tests)

length_if : (bytes there : List ℕ) (count : ℕ) (inside : Bool) → (inside ≡ true → count ≤ length there)
    → Some bytes ≡ (if inside then Some (take count there) else None) → length bytes ≡ count
length_if bytes there count true enough e =
    let same : bytes ≡ take count there = cc in
    rw same (length-take-le count there (enough refl))
length_if bytes there count false enough e = cc

-- what is read is as long as it was asked to be
pub length_read : (memory bytes : List ℕ) (address count : ℕ) → Some bytes ≡ bytes_at memory address count → length bytes ≡ count
length_read memory bytes address count e =
    length_if bytes (drop (address - first_address) memory) count (is_inside memory address count)
    (λ inside. rw length-drop (enough memory address count inside)) e
