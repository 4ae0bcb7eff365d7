-- Host memory keeps its length.
use Rattle.std.proofs.Common.{◌≡◌, ℕ, ◌+◌, ◌-◌, ◌≤◌, Bool, true, false, ◌&&◌, List, [], ◌∷◌, take, drop, length, refl, ◌∙◌, arith, length-append, length-drop}
use Rattle.std.specs.Prelude.{if◌then◌else◌, nat_le}
use Rattle.std.proofs.lemmas.Bool.{leb-true}
use Rattle.std.proofs.lemmas.List.{length-take}
use Rattle.host_mem.specs.Memory.{first_address, end_address, replaced, written}
use Rattle.native_calls.specs.HostBytes.{all_written}
use Rattle.native_calls.specs.declared.range.Range.{Range}

-- a part of a list replaced
replaced_length : (memory : List ℕ) (place : ℕ) (bytes : List ℕ) → place + length bytes ≤ length memory
    → length (replaced memory place bytes) ≡ length memory
replaced_length memory place bytes inside = simp (length-append, length-take, length-drop) (omega arith)

inside_length : (memory : List ℕ) (address : ℕ) (bytes : List ℕ) (from_there within : Bool)
    → nat_le first_address address ≡ from_there → nat_le (address + length bytes) (end_address memory) ≡ within
    → length (if from_there && within then replaced memory (address - first_address) bytes else memory) ≡ length memory
inside_length memory address bytes true true from_there within =
    let low : first_address ≤ address = leb-true first_address address from_there in
    let high : address + length bytes ≤ end_address memory = leb-true (address + length bytes) (end_address memory) within in
    replaced_length memory (address - first_address) bytes (omega arith)
inside_length memory address bytes true false from_there within = refl
inside_length memory address bytes false within from_there is = refl

pub written_length : (memory : List ℕ) (address : ℕ) (bytes : List ℕ) → length (written memory address bytes) ≡ length memory
written_length memory address bytes =
    inside_length memory address bytes (nat_le first_address address) (nat_le (address + length bytes) (end_address memory)) refl refl

pub all_written_length : (memory : List ℕ) (ranges : List Range) (bytes : List ℕ) → length (all_written memory ranges bytes) ≡ length memory
all_written_length memory [] bytes = refl
all_written_length memory (range ∷ ranges) bytes =
    all_written_length (written memory range.address (take range.length bytes)) ranges (drop range.length bytes)
    ∙ written_length memory range.address (take range.length bytes)
