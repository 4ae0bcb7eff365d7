-- The time that the native call leaves stands where its time stood.
use Rattle.std.proofs.Common.{◌≡◌, ◌≢◌, ℕ, ◌+◌, ◌-◌, ◌≤◌, Bool, true, false, List, ◌++◌, append_assoc, length, take, drop, Option, Some, None, Ok, Err, refl, ap, ◌∙◌, arith}
use Rattle.std.specs.Prelude.{◌==◌, ◌&&◌, if◌then◌else◌, nat_le}
use Rattle.std.proofs.lemmas.Bool.{leb-true}
use Rattle.std.proofs.lemmas.Bool.Decides.{nat_tests}
use Rattle.std.proofs.lemmas.List.{drop_at, length-take-le, take_at}
use Rattle.host_mem.specs.Memory.{bytes_at, end_address, first_address, is_inside, replaced, written}
use Rattle.kernel_model.specs.Came.{Given}
use Rattle.kernel_model.specs.Clock.{checked_or_none, given_some, left_of_wait, length_of}
use Rattle.kernel_model.specs.State.{Kernel}
use Rattle.native_calls.proofs.Lengths.{written_length}
use Rattle.native_calls.specs.HostBytes.{given, read_as}
use Rattle.native_calls.specs.Polls.{wait_at, with_left}
use Rattle.native_calls.specs.Times.{time_bytes, time_in}
use Rattle.bridge_limits.specs.Limits.{ShowsLeft}

-- Bytes that were written stand there

abbrev Places : List ℕ → ℕ → ℕ → Type 0
Places memory address count = (first_address ≤ address) × (address + count ≤ end_address memory)

places : (memory : List ℕ) (address count : ℕ) → is_inside memory address count ≡ true → Places memory address count
places memory address count inside = by (nat_le first_address address) (nat_le (address + count) (end_address memory)) refl refl inside where
  by : (from within : Bool) → nat_le first_address address ≡ from → nat_le (address + count) (end_address memory) ≡ within → (from && within) ≡ true → Places memory address count
  by true true from within both = (leb-true first_address address from, leb-true (address + count) (end_address memory) within)
  by true false from within both = absurd cc
  by false within from is both = absurd cc

middle : (memory bytes : List ℕ) (place : ℕ) → place ≤ length memory → take (length bytes) (drop place (replaced memory place bytes)) ≡ bytes
middle memory bytes place within =
    let parts : replaced memory place bytes ≡ take place memory ++ (bytes ++ drop (place + length bytes) memory) = append_assoc (take place memory) bytes (drop (place + length bytes) memory) in
    ap (λ (l : List ℕ). take (length bytes) (drop place l)) parts
    ∙ ap (λ (l : List ℕ). take (length bytes) l) (drop_at (take place memory) (bytes ++ drop (place + length bytes) memory) place (length-take-le place memory within))
    ∙ take_at bytes (drop (place + length bytes) memory) (length bytes) refl

still_inside : (memory after : List ℕ) (address count : ℕ) → length after ≡ length memory → is_inside memory address count ≡ true → is_inside after address count ≡ true
still_inside memory after address count same inside =
    ap (λ (n : ℕ). nat_le first_address address && nat_le (address + count) (first_address + n)) same ∙ inside

pub written_there : (memory : List ℕ) (address : ℕ) (bytes : List ℕ) → is_inside memory address (length bytes) ≡ true → bytes_at (written memory address bytes) address (length bytes) ≡ Some bytes
written_there memory address bytes inside =
    let at = places memory address (length bytes) inside in
    let room : address - first_address ≤ length memory = omega (arith, at.0, at.1) in
    let after = written memory address bytes in
    ap (λ (b : Bool). if b then Some (take (length bytes) (drop (address - first_address) after)) else None)
    (still_inside memory after address (length bytes) (written_length memory address bytes) inside)
    ∙ ap (λ (b : Bool). Some (take (length bytes) (drop (address - first_address) (if b then replaced memory (address - first_address) bytes else memory)))) inside
    ∙ ap (λ (l : List ℕ). Some l) (middle memory bytes (address - first_address) room)

-- What was read of the time

abbrev read_wait : Bool → Option (List ℕ) → Given (Option ℕ)
read_wait null found = checked_or_none length_of (if null then None else Some (read_as time_in (given found)))

some_wait : (read : Given ℕ) → given_some read ≡ Ok None → ⊥
some_wait (Ok length) is = cc
some_wait (Err error) is = cc

none_null : (null : Bool) (found : Option (List ℕ)) → read_wait null found ≡ Ok None → null ≡ true
none_null true found is = refl
none_null false None is = absurd cc
none_null false (Some bytes) is = absurd (some_wait (length_of (time_in bytes)) is)

some_not_null : (null : Bool) (found : Option (List ℕ)) (wait : ℕ) → read_wait null found ≡ Ok (Some wait) → null ≡ false
some_not_null true found wait is = absurd cc
some_not_null false found wait is = refl

some_there : (null : Bool) (inside : Bool) (bytes : List ℕ) (wait : ℕ) → read_wait null (if inside then Some bytes else None) ≡ Ok (Some wait) → inside ≡ true
some_there true inside bytes wait is = absurd cc
some_there false true bytes wait is = refl
some_there false false bytes wait is = absurd cc

null_is : (place : ℕ) → (place == 0) ≡ true → place ≡ 0
null_is place is = grind (arith, nat_tests)

not_null : (place : ℕ) → (place == 0) ≡ false → place ≢ 0
not_null place is = grind (arith, nat_tests)

-- Where the time was read, what is left of it is shown after the call, whatever else the call has stored.
pub shows_left : (kernel : Kernel) (memory after : List ℕ) (time : ℕ) (wait : Option ℕ) → wait_at memory time ≡ Ok wait → length after ≡ length memory
    → ShowsLeft (with_left after time (left_of_wait kernel kernel.clock wait)) time (left_of_wait kernel kernel.clock wait)
shows_left kernel memory after time None read same = null_is time (none_null (time == 0) (bytes_at memory time 16) read)
shows_left kernel memory after time (Some wait) read same = (
  not_null time (some_not_null (time == 0) (bytes_at memory time 16) wait read),
  written_there after time (time_bytes _) (still_inside memory after time 16 same (some_there (time == 0) (is_inside memory time 16) (take 16 (drop (time - first_address) memory)) wait read)),
)
