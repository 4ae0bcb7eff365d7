-- What is pushed into host memory is found there by the native call.
use Rattle.std.proofs.Common.{◌≡◌, ℕ, ◌+◌, ◌*◌, ◌-◌, ◌^◌, ◌<◌, ◌≤◌, Bool, true, false, List, [], ◌++◌, length, take, drop, get_or, refl, sym, ap, ◌∙◌, arith, append_assoc, append-nil}
use Rattle.std.specs.Prelude.{◌==◌, Option, Some, None, Result, Ok, Err, IfOk, OnOk, if◌then◌else◌}
use Rattle.std.proofs.Math.ListN.{get_or-append}
use Rattle.std.proofs.lemmas.Bool.Decides.{nat_tests}
use Rattle.std.proofs.lemmas.List.{drop_at, length-append, take_at}
use Rattle.byteorder.specs.Endian.{IsRead, big_number, little_bytes, little_number}
use Rattle.byteorder.specs.Numbers.{length-bytes_low_first, little_number-reads_back}
use Rattle.guest_space.specs.Access.{first_denied}
use Rattle.guest_space.specs.Bytes as guest
use Rattle.guest_space.specs.Memory.{Memory}
use Rattle.guest_space.specs.declared.access.Access.TheVariants.{Load}
use Rattle.guest_space.specs.declared.access.Denied.{Denied}
use Rattle.host_mem.specs.Memory.{bytes_at, end_address, padded}
use Rattle.kernel_core.specs.declared.error.Errno.{Errno}
use Rattle.kernel_core.specs.declared.error.Errno.TheVariants.{EFAULT}
use Rattle.kernel_model.specs.Came.{Given}
use Rattle.kernel_model.specs.Readiness.{first_fds}
use Rattle.native_calls.specs.HostBytes as host
use Rattle.native_calls.specs.Polls as native
use Rattle.native_calls.specs.Polls.{MaskArgument, mask_argument_at, mask_argument_in, set_words}
use Rattle.o32_model.specs.GuestBytes as bytes
use Rattle.o32_model.specs.GuestBytes.{read_as, structure}
use Rattle.o32_model.specs.Selecting as o32
use Rattle.o32_model.specs.Selecting.{word_count}
use Rattle.kernel_core.specs.declared.core_error.NoMemory.{NoMemory}
use Rattle.bridge_select.specs.inside.FdSets.{fds_of, has_bit}
use Rattle.bridge_select.specs.inside.Handing.{FindsSet}
use Rattle.bridge_select.proofs.Fds.{first_of_more}
use Rattle.bridge_select.proofs.HostSets.{bytes_there}
use Rattle.bridge_select.proofs.Words.{found_in, laid, length-laid, natively_found}

-- Words that were loaded from the program's memory

pub loaded_set : (set rest all : List ℕ) (words count : ℕ) (given : Given (List ℕ)) → count ≤ 32 * words → length set ≡ words → IsRead big_number 4 all set → Ok all ≡ given
    → Ok (fds_of count (set ++ rest)) ≡ read_as (λ found. first_fds count (o32.fds_in words found)) given
loaded_set set rest all words count given enough long read is =
    ap (λ (fds : List ℕ). Ok fds)
    (found_in all (set ++ rest) words count enough (λ k below. get_or-append set rest 0 k (omega arith) ∙ read k (omega arith)))
    ∙ ap (read_as (λ found. first_fds count (o32.fds_in words found))) is

-- What was pushed

pub pushed_at : (old pushed behind : List ℕ) (place count : ℕ) → place ≡ 65536 + length old → count ≤ length pushed → bytes_at ((old ++ pushed) ++ behind) place count ≡ Some (take count (pushed ++ behind))
pushed_at old pushed behind place count at few =
    let start : place - 65536 ≡ length old = omega arith in
    bytes_there ((old ++ pushed) ++ behind) place count (omega arith) (omega (arith, length-append (old ++ pushed) behind, length-append old pushed))
    ∙ ap (λ (n : ℕ). Some (take count (drop n ((old ++ pushed) ++ behind)))) start
    ∙ ap (λ (bs : List ℕ). Some (take count (drop (length old) bs))) (append_assoc old pushed behind)
    ∙ ap (λ (bs : List ℕ). Some (take count bs)) (drop_at old (pushed ++ behind) (length old) refl)

not_null : (place : ℕ) → 65536 ≤ place → (place == 0) ≡ false
not_null place low = grind (arith, nat_tests)

-- the pair of a mask

abbrev pair_of : ℕ → ℕ → List ℕ
pair_of mask size = little_bytes 8 mask ++ little_bytes 8 size

pair_read : (mask size : ℕ) → mask < 2 ^ 64 → size < 2 ^ 64 → mask_argument_in (pair_of mask size) ≡ record { mask = mask; size = size }
pair_read mask size first second = λ i. record {
  mask = little_number-reads_back 8 mask (little_bytes 8 size) first i;
  size = (ap (little_number 8) (drop_at (little_bytes 8 mask) (little_bytes 8 size) 8 (length-bytes_low_first 0 8 mask) ∙ sym (append-nil (little_bytes 8 size))) ∙ little_number-reads_back 8 size [] second) i;
}

pub pair_found : (memory old behind pushed : List ℕ) (place mask size : ℕ) → memory ≡ padded old ++ pushed → pushed ≡ pair_of mask size → place ≡ end_address (padded old) → mask < 2 ^ 64 → size < 2 ^ 64
    → mask_argument_at (memory ++ behind) place ≡ Some (Ok (record { mask = mask; size = size }))
pair_found memory old behind pushed place mask size put is at first second =
    let long : length (pair_of mask size) ≡ 16 = omega (arith, length-append (little_bytes 8 mask) (little_bytes 8 size), length-bytes_low_first 0 8 mask, length-bytes_low_first 0 8 size) in
    ap (λ (m : List ℕ). mask_argument_at (m ++ behind) place) (put ∙ ap (λ (bs : List ℕ). padded old ++ bs) is)
    ∙ ap (λ (null : Bool). if null then None else Some (host.read_as mask_argument_in (host.structure ((padded old ++ pair_of mask size) ++ behind) place 16))) (not_null place (omega arith))
    ∙ ap (λ (found : Option (List ℕ)). Some (host.read_as mask_argument_in (host.given found)))
    (pushed_at (padded old) (pair_of mask size) behind place 16 at (omega (arith, long)) ∙ ap (λ (bs : List ℕ). Some bs) (take_at (pair_of mask size) behind 16 long))
    ∙ ap (λ (argument : MaskArgument). Some (Ok argument)) (pair_read mask size first second)

-- A set

once : {A B C : Type 0} (f : A → B) (g : B → C) (given : Given A) → read_as g (read_as f given) ≡ read_as (λ a. g (f a)) given
once f g (Ok value) = refl
once f g (Err error) = refl

-- that is not null
program_set : (memory : Memory) (address words count : ℕ) → (address ≡ 0 → ⊥) → read_as (first_fds count) (o32.fds_at memory words address) ≡ read_as (λ found. first_fds count (o32.fds_in words found)) (structure memory address (4 * words))
program_set memory address words count there =
    let null : (address == 0) ≡ false = grind (arith, nat_tests) in
    ap (λ (b : Bool). read_as (first_fds count) (if b then Ok [] else read_as (o32.fds_in words) (structure memory address (4 * words)))) null
    ∙ once (o32.fds_in words) (first_fds count) (structure memory address (4 * words))

native_set : (memory : List ℕ) (count place : ℕ) (none : Bool) → (count == 0) ≡ none → (place == 0) ≡ false
    → native.fds_at memory count place ≡ (if none then Ok [] else host.read_as (native.fds_in count) (host.structure memory place (8 * set_words count)))
native_set memory count place true none there = ap (λ (b : Bool). if b then Ok [] else (if place == 0 then Ok [] else host.read_as (native.fds_in count) (host.structure memory place (8 * set_words count)))) none
native_set memory count place false none there =
    ap (λ (b : Bool). if b then Ok [] else (if place == 0 then Ok [] else host.read_as (native.fds_in count) (host.structure memory place (8 * set_words count)))) none
    ∙ ap (λ (b : Bool). if b then Ok [] else host.read_as (native.fds_in count) (host.structure memory place (8 * set_words count))) there

is_none : (count : ℕ) → (count == 0) ≡ true → count ≡ 0
is_none count is = grind (arith, nat_tests)

set_back : (memory : List ℕ) (set behind : List ℕ) (count place : ℕ) (none : Bool) → (count == 0) ≡ none → count ≤ 1024 → length set ≡ 32 → ((k : ℕ) → get_or set k 0 < 2 ^ 32)
    → bytes_at memory place (8 * set_words count) ≡ Some (take (8 * set_words count) (laid set ++ behind))
    → (if none then Ok [] else host.read_as (native.fds_in count) (host.structure memory place (8 * set_words count))) ≡ Ok (fds_of count set)
set_back memory set behind count place true none few long small there = ap (λ (n : ℕ). Ok (fds_of n set)) (sym (is_none count none))
set_back memory set behind count place false none few long small there =
    ap (λ (found : Option (List ℕ)). host.read_as (native.fds_in count) (host.given found)) there
    ∙ ap (λ (fds : List ℕ). Ok fds) (natively_found set behind count (omega arith) (omega (arith, long)) small)

pub set_found : (memory old behind set : List ℕ) (program : Memory) (address words count place : ℕ) → (address ≡ 0 → ⊥) → count ≤ 1024 → length set ≡ 32 → ((k : ℕ) → get_or set k 0 < 2 ^ 32)
    → memory ≡ padded old ++ laid set → place ≡ end_address (padded old)
    → Ok (fds_of count set) ≡ read_as (λ found. first_fds count (o32.fds_in words found)) (structure program address (4 * words))
    → read_as (first_fds count) (native.fds_at (memory ++ behind) count place) ≡ read_as (first_fds count) (o32.fds_at program words address)
set_found memory old behind set program address words count place there few long small put at is =
    let all : List ℕ = (padded old ++ laid set) ++ behind in
    let bytes : length (laid set) ≡ 128 = omega (arith, length-laid set) in
    ap (λ (m : List ℕ). read_as (first_fds count) (native.fds_at (m ++ behind) count place)) put
    ∙ ap (read_as (first_fds count))
    (native_set all count place (count == 0) refl (not_null place (omega arith))
    ∙ set_back all set behind count place (count == 0) refl few long small (pushed_at (padded old) (laid set) behind place (8 * set_words count) at (omega arith)))
    ∙ ap (λ (fds : List ℕ). Ok fds) (first_of_more (has_bit set) count count (omega arith))
    ∙ is
    ∙ sym (program_set program address words count there)

-- what is found of the words at an address
abbrev pub FoundSet : Memory → ℕ → ℕ → Given (List ℕ) → ℕ → Type 0
FoundSet program address count given words = given ≡ read_as (λ found. first_fds count (o32.fds_in words found)) (structure program address (4 * words))

-- one that can't be loaded

only_fault : (denied : Option Denied) (found : List ℕ) (error : Errno) → bytes.given denied found ≡ Err error → error ≡ EFAULT
only_fault None found error is = absurd cc
only_fault (Some denied) found error is = cc

nothing_denied : (memory : Memory) (address size : ℕ) (error : Errno) → size ≡ 0 → structure memory address size ≡ Err error → ⊥
unfolding first_denied
nothing_denied memory address size error none is =
    let loaded : structure memory address 0 ≡ Err error = ap (structure memory address) (sym none) ∙ is in cc

error_of : {A B : Type 0} (f : A → B) (given : Given A) (error : Errno) → Err error ≡ read_as f given → given ≡ Err error
error_of f (Ok value) error is = absurd cc
error_of f (Err wrong) error is = cc

pub set_not_found : (memory behind : List ℕ) (program : Memory) (address words count : ℕ) (error : Errno) → (address ≡ 0 → ⊥) → (count ≡ 0 → words ≡ 0)
    → Err error ≡ read_as (λ found. first_fds count (o32.fds_in words found)) (structure program address (4 * words))
    → read_as (first_fds count) (native.fds_at (memory ++ behind) count 1) ≡ read_as (first_fds count) (o32.fds_at program words address)
set_not_found memory behind program address words count error there whole is =
    let failed : structure program address (4 * words) ≡ Err error = error_of (λ found. first_fds count (o32.fds_in words found)) (structure program address (4 * words)) error is in
    let fault : error ≡ EFAULT = only_fault (first_denied Load program.pages address (4 * words)) (guest.bytes_at program.pages address (4 * words)) error failed in
    ap (read_as (first_fds count)) (native_set (memory ++ behind) count 1 (count == 0) refl refl)
    ∙ by (count == 0) refl failed
    ∙ ap (λ (e : Errno). Err e) (sym fault)
    ∙ is ∙ sym (program_set program address words count there) where
      by : (none : Bool) → (count == 0) ≡ none → structure program address (4 * words) ≡ Err error
          → read_as (first_fds count) (if none then Ok [] else host.read_as (native.fds_in count) (host.structure (memory ++ behind) 1 (8 * set_words count))) ≡ Err EFAULT
      by true none failed =
          let empty : 4 * words ≡ 0 = omega (arith, whole (is_none count none)) in
          absurd (nothing_denied program address (4 * words) error empty failed)
      by false none failed = refl

-- as the results of a push

pub pair_pushed : (result : Result ℕ NoMemory) (memory old pushed : List ℕ) (mask size wide : ℕ) → pushed ≡ pair_of mask wide → wide ≡ size → mask < 2 ^ 64 → size < 2 ^ 64
    → OnOk result (memory ≡ padded old ++ pushed) → IfOk result (λ place. place ≡ end_address (padded old))
    → IfOk result (λ place. (behind : List ℕ) → mask_argument_at (memory ++ behind) place ≡ Some (Ok (record { mask = mask; size = size })))
pair_pushed (Ok place) memory old pushed mask size wide is same first second put at =
    λ behind. pair_found memory old behind pushed place mask size put (is ∙ ap (pair_of mask) same) at first second
pair_pushed (Err error) memory old pushed mask size wide is same first second put at = tt

pub set_pushed : (result : Result ℕ NoMemory) (memory old pushed set : List ℕ) (program : Memory) (address words count : ℕ) → (address ≡ 0 → ⊥) → count ≤ 1024 → length set ≡ 32 → ((k : ℕ) → get_or set k 0 < 2 ^ 32)
    → pushed ≡ laid set → Ok (fds_of count set) ≡ read_as (λ found. first_fds count (o32.fds_in words found)) (structure program address (4 * words))
    → OnOk result (memory ≡ padded old ++ pushed) → IfOk result (λ place. place ≡ end_address (padded old))
    → IfOk result (λ place. FindsSet memory count place (o32.fds_at program words address))
set_pushed (Ok place) memory old pushed set program address words count there few long small same is put at =
    λ behind. set_found memory old behind set program address words count place there few long small (put ∙ ap (λ (bs : List ℕ). padded old ++ bs) same) at is
set_pushed (Err error) memory old pushed set program address words count there few long small same is put at = tt
