-- The calls that make pipes, as native calls.
use Rattle.std.proofs.Common.{◌≡◌, ℕ, ◌+◌, ◌*◌, ◌<◌, ◌/◌, ◌%◌, ◌^◌, List, [], ◌∷◌, length, replicate, Some, refl, sym, ap, ◌∙◌, subst, arith}
use Rattle.std.proofs.lemmas.Bool.Decides.{nat_tests}
use Rattle.std.specs.Prelude.{true, false, Bool, Option, None, ◌==◌, is_none, if◌then◌else◌}
use Rattle.guest_space.specs.Access.{first_denied, writable_prefix, bytes_before}
use Rattle.guest_space.specs.Memory.{Pages}
use Rattle.guest_space.specs.declared.access.Access.TheVariants.{Store}
use Rattle.guest_space.specs.declared.access.Denied.{Denied}
use Rattle.guest_space.proofs.Prefixes.{denied-stands}
use Rattle.kernel_core.specs.declared.error.Errno.{Errno}
use Rattle.kernel_core.specs.declared.error.Errno.TheVariants.{EPERM, EINVAL, EMFILE, EFAULT}
use Rattle.kernel_model.specs.Came.{Came, Done, Refused, Waits, told_as}
use Rattle.kernel_model.specs.DescriptorRows.{PipeFlags, Ends, make_pipe}
use Rattle.kernel_model.specs.State.{Kernel, Files}
use Rattle.kernel_model.specs.Table.{lowest_free}
use Rattle.kernel_model.specs.Whole.{on_files}
use Rattle.native_calls.specs.Descriptors as native
use Rattle.native_calls.specs.Step as native_step
use Rattle.native_calls.specs.Step.{NativeStep}
use Rattle.native_calls.specs.Table.{native_call}
use Rattle.o32_model.specs.Descriptors as o32
use Rattle.o32_model.specs.GuestBytes.{is_storable}
use Rattle.o32_model.specs.Step as o32_step
use Rattle.o32_model.specs.Step.{Guest}
use Rattle.o32_model.specs.declared.call_words.CallWords.{CallWords}
use Rattle.o32_model.specs.declared.outcome.Outcome.TheVariants as outcomes
use Rattle.bridge_log.proofs.Filling.{stored_nothing}
use Rattle.bridge_log.proofs.Replies.{outcome_of_failure, outcome_of_wake}
use Rattle.bridge_log.specs.Bounds.{Bounded}
use Rattle.bridge_log.specs.Mirrors.{Mirrors}
use Rattle.host_mem.specs.Memory.{is_inside}
use Rattle.bridge_io.proofs.Fitting.{bounded_some, lowest_below}
use Rattle.bridge_io.proofs.Storing.{stored_of_failure, storable_word}
use Rattle.bridge_io.specs.declared.structures.Structure.TheVariants.{Pair}
use Rattle.bridge_io.specs.inside.Outcomes.{told_pair, outcome_pair, number_of_flags, native_pipe_flags, host_place}
use Rattle.bridge_io.specs.inside.Stores.{Stores}

-- What may be stored

all_stored : (pages : Pages) (address count : ℕ) (denied : Option Denied) → first_denied Store pages address count ≡ denied → (bytes_before address count denied == count) ≡ is_none denied
all_stored pages address count None is = grind (arith, nat_tests)
all_stored pages address count (Some denied) is =
    let stands = denied-stands Store pages count address denied is in
    let from = stands.from in
    let below = stands.below in
    grind (arith, nat_tests)

pub whole_prefix : (pages : Pages) (address count : ℕ) → (writable_prefix pages address count == count) ≡ is_none (first_denied Store pages address count)
unfolding writable_prefix
whole_prefix pages address count = all_stored pages address count (first_denied Store pages address count) refl

-- A pipe's descriptors are below 1,024.

abbrev Words : Ends → Type 0
Words ends = (ends.read < 2 ^ 32) × (ends.write < 2 ^ 32)

pipe_bounded : (files : Files) (flags : Option PipeFlags) → length files.table.fds ≡ 1024 → Bounded Words (make_pipe files flags).came
unfolding make_pipe
pipe_bounded files flags whole =
    bounded_some Words files EINVAL flags _ (λ flags _.
    bounded_some Words files EMFILE (lowest_free files.table.fds 0) _ (λ read free.
    bounded_some Words files EMFILE (lowest_free files.table.fds (read + 1)) _ (λ write next.
    let first = lowest_below files.table.fds 0 read free in
    let second = lowest_below files.table.fds (read + 1) write next in
    (omega arith, omega arith))))

pub nowhere : (pages : Pages) (address count there : ℕ) → there ≡ writable_prefix pages address count → (there ≡ count → ⊥) → is_none (first_denied Store pages address count) ≡ false
nowhere pages address count there is apart =
    let e : (writable_prefix pages address count == count) ≡ false = grind (arith, nat_tests) in
    sym (whole_prefix pages address count) ∙ e

-- pipe(2)

int_again : (n : ℕ) → n < 2 ^ 32 → n % 256 + 0x100 * (n / 256 % 256) + 0x1_0000 * (n / 65536 % 256) + 0x100_0000 * (n / 16777216 % 256) ≡ n
int_again n word = omega arith

pair_of_failure : (words : CallWords) (memory : List ℕ) (error : Errno) → outcome_pair words memory (native_step.failure error) ≡ o32_step.failure error
pair_of_failure words memory EPERM = refl
pair_of_failure words memory _ = refl

pair_alike : (guest : Guest) (kernel : Kernel) (left : List ℕ) (came : Came Ends) → Bounded Words came
    → Mirrors guest (told_pair guest.words) (native_step.stores (replicate 8 0) 65536 (told_as native.pair_bytes (native.given_pair true (record { state = kernel; came = came }))) left)
    (o32_step.comes_to o32.both_ends guest (record { state = kernel; came = came }) left)
pair_alike guest kernel left (Done ends) bounded = record {
  kernel = refl;
  left = refl;
  native_sends = refl;
  sends = refl;
  stored = refl;
  set = refl;
  came = λ i. outcomes.Pair (sym (int_again ends.read bounded.0) i) (sym (int_again ends.write bounded.1) i);
}
pair_alike guest kernel left (Refused error) bounded = record {
  kernel = refl;
  left = refl;
  native_sends = refl;
  sends = refl;
  stored = refl;
  set = refl;
  came = sym (pair_of_failure guest.words (replicate 8 0) error);
}
pair_alike guest kernel left (Waits wake) bounded = record {
  kernel = refl;
  left = refl;
  native_sends = refl;
  sends = refl;
  stored = refl;
  set = refl;
  came = sym (outcome_of_wake guest.words wake bounded);
}

pub pipe_mirrors : (guest : Guest) (kernel : Kernel) (left : List ℕ) → length kernel.files.table.fds ≡ 1024
    → Mirrors guest (told_pair guest.words) (native_call 59 (65536 ∷ 0 ∷ 0 ∷ 0 ∷ 0 ∷ 0 ∷ []) kernel (replicate 8 0) left) (o32.pipe_row kernel guest left)
unfolding native.pipe2_row o32.pipe_row
pipe_mirrors guest kernel left whole =
    let made = make_pipe kernel.files (Some o32.no_pipe_flags) in
    pair_alike guest (on_files kernel made).state left made.came (pipe_bounded kernel.files (Some o32.no_pipe_flags) whole)

-- pipe2(2)

flags_again : (flags : Option PipeFlags) → native.pipe_flags (number_of_flags flags) ≡ flags
flags_again None = refl
flags_again (Some flags) = by_bits flags.cloexec flags.nonblock
  where
    by_bits : (cloexec nonblock : Bool) → native.pipe_flags (native.pipe_number (record { cloexec = cloexec; nonblock = nonblock })) ≡ Some (record { cloexec = cloexec; nonblock = nonblock })
    by_bits true true = refl
    by_bits true false = refl
    by_bits false true = refl
    by_bits false false = refl

pub flags_word : (flags : Option PipeFlags) → number_of_flags flags % 2 ^ 32 ≡ number_of_flags flags
flags_word None = refl
flags_word (Some flags) = by_bits flags.cloexec flags.nonblock
  where
    by_bits : (cloexec nonblock : Bool) → native.pipe_number (record { cloexec = cloexec; nonblock = nonblock }) % 2 ^ 32 ≡ native.pipe_number (record { cloexec = cloexec; nonblock = nonblock })
    by_bits true true = refl
    by_bits true false = refl
    by_bits false true = refl
    by_bits false false = refl

place_alike : (guest : Guest) (kernel : Kernel) (address : ℕ) (left : List ℕ) (came : Came Ends) (storable : Bool) → is_storable guest.memory address 8 ≡ storable → Bounded Words came
    → Stores guest address Pair
    (native_step.stores (replicate 8 0) (if storable then 65536 else 0) (told_as native.pair_bytes (native.given_pair storable (record { state = kernel; came = came }))) left)
    (o32_step.stores guest address (told_as o32.pair_bytes (o32.given_pair storable (record { state = kernel; came = came }))) left)
place_alike guest kernel address left (Done ends) true is bounded = record {
  kernel = refl;
  left = refl;
  native_sends = refl;
  sends = refl;
  stored = refl;
  set = refl;
  came = ap (λ (b : Bool). if b then o32_step.value 0 else o32_step.failure EFAULT) is;
}
place_alike guest kernel address left (Done ends) false is bounded = record {
  kernel = refl;
  left = refl;
  native_sends = refl;
  sends = refl;
  stored = storable_word guest.memory address (o32.pair_bytes ends) false is ∙ sym (stored_nothing guest.memory address);
  set = refl;
  came = ap (λ (b : Bool). if b then o32_step.value 0 else o32_step.failure EFAULT) is;
}
place_alike guest kernel address left (Refused error) storable is bounded = record {
  kernel = refl;
  left = refl;
  native_sends = refl;
  sends = refl;
  stored = stored_of_failure guest.memory address Pair (replicate 8 0) error;
  set = refl;
  came = sym (outcome_of_failure guest.words error);
}
place_alike guest kernel address left (Waits wake) storable is bounded = record {
  kernel = refl;
  left = refl;
  native_sends = refl;
  sends = refl;
  stored = sym (stored_nothing guest.memory address);
  set = refl;
  came = sym (outcome_of_wake guest.words wake bounded);
}

inside_is : (storable : Bool) → is_inside (replicate 8 0) (if storable then 65536 else 0) 8 ≡ storable
inside_is true = refl
inside_is false = refl

pub pipe2_stores : (guest : Guest) (kernel : Kernel) (left : List ℕ) (first second address flags : ℕ) → length kernel.files.table.fds ≡ 1024 → first ≡ host_place guest.memory address 8 → second ≡ native_pipe_flags flags
    → Stores guest address Pair (native_call 59 (first ∷ second ∷ 0 ∷ 0 ∷ 0 ∷ 0 ∷ []) kernel (replicate 8 0) left) (o32.pipe2_row kernel guest address flags left)
unfolding native.pipe2_row o32.pipe2_row
pipe2_stores guest kernel left first second address flags whole first_is second_is =
    let room = replicate {A = ℕ} 8 0 in
    let storable = is_storable guest.memory address 8 in
    let made = make_pipe kernel.files (o32.pipe_flags flags) in
    let wanted : native.pipe_flags (second % 2 ^ 32) ≡ o32.pipe_flags flags =
    ap (λ (n : ℕ). native.pipe_flags (n % 2 ^ 32)) second_is ∙ ap native.pipe_flags (flags_word (o32.pipe_flags flags)) ∙ flags_again (o32.pipe_flags flags) in
    let same : native_call 59 (first ∷ second ∷ 0 ∷ 0 ∷ 0 ∷ 0 ∷ []) kernel room left
    ≡ native_step.stores room (if storable then 65536 else 0) (told_as native.pair_bytes (native.given_pair storable (on_files kernel made))) left =
    ap (λ (n : ℕ). native_step.stores room n (told_as native.pair_bytes (native.given_pair (is_inside room n 8) (on_files kernel (make_pipe kernel.files (native.pipe_flags (second % 2 ^ 32)))))) left) first_is
    ∙ ap (λ (b : Bool). native_step.stores room (if storable then 65536 else 0) (told_as native.pair_bytes (native.given_pair b (on_files kernel (make_pipe kernel.files (native.pipe_flags (second % 2 ^ 32)))))) left) (inside_is storable)
    ∙ ap (λ (f : Option PipeFlags). native_step.stores room (if storable then 65536 else 0) (told_as native.pair_bytes (native.given_pair storable (on_files kernel (make_pipe kernel.files f)))) left) wanted in
    subst (λ (n : NativeStep). Stores guest address Pair n (o32.pipe2_row kernel guest address flags left)) (sym same)
    (place_alike guest (on_files kernel made).state address left made.came storable refl (pipe_bounded kernel.files (o32.pipe_flags flags) whole))
