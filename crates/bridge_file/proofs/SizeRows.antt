-- The calls on sizes and places, as native calls.
use Rattle.std.proofs.Common.{◌≡◌, ℕ, ◌+◌, ◌≤◌, ◌<◌, ◌^◌, ◌%◌, List, [], ◌∷◌, Option, Some, None, Ok, Err, refl, sym, ap, subst, arith}
use Rattle.std.proofs.lemmas.Bool.Decides.{nat_tests}
use Rattle.std.specs.Int.{cast_signed, w32, w64}
use Rattle.std.specs.Prelude.{ℤ, Bool, true, false, not, pos, negsuc, ◌+ℤ◌, int_lt, nat_abs, nat_lt, if◌then◌else◌}
use Rattle.kernel_core.specs.NodeCalls.{resize_refusal}
use Rattle.kernel_core.specs.Nodes.{NodeContent, File, Directory, Link}
use Rattle.kernel_core.specs.declared.error.Errno.{Errno}
use Rattle.kernel_core.specs.declared.error.Errno.TheVariants.{EBADF, EFAULT, EINVAL, EOVERFLOW, EPERM, ESPIPE}
use Rattle.kernel_model.specs.Came.{Came, Done, Refused, Waits, Did, Given, refused, told_as, told_zero}
use Rattle.kernel_model.specs.Clock.{now}
use Rattle.kernel_model.specs.ContentRows.{is_position, seek, seek_from}
use Rattle.kernel_model.specs.Descriptions.{content_at, node_of, opened, writable}
use Rattle.kernel_model.specs.NodeRows.{truncate, truncate_content, truncate_open}
use Rattle.kernel_model.specs.Paths.{Working, walk_to_node}
use Rattle.kernel_model.specs.State.{Kernel, Files}
use Rattle.kernel_model.specs.Whole.{marked, on_files}
use Rattle.native_calls.specs.Nodes as native
use Rattle.native_calls.specs.Status as native_status
use Rattle.native_calls.specs.Step as native_step
use Rattle.native_calls.specs.Table.{native_call}
use Rattle.o32_model.specs.Narrow.{narrowed, unless_wide}
use Rattle.o32_model.specs.NodeCalls as o32
use Rattle.o32_model.specs.Opening as opening
use Rattle.o32_model.specs.Opening.{is_far, place_bytes}
use Rattle.o32_model.specs.Step as o32_step
use Rattle.o32_model.specs.Step.{Guest, failure}
use Rattle.o32_model.specs.Transfers.{small_file_limit}
use Rattle.o32_model.specs.declared.call_words.CallWords.{CallWords}
use Rattle.o32_model.specs.declared.outcome.Outcome.TheVariants as outcomes
use Rattle.bridge_paths.proofs.Passed.{Still}
use Rattle.bridge_paths.proofs.Passed.{Fits, outcome_of_wake, word_stays}
use Rattle.bridge_paths.specs.Passed.{Bounded}
use Rattle.bridge_paths.specs.Passed.{Mirrors}
use Rattle.bridge_paths.specs.Passed.{by_reply, outcome_of}
use Rattle.bridge_paths.proofs.Rows.{Anything, bounded_by, bounded_given, bounded_if, bounded_some, fits_zero, same_gives, word}
use Rattle.bridge_file.proofs.Rows.{one_path}
use Rattle.bridge_file.proofs.Tellings.{told_of_failure, outcome_told_of_failure}
use Rattle.bridge_file.specs.declared.telling.Told.TheVariants.{Place}
use Rattle.bridge_file.specs.inside.Paths.{MirrorsPath}
use Rattle.bridge_file.specs.inside.Places.{outcome_of_place, told_place}
use Rattle.bridge_file.specs.inside.Tells.{Tells}

-- Numbers of 32 bits as numbers of 64

pub wide_low : (number : ℕ) → number < 2 ^ 31 → cast_signed w64 number ≡ cast_signed w32 number
wide_low number low =
    let short : nat_lt number (2 ^ 31) ≡ true = grind (arith, nat_tests) in
    let long : nat_lt number (2 ^ 63) ≡ true = grind (arith, nat_tests) in
    rw (short, long) refl

pub wide_high : (number : ℕ) → 2 ^ 31 ≤ number → number < 2 ^ 32 → cast_signed w64 (number + 18446744069414584320) ≡ cast_signed w32 number
wide_high number high fits =
    let short : nat_lt number (2 ^ 31) ≡ false = grind (arith, nat_tests) in
    let long : nat_lt (number + 18446744069414584320) (2 ^ 63) ≡ false = grind (arith, nat_tests) in
    rw (short, long) (ap negsuc (omega arith))

-- Sizes

content_bounded : (files : Files) (now : ℤ) (node size : ℕ) (content : Option NodeContent) → Bounded Anything (truncate_content files now node size content).came
content_bounded files now node size None = tt
content_bounded files now node size (Some (Directory listing)) = tt
content_bounded files now node size (Some (Link target)) = tt
content_bounded files now node size (Some (File content)) = bounded_by Anything (resize_refusal size) files _ tt

abbrev truncate_as : Kernel → ℤ → Given (List ℕ) → Did Kernel ℕ
truncate_as kernel size path = told_zero (marked kernel (λ files now. truncate files now Working path size))

truncate_bounded : (files : Files) (now : ℤ) (path : List ℕ) (size : ℤ) → Bounded Anything (truncate files now Working (Ok path) size).came
unfolding truncate
truncate_bounded files now path size =
    bounded_if Anything (int_lt size (pos 0)) EINVAL files _
    (bounded_given Anything files (walk_to_node files Working path true) _ (λ node.
    content_bounded files now node (nat_abs size) (content_at files.nodes node)))

truncate_fits : (kernel : Kernel) (size : ℤ) (path : List ℕ) → Fits (truncate_as kernel size (Ok path)).came
truncate_fits kernel size path = fits_zero _ (truncate_bounded kernel.files (now kernel) path size)

truncate_lost : (kernel : Kernel) (size : ℤ) (error : Errno) → truncate_as kernel size (Err error) ≡ refused kernel error
unfolding truncate
truncate_lost kernel size error = refl

pub truncate_mirrors : (guest : Guest) (kernel : Kernel) (address size : ℕ)
    → MirrorsPath guest kernel address (native_call 45 (65536 ∷ size ∷ 0 ∷ 0 ∷ 0 ∷ 0 ∷ []) kernel) (o32.truncate_row kernel guest address (cast_signed w64 size))
unfolding native.truncate_row o32.truncate_row
truncate_mirrors guest kernel address size =
    one_path guest kernel address (truncate_as kernel (cast_signed w64 size)) (truncate_fits kernel (cast_signed w64 size)) (truncate_lost kernel (cast_signed w64 size))

abbrev ftruncate_as : Kernel → ℤ → ℕ → Did Kernel ℕ
ftruncate_as kernel size fd = told_zero (marked kernel (λ files now. truncate_open files now fd size))

ftruncate_fits : (kernel : Kernel) (size : ℤ) (fd : ℕ) → Fits (ftruncate_as kernel size fd).came
unfolding truncate_open
ftruncate_fits kernel size fd =
    fits_zero _ (bounded_some Anything kernel.files EBADF (opened kernel.files fd) _ (λ _.
    bounded_if Anything (int_lt size (pos 0)) EINVAL kernel.files _
    (bounded_some Anything kernel.files EINVAL (writable kernel.files fd) _ (λ description.
    bounded_some Anything kernel.files EINVAL (node_of description.object) _ (λ node.
    content_bounded kernel.files (now kernel) node (nat_abs size) (content_at kernel.files.nodes node))))))

pub ftruncate_mirrors : (guest : Guest) (kernel : Kernel) (memory left : List ℕ) (given_fd fd size : ℕ) → given_fd ≡ fd → fd < 2 ^ 32
    → Mirrors guest (by_reply guest.words) (native_call 46 (given_fd ∷ size ∷ 0 ∷ 0 ∷ 0 ∷ 0 ∷ []) kernel memory left) (o32.ftruncate_row kernel guest fd (cast_signed w64 size) left)
unfolding native.ftruncate_row o32.ftruncate_row
ftruncate_mirrors guest kernel memory left given_fd fd size one first =
    same_gives guest memory left (ftruncate_as kernel (cast_signed w64 size) (given_fd % 2 ^ 32)) (ftruncate_as kernel (cast_signed w64 size) fd) (ftruncate_as kernel (cast_signed w64 size) fd)
    (ap (ftruncate_as kernel (cast_signed w64 size)) (word given_fd fd one first)) refl (ftruncate_fits kernel (cast_signed w64 size) fd)

-- Places

abbrev seek_as : Kernel → ℕ → ℤ → ℕ → Did Kernel ℕ
seek_as kernel fd offset origin = on_files kernel (seek kernel.files fd offset origin)

seek_bounded : (kernel : Kernel) (fd : ℕ) (offset : ℤ) (origin : ℕ) → Bounded Anything (seek_as kernel fd offset origin).came
unfolding seek
seek_bounded kernel fd offset origin =
    bounded_some Anything kernel.files EBADF (opened kernel.files fd) _ (λ description.
    bounded_some Anything kernel.files ESPIPE (node_of description.object) _ (λ node.
    bounded_some Anything kernel.files EINVAL (seek_from kernel.files.nodes description node origin) _ (λ from.
    bounded_if Anything (not (is_position (pos from +ℤ offset))) EINVAL kernel.files _ tt)))

place_of_failure : (words : CallWords) (error : Errno) → outcome_of_place words (native_step.failure error) ≡ failure error
place_of_failure words EPERM = refl
place_of_failure words _ = refl

place_by : (words : CallWords) (place : ℕ) (far : Bool) → nat_lt small_file_limit place ≡ far
    → (if far then outcomes.Error EOVERFLOW else outcome_of words (native_step.value place)) ≡ o32_step.outcome_of o32_step.value words (if far then Refused EOVERFLOW else Done place)
place_by words place true is = refl
place_by words place false is = ap outcomes.Value (word_stays place (grind (arith, nat_tests)))

place_came : (words : CallWords) (came : Came ℕ) → Bounded Anything came
    → outcome_of_place words (native_step.reply_to native_step.value came) ≡ o32_step.outcome_of o32_step.value words (unless_wide is_far came)
place_came words (Done place) bounded = place_by words place (nat_lt small_file_limit place) refl
place_came words (Refused error) bounded = place_of_failure words error
place_came words (Waits wake) bounded = outcome_of_wake words wake bounded

place_mirrors : (guest : Guest) (memory left : List ℕ) (did : Did Kernel ℕ) → Bounded Anything did.came
    → Mirrors guest (told_place guest.words) (native_step.gives memory did left) (o32_step.gives guest (narrowed is_far did) left)
place_mirrors guest memory left did bounded = record {
  kernel = refl;
  left = refl;
  native_sends = refl;
  sends = refl;
  stored = refl;
  set = refl;
  came = sym (place_came guest.words did.came bounded);
}

pub lseek_mirrors : (guest : Guest) (kernel : Kernel) (memory left : List ℕ) (given_fd given_offset given_origin fd origin : ℕ) (offset : ℤ) → given_fd ≡ fd → given_origin ≡ origin → cast_signed w64 given_offset ≡ offset
    → fd < 2 ^ 32 → origin < 2 ^ 32
    → Mirrors guest (told_place guest.words) (native_call 62 (given_fd ∷ given_offset ∷ given_origin ∷ 0 ∷ 0 ∷ 0 ∷ []) kernel memory left) (opening.lseek_row kernel guest fd offset origin left)
unfolding native_status.lseek_row opening.lseek_row
lseek_mirrors guest kernel memory left given_fd given_offset given_origin fd origin offset one three two first third =
    let e1 = word given_fd fd one first in
    let e3 = word given_origin origin three third in
    subst (λ (d : Did Kernel ℕ). Mirrors guest (told_place guest.words) (native_step.gives memory d left) (o32_step.gives guest (narrowed is_far (seek_as kernel fd offset origin)) left))
    (sym (λ i. seek_as kernel (e1 i) (two i) (e3 i)))
    (place_mirrors guest memory left (seek_as kernel fd offset origin) (seek_bounded kernel fd offset origin))

place_told : (guest : Guest) (kernel : Kernel) (address : ℕ) (memory left : List ℕ) (came : Came ℕ) → Bounded Anything came
    → Tells guest address Place (native_step.gives memory (record { state = kernel; came = came }) left) (o32_step.stores guest address (told_as place_bytes (record { state = kernel; came = came })) left)
place_told guest kernel address memory left (Done place) bounded = record {
  kernel = refl;
  left = refl;
  native_sends = refl;
  sends = refl;
  stored_so = refl;
  set = refl;
  came = refl;
}
place_told guest kernel address memory left (Refused error) bounded = record {
  kernel = refl;
  left = refl;
  native_sends = refl;
  sends = refl;
  stored_so = sym (told_of_failure guest.memory address Place memory error);
  set = refl;
  came = sym (outcome_told_of_failure guest.words guest.memory address Place memory error);
}
place_told guest kernel address memory left (Waits wake) bounded = record {
  kernel = refl;
  left = refl;
  native_sends = refl;
  sends = refl;
  stored_so = refl;
  set = refl;
  came = sym (outcome_of_wake guest.words wake bounded);
}

pub llseek_tells : (guest : Guest) (kernel : Kernel) (address : ℕ) (memory left : List ℕ) (given_fd given_offset given_origin fd origin offset : ℕ) → given_fd ≡ fd → given_origin ≡ origin → given_offset ≡ offset
    → fd < 2 ^ 32 → origin < 2 ^ 32
    → Tells guest address Place (native_call 62 (given_fd ∷ given_offset ∷ given_origin ∷ 0 ∷ 0 ∷ 0 ∷ []) kernel memory left) (opening.llseek_row kernel guest fd offset address (Some origin) left)
unfolding native_status.lseek_row opening.llseek_row
llseek_tells guest kernel address memory left given_fd given_offset given_origin fd origin offset one three two first third =
    let e1 = word given_fd fd one first in
    let e3 = word given_origin origin three third in
    let did = seek_as kernel fd (cast_signed w64 offset) origin in
    subst (λ (d : Did Kernel ℕ). Tells guest address Place (native_step.gives memory d left) (o32_step.stores guest address (told_as place_bytes did) left))
    (sym (λ i. seek_as kernel (e1 i) (cast_signed w64 (two i)) (e3 i)))
    (place_told guest did.state address memory left did.came (seek_bounded kernel fd (cast_signed w64 offset) origin))

pub llseek_unplaced : (guest : Guest) (kernel : Kernel) (left : List ℕ) (fd offset address : ℕ) → Still guest kernel left (failure EFAULT) (opening.llseek_row kernel guest fd offset address None left)
unfolding opening.llseek_row
llseek_unplaced guest kernel left fd offset address = record { kernel_stays = refl; left_stays = refl; sends = refl; stored = refl; set = refl; came = refl }
