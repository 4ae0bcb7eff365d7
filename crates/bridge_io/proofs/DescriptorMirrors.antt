-- The calls on descriptors, as native calls.
use Rattle.std.proofs.Common.{◌≡◌, ℕ, ◌<◌, ◌%◌, ◌^◌, List, [], ◌∷◌, length, Some, refl, sym, ap, ◌∙◌, subst, arith}
use Rattle.std.specs.Prelude.{⊤, true, false, Bool, Option, None, ◌==◌, ◌*◌, nat_le}
use Rattle.kernel_core.specs.Bits.{one_if}
use Rattle.kernel_core.specs.declared.error.Errno.TheVariants.{EBADF, EINVAL}
use Rattle.kernel_model.specs.Came.{Did, told_zero, told_as, with_some, refused_if, done}
use Rattle.kernel_model.specs.DescriptorRows.{after_duplicate_onto, close, close_on_exec, duplicate, duplicate_onto, duplicate_onto_with}
use Rattle.kernel_model.specs.Descriptions.{opened}
use Rattle.kernel_model.specs.State.{Kernel, Files}
use Rattle.kernel_model.specs.Table.{descriptor_limit, lowest_free}
use Rattle.kernel_model.specs.declared.descriptor.Description.{Description}
use Rattle.kernel_model.specs.Whole.{on_files}
use Rattle.native_calls.specs.Descriptors as native
use Rattle.native_calls.specs.Step as native_step
use Rattle.native_calls.specs.Table.{native_call}
use Rattle.o32_model.specs.Descriptors as o32
use Rattle.o32_model.specs.Step as o32_step
use Rattle.o32_model.specs.Step.{Guest}
use Rattle.bridge_log.proofs.Mirroring.{mirrors_gives}
use Rattle.bridge_log.proofs.Replies.{Fits}
use Rattle.bridge_log.specs.Bounds.{Bounded}
use Rattle.bridge_log.specs.Mirrors.{Mirrors}
use Rattle.bridge_log.specs.Outcomes.{by_reply}
use Rattle.bridge_io.proofs.Fitting.{bounded_some, bounded_if, fits_zero, lowest_below}
use Rattle.bridge_io.specs.inside.Outcomes.{told_value}

-- six arguments
abbrev pub one : ℕ → List ℕ
one first = first ∷ 0 ∷ 0 ∷ 0 ∷ 0 ∷ 0 ∷ []

-- a descriptor's low 32 bits are all of it
along : (guest : Guest) (memory left : List ℕ) (row : ℕ → Did Kernel ℕ) (first fd : ℕ) → first ≡ fd → fd < 2 ^ 32 → Fits (row fd).came → Mirrors guest (by_reply guest.words) (native_step.gives memory (row (first % 2 ^ 32)) left) (o32_step.gives guest (row fd) left)
along guest memory left row first fd same word fits =
    let is : first % 2 ^ 32 ≡ fd = omega arith in
    subst (λ (n : ℕ). Mirrors guest (by_reply guest.words) (native_step.gives memory (row n) left) (o32_step.gives guest (row fd) left)) (sym is) (mirrors_gives guest memory (row fd) left fits)

close_bounded : (files : Files) (fd : ℕ) → Bounded (λ _. ⊤) (close files fd).came
unfolding close
close_bounded files fd = bounded_some (λ _. ⊤) files _ (opened files fd) _ (λ _ _. tt)

pub close_mirrors : (guest : Guest) (kernel : Kernel) (memory left : List ℕ) (first fd : ℕ) → first ≡ fd → fd < 2 ^ 32 → Mirrors guest (by_reply guest.words) (native_call 57 (one first) kernel memory left) (o32.close_row kernel guest fd left)
unfolding native.close_row o32.close_row
close_mirrors guest kernel memory left first fd same word =
    along guest memory left (λ n. told_zero (on_files kernel (close kernel.files n))) first fd same word (fits_zero (close kernel.files fd).came (close_bounded kernel.files fd))

pub duplicate_fits : (files : Files) (fd : ℕ) (from : Option ℕ) (cloexec : Bool) → length files.table.fds ≡ 1024 → Fits (duplicate files fd from cloexec).came
unfolding duplicate
duplicate_fits files fd from cloexec whole =
    bounded_some (λ new. new < 2 ^ 32) files _ (opened files fd) _ (λ _ _.
    bounded_some (λ new. new < 2 ^ 32) files _ from _ (λ least _.
    bounded_if (λ new. new < 2 ^ 32) _ _ files _ (
    bounded_some (λ new. new < 2 ^ 32) files _ (lowest_free files.table.fds least) _ (λ new free.
    let below = lowest_below files.table.fds least new free in omega arith))))

pub dup_mirrors : (guest : Guest) (kernel : Kernel) (memory left : List ℕ) (first fd : ℕ) → length kernel.files.table.fds ≡ 1024 → first ≡ fd → fd < 2 ^ 32 → Mirrors guest (by_reply guest.words) (native_call 23 (one first) kernel memory left) (o32.dup_row kernel guest fd left)
unfolding native.dup_row o32.dup_row
dup_mirrors guest kernel memory left first fd whole same word =
    along guest memory left (λ n. on_files kernel (duplicate kernel.files n (Some 0) false)) first fd same word (duplicate_fits kernel.files fd (Some 0) false whole)

-- a row of the same numbers

pub same_gives : (guest : Guest) (memory left : List ℕ) (native_did did : Did Kernel ℕ) → native_did ≡ did → Fits did.came → Mirrors guest (by_reply guest.words) (native_step.gives memory native_did left) (o32_step.gives guest did left)
same_gives guest memory left native_did did same fits =
    subst (λ (d : Did Kernel ℕ). Mirrors guest (by_reply guest.words) (native_step.gives memory d left) (o32_step.gives guest did left)) (sym same) (mirrors_gives guest memory did left fits)

onto_with_fits : (files : Files) (fd onto : ℕ) (cloexec : Option Bool) → onto < 2 ^ 32 → Fits (duplicate_onto_with files fd onto cloexec).came
unfolding duplicate_onto_with
onto_with_fits files fd onto cloexec word =
    bounded_some (λ new. new < 2 ^ 32) files EBADF (opened files fd) _ (λ _ _.
    bounded_if (λ new. new < 2 ^ 32) (fd == onto) EINVAL files
    (refused_if (nat_le descriptor_limit onto) EBADF files (with_some files EINVAL cloexec (λ cloexec. done (after_duplicate_onto files fd onto cloexec) onto))) (
    bounded_if (λ new. new < 2 ^ 32) (nat_le descriptor_limit onto) EBADF files
    (with_some files EINVAL cloexec (λ cloexec. done (after_duplicate_onto files fd onto cloexec) onto)) (
    bounded_some (λ new. new < 2 ^ 32) files EINVAL cloexec (λ cloexec. done (after_duplicate_onto files fd onto cloexec) onto) (λ _ _. word))))

pub dup3_mirrors : (guest : Guest) (kernel : Kernel) (memory left : List ℕ) (first second third fd onto flags : ℕ) → first ≡ fd → second ≡ onto → third ≡ flags → fd < 2 ^ 32 → onto < 2 ^ 32 → flags < 2 ^ 32
    → Mirrors guest (by_reply guest.words) (native_call 24 (first ∷ second ∷ third ∷ 0 ∷ 0 ∷ 0 ∷ []) kernel memory left) (o32.dup3_row kernel guest fd onto flags left)
unfolding native.dup3_row o32.dup3_row
dup3_mirrors guest kernel memory left first second third fd onto flags one_is two_is three_is word second_word third_word =
    let e1 : first % 2 ^ 32 ≡ fd = omega arith in
    let e2 : second % 2 ^ 32 ≡ onto = omega arith in
    let e3 : third % 2 ^ 32 ≡ flags = omega arith in
    same_gives guest memory left _ (on_files kernel (duplicate_onto_with kernel.files fd onto (o32.cloexec_of flags)))
    (ap (λ (n : ℕ). on_files kernel (duplicate_onto_with kernel.files n (second % 2 ^ 32) (native.cloexec_of (third % 2 ^ 32)))) e1
    ∙ ap (λ (n : ℕ). on_files kernel (duplicate_onto_with kernel.files fd n (native.cloexec_of (third % 2 ^ 32)))) e2
    ∙ ap (λ (n : ℕ). on_files kernel (duplicate_onto_with kernel.files fd onto (native.cloexec_of n))) e3)
    (onto_with_fits kernel.files fd onto (o32.cloexec_of flags) second_word)

-- dup2(2) of two descriptors is dup3(2) without flags

onto_is : (files : Files) (fd onto : ℕ) → (fd == onto) ≡ false → duplicate_onto_with files fd onto (Some false) ≡ duplicate_onto files fd onto
unfolding duplicate_onto_with duplicate_onto
onto_is files fd onto other = rw other

pub dup2_mirrors : (guest : Guest) (kernel : Kernel) (memory left : List ℕ) (first second fd onto : ℕ) → first ≡ fd → second ≡ onto → fd < 2 ^ 32 → onto < 2 ^ 32 → (fd == onto) ≡ false
    → Mirrors guest (by_reply guest.words) (native_call 24 (first ∷ second ∷ 0 ∷ 0 ∷ 0 ∷ 0 ∷ []) kernel memory left) (o32.dup2_row kernel guest fd onto left)
unfolding native.dup3_row o32.dup2_row
dup2_mirrors guest kernel memory left first second fd onto one_is two_is word second_word other =
    let e1 : first % 2 ^ 32 ≡ fd = omega arith in
    let e2 : second % 2 ^ 32 ≡ onto = omega arith in
    let same = onto_is kernel.files fd onto other in
    same_gives guest memory left _ (on_files kernel (duplicate_onto kernel.files fd onto))
    (ap (λ (n : ℕ). on_files kernel (duplicate_onto_with kernel.files n (second % 2 ^ 32) (Some false))) e1
    ∙ ap (λ (n : ℕ). on_files kernel (duplicate_onto_with kernel.files fd n (Some false))) e2
    ∙ ap (on_files kernel) same)
    (subst (λ (d : Did Files ℕ). Fits d.came) same (onto_with_fits kernel.files fd onto (Some false) second_word))

-- dup2(2) onto itself is F_GETFD, whose number is the descriptor then

abbrev pub told_onto : Kernel → Files → ℕ → ℕ → Did Kernel ℕ
told_onto kernel files fd onto = on_files kernel (with_some files EBADF (opened files fd) (λ _. done files onto))

itself_is : (files : Files) (fd onto : ℕ) → (fd == onto) ≡ true → duplicate_onto files fd onto ≡ with_some files EBADF (opened files fd) (λ _. done files onto)
unfolding duplicate_onto
itself_is files fd onto itself = rw itself

getfd_alike : (guest : Guest) (kernel : Kernel) (memory left : List ℕ) (onto : ℕ) (there : Option Description) (cloexec : Bool)
    → Mirrors guest (told_value guest.words onto)
    (native_step.gives memory (told_as (λ c. 1 * one_if c) (on_files kernel (with_some kernel.files EBADF there (λ _. done kernel.files cloexec)))) left)
    (o32_step.gives guest (on_files kernel (with_some kernel.files EBADF there (λ _. done kernel.files onto))) left)
getfd_alike guest kernel memory left onto None cloexec = record { kernel = refl; left = refl; native_sends = refl; sends = refl; stored = refl; set = refl; came = refl }
getfd_alike guest kernel memory left onto (Some there) true = record { kernel = refl; left = refl; native_sends = refl; sends = refl; stored = refl; set = refl; came = refl }
getfd_alike guest kernel memory left onto (Some there) false = record { kernel = refl; left = refl; native_sends = refl; sends = refl; stored = refl; set = refl; came = refl }

getfd_same : (guest : Guest) (kernel : Kernel) (memory left : List ℕ) (first fd onto : ℕ) → first % 2 ^ 32 ≡ fd
    → Mirrors guest (told_value guest.words onto) (native_call 25 (first ∷ 1 ∷ 0 ∷ 0 ∷ 0 ∷ 0 ∷ []) kernel memory left) (o32_step.gives guest (told_onto kernel kernel.files fd onto) left)
unfolding native.fcntl_row close_on_exec
getfd_same guest kernel memory left first fd onto same =
    subst (λ (n : ℕ). Mirrors guest (told_value guest.words onto) (native_call 25 (first ∷ 1 ∷ 0 ∷ 0 ∷ 0 ∷ 0 ∷ []) kernel memory left) (o32_step.gives guest (told_onto kernel kernel.files n onto) left)) same
    (getfd_alike guest kernel memory left onto (opened kernel.files (first % 2 ^ 32)) _)

pub dup2_itself_mirrors : (guest : Guest) (kernel : Kernel) (memory left : List ℕ) (first fd onto : ℕ) → first ≡ fd → fd < 2 ^ 32 → (fd == onto) ≡ true
    → Mirrors guest (told_value guest.words onto) (native_call 25 (first ∷ 1 ∷ 0 ∷ 0 ∷ 0 ∷ 0 ∷ []) kernel memory left) (o32.dup2_row kernel guest fd onto left)
unfolding o32.dup2_row
dup2_itself_mirrors guest kernel memory left first fd onto one_is word itself =
    let e1 : first % 2 ^ 32 ≡ fd = omega arith in
    subst (λ (d : Did Files ℕ). Mirrors guest (told_value guest.words onto) (native_call 25 (first ∷ 1 ∷ 0 ∷ 0 ∷ 0 ∷ 0 ∷ []) kernel memory left) (o32_step.gives guest (on_files kernel d) left))
    (sym (itself_is kernel.files fd onto itself))
    (getfd_same guest kernel memory left first fd onto e1)
