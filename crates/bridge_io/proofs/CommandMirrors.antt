-- fcntl(2) as a native call.
use Rattle.std.proofs.Common.{◌≡◌, ◌≢◌, ℕ, ◌+◌, ◌*◌, ◌/◌, ◌<◌, ◌≤◌, ◌%◌, ◌^◌, List, [], ◌∷◌, length, Option, Some, None, refl, sym, ap, ◌∙◌, subst, arith, lit<, lit≤}
use Rattle.std.proofs.lemmas.Bool.Decides.{nat_tests}
use Rattle.std.specs.Prelude.{⊤, true, false, Bool, ◌==◌, ◌||◌, if◌then◌else◌}
use Rattle.kernel_core.specs.Bits.{one_if, has}
use Rattle.kernel_core.specs.declared.error.Errno.TheVariants.{EBADF}
use Rattle.kernel_core.specs.declared.open_flags.Access.{Access}
use Rattle.kernel_core.specs.declared.open_flags.Access.TheVariants as accesses
use Rattle.kernel_model.specs.Came.{told_zero, told_as, with_some, done}
use Rattle.kernel_model.specs.DescriptorRows.{close_on_exec, duplicate, set_close_on_exec, status_flags, set_status_flags, unlisted_command}
use Rattle.kernel_model.specs.Descriptions.{opened}
use Rattle.kernel_model.specs.Shared.{OpenSet}
use Rattle.kernel_model.specs.State.{Kernel, Files}
use Rattle.kernel_model.specs.Whole.{on_files}
use Rattle.kernel_model.specs.declared.descriptor.Description.{Description}
use Rattle.native_calls.specs.Descriptors as native
use Rattle.native_calls.specs.Step as native_step
use Rattle.native_calls.specs.Table.{native_call}
use Rattle.number_tables.specs.Numbered.{numbered}
use Rattle.number_tables.specs.OpenNumbers.{o32_open, native_open, native_open_read, access_number, access_of}
use Rattle.o32_model.specs.Descriptors as o32
use Rattle.o32_model.specs.Step as o32_step
use Rattle.o32_model.specs.Step.{Guest}
use Rattle.bridge_log.proofs.Replies.{Fits, word_stays}
use Rattle.bridge_log.specs.Bounds.{Bounded}
use Rattle.bridge_log.specs.Mirrors.{Mirrors}
use Rattle.bridge_log.specs.Outcomes.{by_reply}
use Rattle.bridge_io.proofs.DescriptorMirrors.{same_gives, duplicate_fits}
use Rattle.bridge_io.proofs.Fitting.{bounded_some, fits_zero}
use Rattle.bridge_io.specs.inside.Outcomes.{handed, told_flags, native_status_flags}

-- Flags are read back from their native number.

one_if-le : (set : Bool) → one_if set ≤ 1
one_if-le true = lit≤ tt
one_if-le false = lit≤ tt

access_number-le : (access : Access) → access_number access ≤ 2
access_number-le accesses.Read = lit≤ tt
access_number-le accesses.Write = lit≤ tt
access_number-le accesses.ReadWrite = lit≤ tt

access_again : (access : Access) (number : ℕ) → number % 4 ≡ access_number access → access_of number ≡ access
access_again accesses.Read number same = rw same
access_again accesses.Write number same = rw same
access_again accesses.ReadWrite number same = rw same

is_one : (set : Bool) (bit : ℕ) → bit ≡ one_if set → (bit == 1) ≡ set
is_one true bit same = rw same
is_one false bit same = rw same

pub flags_again : (flags : OpenSet) → native_open_read (native_open flags) ≡ flags
flags_again flags = λ i. record {
  access = (access_again flags.access (native_open flags) (omega (arith, one_if-le, access_number-le))) i;
  append = (is_one flags.append (native_open flags / 0x400 % 2) (omega (arith, one_if-le, access_number-le))) i;
  dsync = (is_one flags.dsync (native_open flags / 0x1000 % 2) (omega (arith, one_if-le, access_number-le))) i;
  nonblock = (is_one flags.nonblock (native_open flags / 0x800 % 2) (omega (arith, one_if-le, access_number-le))) i;
  creat = (is_one flags.creat (native_open flags / 0x40 % 2) (omega (arith, one_if-le, access_number-le))) i;
  trunc = (is_one flags.trunc (native_open flags / 0x200 % 2) (omega (arith, one_if-le, access_number-le))) i;
  excl = (is_one flags.excl (native_open flags / 0x80 % 2) (omega (arith, one_if-le, access_number-le))) i;
  noctty = (is_one flags.noctty (native_open flags / 0x100 % 2) (omega (arith, one_if-le, access_number-le))) i;
  largefile = (is_one flags.largefile (native_open flags / 0x8000 % 2) (omega (arith, one_if-le, access_number-le))) i;
  sync = (is_one flags.sync (native_open flags / 0x100000 % 2) (omega (arith, one_if-le, access_number-le))) i;
  directory = (is_one flags.directory (native_open flags / 0x10000 % 2) (omega (arith, one_if-le, access_number-le))) i;
  nofollow = (is_one flags.nofollow (native_open flags / 0x20000 % 2) (omega (arith, one_if-le, access_number-le))) i;
  cloexec = (is_one flags.cloexec (native_open flags / 0x80000 % 2) (omega (arith, one_if-le, access_number-le))) i;
}

-- F_GETFL

getfl_alike : (guest : Guest) (kernel : Kernel) (memory left : List ℕ) (there : Option Description)
    → Mirrors guest (told_flags guest.words)
    (native_step.gives memory (told_as native_open (on_files kernel (with_some kernel.files EBADF there (λ (d : Description). done kernel.files d.flags)))) left)
    (o32_step.gives guest (told_as o32_open (on_files kernel (with_some kernel.files EBADF there (λ (d : Description). done kernel.files d.flags)))) left)
getfl_alike guest kernel memory left None = record { kernel = refl; left = refl; native_sends = refl; sends = refl; stored = refl; set = refl; came = refl }
getfl_alike guest kernel memory left (Some there) =
    record { kernel = refl; left = refl; native_sends = refl; sends = refl; stored = refl; set = refl; came = ap (λ (f : OpenSet). o32_step.value (o32_open f)) (sym (flags_again there.flags)) }

getfl_same : (guest : Guest) (kernel : Kernel) (memory left : List ℕ) (first fd : ℕ) → first % 2 ^ 32 ≡ fd
    → Mirrors guest (told_flags guest.words) (native_call 25 (first ∷ 3 ∷ 0 ∷ 0 ∷ 0 ∷ 0 ∷ []) kernel memory left) (o32.fcntl_row kernel guest fd 3 0 left)
unfolding native.fcntl_row o32.fcntl_row status_flags
getfl_same guest kernel memory left first fd same =
    subst (λ (n : ℕ). Mirrors guest (told_flags guest.words) (native_call 25 (first ∷ 3 ∷ 0 ∷ 0 ∷ 0 ∷ 0 ∷ []) kernel memory left) (o32.fcntl_row kernel guest n 3 0 left)) same
    (getfl_alike guest kernel memory left (opened kernel.files (first % 2 ^ 32)))

-- the argument is not looked at
getfl_any : (kernel : Kernel) (guest : Guest) (fd argument : ℕ) (left : List ℕ) → o32.fcntl_row kernel guest fd 3 0 left ≡ o32.fcntl_row kernel guest fd 3 argument left
unfolding o32.fcntl_row
getfl_any kernel guest fd argument left = refl

pub getfl_mirrors : (guest : Guest) (kernel : Kernel) (memory left : List ℕ) (first fd command argument : ℕ) → first ≡ fd → fd < 2 ^ 32 → command ≡ 3
    → Mirrors guest (told_flags guest.words) (native_call 25 (first ∷ 3 ∷ 0 ∷ 0 ∷ 0 ∷ 0 ∷ []) kernel memory left) (o32.fcntl_row kernel guest fd command argument left)
getfl_mirrors guest kernel memory left first fd command argument first_is word is =
    subst (λ (n : ℕ). Mirrors guest (told_flags guest.words) (native_call 25 (first ∷ 3 ∷ 0 ∷ 0 ∷ 0 ∷ 0 ∷ []) kernel memory left) (o32.fcntl_row kernel guest fd n argument left)) (sym is)
    (subst (λ s. Mirrors guest (told_flags guest.words) (native_call 25 (first ∷ 3 ∷ 0 ∷ 0 ∷ 0 ∷ 0 ∷ []) kernel memory left) s) (getfl_any kernel guest fd argument left)
    (getfl_same guest kernel memory left first fd (omega arith)))

-- F_SETFL

append_again : (append nonblock : Bool) → has (0x400 * one_if append + 0x800 * one_if nonblock) 0x400 ≡ append
append_again true true = refl
append_again true false = refl
append_again false true = refl
append_again false false = refl

nonblock_again : (append nonblock : Bool) → has (0x400 * one_if append + 0x800 * one_if nonblock) 0x800 ≡ nonblock
nonblock_again true true = refl
nonblock_again true false = refl
nonblock_again false true = refl
nonblock_again false false = refl

set_fits : (files : Files) (fd : ℕ) (append nonblock : Bool) → Bounded (λ _. ⊤) (set_status_flags files fd append nonblock).came
unfolding set_status_flags
set_fits files fd append nonblock = bounded_some (λ _. ⊤) files EBADF (opened files fd) _ (λ _ _. tt)

setfl_same : (guest : Guest) (kernel : Kernel) (memory left : List ℕ) (first third fd argument : ℕ) → first % 2 ^ 32 ≡ fd → third ≡ native_status_flags argument
    → Mirrors guest (by_reply guest.words) (native_call 25 (first ∷ 4 ∷ third ∷ 0 ∷ 0 ∷ 0 ∷ []) kernel memory left) (o32.fcntl_row kernel guest fd 4 argument left)
unfolding native.fcntl_row o32.fcntl_row
setfl_same guest kernel memory left first third fd argument first_is third_is =
    let a = has argument 0x8 in
    let n = has argument 0x80 in
    same_gives guest memory left _ (told_zero (on_files kernel (set_status_flags kernel.files fd a n)))
    (ap (λ (f : ℕ). told_zero (on_files kernel (set_status_flags kernel.files f (has third 0x400) (has third 0x800)))) first_is
    ∙ ap (λ (t : ℕ). told_zero (on_files kernel (set_status_flags kernel.files fd (has t 0x400) (has t 0x800)))) third_is
    ∙ ap (λ (b : Bool). told_zero (on_files kernel (set_status_flags kernel.files fd b (has (native_status_flags argument) 0x800)))) (append_again a n)
    ∙ ap (λ (b : Bool). told_zero (on_files kernel (set_status_flags kernel.files fd a b))) (nonblock_again a n))
    (fits_zero (set_status_flags kernel.files fd a n).came (set_fits kernel.files fd a n))

pub setfl_mirrors : (guest : Guest) (kernel : Kernel) (memory left : List ℕ) (first third fd command argument : ℕ) → first ≡ fd → fd < 2 ^ 32 → command ≡ 4 → third ≡ native_status_flags argument
    → Mirrors guest (by_reply guest.words) (native_call 25 (first ∷ 4 ∷ third ∷ 0 ∷ 0 ∷ 0 ∷ []) kernel memory left) (o32.fcntl_row kernel guest fd command argument left)
setfl_mirrors guest kernel memory left first third fd command argument first_is word is third_is =
    subst (λ (n : ℕ). Mirrors guest (by_reply guest.words) (native_call 25 (first ∷ 4 ∷ third ∷ 0 ∷ 0 ∷ 0 ∷ []) kernel memory left) (o32.fcntl_row kernel guest fd n argument left)) (sym is)
    (setfl_same guest kernel memory left first third fd argument (omega arith) third_is)

-- Other commands have the same numbers, and so have the arguments that they take.

abbrev native_chosen : Bool → Bool → Bool → Bool → Bool → Bool → Option native.Command
native_chosen b0 b1 b2 b3 b4 b5 =
    if b0 then Some (record { number = 0; row = native.duplicate_from false })
    else (if b1 then Some (record { number = 1; row = native.get_descriptor_flags })
    else (if b2 then Some (record { number = 2; row = native.set_descriptor_flags })
    else (if b3 then Some (record { number = 3; row = native.get_status_flags })
    else (if b4 then Some (record { number = 4; row = native.set_status_flags_to })
    else (if b5 then Some (record { number = 1030; row = native.duplicate_from true }) else None)))))

abbrev o32_chosen : Bool → Bool → Bool → Bool → Bool → Bool → Option o32.Command
o32_chosen b0 b1 b2 b3 b4 b5 =
    if b0 then Some (record { number = 0; row = o32.duplicate_from false })
    else (if b1 then Some (record { number = 1; row = o32.get_descriptor_flags })
    else (if b2 then Some (record { number = 2; row = o32.set_descriptor_flags })
    else (if b3 then Some (record { number = 3; row = o32.get_status_flags })
    else (if b4 then Some (record { number = 4; row = o32.set_status_flags_to })
    else (if b5 then Some (record { number = 1030; row = o32.duplicate_from true }) else None)))))

abbrev takes : Bool → Bool → Bool → Bool → Bool
takes b0 b2 b4 b5 = b0 || (b2 || (b4 || (b5 || false)))

chosen_same : (kernel : Kernel) (fd argument : ℕ) (b0 b1 b2 b3 b4 b5 : Bool) → argument < 2 ^ 32 → b3 ≡ false → b4 ≡ false
    → native.commanded kernel fd (if takes b0 b2 b4 b5 then argument else 0) (native_chosen b0 b1 b2 b3 b4 b5) ≡ o32.commanded kernel fd argument (o32_chosen b0 b1 b2 b3 b4 b5)
chosen_same kernel fd argument true b1 b2 b3 b4 b5 word no3 no4 = ap (λ (n : ℕ). on_files kernel (duplicate kernel.files fd (Some n) false)) (word_stays argument word)
chosen_same kernel fd argument false true b2 b3 b4 b5 word no3 no4 = refl
chosen_same kernel fd argument false false true b3 b4 b5 word no3 no4 = refl
chosen_same kernel fd argument false false false true b4 b5 word no3 no4 = absurd cc
chosen_same kernel fd argument false false false false true b5 word no3 no4 = absurd cc
chosen_same kernel fd argument false false false false false true word no3 no4 = ap (λ (n : ℕ). on_files kernel (duplicate kernel.files fd (Some n) true)) (word_stays argument word)
chosen_same kernel fd argument false false false false false false word no3 no4 = refl

cloexec_fits : (files : Files) (fd : ℕ) → Fits (told_as (λ c. 1 * one_if c) (close_on_exec files fd)).came
unfolding close_on_exec
cloexec_fits files fd = there_fits files (opened files fd) _ where
  there_fits : (files : Files) (there : Option Description) (cloexec : Bool) → Fits (told_as (λ c. 1 * one_if c) (with_some files EBADF there (λ (d : Description). done files cloexec))).came
  there_fits files None cloexec = tt
  there_fits files (Some there) true = lit< tt
  there_fits files (Some there) false = lit< tt

set_cloexec_fits : (files : Files) (fd : ℕ) (cloexec : Bool) → Bounded (λ _. ⊤) (set_close_on_exec files fd cloexec).came
unfolding set_close_on_exec
set_cloexec_fits files fd cloexec = bounded_some (λ _. ⊤) files EBADF (opened files fd) _ (λ _ _. tt)

unlisted_fits : (files : Files) (fd : ℕ) → Bounded (λ _. ⊤) (unlisted_command files fd).came
unfolding unlisted_command
unlisted_fits files fd = bounded_some (λ _. ⊤) files EBADF (opened files fd) _ (λ _ _. tt)

chosen_fits : (kernel : Kernel) (fd argument : ℕ) (b0 b1 b2 b3 b4 b5 : Bool) → length kernel.files.table.fds ≡ 1024 → b3 ≡ false → b4 ≡ false
    → Fits (o32.commanded kernel fd argument (o32_chosen b0 b1 b2 b3 b4 b5)).came
chosen_fits kernel fd argument true b1 b2 b3 b4 b5 whole no3 no4 = duplicate_fits kernel.files fd (Some argument) false whole
chosen_fits kernel fd argument false true b2 b3 b4 b5 whole no3 no4 = cloexec_fits kernel.files fd
chosen_fits kernel fd argument false false true b3 b4 b5 whole no3 no4 = fits_zero (set_close_on_exec kernel.files fd (has argument 1)).came (set_cloexec_fits kernel.files fd (has argument 1))
chosen_fits kernel fd argument false false false true b4 b5 whole no3 no4 = absurd cc
chosen_fits kernel fd argument false false false false true b5 whole no3 no4 = absurd cc
chosen_fits kernel fd argument false false false false false true whole no3 no4 = duplicate_fits kernel.files fd (Some argument) true whole
chosen_fits kernel fd argument false false false false false false whole no3 no4 = fits_zero (unlisted_command kernel.files fd).came (unlisted_fits kernel.files fd)

not_equal : (a b : ℕ) → a ≢ b → (a == b) ≡ false
not_equal a b other = grind (arith, nat_tests)

pub other_mirrors : (guest : Guest) (kernel : Kernel) (memory left : List ℕ) (first second third fd command argument : ℕ) → length kernel.files.table.fds ≡ 1024
    → first ≡ fd → second ≡ command → third ≡ handed command argument → fd < 2 ^ 32 → command < 2 ^ 32 → argument < 2 ^ 32 → command ≢ 3 → command ≢ 4
    → Mirrors guest (by_reply guest.words) (native_call 25 (first ∷ second ∷ third ∷ 0 ∷ 0 ∷ 0 ∷ []) kernel memory left) (o32.fcntl_row kernel guest fd command argument left)
unfolding native.fcntl_row o32.fcntl_row
other_mirrors guest kernel memory left first second third fd command argument whole first_is second_is third_is word command_word argument_word no3 no4 =
    let e1 : first % 2 ^ 32 ≡ fd = omega arith in
    let e2 : second % 2 ^ 32 ≡ command = omega arith in
    let n3 = not_equal command 3 no3 in
    let n4 = not_equal command 4 no4 in
    let odid = o32.commanded kernel fd argument (o32_chosen (command == 0) (command == 1) (command == 2) (command == 3) (command == 4) (command == 1030)) in
    same_gives guest memory left _ odid
    (ap (λ (f : ℕ). native.commanded kernel f third (numbered (λ (c : native.Command). c.number) native.commands (second % 2 ^ 32))) e1
    ∙ ap (λ (n : ℕ). native.commanded kernel fd third (numbered (λ (c : native.Command). c.number) native.commands n)) e2
    ∙ ap (λ (t : ℕ). native.commanded kernel fd t (numbered (λ (c : native.Command). c.number) native.commands command)) third_is
    ∙ chosen_same kernel fd argument (command == 0) (command == 1) (command == 2) (command == 3) (command == 4) (command == 1030) argument_word n3 n4)
    (chosen_fits kernel fd argument (command == 0) (command == 1) (command == 2) (command == 3) (command == 4) (command == 1030) whole n3 n4)
