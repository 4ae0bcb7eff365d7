-- writev(2) as native calls.
use Rattle.std.proofs.Common.{◌≡◌, ℕ, ◌+◌, ◌<◌, ◌≤◌, ◌%◌, ◌^◌, Bool, true, false, if◌then◌else◌, List, [], ◌∷◌, ◌++◌, length, Option, Some, None, Ok, Err, refl, sym, ap, subst, ◌∙◌, arith, length-append}
use Rattle.std.proofs.lemmas.List.Sums.{sum_by-cons}
use Rattle.std.specs.Prelude.{◌==◌}
use Rattle.guest_space.proofs.ByteLemmas.{length-bytes_at}
use Rattle.guest_space.proofs.Uses.{readable_prefix-le}
use Rattle.guest_space.specs.Access.{readable_prefix}
use Rattle.guest_space.specs.Memory.{Memory}
use Rattle.kernel_core.specs.declared.error.Errno.{Errno}
use Rattle.kernel_core.specs.declared.error.Errno.TheVariants.{EBADF}
use Rattle.kernel_model.specs.Came.{Did, Given, refused, with_some}
use Rattle.kernel_model.specs.Descriptions.{writable}
use Rattle.kernel_model.specs.Pipes.{nothing}
use Rattle.kernel_model.specs.State.{Kernel}
use Rattle.kernel_model.specs.Transfers.{write, writing}
use Rattle.kernel_model.specs.Whole.{KernelWriting, kernel_write}
use Rattle.kernel_model.specs.declared.descriptor.Description.{Description}
use Rattle.native_calls.specs.HostBytes as host
use Rattle.native_calls.specs.Step.{NativeStep}
use Rattle.native_calls.specs.Table.{native_call}
use Rattle.native_calls.specs.Transfers as native
use Rattle.native_calls.specs.declared.range.Range as native_range
use Rattle.o32_model.specs.GuestBytes.{all_loadable, loadable, sum_limit, total, vector}
use Rattle.o32_model.specs.Step.{Guest, O32Step}
use Rattle.o32_model.specs.Transfers as o32
use Rattle.o32_model.specs.Transfers.{small_file_limit}
use Rattle.o32_model.specs.declared.range.Range.{Range}
use Rattle.bridge_log.specs.Mirrors.{Mirrors}
use Rattle.bridge_log.specs.Outcomes.{by_reply}
use Rattle.bridge_io.proofs.ReadvMirrors.{found_wrong, is_wrong}
use Rattle.bridge_io.proofs.WriteMirrors.{after_mirrors}
use Rattle.bridge_io.proofs.Writes.{kernel_write_fits}
use Rattle.bridge_io.specs.inside.Outcomes.{wrong_count}
use Rattle.bridge_io.specs.inside.Written.{write_of}

-- A vector that is wrong

wrong_same : (kernel : Kernel) (fd : ℕ) (error : Errno) → kernel_write kernel None fd (Err error) [] ≡ kernel_write kernel (Some small_file_limit) fd (Err error) []
unfolding kernel_write write
wrong_same kernel fd error = refl

wrong_quiet : (kernel : Kernel) (fd : ℕ) (error : Errno) → (kernel_write kernel (Some small_file_limit) fd (Err error) []).state.sent ≡ nothing
unfolding kernel_write write
wrong_quiet kernel fd error = by (writable kernel.files fd) where
  by : (there : Option Description) → (with_some (writing kernel.files) EBADF there (λ d. refused {V = ℕ} (writing kernel.files) error)).state.sent ≡ nothing
  by None = refl
  by (Some d) = refl

pub writev_wrong : (guest : Guest) (kernel : Kernel) (memory left : List ℕ) (first third fd address count : ℕ) (error : Errno) → vector guest.memory address count ≡ Err error → first ≡ fd → third ≡ wrong_count error → fd < 2 ^ 32
    → Mirrors guest (by_reply guest.words) (native_call 66 (first ∷ 0 ∷ third ∷ 0 ∷ 0 ∷ 0 ∷ []) kernel memory left) (o32.writev_row kernel guest fd address count left)
unfolding native.writev_row o32.writev_row
writev_wrong guest kernel memory left first third fd address count error wrong first_is third_is word =
    let e1 : first % 2 ^ 32 ≡ fd = omega arith in
    let found : host.vector memory 0 third ≡ Err error = ap (λ (n : ℕ). host.vector memory 0 n) third_is ∙ found_wrong memory error (is_wrong guest.memory address count error wrong) in
    let odid = kernel_write kernel (Some small_file_limit) fd (Err error) [] in
    let native_same : native.write_from kernel memory (first % 2 ^ 32) (host.vector memory 0 third) left ≡ native.after_write memory odid left =
    ap (λ (n : ℕ). native.write_from kernel memory n (host.vector memory 0 third) left) e1
    ∙ ap (λ (r : Given (List native_range.Range)). native.write_from kernel memory fd r left) found
    ∙ ap (λ (d : Did KernelWriting ℕ). native.after_write memory d left) (wrong_same kernel fd error) in
    let o32_same : o32.write_from kernel guest fd (vector guest.memory address count) left ≡ o32.after_write guest odid left =
    ap (λ (r : Given (List Range)). o32.write_from kernel guest fd r left) wrong in
    subst (λ (n : NativeStep). Mirrors guest (by_reply guest.words) n (o32.write_from kernel guest fd (vector guest.memory address count) left)) (sym native_same)
    (subst (λ (s : O32Step). Mirrors guest (by_reply guest.words) (native.after_write memory odid left) s) (sym o32_same)
    (after_mirrors guest memory left odid (wrong_quiet kernel fd error) (kernel_write_fits kernel (Some small_file_limit) fd (Err error) [])))

-- A vector that is right

pub writev_is : (kernel : Kernel) (guest : Guest) (space : Memory) (ranges : List Range) (fd address count asked : ℕ) (bytes left : List ℕ) → guest.memory ≡ space → vector guest.memory address count ≡ Ok ranges → asked ≡ total ranges
    → bytes ≡ all_loadable space ranges → write_of kernel guest fd asked bytes left ≡ o32.writev_row kernel guest fd address count left
unfolding o32.writev_row
writev_is kernel guest space ranges fd address count asked bytes left same found all is =
    ap (λ (n : ℕ). write_of kernel guest fd n bytes left) all
    ∙ ap (λ (b : List ℕ). write_of kernel guest fd (total ranges) b left) (is ∙ ap (λ (m : Memory). all_loadable m ranges) (sym same))
    ∙ ap (λ (r : Given (List Range)). o32.write_from kernel guest fd r left) (sym found)

some_loadable : (space : Memory) (range : Range) → length (loadable space range.address range.length) ≤ range.length
some_loadable space range =
    let there = readable_prefix space.pages range.address range.length in
    omega (arith, length-bytes_at space.pages there range.address, readable_prefix-le space.pages range.length range.address)

joined_within : (whole : Bool) (bytes more : List ℕ) (size rest : ℕ) → length bytes ≤ size → length more ≤ rest → length (bytes ++ (if whole then more else [])) ≤ size + rest
joined_within true bytes more size rest here later = omega (arith, length-append bytes more)
joined_within false bytes more size rest here later = omega (arith, length-append {A = ℕ} bytes [])

all_within : (space : Memory) (ranges : List Range) → length (all_loadable space ranges) ≤ total ranges
all_within space [] = omega arith
all_within space (range ∷ ranges) =
    let bytes = loadable space range.address range.length in
    let later = all_within space ranges in
    let sum : total (range ∷ ranges) ≡ range.length + total ranges = sum_by-cons (λ (r : Range). r.length) range ranges in
    let joined = joined_within (length bytes == range.length) bytes (all_loadable space ranges) range.length (total ranges) (some_loadable space range) later in
    omega arith

pub all_short : (space : Memory) (ranges : List Range) (asked : ℕ) (bytes : List ℕ) → asked ≡ total ranges → asked ≤ sum_limit → bytes ≡ all_loadable space ranges → length bytes < 2 ^ 32
all_short space ranges asked bytes all few is = let long = ap length is in omega (arith, all_within space ranges)
