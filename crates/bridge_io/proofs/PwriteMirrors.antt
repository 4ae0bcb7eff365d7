-- pwrite(2) as a native call.
use Rattle.std.proofs.Common.{◌≡◌, ℕ, ◌<◌, ◌≤◌, ◌%◌, ◌^◌, List, [], ◌∷◌, length, take, Option, Some, None, refl, sym, ap, subst, ◌∙◌, arith, Ok, lit<, length-take}
use Rattle.std.specs.Int.{w64, cast_signed}
use Rattle.std.specs.Prelude.{ℤ, Bool, true, false, min, nat_abs, ◌==◌, if◌then◌else◌}
use Rattle.guest_space.specs.Memory.{Memory}
use Rattle.kernel_core.specs.Nodes.{file_at}
use Rattle.kernel_core.specs.declared.error.Errno.TheVariants.{EBADF, EFAULT}
use Rattle.kernel_model.specs.Came.{Did, done, refused_if}
use Rattle.kernel_model.specs.Clock.{now}
use Rattle.kernel_model.specs.Descriptions.{opened, writable}
use Rattle.kernel_model.specs.State.{Kernel, Files}
use Rattle.kernel_model.specs.Transfers.{transferring, transfer_limit, write_at}
use Rattle.kernel_model.specs.Whole.{on_files}
use Rattle.kernel_model.specs.declared.descriptor.Description.{Description}
use Rattle.native_calls.specs.HostBytes as host
use Rattle.native_calls.specs.Table.{native_call}
use Rattle.native_calls.specs.Transfers as native
use Rattle.o32_model.specs.GuestBytes.{loadable}
use Rattle.o32_model.specs.Step as o32_step
use Rattle.o32_model.specs.Step.{Guest}
use Rattle.o32_model.specs.Transfers as o32
use Rattle.o32_model.specs.Transfers.{small_file_limit}
use Rattle.o32_model.specs.declared.outcome.Outcome.TheVariants.{Error}
use Rattle.bridge_log.proofs.Ends.{Still}
use Rattle.bridge_log.proofs.Replies.{Fits}
use Rattle.bridge_log.specs.Bounds.{Bounded}
use Rattle.bridge_log.specs.Mirrors.{Mirrors}
use Rattle.bridge_log.specs.Outcomes.{by_reply}
use Rattle.bridge_io.proofs.DescriptorMirrors.{same_gives}
use Rattle.bridge_io.proofs.Fitting.{bounded_at_place, bounded_either, bounded_if, bounded_some}
use Rattle.bridge_io.proofs.Limits.{fewer_bytes, taken_twice, zero_same}
use Rattle.bridge_io.proofs.PlaceLimits.{at_node, same_by, write_by}
use Rattle.bridge_io.proofs.WriteMirrors.{loadable_is, past_value}
use Rattle.bridge_io.proofs.Writes.{content_fits}
use Rattle.bridge_io.specs.inside.Plans.{IsPlan}
use Rattle.bridge_io.specs.inside.Rooms.{past_outcome}
use Rattle.bridge_io.specs.inside.Written.{place_write_of}
use Rattle.bridge_io.specs.declared.room.Plan.TheVariants.{Write, Past}

-- A register holds what it comes to.

bounded_moving : {S V : Type 0} (P : V → Type 0) (state : S) (count accessible : ℕ) (none : V) (rest : ℕ → Did S V) → P none → ((most : ℕ) → most ≤ transfer_limit → Bounded P (rest most).came) → Bounded P (transferring state (Ok count) accessible none rest).came
bounded_moving P state count accessible none rest nothing each =
    bounded_either P (count == 0) _ _ nothing
    (bounded_if P (accessible == 0) EFAULT state _ (each (min (min count accessible) transfer_limit) (omega arith)))

place_fits : (files : Files) (limit : Option ℕ) (time : ℤ) (fd count : ℕ) (place : ℤ) (bytes : List ℕ) → Fits (write_at files limit time fd place (Ok count) bytes).came
unfolding write_at
place_fits files limit time fd count place bytes =
    bounded_some (λ n. n < 2 ^ 32) files EBADF (writable files fd) _ (λ d _.
    bounded_at_place (λ n. n < 2 ^ 32) files place d.object (λ at node. transferring files (Ok count) (length bytes) 0 (at_node files limit time d node at bytes)) (λ at node.
    bounded_moving (λ n. n < 2 ^ 32) files count (length bytes) 0 (at_node files limit time d node at bytes) (lit< tt) (λ most few.
    content_fits files limit time d node at (take most bytes) (λ files _. files) (file_at files.nodes node) (omega (arith, length-take most bytes)))))

-- Only the bytes that count do.
those_to : (files : Files) (limit : Option ℕ) (time : ℤ) (d : Description) (node at asked : ℕ) (bytes : List ℕ)
    → transferring files (Ok asked) (length (take (min asked (length bytes)) bytes)) 0 (at_node files limit time d node at (take (min asked (length bytes)) bytes)) ≡ transferring files (Ok asked) (length bytes) 0 (at_node files limit time d node at bytes)
those_to files limit time d node at asked bytes = by (asked == 0) refl where
  by : (without : Bool) → (asked == 0) ≡ without
      → (if without then done files 0 else refused_if (length (take (min asked (length bytes)) bytes) == 0) EFAULT files (at_node files limit time d node at (take (min asked (length bytes)) bytes) (min (min asked (length (take (min asked (length bytes)) bytes))) transfer_limit)))
      ≡ (if without then done files 0 else refused_if (length bytes == 0) EFAULT files (at_node files limit time d node at bytes (min (min asked (length bytes)) transfer_limit)))
  by true is = refl
  by false is =
      let none : (length (take (min asked (length bytes)) bytes) == 0) ≡ (length bytes == 0) = zero_same asked (length bytes) (length (take (min asked (length bytes)) bytes)) is (omega (arith, length-take (min asked (length bytes)) bytes)) in
      let most = min (min asked (length bytes)) transfer_limit in
      let same : min (min asked (length (take (min asked (length bytes)) bytes))) transfer_limit ≡ most = ap (λ (n : ℕ). min n transfer_limit) (taken_twice bytes asked) in
      let few : take most (take (min asked (length bytes)) bytes) ≡ take most bytes = fewer_bytes bytes (min asked (length bytes)) most ∙ ap (λ (n : ℕ). take n bytes) (omega arith) in
      rw (none, same, few) refl

place_of_those : (files : Files) (limit : Option ℕ) (time : ℤ) (fd asked : ℕ) (place : ℤ) (bytes : List ℕ)
    → write_at files limit time fd place (Ok asked) (take (min asked (length bytes)) bytes) ≡ write_at files limit time fd place (Ok asked) bytes
place_of_those files limit time fd asked place bytes =
    write_by files limit time fd asked place (take (min asked (length bytes)) bytes)
    ∙ same_by files limit limit time place place asked asked (take (min asked (length bytes)) bytes) bytes (opened files fd) refl (λ d node there is above. those_to files limit time d node (nat_abs place) asked bytes)
    ∙ sym (write_by files limit time fd asked place bytes)

pub pwrite_mirrors : (guest : Guest) (kernel : Kernel) (memory left : List ℕ) (first third fd count most at : ℕ) (place : ℤ) → first ≡ fd → third ≡ min most count → fd < 2 ^ 32 → IsPlan kernel.files small_file_limit fd place (Write most at)
    → Mirrors guest (by_reply guest.words) (native_call 68 (first ∷ 65536 ∷ third ∷ at ∷ 0 ∷ 0 ∷ []) kernel memory left) (place_write_of kernel guest fd place count memory left)
unfolding native.pwrite_row
pwrite_mirrors guest kernel memory left first third fd count most at place first_is third_is word plan =
    let is : first % 2 ^ 32 ≡ fd = omega arith in
    let fewer : third ≡ min count most = omega arith in
    same_gives guest memory left _ (on_files kernel (write_at kernel.files (Some small_file_limit) (now kernel) fd place (Ok count) memory))
    (ap (λ (n : ℕ). on_files kernel (write_at kernel.files None (now kernel) n (cast_signed w64 at) (Ok third) (host.loadable memory 65536 third))) is
    ∙ ap (λ (n : ℕ). on_files kernel (write_at kernel.files None (now kernel) fd (cast_signed w64 at) (Ok n) (host.loadable memory 65536 n))) fewer
    ∙ ap (λ (bytes : List ℕ). on_files kernel (write_at kernel.files None (now kernel) fd (cast_signed w64 at) (Ok (min count most)) bytes)) (loadable_is memory (min count most))
    ∙ ap (on_files kernel) (place_of_those kernel.files None (now kernel) fd (min count most) (cast_signed w64 at) memory)
    ∙ ap (on_files kernel) (sym (plan (now kernel) count memory)))
    (place_fits kernel.files (Some small_file_limit) (now kernel) fd count place memory)

pub pwrite_still : (guest : Guest) (kernel : Kernel) (left memory : List ℕ) (fd count : ℕ) (place : ℤ) (writable file : Bool) → IsPlan kernel.files small_file_limit fd place (Past writable file)
    → Still guest kernel left (past_outcome writable file count (length memory)) (place_write_of kernel guest fd place count memory left)
pwrite_still guest kernel left memory fd count place writable file plan =
    subst (λ (d : Did Files ℕ). Still guest kernel left (past_outcome writable file count (length memory)) (o32_step.gives guest (on_files kernel d) left)) (sym (plan (now kernel) count memory))
    (record { kernel_stays = refl; left_stays = refl; sends = refl; stored = refl; set = refl; came = past_value guest writable file count (length memory) })

-- The row

pub pwrite_is : (kernel : Kernel) (guest : Guest) (space : Memory) (fd buffer count place : ℕ) (bytes left : List ℕ) → guest.memory ≡ space → bytes ≡ loadable space buffer count
    → place_write_of kernel guest fd (cast_signed w64 place) count bytes left ≡ o32.pwrite_row kernel guest fd buffer count (Some place) left
unfolding o32.pwrite_row
pwrite_is kernel guest space fd buffer count place bytes left same is =
    ap (λ (b : List ℕ). place_write_of kernel guest fd (cast_signed w64 place) count b left) (is ∙ ap (λ (m : Memory). loadable m buffer count) (sym same))

pub pwrite_unplaced : (guest : Guest) (kernel : Kernel) (left : List ℕ) (fd buffer count : ℕ) → Still guest kernel left (Error EFAULT) (o32.pwrite_row kernel guest fd buffer count None left)
unfolding o32.pwrite_row
pwrite_unplaced guest kernel left fd buffer count = record { kernel_stays = refl; left_stays = refl; sends = refl; stored = refl; set = refl; came = refl }
