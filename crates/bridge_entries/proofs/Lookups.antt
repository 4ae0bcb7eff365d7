-- The native calls on a descriptor's position take and send nothing.
use Rattle.std.proofs.Common.{◌≡◌, ℕ, ◌<◌, ◌%◌, ◌^◌, Bool, true, false, List, [], ◌∷◌, length, replicate, Option, Some, None, refl, sym, ap, subst, ◌∙◌, arith}
use Rattle.std.specs.Int.{w64, cast_signed}
use Rattle.std.specs.List.{flat_map}
use Rattle.std.specs.Prelude.{nat_le, if◌then◌else◌}
use Rattle.std.proofs.lemmas.List.{length-replicate}
use Rattle.host_mem.specs.Memory.{first_address, written}
use Rattle.kernel_core.specs.FileContent.{greatest_size}
use Rattle.kernel_core.specs.FileSystem.{IsFileSystem}
use Rattle.kernel_core.specs.declared.error.Errno.TheVariants.{EINVAL}
use Rattle.kernel_core.specs.declared.reply.Reply.{Reply}
use Rattle.kernel_model.specs.Came.{Came, Done, Refused, Did, came_as}
use Rattle.kernel_model.specs.ContentRows.{Entry, seek}
use Rattle.kernel_model.specs.Descriptions.{node_of, opened}
use Rattle.kernel_model.specs.State.{Kernel, Files}
use Rattle.kernel_model.specs.Transfers.{moved_to}
use Rattle.kernel_model.specs.Whole.{on_files, with_files}
use Rattle.kernel_model.specs.declared.descriptor.Description.{Description}
use Rattle.native_calls.specs.Status.{entry_bytes, lseek_row}
use Rattle.native_calls.specs.Step as native_step
use Rattle.native_calls.specs.Step.{NativeStep}
use Rattle.native_calls.specs.Table.{native_call}
use Rattle.bridge_log.specs.Bounds.{Bounded}
use Rattle.bridge_log.specs.Fills.{bytes_back}
use Rattle.bridge_entries.proofs.Moves.{node_came, position_came, position_did, seek_is}
use Rattle.bridge_entries.proofs.WideCalls.{Fits, listed_back, native_is, native_lists, row_fits}
use Rattle.bridge_entries.specs.inside.Listed.{IsListedBy, did_of, place_in, place_of, place_there}
use Rattle.bridge_entries.specs.inside.Passing.{IsQuiet, Replied}

quiet_of : (kernel : Kernel) (memory left : List ℕ) (did : Did Files ℕ) (state : Files) (came : Came ℕ) → did ≡ record { state = state; came = came }
    → IsQuiet (with_files kernel state) (native_step.reply_to native_step.value came) memory left (native_step.gives memory (on_files kernel did) left)
quiet_of kernel memory left did state came is =
    subst (λ (d : Did Files ℕ). IsQuiet (with_files kernel state) (native_step.reply_to native_step.value came) memory left (native_step.gives memory (on_files kernel d) left)) (sym is)
    (record { becomes = refl; left_stays = refl; sends = refl; replied = refl; stored = refl })

abbrev pub position_reply : Option Description → Reply
position_reply there = native_step.reply_to native_step.value (position_came there)

pub position_quiet : (kernel : Kernel) (memory left : List ℕ) (first fd : ℕ) → first ≡ fd → fd < 2 ^ 32 → IsQuiet kernel (position_reply (opened kernel.files fd)) memory left (native_call 62 (first ∷ 0 ∷ 1 ∷ 0 ∷ 0 ∷ 0 ∷ []) kernel memory left)
unfolding lseek_row
position_quiet kernel memory left first fd same word =
    let is : first % 2 ^ 32 ≡ fd = omega arith in
    subst (λ (n : ℕ). IsQuiet kernel (position_reply (opened kernel.files n)) memory left (native_call 62 (first ∷ 0 ∷ 1 ∷ 0 ∷ 0 ∷ 0 ∷ []) kernel memory left)) is
    (quiet_of kernel memory left (seek kernel.files (first % 2 ^ 32) (cast_signed w64 0) 1) kernel.files (position_came (opened kernel.files (first % 2 ^ 32))) (position_did kernel.files (first % 2 ^ 32)))

node_told : (d : Description) (node : Option ℕ) → place_in (native_step.reply_to native_step.value (node_came d node)) ≡ place_of d node
node_told d None = refl
node_told d (Some node) = by (nat_le d.position greatest_size) where
  by : (within : Bool) → place_in (native_step.reply_to native_step.value (if within then Done d.position else Refused EINVAL)) ≡ (if within then Some d.position else None)
  by true = refl
  by false = refl

pub position_told : (there : Option Description) → place_in (position_reply there) ≡ place_there there
position_told None = refl
position_told (Some d) = node_told d (node_of d.object)

pub place_quiet : (kernel : Kernel) (memory left : List ℕ) (first fd place : ℕ) (d : Description) (node : ℕ) → first ≡ fd → fd < 2 ^ 32 → opened kernel.files fd ≡ Some d → node_of d.object ≡ Some node → place < 2 ^ 31
    → IsQuiet (with_files kernel (moved_to kernel.files fd d place)) (native_step.value place) memory left (native_call 62 (first ∷ place ∷ 0 ∷ 0 ∷ 0 ∷ 0 ∷ []) kernel memory left)
unfolding lseek_row
place_quiet kernel memory left first fd place d node same word there is_node small =
    let is : first % 2 ^ 32 ≡ fd = omega arith in
    quiet_of kernel memory left (seek kernel.files (first % 2 ^ 32) (cast_signed w64 place) 0) (moved_to kernel.files fd d place) (Done place)
    (ap (λ (n : ℕ). seek kernel.files n (cast_signed w64 place) 0) is ∙ seek_is kernel.files fd d node place there is_node small)

pub list_quiet : (kernel : Kernel) (left room : List ℕ) (first third fd size : ℕ) → first ≡ fd → third ≡ size → fd < 2 ^ 32 → size < 2 ^ 32 → room ≡ replicate size 0
    → IsQuiet (did_of kernel fd size size).state (native_step.reply_to (λ (bytes : List ℕ). native_step.value (length bytes)) (came_as (flat_map entry_bytes) (did_of kernel fd size size).came))
    (native_step.memory_after (written (replicate size 0) first_address) (replicate size 0) (came_as (flat_map entry_bytes) (did_of kernel fd size size).came)) left
    (native_call 61 (first ∷ 65536 ∷ third ∷ 0 ∷ 0 ∷ 0 ∷ []) kernel room left)
list_quiet kernel left room first third fd size first_is third_is fd_fits size_fits zeros =
    subst (λ (s : NativeStep). IsQuiet (did_of kernel fd size size).state (native_step.reply_to (λ (bytes : List ℕ). native_step.value (length bytes)) (came_as (flat_map entry_bytes) (did_of kernel fd size size).came))
    (native_step.memory_after (written (replicate size 0) first_address) (replicate size 0) (came_as (flat_map entry_bytes) (did_of kernel fd size size).came)) left s)
    (sym (ap (λ (m : List ℕ). native_call 61 (first ∷ 65536 ∷ third ∷ 0 ∷ 0 ∷ 0 ∷ []) kernel m left) zeros ∙ native_is kernel left first third fd size size first_is third_is fd_fits size_fits (omega arith)))
    (record { becomes = refl; left_stays = refl; sends = refl; replied = refl; stored = refl })

pub list_told : (kernel : Kernel) (fd size : ℕ) (memory : List ℕ) (reply : Reply) → IsFileSystem kernel.files.nodes
    → Replied (native_step.reply_to (λ (bytes : List ℕ). native_step.value (length bytes)) (came_as (flat_map entry_bytes) (did_of kernel fd size size).came))
    (native_step.memory_after (written (replicate size 0) first_address) (replicate size 0) (came_as (flat_map entry_bytes) (did_of kernel fd size size).came)) memory reply
    → IsListedBy (did_of kernel fd size size) memory reply
list_told kernel fd size memory reply valid replied =
    let did : Did Kernel (List Entry) = did_of kernel fd size size in
    let long : length (replicate {A = ℕ} size 0) ≡ size = length-replicate {A = ℕ} size 0 in
    record {
      replied = replied.answered;
      given =
          ap (λ (m : List ℕ). bytes_back m reply) replied.stored ∙ ap (bytes_back (native_lists (replicate size 0) [] did).memory) replied.answered
          ∙ listed_back (replicate size 0) [] did (subst (λ (n : ℕ). Bounded (Fits n) did.came) (sym long) (row_fits kernel.files fd size size valid));
    }
