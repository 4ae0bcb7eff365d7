-- What the native calls reply that change nothing.
use Rattle.std.proofs.Common.{◌≡◌, ℕ, ◌<◌, ◌%◌, ◌^◌, List, [], ◌∷◌, length, Option, Some, None, refl, sym, ap, subst, ◌∙◌, arith}
use Rattle.std.proofs.lemmas.Bool.Decides.{nat_tests}
use Rattle.std.proofs.lemmas.Int.{ints}
use Rattle.std.proofs.lemmas.List.{set-get_or}
use Rattle.std.specs.Int.{w64, cast_signed}
use Rattle.std.specs.Prelude.{true, false, Bool, ℤ, pos, ◌+ℤ◌, not, is_some, nat_le, nat_abs, int_lt, option_map, option_and_then, slice_index_or, slice_set, if◌then◌else◌}
use Rattle.host_mem.specs.Memory.{written, is_inside, first_address}
use Rattle.kernel_core.specs.FileContent.{greatest_size}
use Rattle.kernel_core.specs.declared.error.Errno.TheVariants.{EBADF, EFAULT, EINVAL, ENOTTY, ESPIPE}
use Rattle.kernel_core.specs.declared.reply.Reply.{Reply}
use Rattle.kernel_model.specs.Came.{Came, Done, Refused, Did, done, refused_if, told_as, with_some}
use Rattle.kernel_model.specs.ContentRows.{Status, bytes_ready, is_position, object_status, ready_bytes, seek, status}
use Rattle.kernel_model.specs.DescriptorRows.{status_flags}
use Rattle.kernel_model.specs.Descriptions.{node_of, opened, writes}
use Rattle.kernel_model.specs.Shared.{OpenSet}
use Rattle.kernel_model.specs.State.{Kernel, Files, Descriptors}
use Rattle.kernel_model.specs.Table.{changed_at, number_at, slot}
use Rattle.kernel_model.specs.Transfers.{moved_to}
use Rattle.kernel_model.specs.Whole.{on_files}
use Rattle.kernel_model.specs.declared.descriptor.Description.{Description}
use Rattle.native_calls.specs.Descriptors as native
use Rattle.native_calls.specs.Status.{fstat_row, lseek_row, status_bytes}
use Rattle.native_calls.specs.Step as native_step
use Rattle.native_calls.specs.Table.{native_call}
use Rattle.native_calls.specs.Terminal.{int_bytes, ioctl_row}
use Rattle.number_tables.specs.OpenNumbers.{native_open}
use Rattle.bridge_io.proofs.CommandMirrors.{flags_again}
use Rattle.bridge_io.proofs.StatusSize.{length-status, size_told}
use Rattle.bridge_log.specs.Looks.{IsLook}
use Rattle.bridge_io.specs.inside.Rooms.{flags_there, flags_in, number_in, node_position, position_there, size_there, size_in, low_size, is_ready, is_fault}

-- F_GETFL

abbrev flags_came : Option Description → Came ℕ
flags_came None = Refused EBADF
flags_came (Some d) = Done (native_open d.flags)

abbrev pub flags_reply : Option Description → Reply
flags_reply there = native_step.reply_to native_step.value (flags_came there)

flags_look_of : (kernel : Kernel) (memory left : List ℕ) (there : Option Description)
    → IsLook kernel (flags_reply there) memory left (native_step.gives memory (told_as native_open (on_files kernel (with_some kernel.files EBADF there (λ (d : Description). done kernel.files d.flags)))) left)
flags_look_of kernel memory left None = record { kernel_stays = refl; left_stays = refl; sends = refl; replied = refl; stored = refl }
flags_look_of kernel memory left (Some d) = record { kernel_stays = refl; left_stays = refl; sends = refl; replied = refl; stored = refl }

pub flags_look : (kernel : Kernel) (memory left : List ℕ) (first fd : ℕ) → first ≡ fd → fd < 2 ^ 32 → IsLook kernel (flags_reply (opened kernel.files fd)) memory left (native_call 25 (first ∷ 3 ∷ 0 ∷ 0 ∷ 0 ∷ 0 ∷ []) kernel memory left)
unfolding native.fcntl_row status_flags
flags_look kernel memory left first fd same word =
    let is : first % 2 ^ 32 ≡ fd = omega arith in
    subst (λ (n : ℕ). IsLook kernel (flags_reply (opened kernel.files n)) memory left (native_call 25 (first ∷ 3 ∷ 0 ∷ 0 ∷ 0 ∷ 0 ∷ []) kernel memory left)) is
    (flags_look_of kernel memory left (opened kernel.files (first % 2 ^ 32)))

pub flags_told : (there : Option Description) → flags_in (flags_reply there) ≡ flags_there there
flags_told None = refl
flags_told (Some d) = ap (λ (f : OpenSet). Some (record { writable = writes f.access; append = f.append; largefile = f.largefile })) (flags_again d.flags)

-- lseek(2) by no byte from the position on

set_same : {A : Type 0} (live : List (Option A)) (number : ℕ) (item : A) → slice_index_or live number None ≡ Some item → slice_set live number (Some item) ≡ live
set_same live number item there = ap (slice_set live number) (sym there) ∙ set-get_or live number None

abbrev item_at : Descriptors Description → Option ℕ → Option Description
item_at table None = None
item_at table (Some number) = slot table.live number

changed_same : (table : Descriptors Description) (at : Option ℕ) (d : Description) → item_at table at ≡ Some d → changed_at table at d ≡ table
changed_same table None d there = refl
changed_same table (Some number) d there = ap (λ (live : List (Option Description)). record table { live = live }) (set_same table.live number d there)

item_is : (table : Descriptors Description) (at : Option ℕ) → option_and_then (λ number. slot table.live number) at ≡ item_at table at
item_is table None = refl
item_is table (Some number) = refl

moved_nowhere : (files : Files) (fd : ℕ) (d : Description) → opened files fd ≡ Some d → moved_to files fd d d.position ≡ files
moved_nowhere files fd d there =
    ap (λ (table : Descriptors Description). record files { table = table }) (changed_same files.table (number_at files.table fd) d (sym (item_is files.table (number_at files.table fd)) ∙ there))

place_is : (position : ℕ) → pos position +ℤ pos 0 ≡ pos position
place_is position = omega (arith, ints)

not_below : (position : ℕ) → int_lt (pos position) (pos 0) ≡ false
not_below position = grind (arith, nat_tests)

position_test : (position : ℕ) → is_position (pos position) ≡ nat_le position greatest_size
position_test position = rw (not_below position) refl

abbrev node_came : Description → Option ℕ → Came ℕ
node_came d None = Refused ESPIPE
node_came d (Some node) = if nat_le d.position greatest_size then Done d.position else Refused EINVAL

abbrev position_came : Option Description → Came ℕ
position_came None = Refused EBADF
position_came (Some d) = node_came d (node_of d.object)

abbrev pub position_reply : Option Description → Reply
position_reply there = native_step.reply_to native_step.value (position_came there)

position_did : (files : Files) (fd : ℕ) → seek files fd (cast_signed w64 0) 1 ≡ record { state = files; came = position_came (opened files fd) }
unfolding seek
position_did files fd = by (opened files fd) refl where
  placed : (d : Description) → opened files fd ≡ Some d → (place : ℤ) → place ≡ pos d.position
      → refused_if (not (is_position place)) EINVAL files (done (moved_to files fd d (nat_abs place)) (nat_abs place)) ≡ record { state = files; came = (if nat_le d.position greatest_size then Done d.position else Refused EINVAL) }
  placed d there place is = rw (is, position_test d.position) (tested (nat_le d.position greatest_size)) where
    tested : (within : Bool) → refused_if (not within) EINVAL files (done (moved_to files fd d d.position) d.position) ≡ record { state = files; came = (if within then Done d.position else Refused EINVAL) }
    tested true = ap (λ (f : Files). done f d.position) (moved_nowhere files fd d there)
    tested false = refl

  from : (d : Description) → opened files fd ≡ Some d → (node : Option ℕ) → with_some files ESPIPE node (λ n. with_some files EINVAL (Some d.position) (λ at.
      let place = pos at +ℤ cast_signed w64 0 in refused_if (not (is_position place)) EINVAL files (done (moved_to files fd d (nat_abs place)) (nat_abs place)))) ≡ record { state = files; came = node_came d node }
  from d there None = refl
  from d there (Some node) = placed d there (pos d.position +ℤ cast_signed w64 0) (place_is d.position)

  by : (there : Option Description) → opened files fd ≡ there → with_some files EBADF there (λ d. with_some files ESPIPE (node_of d.object) (λ n. with_some files EINVAL (Some d.position) (λ at.
      let place = pos at +ℤ cast_signed w64 0 in refused_if (not (is_position place)) EINVAL files (done (moved_to files fd d (nat_abs place)) (nat_abs place))))) ≡ record { state = files; came = position_came there }
  by None is = refl
  by (Some d) is = from d is (node_of d.object)

look_of : (kernel : Kernel) (memory left : List ℕ) (did : Did Files ℕ) (came : Came ℕ) → did ≡ record { state = kernel.files; came = came }
    → IsLook kernel (native_step.reply_to native_step.value came) memory left (native_step.gives memory (on_files kernel did) left)
look_of kernel memory left did came is =
    subst (λ (d : Did Files ℕ). IsLook kernel (native_step.reply_to native_step.value came) memory left (native_step.gives memory (on_files kernel d) left)) (sym is)
    (record { kernel_stays = refl; left_stays = refl; sends = refl; replied = refl; stored = refl })

pub position_look : (kernel : Kernel) (memory left : List ℕ) (first fd : ℕ) → first ≡ fd → fd < 2 ^ 32 → IsLook kernel (position_reply (opened kernel.files fd)) memory left (native_call 62 (first ∷ 0 ∷ 1 ∷ 0 ∷ 0 ∷ 0 ∷ []) kernel memory left)
unfolding lseek_row
position_look kernel memory left first fd same word =
    let is : first % 2 ^ 32 ≡ fd = omega arith in
    subst (λ (n : ℕ). IsLook kernel (position_reply (opened kernel.files n)) memory left (native_call 62 (first ∷ 0 ∷ 1 ∷ 0 ∷ 0 ∷ 0 ∷ []) kernel memory left)) is
    (look_of kernel memory left (seek kernel.files (first % 2 ^ 32) (cast_signed w64 0) 1) (position_came (opened kernel.files (first % 2 ^ 32))) (position_did kernel.files (first % 2 ^ 32)))

pub position_told : (there : Option Description) → number_in (position_reply there) ≡ position_there there
position_told None = refl
position_told (Some d) = by (node_of d.object) where
  tested : (within : Bool) → number_in (native_step.reply_to native_step.value (if within then Done d.position else Refused EINVAL)) ≡ (if within then Some d.position else None)
  tested true = refl
  tested false = refl

  by : (node : Option ℕ) → number_in (native_step.reply_to native_step.value (node_came d node)) ≡ node_position d node
  by None = refl
  by (Some node) = tested (nat_le d.position greatest_size)

-- fstat(2) into host memory of just a status

abbrev pub status_there : Files → Option Description → Option Status
status_there files None = None
status_there files (Some d) = object_status files d.object

abbrev status_came : Option Status → Came Status
status_came None = Refused EBADF
status_came (Some found) = Done found

abbrev pub size_reply : Option Status → Reply
size_reply None = native_step.failure EBADF
size_reply (Some found) = native_step.value 0

abbrev pub size_memory : List ℕ → Option Status → List ℕ
size_memory room None = room
size_memory room (Some found) = written room first_address (status_bytes found)

status_did : (files : Files) (fd : ℕ) → status files fd ≡ record { state = files; came = status_came (status_there files (opened files fd)) }
unfolding status
status_did files fd = by (opened files fd) where
  of : (found : Option Status) → with_some files EBADF found (λ status. done files status) ≡ record { state = files; came = status_came found }
  of None = refl
  of (Some found) = refl

  by : (there : Option Description) → with_some files EBADF there (λ d. with_some files EBADF (object_status files d.object) (λ status. done files status)) ≡ record { state = files; came = status_came (status_there files there) }
  by None = refl
  by (Some d) = of (object_status files d.object)

size_look_of : (kernel : Kernel) (room left : List ℕ) (found : Option Status) → length room ≡ 128
    → IsLook kernel (size_reply found) (size_memory room found) left (native_step.stores room 65536 (told_as status_bytes (on_files kernel (record { state = kernel.files; came = status_came found }))) left)
size_look_of kernel room left None long = record { kernel_stays = refl; left_stays = refl; sends = refl; replied = refl; stored = refl }
size_look_of kernel room left (Some found) long = record { kernel_stays = refl; left_stays = refl; sends = refl; replied = told; stored = refl } where
  told : native_step.stored room 65536 (status_bytes found) ≡ native_step.value 0
  told = let inside : is_inside room 65536 (length (status_bytes found)) ≡ true = grind (arith, nat_tests, length-status found) in rw inside refl

pub size_look : (kernel : Kernel) (room left : List ℕ) (first fd : ℕ) → length room ≡ 128 → first ≡ fd → fd < 2 ^ 32
    → IsLook kernel (size_reply (status_there kernel.files (opened kernel.files fd))) (size_memory room (status_there kernel.files (opened kernel.files fd))) left (native_call 80 (first ∷ 65536 ∷ 0 ∷ 0 ∷ 0 ∷ 0 ∷ []) kernel room left)
unfolding fstat_row
size_look kernel room left first fd long same word =
    let is : first % 2 ^ 32 ≡ fd = omega arith in
    let found = status_there kernel.files (opened kernel.files fd) in
    let did : status kernel.files (first % 2 ^ 32) ≡ record { state = kernel.files; came = status_came found } = ap (λ (n : ℕ). status kernel.files n) is ∙ status_did kernel.files fd in
    subst (λ (d : Did Files Status). IsLook kernel (size_reply found) (size_memory room found) left (native_step.stores room 65536 (told_as status_bytes (on_files kernel d)) left)) (sym did)
    (size_look_of kernel room left found long)

pub size_found : (files : Files) (room : List ℕ) (there : Option Description) → length room ≡ 128 → size_in (size_memory room (status_there files there)) (size_reply (status_there files there)) ≡ size_there files there
size_found files room None long = refl
size_found files room (Some d) long = by (object_status files d.object) where
  by : (found : Option Status) → size_in (size_memory room found) (size_reply found) ≡ option_map low_size found
  by None = refl
  by (Some found) = size_told found room long

-- FIONREAD at no address

abbrev count_came : Option ℕ → Came ℕ
count_came None = Refused ENOTTY
count_came (Some count) = Done count

abbrev ready_came : Files → Option Description → Came ℕ
ready_came files None = Refused EBADF
ready_came files (Some d) = count_came (ready_bytes files d d.object)

abbrev pub ready_reply : Files → Option Description → Reply
ready_reply files None = native_step.failure EBADF
ready_reply files (Some d) = if is_some (ready_bytes files d d.object) then native_step.failure EFAULT else native_step.failure ENOTTY

ready_did : (files : Files) (fd : ℕ) → bytes_ready files fd ≡ record { state = files; came = ready_came files (opened files fd) }
unfolding bytes_ready
ready_did files fd = by (opened files fd) where
  of : (ready : Option ℕ) → with_some files ENOTTY ready (λ count. done files count) ≡ record { state = files; came = count_came ready }
  of None = refl
  of (Some count) = refl

  by : (there : Option Description) → with_some files EBADF there (λ d. with_some files ENOTTY (ready_bytes files d d.object) (λ count. done files count)) ≡ record { state = files; came = ready_came files there }
  by None = refl
  by (Some d) = of (ready_bytes files d d.object)

ready_look_of : (kernel : Kernel) (memory left : List ℕ) (there : Option Description)
    → IsLook kernel (ready_reply kernel.files there) memory left (native_step.stores memory 0 (told_as int_bytes (on_files kernel (record { state = kernel.files; came = ready_came kernel.files there }))) left)
ready_look_of kernel memory left None = record { kernel_stays = refl; left_stays = refl; sends = refl; replied = refl; stored = refl }
ready_look_of kernel memory left (Some d) = by (ready_bytes kernel.files d d.object) where
  by : (ready : Option ℕ) → IsLook kernel (if is_some ready then native_step.failure EFAULT else native_step.failure ENOTTY) memory left (native_step.stores memory 0 (told_as int_bytes (on_files kernel (record { state = kernel.files; came = count_came ready }))) left)
  by None = record { kernel_stays = refl; left_stays = refl; sends = refl; replied = refl; stored = refl }
  by (Some count) = record { kernel_stays = refl; left_stays = refl; sends = refl; replied = refl; stored = refl }

pub ready_look : (kernel : Kernel) (memory left : List ℕ) (first fd : ℕ) → first ≡ fd → fd < 2 ^ 32 → IsLook kernel (ready_reply kernel.files (opened kernel.files fd)) memory left (native_call 29 (first ∷ 0x541B ∷ 0 ∷ 0 ∷ 0 ∷ 0 ∷ []) kernel memory left)
unfolding ioctl_row
ready_look kernel memory left first fd same word =
    let is : first % 2 ^ 32 ≡ fd = omega arith in
    let did : bytes_ready kernel.files (first % 2 ^ 32) ≡ record { state = kernel.files; came = ready_came kernel.files (opened kernel.files fd) } = ap (λ (n : ℕ). bytes_ready kernel.files n) is ∙ ready_did kernel.files fd in
    subst (λ (d : Did Files ℕ). IsLook kernel (ready_reply kernel.files (opened kernel.files fd)) memory left (native_step.stores memory 0 (told_as int_bytes (on_files kernel d)) left)) (sym did)
    (ready_look_of kernel memory left (opened kernel.files fd))

pub ready_told : (files : Files) (there : Option Description) → is_fault (ready_reply files there) ≡ is_ready files there
ready_told files None = refl
ready_told files (Some d) = by (is_some (ready_bytes files d d.object)) where
  by : (ready : Bool) → is_fault (if ready then native_step.failure EFAULT else native_step.failure ENOTTY) ≡ ready
  by true = refl
  by false = refl
