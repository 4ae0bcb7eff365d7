-- The calls on status, as native calls.
use Rattle.std.proofs.Common.{◌≡◌, ℕ, ◌≤◌, ◌<◌, ◌^◌, ◌%◌, List, [], ◌∷◌, length, replicate, Option, Some, None, Ok, Err, refl, sym, ap, subst, ◌∙◌, arith}
use Rattle.std.proofs.lemmas.Int.{ints}
use Rattle.std.proofs.lemmas.List.{length-append}
use Rattle.std.specs.FinMap.{get}
use Rattle.std.specs.Prelude.{pos, Bool, true, false, not, ◌&&◌, ◌||◌, drop, nat_lt, option_map, if◌then◌else◌}
use Rattle.byteorder.specs.Endian.{little_number}
use Rattle.host_mem.specs.Memory.{written}
use Rattle.kernel_core.specs.Bits.{has}
use Rattle.kernel_core.specs.FileSystem.{IsFileSystem, IsLiveContent, IsTime}
use Rattle.kernel_core.specs.NameCalls.{is_empty_list}
use Rattle.kernel_core.specs.NodeCalls.{content_size}
use Rattle.kernel_core.specs.Nodes.{Inode, NodeContent, Nodes, File, Directory, Link}
use Rattle.kernel_core.specs.declared.error.Errno.{Errno}
use Rattle.kernel_core.specs.declared.error.Errno.TheVariants.{EBADF, EFAULT, EINVAL, ENOENT, EOVERFLOW}
use Rattle.kernel_core.specs.declared.reply.Reply.{Reply}
use Rattle.kernel_model.specs.Came.{Came, Done, Refused, Waits, Did, Given, came_as, done, refused, told_as, with_some}
use Rattle.kernel_model.specs.ContentRows.{Status, node_status, object_status, pipe_status, status, status_at, stream_status}
use Rattle.kernel_model.specs.Descriptions.{opened}
use Rattle.kernel_model.specs.NodeRows.{StatusFlags, status_at_path, status_of_base}
use Rattle.kernel_model.specs.Paths.{Base, Descriptor, Working, walk_to_node}
use Rattle.kernel_model.specs.State.{Kernel, Files}
use Rattle.kernel_model.specs.Whole.{on_files}
use Rattle.kernel_model.specs.declared.descriptor.Object.{Object}
use Rattle.kernel_model.specs.declared.descriptor.Object.TheVariants as objects
use Rattle.kernel_model.specs.declared.stream.Stream.TheVariants as streams
use Rattle.kernel_model.specs.declared.terminal.Terminal.{Terminal}
use Rattle.native_calls.specs.Nodes as native
use Rattle.native_calls.specs.Paths as host
use Rattle.native_calls.specs.Status as native_status
use Rattle.native_calls.specs.Step as native_step
use Rattle.native_calls.specs.Table.{native_call}
use Rattle.o32_model.specs.GuestBytes.{with_stored}
use Rattle.o32_model.specs.PathArguments.{base}
use Rattle.o32_model.specs.Paths as guest_paths
use Rattle.o32_model.specs.Status as o32
use Rattle.o32_model.specs.Status.{greatest_node, status_flags}
use Rattle.o32_model.specs.Step as o32_step
use Rattle.o32_model.specs.Step.{Guest}
use Rattle.o32_model.specs.Transfers.{small_file_limit}
use Rattle.bridge_paths.proofs.Passed.{outcome_of_wake}
use Rattle.bridge_paths.specs.Passed.{Bounded}
use Rattle.bridge_paths.proofs.Rows.{bounded_either, bounded_given, bounded_some, word}
use Rattle.bridge_paths.specs.HostPaths.{BeginsWith}
use Rattle.bridge_paths.specs.Refusals.{Refuses}
use Rattle.bridge_status.proofs.Flags.{listed_alike}
use Rattle.bridge_status.proofs.Shown.{AreTimes, number8, old_same, wide_same}
use Rattle.bridge_status.proofs.TellMirrors.{first_inside, outcome_of_failure, told_of_failure, written_there}
use Rattle.bridge_status.specs.declared.structures.Form.{Form}
use Rattle.bridge_status.specs.declared.structures.Form.TheVariants.{Old, Wide}
use Rattle.bridge_status.specs.inside.StatusCalls.{is_listed, open_status, path_status, stores_in}
use Rattle.bridge_status.specs.inside.Statuses.{is_wide}
use Rattle.bridge_status.specs.inside.Tells.{Tells, memory_by, memory_told, outcome_by, outcome_told, status_there}

-- A status that a kernel tells

pub record IsSound (s : Status) : Type 0 where
  pub number : s.number < 2 ^ 64
  pub size : s.size < 2 ^ 64
  pub times : AreTimes s

whole : (n : ℕ) → n < 2 ^ 64 → n % 2 ^ 64 ≡ n
whole n small = omega arith

wide_is : (s : Status) → IsSound s → is_wide (native_status.status_bytes s) ≡ o32.is_wide s
wide_is s sound =
    let number : little_number 8 (drop 8 (native_status.status_bytes s)) ≡ s.number = number8 s.number ∙ whole s.number sound.number in
    let size : little_number 8 (drop 48 (native_status.status_bytes s)) ≡ s.size = number8 s.size ∙ whole s.size sound.size in
    λ i. nat_lt greatest_node (number i) || nat_lt small_file_limit (size i)

long : (s : Status) → length (native_status.status_bytes s) ≡ 128
long s = refl

-- The call, by what the row came to

abbrev reply_by : Bool → Reply
reply_by fits = if fits then native_step.value 0 else native_step.failure EFAULT

module _ (guest : Guest) (kernel : Kernel) (address : ℕ) (memory left : List ℕ) (room : 128 ≤ length memory) where
  after : Status → List ℕ
  after s = written memory 65536 (native_status.status_bytes s)

  there : (s : Status) → status_there (after s) ≡ Some (native_status.status_bytes s)
  unfolding status_there after
  there s = written_there memory (native_status.status_bytes s) 128 (long s) (omega (arith, long s, room))

  memory_is : (form : Form) (s : Status) → memory_told guest.memory address form (after s) (native_step.stored memory 65536 (native_status.status_bytes s)) ≡ memory_by guest.memory address form (Some (native_status.status_bytes s))
  memory_is form s =
      ap (λ (b : Bool). memory_told guest.memory address form (after s) (reply_by b)) (first_inside memory (native_status.status_bytes s) (omega (arith, long s, room)))
      ∙ ap (memory_by guest.memory address form) (there s)

  outcome_is : (form : Form) (s : Status) → outcome_told guest.words guest.memory address form (after s) (native_step.stored memory 65536 (native_status.status_bytes s)) ≡ outcome_by guest.memory address form (Some (native_status.status_bytes s))
  outcome_is form s =
      ap (λ (b : Bool). outcome_told guest.words guest.memory address form (after s) (reply_by b)) (first_inside memory (native_status.status_bytes s) (omega (arith, long s, room)))
      ∙ ap (outcome_by guest.memory address form) (there s)

  -- what the row does to memory, and its outcome, by whether the status is too wide

  memory_if : (s : Status) (wide : Bool) → o32_step.memory_after (with_stored guest.memory address) guest.memory (came_as o32.status_bytes (if wide then Refused EOVERFLOW else Done s))
      ≡ (if wide then guest.memory else with_stored guest.memory address (o32.status_bytes s))
  memory_if s true = refl
  memory_if s false = refl

  outcome_if : (s : Status) (wide : Bool) → o32_step.outcome_of (o32_step.stored guest.memory address) guest.words (came_as o32.status_bytes (if wide then Refused EOVERFLOW else Done s))
      ≡ (if wide then o32_step.failure EOVERFLOW else o32_step.stored guest.memory address (o32.status_bytes s))
  outcome_if s true = refl
  outcome_if s false = refl

  done_wide : (s : Status) → IsSound s
      → Tells guest address Wide (native_step.stores memory 65536 (told_as native_status.status_bytes (record { state = kernel; came = Done s })) left) (stores_in Wide guest address (record { state = kernel; came = Done s }) left)
  unfolding after
  done_wide s sound =
      let bytes = wide_same s sound.times in
      record {
        kernel = refl;
        left = refl;
        native_sends = refl;
        sends = refl;
        stored_so = sym (memory_is Wide s ∙ ap (with_stored guest.memory address) bytes);
        set = refl;
        came = sym (outcome_is Wide s ∙ ap (o32_step.stored guest.memory address) bytes);
      }

  done_old : (s : Status) → IsSound s
      → Tells guest address Old (native_step.stores memory 65536 (told_as native_status.status_bytes (record { state = kernel; came = Done s })) left) (stores_in Old guest address (record { state = kernel; came = Done s }) left)
  unfolding after
  done_old s sound =
      let bytes = old_same s sound.times in
      let wide = wide_is s sound in
      record {
        kernel = refl;
        left = refl;
        native_sends = refl;
        sends = refl;
        stored_so = memory_if s (o32.is_wide s) ∙ sym (memory_is Old s ∙ (λ i. if wide i then guest.memory else with_stored guest.memory address (bytes i)));
        set = refl;
        came = outcome_if s (o32.is_wide s) ∙ sym (outcome_is Old s ∙ (λ i. if wide i then o32_step.failure EOVERFLOW else o32_step.stored guest.memory address (bytes i)));
      }

  failed : (form : Form) (error : Errno)
      → Tells guest address form (native_step.stores memory 65536 (told_as native_status.status_bytes (record { state = kernel; came = Refused error })) left) (stores_in form guest address (record { state = kernel; came = Refused error }) left)
  failed Old error = record {
    kernel = refl;
    left = refl;
    native_sends = refl;
    sends = refl;
    stored_so = sym (told_of_failure guest.memory address Old memory error);
    set = refl;
    came = sym (outcome_of_failure guest.words guest.memory address Old memory error);
  }
  failed Wide error = record {
    kernel = refl;
    left = refl;
    native_sends = refl;
    sends = refl;
    stored_so = sym (told_of_failure guest.memory address Wide memory error);
    set = refl;
    came = sym (outcome_of_failure guest.words guest.memory address Wide memory error);
  }

  status_came : (form : Form) (came : Came Status) → Bounded IsSound came
      → Tells guest address form (native_step.stores memory 65536 (told_as native_status.status_bytes (record { state = kernel; came = came })) left) (stores_in form guest address (record { state = kernel; came = came }) left)
  status_came Old (Done s) sound = done_old s sound
  status_came Wide (Done s) sound = done_wide s sound
  status_came form (Refused error) sound = failed form error
  status_came Old (Waits wake) sound = record { kernel = refl; left = refl; native_sends = refl; sends = refl; stored_so = refl; set = refl; came = sym (outcome_of_wake guest.words wake sound) }
  status_came Wide (Waits wake) sound = record { kernel = refl; left = refl; native_sends = refl; sends = refl; stored_so = refl; set = refl; came = sym (outcome_of_wake guest.words wake sound) }

-- What the kernel tells is sound.

zero_time : IsTime (pos 0)
zero_time = (omega (arith, ints), omega (arith, ints))

content_short : (nodes : Nodes) (number links : ℕ) (content : NodeContent) → IsLiveContent nodes number links content → content_size content < 2 ^ 64
content_short nodes number links (File content) live = let small = live.0.small in omega arith
content_short nodes number links (Directory listing) live = omega arith
content_short nodes number links (Link target) live = let short = live.0.short in omega arith

stream_sound : (number : ℕ) (terminal : Option Terminal) → number < 2 ^ 64 → IsSound (stream_status number terminal)
stream_sound number None small = record { number = small; size = omega arith; times = record { access = zero_time; modified = zero_time; changed = zero_time } }
stream_sound number (Some terminal) small = record { number = small; size = omega arith; times = record { access = zero_time; modified = zero_time; changed = zero_time } }

node_sound : (files : Files) → IsFileSystem files.nodes → (node : ℕ) (inode : Inode) → get files.nodes node ≡ Some inode → IsSound (node_status node inode)
node_sound files valid node inode is =
    let live = valid.each node inode is in
    record {
      number = let high = live.high in omega arith;
      size = content_short files.nodes node inode.links inode.content live.content;
      times = record { access = live.access; modified = live.modified; changed = live.changed };
    }

found_sound : (files : Files) → IsFileSystem files.nodes → (node : ℕ) (there : Option Inode) → get files.nodes node ≡ there → (s : Status) → option_map (node_status node) there ≡ Some s → IsSound s
found_sound files valid node None is s same = absurd cc
found_sound files valid node (Some inode) is s same = subst IsSound (some_is same) (node_sound files valid node inode is) where
  some_is : {A : Type 0} {a b : A} → Some a ≡ Some b → a ≡ b
  some_is same = cc

at_sound : (files : Files) → IsFileSystem files.nodes → (node : ℕ) (s : Status) → status_at files.nodes node ≡ Some s → IsSound s
at_sound files valid node s same = found_sound files valid node (get files.nodes node) refl s same

stream_number-lt : (files : Files) (number : ℕ) (s : Status) → number < 2 ^ 64 → Some (stream_status number files.terminal) ≡ Some s → IsSound s
stream_number-lt files number s small same = subst IsSound (some_is same) (stream_sound number files.terminal small) where
  some_is : {A : Type 0} {a b : A} → Some a ≡ Some b → a ≡ b
  some_is same = cc

-- a value that is there, with the equation
bounded_there : {S V A : Type 0} (P : V → Type 0) (state : S) (error : Errno) (there : Option A) (rest : A → Did S V) → ((a : A) → there ≡ Some a → Bounded P (rest a).came)
    → Bounded P (with_some state error there rest).came
bounded_there P state error None rest each = tt
bounded_there P state error (Some a) rest each = each a refl

pipe_sound : IsSound pipe_status
pipe_sound = record { number = omega arith; size = omega arith; times = record { access = zero_time; modified = zero_time; changed = zero_time } }

pipe_is : {s : Status} → Some pipe_status ≡ Some s → pipe_status ≡ s
pipe_is same = cc

object_sound : (files : Files) → IsFileSystem files.nodes → (object : Object) (s : Status) → object_status files object ≡ Some s → IsSound s
object_sound files valid (objects.Stream streams.Input) s same = stream_number-lt files 1 s (omega arith) same
object_sound files valid (objects.Stream streams.Out) s same = stream_number-lt files 2 s (omega arith) same
object_sound files valid (objects.Stream streams.Err) s same = stream_number-lt files 3 s (omega arith) same
object_sound files valid (objects.ReadEnd pipe) s same = subst IsSound (pipe_is same) pipe_sound
object_sound files valid (objects.WriteEnd pipe) s same = subst IsSound (pipe_is same) pipe_sound
object_sound files valid (objects.Node node) s same = at_sound files valid node s same

open_sound : (files : Files) (fd : ℕ) → IsFileSystem files.nodes → Bounded IsSound (status files fd).came
unfolding status
open_sound files fd valid =
    bounded_some IsSound files EBADF (opened files fd) _ (λ description.
    bounded_there IsSound files EBADF (object_status files description.object) _ (λ s same. object_sound files valid description.object s same))

node_told : (files : Files) (node : ℕ) → IsFileSystem files.nodes → Bounded IsSound (with_some files ENOENT (status_at files.nodes node) (λ s. done files s)).came
node_told files node valid = bounded_there IsSound files ENOENT (status_at files.nodes node) _ (λ s same. at_sound files valid node s same)

base_sound : (files : Files) (from : Base) → IsFileSystem files.nodes → Bounded IsSound (status_of_base files from).came
base_sound files Working valid = node_told files files.directory valid
base_sound files (Descriptor fd) valid = open_sound files fd valid

path_sound : (files : Files) (from : Base) (path : List ℕ) (flags : Option StatusFlags) → IsFileSystem files.nodes → Bounded IsSound (status_at_path files from (Ok path) flags).came
unfolding status_at_path
path_sound files from path flags valid =
    bounded_some IsSound files EINVAL flags _ (λ flags.
    bounded_either IsSound (flags.empty && is_empty_list path) _ _ (base_sound files from valid)
    (bounded_given IsSound files (walk_to_node files from path flags.follow) _ (λ node. node_told files node valid)))

-- Both calls tell what a row came to.

status_tells : (guest : Guest) (form : Form) (did given there : Did Kernel Status) (address : ℕ) (memory left : List ℕ) → given ≡ did → there ≡ did → 128 ≤ length memory → Bounded IsSound did.came
    → Tells guest address form (native_step.stores memory 65536 (told_as native_status.status_bytes given) left) (stores_in form guest address there left)
status_tells guest form did given there address memory left same also room sound =
    subst (λ (d : Did Kernel Status). Tells guest address form (native_step.stores memory 65536 (told_as native_status.status_bytes given) left) (stores_in form guest address d left)) (sym also)
    (subst (λ (d : Did Kernel Status). Tells guest address form (native_step.stores memory 65536 (told_as native_status.status_bytes d) left) (stores_in form guest address did left)) (sym same)
    (status_came guest did.state address memory left room form did.came sound))

abbrev open_as : Kernel → ℕ → Did Kernel Status
open_as kernel fd = on_files kernel (status kernel.files fd)

pub fstat_tells : (guest : Guest) (kernel : Kernel) (form : Form) (address given fd : ℕ) (memory left : List ℕ) → IsFileSystem kernel.files.nodes → given ≡ fd → fd < 2 ^ 32 → memory ≡ replicate 128 0
    → Tells guest address form (native_call 80 (given ∷ 65536 ∷ 0 ∷ 0 ∷ 0 ∷ 0 ∷ []) kernel memory left) (open_status form kernel guest fd address left)
unfolding native_status.fstat_row
fstat_tells guest kernel form address given fd memory left valid one first room =
    status_tells guest form (open_as kernel fd) (open_as kernel (given % 2 ^ 32)) (open_as kernel fd) address memory left (ap (open_as kernel) (word given fd one first)) refl
    (omega (arith, ap length room)) (open_sound kernel.files fd valid)

-- Flags: both worlds read them alike.

flags_same : (given flags : ℕ) → given % 2 ^ 32 ≡ flags → native.status_flags (given % 2 ^ 32) ≡ status_flags flags
flags_same given flags same =
    let meaning : StatusFlags = record { follow = not (has flags 0x100); empty = has flags 0x1000 } in
    ap native.status_flags same ∙ ap (λ (listed : Bool). if listed then Some meaning else None) (listed_alike flags)

abbrev path_as : Kernel → ℕ → Given (List ℕ) → Option StatusFlags → Did Kernel Status
path_as kernel from path flags = on_files kernel (status_at_path kernel.files (base from) path flags)

room_there : (memory : List ℕ) → BeginsWith (replicate 128 0) memory → 128 ≤ length memory
room_there memory begins = omega (arith, ap length begins.stands ∙ length-append (replicate 128 0) begins.rest)

pub fstatat_tells : (guest : Guest) (kernel : Kernel) (form : Form) (address buffer given_from at given_flags from flags : ℕ) (path memory left : List ℕ) → IsFileSystem kernel.files.nodes → given_from ≡ from → given_flags ≡ flags → from < 2 ^ 32 → flags < 2 ^ 32
    → guest_paths.path_at guest.memory address ≡ Ok path → host.path_at memory at ≡ Ok path → BeginsWith (replicate 128 0) memory
    → Tells guest buffer form (native_call 79 (given_from ∷ at ∷ 65536 ∷ given_flags ∷ 0 ∷ 0 ∷ []) kernel memory left) (path_status form kernel guest (base from) address buffer flags left)
unfolding native.newfstatat_row
fstatat_tells guest kernel form address buffer given_from at given_flags from flags path memory left valid one two first second there here begins =
    let e1 = word given_from from one first in
    let e2 = flags_same given_flags flags (word given_flags flags two second) in
    status_tells guest form (path_as kernel from (Ok path) (status_flags flags)) (path_as kernel (given_from % 2 ^ 32) (host.path_at memory at) (native.status_flags (given_flags % 2 ^ 32)))
    (path_as kernel from (guest_paths.path_at guest.memory address) (status_flags flags)) buffer memory left
    (λ i. path_as kernel (e1 i) (here i) (e2 i)) (ap (λ (p : Given (List ℕ)). path_as kernel from p (status_flags flags)) there) (room_there memory begins)
    (path_sound kernel.files (base from) path (status_flags flags) valid)

-- What comes of the flags or of the path is found without a native call.

in_refused : (form : Form) (guest : Guest) (kernel : Kernel) (buffer : ℕ) (error : Errno) (left : List ℕ) → Refuses guest kernel error left (stores_in form guest buffer (refused kernel error) left)
in_refused Old guest kernel buffer error left = refl
in_refused Wide guest kernel buffer error left = refl

unlisted_none : (flags : ℕ) → is_listed flags ≡ false → status_flags flags ≡ None
unlisted_none flags none = rw none refl

pub status_unlisted : (guest : Guest) (kernel : Kernel) (form : Form) (from : Base) (address buffer flags : ℕ) (left : List ℕ) → is_listed flags ≡ false
    → Refuses guest kernel EINVAL left (path_status form kernel guest from address buffer flags left)
unfolding status_at_path
status_unlisted guest kernel form from address buffer flags left none =
    ap (λ (f : Option StatusFlags). stores_in form guest buffer (on_files kernel (status_at_path kernel.files from (guest_paths.path_at guest.memory address) f)) left) (unlisted_none flags none)
    ∙ in_refused form guest kernel buffer EINVAL left

meaning_of : ℕ → StatusFlags
meaning_of flags = record { follow = not (has flags 0x100); empty = has flags 0x1000 }

listed_some : (flags : ℕ) → is_listed flags ≡ true → status_flags flags ≡ Some (meaning_of flags)
unfolding meaning_of
listed_some flags listed = ap (λ (b : Bool). if b then Some (meaning_of flags) else None) listed

pub status_lost : (guest : Guest) (kernel : Kernel) (form : Form) (from : Base) (address buffer flags : ℕ) (error : Errno) (left : List ℕ) → is_listed flags ≡ true → guest_paths.path_at guest.memory address ≡ Err error
    → Refuses guest kernel error left (path_status form kernel guest from address buffer flags left)
unfolding status_at_path
status_lost guest kernel form from address buffer flags error left listed there =
    let meant = listed_some flags listed in
    (λ i. stores_in form guest buffer (on_files kernel (status_at_path kernel.files from (there i) (meant i))) left)
    ∙ in_refused form guest kernel buffer error left
