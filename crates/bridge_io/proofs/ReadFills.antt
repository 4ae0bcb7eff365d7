-- Reads as native calls that fill a buffer.
use Rattle.std.proofs.Common.{◌≡◌, ℕ, zero, suc, ◌+◌, ◌<◌, ◌≤◌, ◌%◌, ◌^◌, List, [], ◌∷◌, length, take, replicate, Option, Some, None, refl, sym, ap, subst, ◌∙◌, arith, length-take, Ok}
use Rattle.std.proofs.lemmas.List.{length-replicate}
use Rattle.std.proofs.lemmas.Bool.Decides.{nat_tests}
use Rattle.std.specs.Int.{w64, cast_signed}
use Rattle.std.specs.Prelude.{ℤ, Bool, true, false, not, if◌then◌else◌}
use Rattle.guest_space.specs.Access.{writable_prefix}
use Rattle.guest_space.specs.Bytes.{copied_out}
use Rattle.guest_space.proofs.Uses.{writable_prefix-le}
use Rattle.host_mem.specs.Memory.{first_address, written}
use Rattle.kernel_core.specs.FileContent.{bytes_at, readable as readable_count, Blocks}
use Rattle.kernel_core.specs.Nodes.{NodeContent, File, Directory, Link}
use Rattle.kernel_core.specs.declared.error.Errno.TheVariants.{EAGAIN, EBADF, EFAULT}
use Rattle.kernel_model.specs.Came.{Done, Refused, Did, Given}
use Rattle.kernel_model.specs.Descriptions.{readable, content_at}
use Rattle.kernel_model.specs.Pipes.{stays, becomes, waits_after, pipe_at}
use Rattle.kernel_model.specs.State.{Kernel, Files, Pipe}
use Rattle.kernel_model.specs.Transfers.{transferring, moved_to, reading, read, read_at, read_object, read_end, read_content}
use Rattle.kernel_model.specs.Whole.{KernelReading, kernel_read, on_files}
use Rattle.kernel_model.specs.declared.descriptor.Description.{Description}
use Rattle.kernel_model.specs.declared.descriptor.Object.{Object}
use Rattle.kernel_model.specs.declared.descriptor.Object.TheVariants as objects
use Rattle.kernel_model.specs.declared.stream.Stream.TheVariants as streams
use Rattle.native_calls.specs.HostBytes as host
use Rattle.native_calls.specs.Table.{native_call}
use Rattle.native_calls.specs.Transfers as native
use Rattle.native_calls.specs.Step as native_step
use Rattle.o32_model.specs.Step as o32_step
use Rattle.o32_model.specs.Step.{Guest}
use Rattle.o32_model.specs.Transfers as o32
use Rattle.o32_model.specs.declared.outcome.Outcome.TheVariants.{Error}
use Rattle.bridge_log.proofs.Ends.{Still}
use Rattle.bridge_log.specs.Bounds.{Bounded}
use Rattle.bridge_log.specs.Fills.{Fills}
use Rattle.bridge_io.proofs.Fitting.{bounded_some, bounded_transferring, bounded_at_place}

-- No read gives more bytes than there is room for.

abbrev Within : ℕ → List ℕ → Type 0
Within room bytes = length bytes ≤ room

taken_within : (room most : ℕ) (bytes : List ℕ) → most ≤ room → length (take most bytes) ≤ room
taken_within room most bytes less = omega (arith, length-take most bytes)

length-bytes_at : (blocks : Blocks) (count at : ℕ) → length (bytes_at blocks at count) ≡ count
unfolding bytes_at
length-bytes_at blocks zero at = refl
length-bytes_at blocks (suc count) at = ap suc (length-bytes_at blocks count (at + 1))

pipe_within : (empty writers nonblock : Bool) (room most : ℕ) (pipe after : Pipe) → most ≤ room
    → Bounded (Within room) (if not empty then becomes after (Done (take most pipe.bytes)) else (if not writers then stays (Done []) else (if nonblock then stays (Refused EAGAIN) else stays (waits_after 0)))).came
pipe_within false writers nonblock room most pipe after less = taken_within room most pipe.bytes less
pipe_within true false nonblock room most pipe after less = omega arith
pipe_within true true true room most pipe after less = tt
pipe_within true true false room most pipe after less = omega arith

end_within : (files : Files) (description : Description) (number room most : ℕ) (there : Option Pipe) → most ≤ room → Bounded (Within room) (read_end files description number most there).came
end_within files description number room most None less = tt
end_within files description number room most (Some pipe) less = pipe_within _ pipe.writers description.flags.nonblock room most pipe _ less

pub content_within : (files : Files) (at room most : ℕ) (after : ℕ → Files) (content : Option NodeContent) → most ≤ room → Bounded (Within room) (read_content files at most after content).came
content_within files at room most after None less = tt
content_within files at room most after (Some (File content)) less = omega (arith, length-bytes_at content.blocks (readable_count content at most) at)
content_within files at room most after (Some (Directory listing)) less = tt
content_within files at room most after (Some (Link target)) less = tt

object_within : (files : Files) (left : List ℕ) (fd : ℕ) (description : Description) (room most : ℕ) (object : Object) → most ≤ room → Bounded (Within room) (read_object files left fd description most object).came
object_within files left fd description room most (objects.Stream streams.Input) less = taken_within room most left less
object_within files left fd description room most (objects.Stream streams.Out) less = tt
object_within files left fd description room most (objects.Stream streams.Err) less = tt
object_within files left fd description room most (objects.ReadEnd pipe) less = end_within files description pipe room most (pipe_at files.flow pipe) less
object_within files left fd description room most (objects.WriteEnd pipe) less = tt
object_within files left fd description room most (objects.Node node) less = content_within files description.position room most (λ count. moved_to files fd description (description.position + count)) (content_at files.nodes node) less

read_within : (files : Files) (left : List ℕ) (fd : ℕ) (asked : Given ℕ) (room : ℕ) → Bounded (Within room) (read files left fd asked room).came
unfolding read
read_within files left fd asked room =
    bounded_some (Within room) _ _ (readable files fd) _ (λ description _.
    bounded_transferring (Within room) (reading left files) asked room [] (λ most. read_object files left fd description most description.object) (omega arith) (λ most less.
    object_within files left fd description room most description.object less))

read_at_within : (files : Files) (fd : ℕ) (place : ℤ) (asked : Given ℕ) (room : ℕ) → Bounded (Within room) (read_at files fd place asked room).came
unfolding read_at
read_at_within files fd place asked room =
    bounded_some (Within room) files EBADF (readable files fd) _ (λ description _.
    bounded_at_place (Within room) files place description.object
    (λ at node. transferring files asked room [] (λ most. read_content files at most (λ _. files) (content_at files.nodes node))) (λ at node.
    bounded_transferring (Within room) files asked room [] (λ most. read_content files at most (λ _. files) (content_at files.nodes node)) (omega arith) (λ most less.
    content_within files at room most (λ _. files) (content_at files.nodes node) less)))

pub kernel_read_within : (kernel : Kernel) (left : List ℕ) (fd : ℕ) (asked : Given ℕ) (room : ℕ) → Bounded (Within room) (kernel_read kernel left fd asked room).came
unfolding kernel_read
kernel_read_within kernel left fd asked room = read_within kernel.files left fd asked room

-- Host memory is as long as the buffer.

pub room_is : (room count : ℕ) → room ≤ count → host.accessible (replicate room 0) first_address count ≡ room
room_is room count less = grind (arith, nat_tests, length-replicate {A = ℕ} room 0)

-- read(2)

after_read_fills : (guest : Guest) (buffer : ℕ) (room : List ℕ) (did : Did KernelReading (List ℕ)) → Bounded (Within (length room)) did.came
    → Fills guest buffer room (native.after_read (written room first_address) room did) (o32.after_read (copied_out guest.memory buffer) guest did)
after_read_fills guest buffer room did within = record {
  came = did.came;
  bounded = within;
  kernel = refl;
  left = refl;
  native_sends = refl;
  sends = refl;
  room_after = refl;
  stored = refl;
  set = refl;
  replied = refl;
  outcome = refl;
}

pub read_fills : (guest : Guest) (kernel : Kernel) (left : List ℕ) (first third fd buffer count : ℕ) → first ≡ fd → third ≡ count → fd < 2 ^ 32
    → (let room = replicate {A = ℕ} (writable_prefix guest.memory.pages buffer count) 0 in
    Fills guest buffer room (native_call 63 (first ∷ 65536 ∷ third ∷ 0 ∷ 0 ∷ 0 ∷ []) kernel room left) (o32.read_row kernel guest fd buffer count left))
unfolding native.read_row o32.read_row
read_fills guest kernel left first third fd buffer count first_is third_is word =
    let size = writable_prefix guest.memory.pages buffer count in
    let room = replicate {A = ℕ} size 0 in
    let odid = kernel_read kernel left fd (Ok count) size in
    let e1 : first % 2 ^ 32 ≡ fd = omega arith in
    let e3 : host.accessible room 65536 third ≡ size = room_is size third (omega (arith, writable_prefix-le guest.memory.pages count buffer)) in
    let same : kernel_read kernel left (first % 2 ^ 32) (Ok third) (host.accessible room 65536 third) ≡ odid =
    ap (λ (n : ℕ). kernel_read kernel left n (Ok third) (host.accessible room 65536 third)) e1
    ∙ ap (λ (n : ℕ). kernel_read kernel left fd (Ok third) n) e3
    ∙ ap (λ (n : ℕ). kernel_read kernel left fd (Ok n) size) third_is in
    let within : Bounded (Within (length room)) odid.came = rw (length-replicate {A = ℕ} size 0) (kernel_read_within kernel left fd (Ok count) size) in
    subst (λ (d : Did KernelReading (List ℕ)). Fills guest buffer room (native.after_read (written room first_address) room d) (o32.after_read (copied_out guest.memory buffer) guest odid)) (sym same)
    (after_read_fills guest buffer room odid within)

-- pread(2)

pread_at : (guest : Guest) (buffer : ℕ) (room left : List ℕ) (did : Did Kernel (List ℕ)) → Bounded (Within (length room)) did.came
    → Fills guest buffer room (native_step.fills (written room first_address) room did left) (o32_step.fills (copied_out guest.memory buffer) guest did left)
pread_at guest buffer room left did within = record {
  came = did.came;
  bounded = within;
  kernel = refl;
  left = refl;
  native_sends = refl;
  sends = refl;
  room_after = refl;
  stored = refl;
  set = refl;
  replied = refl;
  outcome = refl;
}

pub pread_fills : (guest : Guest) (kernel : Kernel) (left : List ℕ) (first third fd buffer count place : ℕ) → first ≡ fd → third ≡ count → fd < 2 ^ 32
    → (let room = replicate {A = ℕ} (writable_prefix guest.memory.pages buffer count) 0 in
    Fills guest buffer room (native_call 67 (first ∷ 65536 ∷ third ∷ place ∷ 0 ∷ 0 ∷ []) kernel room left) (o32.pread_row kernel guest fd buffer count (Some place) left))
unfolding native.pread_row o32.pread_row
pread_fills guest kernel left first third fd buffer count place first_is third_is word =
    let size = writable_prefix guest.memory.pages buffer count in
    let room = replicate {A = ℕ} size 0 in
    let at = cast_signed w64 place in
    let odid = on_files kernel (read_at kernel.files fd at (Ok count) size) in
    let e1 : first % 2 ^ 32 ≡ fd = omega arith in
    let e3 : host.accessible room 65536 third ≡ size = room_is size third (omega (arith, writable_prefix-le guest.memory.pages count buffer)) in
    let same : on_files kernel (read_at kernel.files (first % 2 ^ 32) at (Ok third) (host.accessible room 65536 third)) ≡ odid =
    ap (λ (n : ℕ). on_files kernel (read_at kernel.files n at (Ok third) (host.accessible room 65536 third))) e1
    ∙ ap (λ (n : ℕ). on_files kernel (read_at kernel.files fd at (Ok third) n)) e3
    ∙ ap (λ (n : ℕ). on_files kernel (read_at kernel.files fd at (Ok n) size)) third_is in
    let within : Bounded (Within (length room)) odid.came = rw (length-replicate {A = ℕ} size 0) (read_at_within kernel.files fd at (Ok count) size) in
    subst (λ (d : Did Kernel (List ℕ)). Fills guest buffer room (native_step.fills (written room first_address) room d left) (o32_step.fills (copied_out guest.memory buffer) guest odid left)) (sym same)
    (pread_at guest buffer room left odid within)

-- a place that can't be read
pub pread_still : (guest : Guest) (kernel : Kernel) (left : List ℕ) (fd buffer count : ℕ) → Still guest kernel left (Error EFAULT) (o32.pread_row kernel guest fd buffer count None left)
unfolding o32.pread_row
pread_still guest kernel left fd buffer count = record { kernel_stays = refl; left_stays = refl; sends = refl; stored = refl; set = refl; came = refl }
