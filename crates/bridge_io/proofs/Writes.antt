-- What a write comes to and sends: a count that a register holds, and at an output as many bytes as it has done.
use Rattle.std.proofs.Common.{◌≡◌, ℕ, zero, suc, ◌+◌, ◌-◌, ◌<◌, ◌≤◌, ◌^◌, List, length, take, Option, Some, None, refl, sym, ap, subst, arith, Ok, Err, length-take, lit<}
use Rattle.std.specs.Prelude.{ℤ, Bool, true, false, min, not, nat_le, option_and_then, ◌==◌, if◌then◌else◌}
use Rattle.kernel_core.specs.FileContent.{FileContent, Blocks, longest_write}
use Rattle.kernel_core.specs.NodeCalls.{write_refusal, write_length, after_write}
use Rattle.kernel_core.specs.Nodes.{file_at}
use Rattle.kernel_core.specs.declared.error.Errno.{Errno}
use Rattle.kernel_core.specs.declared.error.Errno.TheVariants.{EBADF, EFAULT, EFBIG, EPIPE}
use Rattle.kernel_model.specs.Came.{Done, Refused, Did, Given, done, refused, refused_if, refused_by, with_some}
use Rattle.kernel_model.specs.Clock.{now}
use Rattle.kernel_model.specs.Descriptions.{opened, if_writes, writes, output_of, output_at}
use Rattle.kernel_model.specs.Pipes.{write_pipe, write_part, write_some, write_none, part_length, pipe_at, room, put, stays, becomes, nothing}
use Rattle.kernel_model.specs.State.{Kernel, Files, Pipe}
use Rattle.kernel_model.specs.Transfers.{Writing, limit_for, starts_past, cut_to, transferring, transfer_limit, write, write_bytes, write_content, write_end, write_object, write_place, writing, moved_to}
use Rattle.kernel_model.specs.Whole.{kernel_write}
use Rattle.kernel_model.specs.declared.descriptor.Description.{Description}
use Rattle.kernel_model.specs.declared.descriptor.Object.{Object}
use Rattle.kernel_model.specs.declared.descriptor.Object.TheVariants as objects
use Rattle.kernel_model.specs.declared.stream.Stream.TheVariants as streams
use Rattle.bridge_log.proofs.Replies.{Fits}
use Rattle.bridge_log.specs.Bounds.{Bounded}
use Rattle.bridge_log.specs.Sending.{sent_by}
use Rattle.bridge_io.proofs.Fitting.{bounded_if}
use Rattle.bridge_io.specs.inside.Written.{count_done}

-- What holds where nothing is done, and where some bytes count, holds of a write.
pub each_write : (Holds : Did Writing ℕ → Type 0) (files : Files) (limit : Option ℕ) (time : ℤ) (fd : ℕ) (asked : Given ℕ) (bytes : List ℕ) → ((error : Errno) → Holds (refused (writing files) error)) → Holds (done (writing files) 0)
    → ((d : Description) (most : ℕ) → opened files fd ≡ Some d → most ≤ length bytes → most ≤ transfer_limit → Holds (write_object files limit time fd d (take most bytes) d.object))
    → Holds (write files limit time fd asked bytes)
unfolding write
each_write Holds files limit time fd asked bytes none zero_done some = by (opened files fd) refl where
  moving : (d : Description) (count : ℕ) → opened files fd ≡ Some d → Holds (transferring (writing files) (Ok count) (length bytes) 0 (λ most. write_object files limit time fd d (take most bytes) d.object))
  moving d count there = tested (count == 0) (length bytes == 0) where
    tested : (without unreachable : Bool) → Holds (if without then done (writing files) 0 else refused_if unreachable EFAULT (writing files) (write_object files limit time fd d (take (min (min count (length bytes)) transfer_limit) bytes) d.object))
    tested true unreachable = zero_done
    tested false true = none EFAULT
    tested false false = some d (min (min count (length bytes)) transfer_limit) there (omega arith) (omega arith)

  given : (d : Description) (asked : Given ℕ) → opened files fd ≡ Some d → Holds (transferring (writing files) asked (length bytes) 0 (λ most. write_object files limit time fd d (take most bytes) d.object))
  given d (Ok count) there = moving d count there
  given d (Err error) there = none error

  by : (found : Option Description) → opened files fd ≡ found → Holds (with_some (writing files) EBADF (if_writes found) (λ d. transferring (writing files) asked (length bytes) 0 (λ most. write_object files limit time fd d (take most bytes) d.object)))
  by None is = none EBADF
  by (Some d) is = allowed_by (writes d.flags.access) where
    allowed_by : (allowed : Bool) → Holds (with_some (writing files) EBADF (if allowed then Some d else None) (λ d. transferring (writing files) asked (length bytes) 0 (λ most. write_object files limit time fd d (take most bytes) d.object)))
    allowed_by false = none EBADF
    allowed_by true = given d asked is

-- No write does more than it is given, but for what a pipe has room for.

longest_within : (blocks : Blocks) (at count spare : ℕ) → longest_write blocks at count spare ≤ count
unfolding longest_write
longest_within blocks at zero spare = omega arith
longest_within blocks at (suc count) spare = tested (nat_le _ spare) (longest_within blocks at count spare) where
  tested : (there : Bool) → longest_write blocks at count spare ≤ count → (if there then suc count else longest_write blocks at count spare) ≤ suc count
  tested true less = omega arith
  tested false less = omega arith

abbrev Small : ℕ → Type 0
Small count = count < 2 ^ 32

cut_within : (limit : Option ℕ) (at : ℕ) (bytes : List ℕ) → length (cut_to limit at bytes) ≤ length bytes
cut_within None at bytes = omega arith
cut_within (Some limit) at bytes = omega (arith, length-take (limit - at) bytes)

refused_fits : {S V : Type 0} (P : V → Type 0) (refusal : Option Errno) (state : S) (rest : Did S V) → Bounded P rest.came → Bounded P (refused_by refusal state rest).came
refused_fits P None state rest fits = fits
refused_fits P (Some error) state rest fits = tt

bytes_fits : (files : Files) (time : ℤ) (node at : ℕ) (bytes : List ℕ) (after : Files → ℕ → Files) (content : FileContent) → length bytes ≤ transfer_limit → Bounded Small (write_bytes files time node at bytes after content).came
bytes_fits files time node at bytes after content few =
    let count = write_length files.nodes content at (length bytes) in
    refused_fits Small (write_refusal files.nodes content at (length bytes)) files (done (after (record files { nodes = after_write files.nodes node at (take count bytes) time }) count) count)
    (omega (arith, longest_within content.blocks at (length bytes)))

pub content_fits : (files : Files) (limit : Option ℕ) (time : ℤ) (d : Description) (node at : ℕ) (bytes : List ℕ) (after : Files → ℕ → Files) (content : Option FileContent) → length bytes ≤ transfer_limit
    → Bounded Small (write_content files limit time d node at bytes after content).came
content_fits files limit time d node at bytes after None few = tt
content_fits files limit time d node at bytes after (Some content) few =
    let begin = write_place d.flags.append at content in
    let bound = limit_for limit d.flags.largefile in
    let rest = write_bytes files time node begin (cut_to bound begin bytes) (λ files count. after files (begin + count)) content in
    bounded_if Small (starts_past bound begin) EFBIG files rest
    (bytes_fits files time node begin (cut_to bound begin bytes) (λ files count. after files (begin + count)) content (omega (arith, cut_within bound begin bytes)))

part_fits : (pipe : Pipe) (nonblock : Bool) (bytes : List ℕ) (count : ℕ) → count < 2 ^ 32 → Bounded Small (write_part pipe nonblock bytes count).came
part_fits pipe nonblock bytes count few = tested (count == 0) nonblock where
  tested : (none nonblock : Bool) → Bounded Small (if none then write_none nonblock else write_some pipe nonblock bytes count).came
  tested true true = tt
  tested true false = lit< tt
  tested false true = few
  tested false false = few

part_small : (pipe : Pipe) (bytes : List ℕ) → part_length pipe bytes < 2 ^ 32
part_small pipe bytes = tested (nat_le (length bytes) 4096) where
  tested : (whole : Bool) → (if whole then 0 else room pipe) < 2 ^ 32
  tested true = lit< tt
  tested false = omega arith

pipe_fits : (pipe : Pipe) (nonblock : Bool) (bytes : List ℕ) → length bytes ≤ transfer_limit → Bounded Small (write_pipe pipe nonblock bytes).came
pipe_fits pipe nonblock bytes few = tested (not pipe.readers) (nat_le (length bytes) (room pipe)) where
  tested : (broken whole : Bool) → Bounded Small (if broken then stays (Refused EPIPE) else (if whole then becomes (put pipe bytes) (Done (length bytes)) else write_part pipe nonblock bytes (part_length pipe bytes))).came
  tested true whole = tt
  tested false true = omega arith
  tested false false = part_fits pipe nonblock bytes (part_length pipe bytes) (part_small pipe bytes)

end_fits : (files : Files) (d : Description) (number : ℕ) (bytes : List ℕ) (there : Option Pipe) → length bytes ≤ transfer_limit → Bounded Small (write_end files d number bytes there).came
end_fits files d number bytes None few = tt
end_fits files d number bytes (Some pipe) few = pipe_fits pipe d.flags.nonblock bytes few

object_fits : (files : Files) (limit : Option ℕ) (time : ℤ) (fd : ℕ) (d : Description) (bytes : List ℕ) (object : Object) → length bytes ≤ transfer_limit → Bounded Small (write_object files limit time fd d bytes object).came
object_fits files limit time fd d bytes (objects.Stream streams.Input) few = tt
object_fits files limit time fd d bytes (objects.Stream streams.Out) few = omega arith
object_fits files limit time fd d bytes (objects.Stream streams.Err) few = omega arith
object_fits files limit time fd d bytes (objects.ReadEnd pipe) few = tt
object_fits files limit time fd d bytes (objects.WriteEnd pipe) few = end_fits files d pipe bytes (pipe_at files.flow pipe) few
object_fits files limit time fd d bytes (objects.Node node) few = content_fits files limit time d node d.position bytes (λ files position. moved_to files fd d position) (file_at files.nodes node) few

write_fits : (files : Files) (limit : Option ℕ) (time : ℤ) (fd : ℕ) (asked : Given ℕ) (bytes : List ℕ) → Fits (write files limit time fd asked bytes).came
write_fits files limit time fd asked bytes =
    each_write (λ did. Fits did.came) files limit time fd asked bytes (λ error. tt) (lit< tt) (λ d most there within few.
    object_fits files limit time fd d (take most bytes) d.object (omega (arith, length-take most bytes)))

pub kernel_write_fits : (kernel : Kernel) (limit : Option ℕ) (fd : ℕ) (asked : Given ℕ) (bytes : List ℕ) → Fits (kernel_write kernel limit fd asked bytes).came
unfolding kernel_write
kernel_write_fits kernel limit fd asked bytes = write_fits kernel.files limit (now kernel) fd asked bytes

-- What is sent

abbrev SendsAs : Option ℕ → List ℕ → Did Writing ℕ → Type 0
SendsAs None bytes did = did.state.sent ≡ nothing
SendsAs (Some stream) bytes did = did.state.sent ≡ sent_by stream (take (count_done did.came) bytes)

nothing_sent : (to : Option ℕ) (bytes : List ℕ) (files : Files) (error : Errno) → SendsAs to bytes (refused (writing files) error)
nothing_sent None bytes files error = refl
nothing_sent (Some stream) bytes files error = tested (stream == 1) where
  tested : (out : Bool) → nothing ≡ (if out then record nothing { out = take {A = ℕ} 0 bytes } else record nothing { err = take {A = ℕ} 0 bytes })
  tested true = refl
  tested false = refl

none_sent : (to : Option ℕ) (bytes : List ℕ) (files : Files) → SendsAs to bytes (done (writing files) 0)
none_sent None bytes files = refl
none_sent (Some stream) bytes files = tested (stream == 1) where
  tested : (out : Bool) → nothing ≡ (if out then record nothing { out = take {A = ℕ} 0 bytes } else record nothing { err = take {A = ℕ} 0 bytes })
  tested true = refl
  tested false = refl

taken_again : (bytes : List ℕ) (most : ℕ) → most ≤ length bytes → take (length (take most bytes)) bytes ≡ take most bytes
taken_again bytes most within =
    let long : length (take most bytes) ≡ most = omega (arith, length-take most bytes) in
    ap (λ (n : ℕ). take n bytes) long

object_sends : (files : Files) (limit : Option ℕ) (time : ℤ) (fd : ℕ) (d : Description) (bytes : List ℕ) (most : ℕ) (object : Object) → most ≤ length bytes
    → SendsAs (output_at object) bytes (write_object files limit time fd d (take most bytes) object)
object_sends files limit time fd d bytes most (objects.Stream streams.Input) within = refl
object_sends files limit time fd d bytes most (objects.Stream streams.Out) within = ap (λ (b : List ℕ). sent_by 1 b) (sym (taken_again bytes most within))
object_sends files limit time fd d bytes most (objects.Stream streams.Err) within = ap (λ (b : List ℕ). sent_by 2 b) (sym (taken_again bytes most within))
object_sends files limit time fd d bytes most (objects.ReadEnd pipe) within = refl
object_sends files limit time fd d bytes most (objects.WriteEnd pipe) within = refl
object_sends files limit time fd d bytes most (objects.Node node) within = refl

write_sends : (files : Files) (limit : Option ℕ) (time : ℤ) (fd : ℕ) (asked : Given ℕ) (bytes : List ℕ) → SendsAs (output_of files fd) bytes (write files limit time fd asked bytes)
write_sends files limit time fd asked bytes =
    each_write (SendsAs (output_of files fd) bytes) files limit time fd asked bytes (nothing_sent (output_of files fd) bytes files) (none_sent (output_of files fd) bytes files) (λ d most there within few.
    let to : output_of files fd ≡ output_at d.object = ap (option_and_then (λ (e : Description). output_at e.object)) there in
    subst (λ (o : Option ℕ). SendsAs o bytes (write_object files limit time fd d (take most bytes) d.object)) (sym to) (object_sends files limit time fd d bytes most d.object within))

pub kernel_write_sends : (kernel : Kernel) (limit : Option ℕ) (fd stream : ℕ) (asked : Given ℕ) (bytes : List ℕ) → output_of kernel.files fd ≡ Some stream
    → (kernel_write kernel limit fd asked bytes).state.sent ≡ sent_by stream (take (count_done (kernel_write kernel limit fd asked bytes).came) bytes)
unfolding kernel_write
kernel_write_sends kernel limit fd stream asked bytes to = subst (λ (o : Option ℕ). SendsAs o bytes (write kernel.files limit (now kernel) fd asked bytes)) to (write_sends kernel.files limit (now kernel) fd asked bytes)

pub kernel_write_quiet : (kernel : Kernel) (limit : Option ℕ) (fd : ℕ) (asked : Given ℕ) (bytes : List ℕ) → output_of kernel.files fd ≡ None → (kernel_write kernel limit fd asked bytes).state.sent ≡ nothing
unfolding kernel_write
kernel_write_quiet kernel limit fd asked bytes to = subst (λ (o : Option ℕ). SendsAs o bytes (write kernel.files limit (now kernel) fd asked bytes)) to (write_sends kernel.files limit (now kernel) fd asked bytes)
