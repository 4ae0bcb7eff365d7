-- A write keeps what files always are, and a read and a write of the kernel what the kernel always is.
use Rattle.std.proofs.Common.{◌≡◌, ℕ, ◌+◌, ◌-◌, ◌≤◌, ◌<◌, List, length, take, Bool, true, false, refl, ap, arith, length-append}
use Rattle.std.specs.Prelude.{All, Option, Some, None, not, nat_le, ◌==◌, ℤ, if◌then◌else◌}
use Rattle.std.proofs.lemmas.Bool.{leb-true}
use Rattle.std.proofs.lemmas.List.Elements.{All-append, All-take}
use Rattle.std.proofs.lemmas.List.{length-take}
use Rattle.kernel_core.specs.FileContent.{FileContent, greatest_size}
use Rattle.kernel_core.specs.FileSystem.{IsTime}
use Rattle.kernel_core.specs.NodeCalls.{after_write, write_length, write_refusal}
use Rattle.kernel_core.specs.Nodes.{Nodes, file_at}
use Rattle.kernel_core.specs.declared.error.Errno.TheVariants.{EPIPE}
use Rattle.file_blocks.proofs.Validity.{AreBytes, take_are_bytes}
use Rattle.file_system_laws.proofs.HeldNodes.{keeps-lost, write_loses}
use Rattle.kernel_laws.proofs.FileContents.{bytes_of, is_content, write_end_small, write_is}
use Rattle.kernel_laws.proofs.Keeps.{Keeps, keeps, transferring_keeps}
use Rattle.kernel_laws.proofs.NodesKept.{nodes_kept}
use Rattle.kernel_model.proofs.DescribedRows.{moved_kept, open_facts}
use Rattle.kernel_model.proofs.ReadKept.{counted_kept, piped_kept}
use Rattle.kernel_model.specs.Always.{IsFiles, IsOpen}
use Rattle.kernel_model.specs.Came.{Done, Given, Refused}
use Rattle.kernel_model.specs.Descriptions.{if_reads, if_writes, node_of, opened, reads, writable, writes}
use Rattle.kernel_model.specs.Pipes.{becomes, part_length, pipe_at, put, room, stays, whole_write, write_none, write_part, write_pipe, write_some}
use Rattle.kernel_model.specs.State.{Files, Pipe}
use Rattle.kernel_model.specs.Transfers.{Writing, after_pipe_write, cut_to, limit_for, moved_to, write, write_at, write_bytes, write_content, write_end, write_node, write_object, write_place}
use Rattle.kernel_model.specs.declared.descriptor.Description.{Description}
use Rattle.kernel_model.specs.declared.descriptor.Object.{Object}
use Rattle.kernel_model.specs.declared.descriptor.Object.TheVariants as objects
use Rattle.kernel_model.specs.declared.stream.Stream.TheVariants as streams

cut_bytes : (bound : Option ℕ) (at : ℕ) (bytes : List ℕ) → AreBytes bytes → AreBytes (cut_to bound at bytes)
cut_bytes None at bytes are = are
cut_bytes (Some limit) at bytes are = take_are_bytes (limit - at) bytes are

pub reads_opened : (found : Option Description) (description : Description) → if_reads found ≡ Some description → found ≡ Some description
reads_opened None description e = absurd cc
reads_opened (Some other) description e = by (reads other.flags.access) e where
  by : (b : Bool) → (if b then Some other else None) ≡ Some description → Some other ≡ Some description
  by true h = h
  by false h = absurd cc

pub writes_opened : (found : Option Description) (description : Description) → if_writes found ≡ Some description → found ≡ Some description
writes_opened None description e = absurd cc
writes_opened (Some other) description e = by (writes other.flags.access) e where
  by : (b : Bool) → (if b then Some other else None) ≡ Some description → Some other ≡ Some description
  by true h = h
  by false h = absurd cc

module _ (files : Files) (is : IsFiles files) where
  -- To a file

  module _ (now : ℤ) (time : IsTime now) (limit : Option ℕ) (description : Description) (node at : ℕ) (bytes : List ℕ) (are : AreBytes bytes) (after : Files → ℕ → Files)
      (leaves : (nodes : Nodes) (position : ℕ) → IsFiles (record files { nodes = nodes }) → (at ≤ greatest_size → position ≤ greatest_size) → IsFiles (after (record files { nodes = nodes }) position)) where
    module _ (content : FileContent) (there : file_at files.nodes node ≡ Some content) where
      abbrev begin : ℕ
      begin = write_place description.flags.append at content

      begin_small : at ≤ greatest_size → begin ≤ greatest_size
      begin_small low = by description.flags.append where
        by : (b : Bool) → (if b then content.size else at) ≤ greatest_size
        by true = (is_content files.nodes node content is.nodes there).small
        by false = low

      abbrev part : List ℕ
      part = cut_to (limit_for limit description.flags.largefile) begin bytes

      part_bytes : AreBytes part
      part_bytes = cut_bytes (limit_for limit description.flags.largefile) begin bytes are

      abbrev count : ℕ
      count = write_length files.nodes content begin (length part)

      written : write_refusal files.nodes content begin (length part) ≡ None
          → IsFiles (after (record files { nodes = after_write files.nodes node begin (take count part) now }) (begin + count))
      written allowed =
          let lost = keeps-lost files.nodes _ (write_loses files.nodes node begin (take count part) now) in
          leaves (after_write files.nodes node begin (take count part) now) (begin + count)
          (nodes_kept files _ is (write_is files.nodes node content is.nodes there now time begin part part_bytes allowed) lost.holds lost.kinds)
          (λ low. write_end_small files.nodes node content is.nodes there now time begin part (begin_small low) allowed)

      bytes_keep : Keeps IsFiles (write_bytes files now node begin part (λ files count. after files (begin + count)) content)
      bytes_keep = search (keeps, written, is) depth 14

    content_keeps : (found : Option FileContent) → file_at files.nodes node ≡ found → Keeps IsFiles (write_content files limit now description node at bytes after found)
    content_keeps None there = search (keeps, is) depth 14
    content_keeps (Some content) there = search (keeps, bytes_keep content there, is) depth 14

  -- To a pipe

  module _ (number : ℕ) (pipe : Pipe) (there : pipe_at files.flow number ≡ Some pipe) (bytes : List ℕ) (are : All (λ byte. byte < 256) bytes) where
    put_kept : (n : ℕ) → n ≤ room pipe → Keeps IsFiles (after_pipe_write files number (becomes (put pipe (take n bytes)) (Done n)))
    put_kept n fits = record { kept = put_is n fits } where
      put_is : (n : ℕ) → n ≤ room pipe → IsFiles (after_pipe_write files number (becomes (put pipe (take n bytes)) (Done n))).state
      put_is n fits =
          piped_kept files is number pipe (put pipe (take n bytes)) there refl refl
          (omega (arith, length-append pipe.bytes (take n bytes), length-take n bytes, (is.pipes number pipe there).small, fits))
          (All-append (λ byte. byte < 256) pipe.bytes (take n bytes) (is.pipes number pipe there).are_bytes (All-take (λ byte. byte < 256) n bytes are))

    put_whole : nat_le (length bytes) (room pipe) ≡ true → IsFiles (after_pipe_write files number (becomes (put pipe bytes) (Done (length bytes)))).state
    put_whole e =
        piped_kept files is number pipe (put pipe bytes) there refl refl
        (omega (arith, length-append pipe.bytes bytes, (is.pipes number pipe there).small, leb-true _ _ e))
        (All-append (λ byte. byte < 256) pipe.bytes bytes (is.pipes number pipe there).are_bytes are)

    part_small : part_length pipe bytes ≤ room pipe
    part_small = by (nat_le (length bytes) whole_write) where
      by : (b : Bool) → (if b then 0 else room pipe) ≤ room pipe
      by true = omega arith
      by false = omega arith

    part_kept : (nonblock : Bool) (n : ℕ) → n ≤ room pipe → IsFiles (after_pipe_write files number (write_part pipe nonblock bytes n)).state
    part_kept nonblock n fits = by (n == 0) nonblock where
      by : (a b : Bool) → IsFiles (after_pipe_write files number (if a then write_none b else write_some pipe b bytes n)).state
      by true b = is
      by false b = (put_kept n fits).kept

    pipe_kept : (nonblock : Bool) → IsFiles (after_pipe_write files number (write_pipe pipe nonblock bytes)).state
    pipe_kept nonblock = by (not pipe.readers) (nat_le (length bytes) (room pipe)) refl where
      by : (a b : Bool) → nat_le (length bytes) (room pipe) ≡ b
          → IsFiles (after_pipe_write files number (if a then stays (Refused EPIPE) else (if b then becomes (put pipe bytes) (Done (length bytes))
          else write_part pipe nonblock bytes (part_length pipe bytes)))).state
      by true b e = is
      by false true e = put_whole e
      by false false e = part_kept nonblock (part_length pipe bytes) part_small

  end_kept : (description : Description) (number : ℕ) (bytes : List ℕ) → All (λ byte. byte < 256) bytes → IsFiles (write_end files description number bytes (pipe_at files.flow number)).state
  end_kept description number bytes are = by (pipe_at files.flow number) refl where
    by : (found : Option Pipe) → pipe_at files.flow number ≡ found → IsFiles (write_end files description number bytes found).state
    by None e = is
    by (Some pipe) e = pipe_kept number pipe e bytes are description.flags.nonblock

  -- The rows

  module _ (now : ℤ) (time : IsTime now) (limit : Option ℕ) (bytes : List ℕ) (are : All (λ byte. byte < 256) bytes) where
    position_of : (description : Description) (object : Object) (node : ℕ) → IsOpen files description object → object ≡ objects.Node node → description.position ≤ greatest_size
    position_of description (objects.Stream stream) node h e = absurd cc
    position_of description (objects.ReadEnd pipe) node h e = absurd cc
    position_of description (objects.WriteEnd pipe) node h e = absurd cc
    position_of description (objects.Node number) node h e = h.0

    abbrev first : ℕ → List ℕ
    first most = take most bytes

    first_are : (most : ℕ) → All (λ byte. byte < 256) (first most)
    first_are most = All-take (λ byte. byte < 256) most bytes are

    node_kept : (fd : ℕ) (description : Description) (most node : ℕ) → opened files fd ≡ Some description → description.object ≡ objects.Node node
        → IsFiles (write_node files limit now fd description node (first most)).state
    node_kept fd description most node e object =
        (content_keeps now time limit description node description.position (first most) (bytes_of (first most) (first_are most)) (λ files position. moved_to files fd description position)
        (λ nodes position new low. moved_kept (record files { nodes = nodes }) fd new description node position e (ap (λ o. node_of o) object)
        (low (position_of description description.object node (open_facts files fd description is e).0 object)))
        (file_at files.nodes node) refl).kept

    object_kept : (fd : ℕ) (description : Description) (most : ℕ) → opened files fd ≡ Some description → (object : Object) → description.object ≡ object
        → IsFiles (write_object files limit now fd description (first most) object).state.files
    object_kept fd description most e (objects.Stream streams.Input) o = is
    object_kept fd description most e (objects.Stream streams.Out) o = counted_kept files _ is (is.moved.0, omega arith, is.moved.2)
    object_kept fd description most e (objects.Stream streams.Err) o = counted_kept files _ is (is.moved.0, is.moved.1, omega arith)
    object_kept fd description most e (objects.ReadEnd pipe) o = is
    object_kept fd description most e (objects.WriteEnd pipe) o = end_kept description pipe (first most) (first_are most)
    object_kept fd description most e (objects.Node node) o = node_kept fd description most node e o

    abbrev pub AreWritten : Writing → Type 0
    AreWritten state = IsFiles state.files

    object_keeps : (fd : ℕ) (description : Description) → writable files fd ≡ Some description → (most : ℕ)
        → Keeps AreWritten (write_object files limit now fd description (first most) description.object)
    object_keeps fd description e most = record { kept = object_kept fd description most (writes_opened (opened files fd) description e) description.object refl }

    pub write_keeps : (fd : ℕ) (asked : Given ℕ) → Keeps AreWritten (write files limit now fd asked bytes)
    unfolding write
    write_keeps fd asked = search (keeps, transferring_keeps, object_keeps, is) depth 14

    at_keeps : (description : Description) (at node most : ℕ)
        → Keeps IsFiles (write_content files limit now description node at (first most) (λ files _. files) (file_at files.nodes node))
    at_keeps description at node most =
        content_keeps now time limit description node at (first most) (bytes_of (first most) (first_are most)) (λ files position. files) (λ nodes position new low. new)
        (file_at files.nodes node) refl

    pub write_at_keeps : (fd : ℕ) (place : ℤ) (asked : Given ℕ) → Keeps IsFiles (write_at files limit now fd place asked bytes)
    unfolding write_at
    write_at_keeps fd place asked = search (keeps, transferring_keeps, at_keeps, is) depth 14
