-- A read keeps what files always are.
use Rattle.std.proofs.Common.{◌≡◌, ℕ, ◌+◌, ◌≤◌, ◌<◌, ◌^◌, min, List, [], length, take, drop, Bool, true, false, ◌||◌, refl, sym, ◌∙◌, ap, subst, arith, length-drop}
use Rattle.std.specs.Prelude.{All, Option, Some, None, is_some, option_map, unwrap_or, Ok, Err, not, ◌==◌, if◌then◌else◌}
use Rattle.std.specs.FinMap.{get}
use Rattle.std.proofs.lemmas.List.{length-set}
use Rattle.std.proofs.lemmas.List.Elements.{All-drop}
use Rattle.kernel_core.specs.FileContent.{FileContent, greatest_size, readable as readable_count}
use Rattle.kernel_core.specs.FileSystem.{IsLiveContent}
use Rattle.kernel_core.specs.NameCalls.{is_empty_list}
use Rattle.kernel_core.specs.Nodes.{NodeContent, File, Directory, Link, Inode}
use Rattle.kernel_core.specs.declared.error.Errno.TheVariants.{EAGAIN, EBADF, EFAULT}
use Rattle.kernel_model.proofs.Described.{slot_cases, within}
use Rattle.kernel_model.proofs.DescribedRows.{moved_kept, open_facts}
use Rattle.kernel_model.specs.Always.{AreMoved, IsFiles, IsPipe, IsOpen}
use Rattle.kernel_model.specs.Came.{Done, Refused, Given, done, refused_if, with_some}
use Rattle.kernel_model.specs.Descriptions.{content_at, if_reads, node_of, opened, readable, reads}
use Rattle.kernel_model.specs.Pipes.{becomes, counted, stays, waits_after, pipe_at, pipe_size, read_pipe}
use Rattle.kernel_model.specs.State.{Files, Pipe}
use Rattle.kernel_model.specs.Table.{with_slot}
use Rattle.kernel_model.specs.Transfers.{after_pipe_read, moved_to, read, read_content, read_end, read_node, read_object, reading, transfer_limit, transferring}
use Rattle.kernel_model.specs.declared.descriptor.Description.{Description}
use Rattle.kernel_model.specs.declared.descriptor.Object.{Object}
use Rattle.kernel_model.specs.declared.descriptor.Object.TheVariants as objects
use Rattle.kernel_model.specs.declared.stream.Moved.{Moved}
use Rattle.kernel_model.specs.declared.stream.Stream.TheVariants as streams

-- Other numbers of bytes moved

open_moved : (files : Files) (moved : Moved) (description : Description) (object : Object) → IsOpen files description object
    → IsOpen (record files { flow = record files.flow { moved = moved } }) description object
open_moved files moved description (objects.Stream stream) h = h
open_moved files moved description (objects.ReadEnd pipe) h = h
open_moved files moved description (objects.WriteEnd pipe) h = h
open_moved files moved description (objects.Node node) h = h

pub counted_kept : (files : Files) (moved : Moved) → IsFiles files → AreMoved moved → IsFiles (record files { flow = record files.flow { moved = moved } })
counted_kept files moved is few = record {
  nodes = is.nodes;
  table = is.table;
  places = is.places;
  pipes = λ at pipe h. let p = is.pipes at pipe h in record { small = p.small; are_bytes = p.are_bytes; used = p.used; readers = p.readers; writers = p.writers };
  moved = few;
  opens = λ at description h. open_moved files moved description description.object (is.opens at description h);
  kept = is.kept;
  fits = is.fits;
  directory = is.directory;
  holds = is.holds;
  umask = is.umask;
}

few_more : (number more : ℕ) → counted number more < 2 ^ 128
few_more number more = omega arith

-- Other bytes in a pipe, whose ends stay as they are

module _ (files : Files) (is : IsFiles files) (number : ℕ) (old new : Pipe) (there : pipe_at files.flow number ≡ Some old)
    (readers : new.readers ≡ old.readers) (writers : new.writers ≡ old.writers) (small : length new.bytes ≤ pipe_size)
    (are_bytes : All (λ byte. byte < 256) new.bytes) where
  abbrev piped : Files
  piped = record files { flow = record files.flow { pipes = with_slot files.flow.pipes number (Some new) } }

  low : number < length files.flow.pipes
  low = within files.flow.pipes number old there

  same_ends : (at : ℕ) → is_some (pipe_at piped.flow at) ≡ is_some (pipe_at files.flow at)
  same_ends at =
      slot_cases files.flow.pipes number at (Some new) low (λ o. is_some o ≡ is_some (pipe_at files.flow at))
      (λ e. sym (ap (λ n. is_some (pipe_at files.flow n)) e ∙ ap (λ o. is_some o) there)) (λ e. refl)

  open_piped : (description : Description) (object : Object) → IsOpen files description object → IsOpen piped description object
  open_piped description (objects.Stream stream) h = h
  open_piped description (objects.ReadEnd pipe) h = (same_ends pipe ∙ h.0, h.1)
  open_piped description (objects.WriteEnd pipe) h = (same_ends pipe ∙ h.0, h.1)
  open_piped description (objects.Node node) h = h

  pipe_is : (at : ℕ) (pipe : Pipe) → pipe_at piped.flow at ≡ Some pipe → IsPipe files at pipe
  pipe_is at pipe h =
      slot_cases files.flow.pipes number at (Some new) low (λ o. o ≡ Some pipe → IsPipe files at pipe)
      (λ e g.
      let p = is.pipes number old there in
      let mine : IsPipe files number new = record {
        small = small;
        are_bytes = are_bytes;
        used = ap (λ b. b || new.writers) readers ∙ ap (λ b. old.readers || b) writers ∙ p.used;
        readers = readers ∙ p.readers;
        writers = writers ∙ p.writers;
      } in
      subst (λ n. IsPipe files n pipe) (sym e) (subst (λ q. IsPipe files number q) (ap (λ o. unwrap_or o new) g) mine))
      (λ e g. is.pipes at pipe g) h

  pub piped_kept : IsFiles piped
  piped_kept = record {
    nodes = is.nodes;
    table = is.table;
    places = length-set files.flow.pipes number (Some new) ∙ is.places;
    pipes = λ at pipe h. let p = pipe_is at pipe h in record { small = p.small; are_bytes = p.are_bytes; used = p.used; readers = p.readers; writers = p.writers };
    moved = is.moved;
    opens = λ at description h. open_piped description description.object (is.opens at description h);
    kept = is.kept;
    fits = is.fits;
    directory = is.directory;
    holds = is.holds;
    umask = is.umask;
  }

-- Reading

module _ (files : Files) (is : IsFiles files) where
  read_pipe_kept : (number : ℕ) (pipe : Pipe) (nonblock : Bool) (most : ℕ) → pipe_at files.flow number ≡ Some pipe
      → IsFiles (after_pipe_read files number (read_pipe pipe nonblock most)).state
  read_pipe_kept number pipe nonblock most there = by (not (is_empty_list pipe.bytes)) (not pipe.writers) nonblock where
    by : (a b c : Bool) → IsFiles (after_pipe_read files number
        (if a then becomes (record pipe { bytes = drop most pipe.bytes }) (Done (take most pipe.bytes))
        else (if b then stays (Done []) else (if c then stays (Refused EAGAIN) else stays (waits_after 0))))).state
    by true b c =
        piped_kept files is number pipe (record pipe { bytes = drop most pipe.bytes }) there refl refl
        (omega (arith, length-drop most pipe.bytes, (is.pipes number pipe there).small)) (All-drop (λ byte. byte < 256) most pipe.bytes (is.pipes number pipe there).are_bytes)
    by false true c = is
    by false false true = is
    by false false false = is

  read_end_kept : (description : Description) (number most : ℕ) → IsFiles (read_end files description number most (pipe_at files.flow number)).state
  read_end_kept description number most = by (pipe_at files.flow number) refl where
    by : (found : Option Pipe) → pipe_at files.flow number ≡ found → IsFiles (read_end files description number most found).state
    by None e = is
    by (Some pipe) e = read_pipe_kept number pipe description.flags.nonblock most e

  small_file : (node : ℕ) (content : FileContent) → content_at files.nodes node ≡ Some (File content) → content.size ≤ greatest_size
  small_file node content e = by (get files.nodes node) refl where
    by : (found : Option Inode) → get files.nodes node ≡ found → content.size ≤ greatest_size
    by None g = absurd (let none : None ≡ Some (File content) = sym (ap (λ o. option_map (λ i. i.content) o) g) ∙ e in cc)
    by (Some inode) g =
        let content_is : inode.content ≡ File content = ap (λ o. unwrap_or o inode.content) (sym (ap (λ o. option_map (λ i. i.content) o) g) ∙ e) in
        let live : IsLiveContent files.nodes node inode.links (File content) = subst (λ c. IsLiveContent files.nodes node inode.links c) content_is (is.nodes.each node inode g).content in
        live.0.small

  read_node_kept : (fd : ℕ) (description : Description) (node most : ℕ) → opened files fd ≡ Some description → node_of description.object ≡ Some node
      → description.position ≤ greatest_size → IsFiles (read_node files fd description node most).state
  read_node_kept fd description node most e node_is small = by (content_at files.nodes node) refl where
    by : (found : Option NodeContent) → content_at files.nodes node ≡ found
        → IsFiles (read_content files description.position most (λ count. moved_to files fd description (description.position + count)) found).state
    by None g = is
    by (Some (File content)) g =
        moved_kept files fd is description node (description.position + readable_count content description.position most) e node_is
        (omega (arith, small, small_file node content g))
    by (Some (Directory listing)) g = is
    by (Some (Link target)) g = is

  position_of : (description : Description) (object : Object) (node : ℕ) → IsOpen files description object → node_of object ≡ Some node → description.position ≤ greatest_size
  position_of description (objects.Stream stream) node h e = absurd cc
  position_of description (objects.ReadEnd pipe) node h e = absurd cc
  position_of description (objects.WriteEnd pipe) node h e = absurd cc
  position_of description (objects.Node number) node h e = h.0

  read_object_kept : (left : List ℕ) (fd : ℕ) (description : Description) (most : ℕ) → opened files fd ≡ Some description
      → (object : Object) → description.object ≡ object → IsFiles (read_object files left fd description most object).state.files
  read_object_kept left fd description most e (objects.Stream streams.Input) o =
      counted_kept files _ is (few_more files.flow.moved.taken (min most (length left)), is.moved.1, is.moved.2)
  read_object_kept left fd description most e (objects.Stream streams.Out) o = is
  read_object_kept left fd description most e (objects.Stream streams.Err) o = is
  read_object_kept left fd description most e (objects.ReadEnd pipe) o = read_end_kept description pipe most
  read_object_kept left fd description most e (objects.WriteEnd pipe) o = is
  read_object_kept left fd description most e (objects.Node node) o =
      let node_is : node_of description.object ≡ Some node = ap (λ x. node_of x) o in
      read_node_kept fd description node most e node_is (position_of description description.object node (open_facts files fd description is e).0 node_is)

  reads_opened : (found : Option Description) (description : Description) → if_reads found ≡ Some description → found ≡ Some description
  reads_opened None description e = absurd cc
  reads_opened (Some other) description e = by (reads other.flags.access) e where
    by : (b : Bool) → (if b then Some other else None) ≡ Some description → Some other ≡ Some description
    by true h = h
    by false h = absurd cc

  pub read_kept : (left : List ℕ) (fd : ℕ) (asked : Given ℕ) (room : ℕ) → IsFiles (read files left fd asked room).state.files
  unfolding read
  read_kept left fd asked room = by (readable files fd) refl where
    moved : (description : Description) → opened files fd ≡ Some description → (most : ℕ) (a b : Bool)
        → IsFiles (if a then done (reading left files) [] else refused_if b EFAULT (reading left files) (read_object files left fd description most description.object)).state.files
    moved description e most true b = is
    moved description e most false true = is
    moved description e most false false = read_object_kept left fd description most e description.object refl

    counted : (description : Description) → opened files fd ≡ Some description → (given : Given ℕ)
        → IsFiles (transferring (reading left files) given room [] (λ most. read_object files left fd description most description.object)).state.files
    counted description e (Err error) = is
    counted description e (Ok count) = moved description e (min (min count room) transfer_limit) (count == 0) (room == 0)

    by : (found : Option Description) → readable files fd ≡ found
        → IsFiles (with_some (reading left files) EBADF found (λ description. transferring (reading left files) asked room [] (λ most. read_object files left fd description most description.object))).state.files
    by None e = is
    by (Some description) e = counted description (reads_opened (opened files fd) description e) asked
