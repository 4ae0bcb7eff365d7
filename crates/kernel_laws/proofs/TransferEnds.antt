-- Each transfer leaves every end of a pipe one description at most.
use Rattle.std.proofs.Common.{◌≡◌, ℕ, ◌+◌, List, take, refl}
use Rattle.std.specs.Prelude.{Option, Some, None, ℤ}
use Rattle.kernel_core.specs.FileContent.{FileContent}
use Rattle.kernel_core.specs.Nodes.{NodeContent, File, Directory, Link, Nodes, file_at}
use Rattle.kernel_laws.proofs.CloseKept.{same_live}
use Rattle.kernel_laws.proofs.EndsKept.{moved_ends}
use Rattle.kernel_laws.proofs.Keeps.{Keeps, keeps, transferring_keeps}
use Rattle.kernel_laws.proofs.WriteKept.{reads_opened, writes_opened}
use Rattle.kernel_laws.specs.Ends.{HasEndsOnce}
use Rattle.kernel_model.specs.Came.{Given}
use Rattle.kernel_model.specs.Descriptions.{content_at, opened, readable, writable}
use Rattle.kernel_model.specs.Pipes.{pipe_at}
use Rattle.kernel_model.specs.State.{Files, Pipe}
use Rattle.kernel_model.specs.Transfers.{Reading, Writing, moved_to, read, read_at, read_content, read_end, read_object, write, write_at, write_bytes, write_content, write_end, write_object}
use Rattle.kernel_model.specs.declared.descriptor.Description.{Description}
use Rattle.kernel_model.specs.declared.descriptor.Object.{Object}
use Rattle.kernel_model.specs.declared.descriptor.Object.TheVariants as objects
use Rattle.kernel_model.specs.declared.stream.Stream.TheVariants as streams

abbrev pub ReadingEnds : Reading → Type 0
ReadingEnds state = HasEndsOnce state.files

abbrev pub WritingEnds : Writing → Type 0
WritingEnds state = HasEndsOnce state.files

module _ (files : Files) (once : HasEndsOnce files) where
  live_stays : (new : Files) → new.table.live ≡ files.table.live → HasEndsOnce new
  live_stays new e = same_live files new e once

  -- Reading

  read_content_ends : (at most : ℕ) (after : ℕ → Files) → ((count : ℕ) → HasEndsOnce (after count)) → (content : Option NodeContent)
      → Keeps HasEndsOnce (read_content files at most after content)
  read_content_ends at most after h None = search (keeps, once) depth 14
  read_content_ends at most after h (Some (File content)) = record { kept = h _ }
  read_content_ends at most after h (Some (Directory listing)) = search (keeps, once) depth 14
  read_content_ends at most after h (Some (Link target)) = search (keeps, once) depth 14

  read_end_ends : (description : Description) (number most : ℕ) (found : Option Pipe) → HasEndsOnce (read_end files description number most found).state
  read_end_ends description number most None = once
  read_end_ends description number most (Some pipe) = live_stays _ refl

  read_object_ends : (left : List ℕ) (fd : ℕ) (description : Description) (most : ℕ) → opened files fd ≡ Some description → (object : Object)
      → HasEndsOnce (read_object files left fd description most object).state.files
  read_object_ends left fd description most e (objects.Stream streams.Input) = live_stays _ refl
  read_object_ends left fd description most e (objects.Stream streams.Out) = once
  read_object_ends left fd description most e (objects.Stream streams.Err) = once
  read_object_ends left fd description most e (objects.ReadEnd pipe) = read_end_ends description pipe most (pipe_at files.flow pipe)
  read_object_ends left fd description most e (objects.WriteEnd pipe) = once
  read_object_ends left fd description most e (objects.Node node) =
      (read_content_ends description.position most (λ count. moved_to files fd description (description.position + count)) (λ count. moved_ends files once fd description e _)
      (content_at files.nodes node)).kept

  read_opened : (left : List ℕ) (fd : ℕ) (description : Description) → readable files fd ≡ Some description → (most : ℕ)
      → Keeps ReadingEnds (read_object files left fd description most description.object)
  read_opened left fd description e most = record { kept = read_object_ends left fd description most (reads_opened (opened files fd) description e) description.object }

  pub read_ends : (left : List ℕ) (fd : ℕ) (asked : Given ℕ) (room : ℕ) → Keeps ReadingEnds (read files left fd asked room)
  unfolding read
  read_ends left fd asked room = search (keeps, transferring_keeps, read_opened, once) depth 14

  unmoved : (at most : ℕ) (content : Option NodeContent) → Keeps HasEndsOnce (read_content files at most (λ _. files) content)
  unmoved at most content = read_content_ends at most (λ _. files) (λ count. once) content

  pub read_at_ends : (fd : ℕ) (place : ℤ) (asked : Given ℕ) (room : ℕ) → Keeps HasEndsOnce (read_at files fd place asked room)
  unfolding read_at
  read_at_ends fd place asked room = search (keeps, transferring_keeps, unmoved, once) depth 18

  -- Writing

  module _ (limit : Option ℕ) (now : ℤ) (description : Description) (node at : ℕ) (bytes : List ℕ) (after : Files → ℕ → Files)
      (leaves : (nodes : Nodes) (position : ℕ) → HasEndsOnce (record files { nodes = nodes }) → HasEndsOnce (after (record files { nodes = nodes }) position)) where
    written : (nodes : Nodes) (position : ℕ) → HasEndsOnce (after (record files { nodes = nodes }) position)
    written nodes position = leaves nodes position (live_stays _ refl)

    bytes_end : (begin : ℕ) (part : List ℕ) (content : FileContent) → Keeps HasEndsOnce (write_bytes files now node begin part (λ files count. after files (begin + count)) content)
    bytes_end begin part content = search (keeps, written, once) depth 14

    write_content_ends : (content : Option FileContent) → Keeps HasEndsOnce (write_content files limit now description node at bytes after content)
    write_content_ends None = search (keeps, once) depth 14
    write_content_ends (Some content) = search (keeps, bytes_end, once) depth 14

  write_end_ends : (description : Description) (number : ℕ) (bytes : List ℕ) (found : Option Pipe) → HasEndsOnce (write_end files description number bytes found).state
  write_end_ends description number bytes None = once
  write_end_ends description number bytes (Some pipe) = live_stays _ refl

  write_object_ends : (limit : Option ℕ) (now : ℤ) (fd : ℕ) (description : Description) (bytes : List ℕ) → opened files fd ≡ Some description → (object : Object)
      → HasEndsOnce (write_object files limit now fd description bytes object).state.files
  write_object_ends limit now fd description bytes e (objects.Stream streams.Input) = once
  write_object_ends limit now fd description bytes e (objects.Stream streams.Out) = live_stays _ refl
  write_object_ends limit now fd description bytes e (objects.Stream streams.Err) = live_stays _ refl
  write_object_ends limit now fd description bytes e (objects.ReadEnd pipe) = once
  write_object_ends limit now fd description bytes e (objects.WriteEnd pipe) = write_end_ends description pipe bytes (pipe_at files.flow pipe)
  write_object_ends limit now fd description bytes e (objects.Node node) =
      (write_content_ends limit now description node description.position bytes (λ files position. moved_to files fd description position)
      (λ nodes position new. moved_ends (record files { nodes = nodes }) new fd description e position) (file_at files.nodes node)).kept

  write_opened : (limit : Option ℕ) (now : ℤ) (fd : ℕ) (bytes : List ℕ) (description : Description) → writable files fd ≡ Some description → (most : ℕ)
      → Keeps WritingEnds (write_object files limit now fd description (take most bytes) description.object)
  write_opened limit now fd bytes description e most =
      record { kept = write_object_ends limit now fd description (take most bytes) (writes_opened (opened files fd) description e) description.object }

  pub write_ends : (limit : Option ℕ) (now : ℤ) (fd : ℕ) (asked : Given ℕ) (bytes : List ℕ) → Keeps WritingEnds (write files limit now fd asked bytes)
  unfolding write
  write_ends limit now fd asked bytes = search (keeps, transferring_keeps, write_opened, once) depth 14

  unmoved_write : (limit : Option ℕ) (now : ℤ) (description : Description) (node at : ℕ) (bytes : List ℕ)
      → Keeps HasEndsOnce (write_content files limit now description node at bytes (λ files _. files) (file_at files.nodes node))
  unmoved_write limit now description node at bytes =
      write_content_ends limit now description node at bytes (λ files _. files) (λ nodes position new. new) (file_at files.nodes node)

  pub write_at_ends : (limit : Option ℕ) (now : ℤ) (fd : ℕ) (place : ℤ) (asked : Given ℕ) (bytes : List ℕ) → Keeps HasEndsOnce (write_at files limit now fd place asked bytes)
  unfolding write_at
  write_at_ends limit now fd place asked bytes = search (keeps, transferring_keeps, unmoved_write, once) depth 18
