-- Refused transfers.
use Rattle.kernel_core.specs.FileContent.{FileContent}
use Rattle.kernel_core.specs.NameCalls.{is_empty_list}
use Rattle.kernel_core.specs.Nodes.{Directory, File, Link, NodeContent, file_at}
use Rattle.kernel_core.specs.declared.error.Errno.TheVariants.{EAGAIN, EPIPE}
use Rattle.kernel_model.proofs.refusals.Checks.{stays, widened_stays}
use Rattle.kernel_model.specs.Came.{Done, Given, Refused}
use Rattle.kernel_model.specs.Descriptions.{content_at}
use Rattle.kernel_model.specs.Laws.{StaysUnlessDone}
use Rattle.kernel_model.specs.Pipes.{becomes, part_length, pipe_at, put, room, stays as stays_so, waits_after, write_none}
use Rattle.kernel_model.specs.State.{Files, Pipe}
use Rattle.kernel_model.specs.Transfers.{after_pipe_read, after_pipe_write, moved_to, read, read_at, read_content, read_end, read_node, read_object, reading, write, write_at, write_content, write_end, write_node, write_object, writing}
use Rattle.kernel_model.specs.declared.descriptor.Description.{Description}
use Rattle.kernel_model.specs.declared.descriptor.Object.{Object}
use Rattle.std.proofs.Common.{Bool, false, true}
use Rattle.std.proofs.Common.{◌≡◌, refl, sym, ◌∙◌, ap}
use Rattle.std.specs.Prelude.{List, None, Option, Some, [], drop, if◌then◌else◌, length, nat_le, not, take, ℕ, ℤ, ◌+◌, ◌==◌}
use Rattle.kernel_model.specs.declared.descriptor.Object.TheVariants as objects
use Rattle.kernel_model.specs.declared.stream.Stream.TheVariants as streams

-- Pipes

pipe_read_stays : (files : Files) (number : ℕ) (a b c : Bool) (pipe : Pipe) (bytes : List ℕ)
    → StaysUnlessDone files (after_pipe_read files number
    (if a then becomes pipe (Done bytes) else (if b then stays_so (Done []) else (if c then stays_so (Refused EAGAIN) else stays_so (waits_after 0)))))
pipe_read_stays files number true b c pipe bytes = record { stays = tt }
pipe_read_stays files number false true c pipe bytes = record { stays = tt }
pipe_read_stays files number false false true pipe bytes = record { stays = refl }
pipe_read_stays files number false false false pipe bytes = record { stays = λ e. refl }

read_end_stays : (files : Files) (description : Description) (number most : ℕ) (pipe : Option Pipe)
    → StaysUnlessDone files (read_end files description number most pipe)
read_end_stays files description number most None = search stays
read_end_stays files description number most (Some pipe) =
    pipe_read_stays files number (not (is_empty_list pipe.bytes)) (not pipe.writers) description.flags.nonblock
    (record pipe { bytes = drop most pipe.bytes }) (take most pipe.bytes)

pipe_write_stays : (files : Files) (number : ℕ) (a b c nonblock : Bool) (pipe part : Pipe) (count all : ℕ) → (count == 0) ≡ c
    → StaysUnlessDone files (after_pipe_write files number
    (if a then stays_so (Refused EPIPE) else (if b then becomes pipe (Done all) else (if c then write_none nonblock
    else becomes part (if nonblock then Done count else waits_after count)))))
pipe_write_stays files number true b c nonblock pipe part count all none = record { stays = refl }
pipe_write_stays files number false true c nonblock pipe part count all none = record { stays = tt }
pipe_write_stays files number false false true true pipe part count all none = record { stays = refl }
pipe_write_stays files number false false true false pipe part count all none = record { stays = λ e. refl }
pipe_write_stays files number false false false true pipe part count all none = record { stays = tt }
pipe_write_stays files number false false false false pipe part count all none =
    record { stays = λ e. absurd (let wrong : true ≡ false = sym (ap (λ n. n == 0) e) ∙ none in cc) }

write_end_stays : (files : Files) (description : Description) (number : ℕ) (bytes : List ℕ) (pipe : Option Pipe)
    → StaysUnlessDone files (write_end files description number bytes pipe)
write_end_stays files description number bytes None = search stays
write_end_stays files description number bytes (Some pipe) =
    pipe_write_stays files number (not pipe.readers) (nat_le (length bytes) (room pipe)) (part_length pipe bytes == 0) description.flags.nonblock
    (put pipe bytes) (put pipe (take (part_length pipe bytes) bytes)) (part_length pipe bytes) (length bytes) refl

-- Files

read_content_stays : (files : Files) (at most : ℕ) (after : ℕ → Files) (content : Option NodeContent) → StaysUnlessDone files (read_content files at most after content)
read_content_stays files at most after None = search stays
read_content_stays files at most after (Some (File content)) = search stays
read_content_stays files at most after (Some (Directory listing)) = search stays
read_content_stays files at most after (Some (Link target)) = search stays

write_content_stays : (files : Files) (limit : Option ℕ) (now : ℤ) (description : Description) (node at : ℕ) (bytes : List ℕ)
    (after : Files → ℕ → Files) (content : Option FileContent) → StaysUnlessDone files (write_content files limit now description node at bytes after content)
write_content_stays files limit now description node at bytes after None = search stays
write_content_stays files limit now description node at bytes after (Some content) = search stays

-- Each object

read_object_stays : (files : Files) (left : List ℕ) (fd : ℕ) (description : Description) (most : ℕ) (object : Object)
    → StaysUnlessDone (reading left files) (read_object files left fd description most object)
read_object_stays files left fd description most (objects.Stream streams.Input) = search stays
read_object_stays files left fd description most (objects.Stream streams.Out) = search stays
read_object_stays files left fd description most (objects.Stream streams.Err) = search stays
read_object_stays files left fd description most (objects.ReadEnd pipe) =
    widened_stays (reading left) files _ (read_end_stays files description pipe most (pipe_at files.flow pipe))
read_object_stays files left fd description most (objects.WriteEnd pipe) = search stays
read_object_stays files left fd description most (objects.Node node) =
    widened_stays (reading left) files (read_node files fd description node most)
    (read_content_stays files description.position most (λ count. moved_to files fd description (description.position + count)) (content_at files.nodes node))

write_object_stays : (files : Files) (limit : Option ℕ) (now : ℤ) (fd : ℕ) (description : Description) (bytes : List ℕ) (object : Object)
    → StaysUnlessDone (writing files) (write_object files limit now fd description bytes object)
write_object_stays files limit now fd description bytes (objects.Stream streams.Input) = search stays
write_object_stays files limit now fd description bytes (objects.Stream streams.Out) = search stays
write_object_stays files limit now fd description bytes (objects.Stream streams.Err) = search stays
write_object_stays files limit now fd description bytes (objects.ReadEnd pipe) = search stays
write_object_stays files limit now fd description bytes (objects.WriteEnd pipe) =
    widened_stays writing files _ (write_end_stays files description pipe bytes (pipe_at files.flow pipe))
write_object_stays files limit now fd description bytes (objects.Node node) =
    widened_stays writing files (write_node files limit now fd description node bytes)
    (write_content_stays files limit now description node description.position bytes (λ files position. moved_to files fd description position) (file_at files.nodes node))

pub read_stays : (files : Files) (left : List ℕ) (fd : ℕ) (asked : Given ℕ) (room : ℕ) → StaysUnlessDone (reading left files) (read files left fd asked room)
unfolding read
read_stays files left fd asked room = search (stays, read_object_stays) depth 14

pub read_at_stays : (files : Files) (fd : ℕ) (place : ℤ) (asked : Given ℕ) (room : ℕ) → StaysUnlessDone files (read_at files fd place asked room)
unfolding read_at
read_at_stays files fd place asked room = search (stays, read_content_stays) depth 14

pub write_stays : (files : Files) (limit : Option ℕ) (now : ℤ) (fd : ℕ) (asked : Given ℕ) (bytes : List ℕ) → StaysUnlessDone (writing files) (write files limit now fd asked bytes)
unfolding write
write_stays files limit now fd asked bytes = search (stays, write_object_stays) depth 14

pub write_at_stays : (files : Files) (limit : Option ℕ) (now : ℤ) (fd : ℕ) (place : ℤ) (asked : Given ℕ) (bytes : List ℕ) → StaysUnlessDone files (write_at files limit now fd place asked bytes)
unfolding write_at
write_at_stays files limit now fd place asked bytes = search (stays, write_content_stays) depth 14
