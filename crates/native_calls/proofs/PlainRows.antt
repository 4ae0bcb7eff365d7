-- The rows of the kernel that the calls apply: none is refused with ENOMEM, and none but a write waits with a part done.
use Rattle.std.specs.Prelude.{ℕ, ◌+◌, ◌==◌, zero, suc, ℤ, Bool, true, false, List, [], ◌∷◌, drop, take, length, not, nat_le, nat_lt, Option, Some, None, if◌then◌else◌, refl}
use Rattle.kernel_core.specs.FileContent.{FileContent, greatest_size}
use Rattle.kernel_core.specs.NameCalls.{is_empty_list}
use Rattle.kernel_core.specs.NodeCalls.{write_length, write_refusal}
use Rattle.kernel_core.specs.Nodes.{Directory, File, Link, NodeContent, Nodes, file_at}
use Rattle.kernel_core.specs.declared.error.Errno.TheVariants.{EAGAIN, EFBIG, EINVAL, ENOSPC, EOVERFLOW, EPIPE}
use Rattle.kernel_model.specs.Came.{Done, Given, Refused}
use Rattle.kernel_model.specs.ContentRows.{Entry, Records, bytes_ready, entries, entries_refusal, is_above, record_length, seek, set_terminal_settings, status, sync, terminal_settings, window_size}
use Rattle.kernel_model.specs.DescriptorRows.{PipeFlags, close, close_on_exec, duplicate, duplicate_onto_with, make_pipe, set_close_on_exec, set_nonblock, set_status_flags, status_flags, unlisted_command, unlisted_request}
use Rattle.kernel_model.specs.Descriptions.{content_at}
use Rattle.kernel_model.specs.Pipes.{becomes, part_length, pipe_at, put, room, stays, waits_after, write_none}
use Rattle.kernel_model.specs.State.{Files, Pipe}
use Rattle.kernel_model.specs.Transfers.{after_pipe_read, after_pipe_write, moved_to, read, read_at, read_content, read_end, read_node, read_object, reading, write, write_at, write_content, write_end, write_node, write_object, writing}
use Rattle.kernel_model.specs.declared.descriptor.Description.{Description}
use Rattle.kernel_model.specs.declared.descriptor.Object.{Object}
use Rattle.kernel_model.specs.declared.descriptor.Object.TheVariants as objects
use Rattle.kernel_model.specs.declared.stream.Stream.TheVariants as streams
use Rattle.kernel_model.specs.declared.terminal.TerminalSettings.{TerminalSettings}
use Rattle.native_calls.proofs.Plain.{Plain, FineGiven, FineIfAny, FineOption, fine_again, fine_big, fine_invalid, fine_overflow, fine_pipe, fine_space, plain, widened_plain}

-- Descriptors

pub close_plain : (files : Files) (fd : ℕ) → Plain false (close files fd)
unfolding close
close_plain files fd = search plain depth 14

pub duplicate_plain : (files : Files) (fd : ℕ) (from : Option ℕ) (cloexec : Bool) → Plain false (duplicate files fd from cloexec)
unfolding duplicate
duplicate_plain files fd from cloexec = search plain depth 14

pub duplicate_onto_with_plain : (files : Files) (fd onto : ℕ) (cloexec : Option Bool) → Plain false (duplicate_onto_with files fd onto cloexec)
unfolding duplicate_onto_with
duplicate_onto_with_plain files fd onto cloexec = search plain depth 14

pub make_pipe_plain : (files : Files) (flags : Option PipeFlags) → Plain false (make_pipe files flags)
unfolding make_pipe
make_pipe_plain files flags = search plain depth 14

pub close_on_exec_plain : (files : Files) (fd : ℕ) → Plain false (close_on_exec files fd)
unfolding close_on_exec
close_on_exec_plain files fd = search plain depth 14

pub set_close_on_exec_plain : (files : Files) (fd : ℕ) (cloexec : Bool) → Plain false (set_close_on_exec files fd cloexec)
unfolding set_close_on_exec
set_close_on_exec_plain files fd cloexec = search plain depth 14

pub status_flags_plain : (files : Files) (fd : ℕ) → Plain false (status_flags files fd)
unfolding status_flags
status_flags_plain files fd = search plain depth 14

pub set_status_flags_plain : (files : Files) (fd : ℕ) (append nonblock : Bool) → Plain false (set_status_flags files fd append nonblock)
unfolding set_status_flags
set_status_flags_plain files fd append nonblock = search plain depth 14

pub set_nonblock_plain : (files : Files) (fd : ℕ) (on : Given Bool) → FineGiven on → Plain false (set_nonblock files fd on)
unfolding set_nonblock
set_nonblock_plain files fd on given = search (plain, given) depth 14

pub unlisted_command_plain : (files : Files) (fd : ℕ) → Plain false (unlisted_command files fd)
unfolding unlisted_command
unlisted_command_plain files fd = search plain depth 14

pub unlisted_request_plain : (files : Files) (fd : ℕ) → Plain false (unlisted_request files fd)
unfolding unlisted_request
unlisted_request_plain files fd = search plain depth 14

-- What is open

pub seek_plain : (files : Files) (fd : ℕ) (offset : ℤ) (origin : ℕ) → Plain false (seek files fd offset origin)
unfolding seek
seek_plain files fd offset origin = search plain depth 14

pub status_plain : (files : Files) (fd : ℕ) → Plain false (status files fd)
unfolding status
status_plain files fd = search plain depth 14

choice_fine : (small above : Bool) → FineIfAny (if small then Some EINVAL else (if above then Some EOVERFLOW else None))
choice_fine true above = fine_invalid
choice_fine false true = fine_overflow
choice_fine false false = tt

entries_refusal_fine : (records : Records) (size : ℕ) (entries : List Entry) → FineOption (entries_refusal records size entries)
entries_refusal_fine records size [] = record { fine = tt }
entries_refusal_fine records size (entry ∷ entries) =
    record { fine = choice_fine (nat_lt size (record_length records entry)) (is_above records.greatest entry.node) }

pub entries_plain : (files : Files) (fd : ℕ) (records : Records) (size : ℕ) (room : ℕ) → Plain false (entries files fd records size room)
unfolding entries
entries_plain files fd records size room = search (plain, entries_refusal_fine) depth 14

pub sync_plain : (files : Files) (fd : ℕ) → Plain false (sync files fd)
unfolding sync
sync_plain files fd = search plain depth 14

pub bytes_ready_plain : (files : Files) (fd : ℕ) → Plain false (bytes_ready files fd)
unfolding bytes_ready
bytes_ready_plain files fd = search plain depth 14

pub terminal_settings_plain : (files : Files) (fd : ℕ) → Plain false (terminal_settings files fd)
unfolding terminal_settings
terminal_settings_plain files fd = search plain depth 14

pub set_terminal_settings_plain : (files : Files) (fd : ℕ) (settings : Given TerminalSettings) → FineGiven settings → Plain false (set_terminal_settings files fd settings)
unfolding set_terminal_settings
set_terminal_settings_plain files fd settings given = search (plain, given) depth 14

pub window_size_plain : (files : Files) (fd : ℕ) → Plain false (window_size files fd)
unfolding window_size
window_size_plain files fd = search plain depth 14

-- Pipes

pipe_read_plain : (files : Files) (number : ℕ) (a b c : Bool) (pipe : Pipe) (bytes : List ℕ)
    → Plain false (after_pipe_read files number
    (if a then becomes pipe (Done bytes) else (if b then stays (Done []) else (if c then stays (Refused EAGAIN) else stays (waits_after 0)))))
pipe_read_plain files number true b c pipe bytes = record { plain = tt }
pipe_read_plain files number false true c pipe bytes = record { plain = tt }
pipe_read_plain files number false false true pipe bytes = record { plain = fine_again }
pipe_read_plain files number false false false pipe bytes = record { plain = refl }

read_end_plain : (files : Files) (description : Description) (number most : ℕ) (pipe : Option Pipe)
    → Plain false (read_end files description number most pipe)
read_end_plain files description number most None = search plain
read_end_plain files description number most (Some pipe) =
    pipe_read_plain files number (not (is_empty_list pipe.bytes)) (not pipe.writers) description.flags.nonblock
    (record pipe { bytes = drop most pipe.bytes }) (take most pipe.bytes)

pipe_write_plain : (files : Files) (number : ℕ) (a b c nonblock : Bool) (pipe part : Pipe) (count all : ℕ)
    → Plain true (after_pipe_write files number
    (if a then stays (Refused EPIPE) else (if b then becomes pipe (Done all) else (if c then write_none nonblock
    else becomes part (if nonblock then Done count else waits_after count)))))
pipe_write_plain files number true b c nonblock pipe part count all = record { plain = fine_pipe }
pipe_write_plain files number false true c nonblock pipe part count all = record { plain = tt }
pipe_write_plain files number false false true true pipe part count all = record { plain = fine_again }
pipe_write_plain files number false false true false pipe part count all = record { plain = tt }
pipe_write_plain files number false false false true pipe part count all = record { plain = tt }
pipe_write_plain files number false false false false pipe part count all = record { plain = tt }

write_end_plain : (files : Files) (description : Description) (number : ℕ) (bytes : List ℕ) (pipe : Option Pipe)
    → Plain true (write_end files description number bytes pipe)
write_end_plain files description number bytes None = search plain
write_end_plain files description number bytes (Some pipe) =
    pipe_write_plain files number (not pipe.readers) (nat_le (length bytes) (room pipe)) (part_length pipe bytes == 0) description.flags.nonblock
    (put pipe bytes) (put pipe (take (part_length pipe bytes) bytes)) (part_length pipe bytes) (length bytes)

-- Files

read_content_plain : (files : Files) (at most : ℕ) (after : ℕ → Files) (content : Option NodeContent) → Plain false (read_content files at most after content)
read_content_plain files at most after None = search plain
read_content_plain files at most after (Some (File content)) = search plain
read_content_plain files at most after (Some (Directory listing)) = search plain
read_content_plain files at most after (Some (Link target)) = search plain

refusal_choice_fine : (big full : Bool) → FineIfAny (if big then Some EFBIG else (if full then Some ENOSPC else None))
refusal_choice_fine true full = fine_big
refusal_choice_fine false true = fine_space
refusal_choice_fine false false = tt

write_refusal_fine : (nodes : Nodes) (content : FileContent) (at count : ℕ) → FineOption (write_refusal nodes content at count)
write_refusal_fine nodes content at zero = record { fine = tt }
write_refusal_fine nodes content at (suc count) =
    record { fine = refusal_choice_fine (nat_lt greatest_size (at + suc count)) (write_length nodes content at (suc count) == 0) }

write_content_plain : (partly : Bool) (files : Files) (limit : Option ℕ) (now : ℤ) (description : Description) (node at : ℕ) (bytes : List ℕ)
    (after : Files → ℕ → Files) (content : Option FileContent) → Plain partly (write_content files limit now description node at bytes after content)
write_content_plain partly files limit now description node at bytes after None = search plain
write_content_plain partly files limit now description node at bytes after (Some content) = search (plain, write_refusal_fine)

-- Each object

read_object_plain : (files : Files) (left : List ℕ) (fd : ℕ) (description : Description) (most : ℕ) (object : Object)
    → Plain false (read_object files left fd description most object)
read_object_plain files left fd description most (objects.Stream streams.Input) = search plain
read_object_plain files left fd description most (objects.Stream streams.Out) = search plain
read_object_plain files left fd description most (objects.Stream streams.Err) = search plain
read_object_plain files left fd description most (objects.ReadEnd pipe) =
    widened_plain false (reading left) _ (read_end_plain files description pipe most (pipe_at files.flow pipe))
read_object_plain files left fd description most (objects.WriteEnd pipe) = search plain
read_object_plain files left fd description most (objects.Node node) =
    widened_plain false (reading left) (read_node files fd description node most)
    (read_content_plain files description.position most (λ count. moved_to files fd description (description.position + count)) (content_at files.nodes node))

write_object_plain : (files : Files) (limit : Option ℕ) (now : ℤ) (fd : ℕ) (description : Description) (bytes : List ℕ) (object : Object)
    → Plain true (write_object files limit now fd description bytes object)
write_object_plain files limit now fd description bytes (objects.Stream streams.Input) = search plain
write_object_plain files limit now fd description bytes (objects.Stream streams.Out) = search plain
write_object_plain files limit now fd description bytes (objects.Stream streams.Err) = search plain
write_object_plain files limit now fd description bytes (objects.ReadEnd pipe) = search plain
write_object_plain files limit now fd description bytes (objects.WriteEnd pipe) =
    widened_plain true writing _ (write_end_plain files description pipe bytes (pipe_at files.flow pipe))
write_object_plain files limit now fd description bytes (objects.Node node) =
    widened_plain true writing (write_node files limit now fd description node bytes)
    (write_content_plain true files limit now description node description.position bytes (λ files position. moved_to files fd description position) (file_at files.nodes node))

pub read_plain : (files : Files) (left : List ℕ) (fd : ℕ) (asked : Given ℕ) (room : ℕ) → FineGiven asked → Plain false (read files left fd asked room)
unfolding read
read_plain files left fd asked room given = search (plain, given, read_object_plain) depth 14

pub read_at_plain : (files : Files) (fd : ℕ) (place : ℤ) (asked : Given ℕ) (room : ℕ) → FineGiven asked → Plain false (read_at files fd place asked room)
unfolding read_at
read_at_plain files fd place asked room given = search (plain, given, read_content_plain) depth 14

pub write_plain : (files : Files) (limit : Option ℕ) (now : ℤ) (fd : ℕ) (asked : Given ℕ) (bytes : List ℕ) → FineGiven asked
    → Plain true (write files limit now fd asked bytes)
unfolding write
write_plain files limit now fd asked bytes given = search (plain, given, write_object_plain) depth 14

pub write_at_plain : (files : Files) (limit : Option ℕ) (now : ℤ) (fd : ℕ) (place : ℤ) (asked : Given ℕ) (bytes : List ℕ) → FineGiven asked
    → Plain false (write_at files limit now fd place asked bytes)
unfolding write_at
write_at_plain files limit now fd place asked bytes given = search (plain, given, write_content_plain) depth 14
