-- What limits the opening of a file for a program whose files end at 2^31 - 1 bytes where they are not opened with O_LARGEFILE (open(2)), and
-- what is found out for that. (The form is this project's own.)
use Rattle.std.specs.Prelude.{◌≡◌, ℕ, ◌+◌, ◌==◌, pos, negsuc, ℤ, Bool, false, ◌&&◌, ◌||◌, List, Option, Some, None, Ok, Err, if◌then◌else◌}
use Rattle.std.specs.FinMap.{get}
use Rattle.byteorder.specs.Endian.{little_number}
use Rattle.host_mem.specs.Memory.{bytes_at, first_address}
use Rattle.kernel_core.specs.NodeCalls.{content_size}
use Rattle.kernel_core.specs.Nodes.{Inode, Nodes}
use Rattle.kernel_core.specs.OpenSet.{OpenSet}
use Rattle.kernel_core.specs.declared.error.Errno.TheVariants.{EMFILE, EOVERFLOW}
use Rattle.kernel_core.specs.declared.reply.Reply.{Reply}
use Rattle.kernel_core.specs.declared.reply.Reply.TheVariants as replies
use Rattle.kernel_model.specs.Came.{Given, refused, with_some}
use Rattle.kernel_model.specs.Opening.{open_file}
use Rattle.kernel_model.specs.Paths.{Base, walk_to_node}
use Rattle.kernel_model.specs.State.{Files}
use Rattle.kernel_model.specs.Table.{lowest_free}
use Rattle.o32_model.specs.Transfers.{small_file_limit}
use Rattle.o32_model.specs.declared.call_words.CallWords.{CallWords}
use Rattle.o32_model.specs.declared.outcome.Outcome.{Outcome}
use Rattle.o32_model.specs.declared.outcome.Outcome.TheVariants as outcomes
use Rattle.bridge_paths.specs.Passed.{outcome_of}

-- Opening comes to the same as where there is no limit.
abbrev pub Unlimited : Files → Base → List ℕ → OpenSet → Type 0
Unlimited files base path flags =
    (now : ℤ) (mode : ℕ)
    → open_file files (Some small_file_limit) now base (Ok path) (Some flags) mode ≡ open_file files None now base (Ok path) (Some flags) mode

-- The file is too large, which is found after a free descriptor was.
abbrev pub IsTooLarge : Files → Base → List ℕ → OpenSet → Type 0
IsTooLarge files base path flags =
    (now : ℤ) (mode : ℕ)
    → open_file files (Some small_file_limit) now base (Ok path) (Some flags) mode
    ≡ with_some {V = ℕ} files EMFILE (lowest_free files.table.fds 0) (λ _. refused files EOVERFLOW)

-- whether these flags say by themselves that no size limits the opening: O_LARGEFILE; O_DIRECTORY, which takes no file; O_CREAT with O_EXCL,
-- which takes none that is there
abbrev pub is_unlimited : OpenSet → Bool
is_unlimited flags = flags.largefile || (flags.directory || (flags.creat && flags.excl))

-- The size of what a path leads to, and 0 where it leads to nothing

abbrev pub size_in : Option Inode → ℕ
size_in None = 0
size_in (Some inode) = content_size inode.content

abbrev pub size_of : Nodes → Given ℕ → ℕ
size_of nodes (Err error) = 0
size_of nodes (Ok node) = size_in (get nodes node)

abbrev pub size_led : Files → Base → List ℕ → Bool → ℕ
size_led files base path follow = size_of files.nodes (walk_to_node files base path follow)

-- The size that a status at the beginning of host memory has, after a reply that is no error (struct stat of Linux
-- include/uapi/asm-generic/stat.h: its bytes 48 to 55)

abbrev pub size_there : Option (List ℕ) → ℕ
size_there None = 0
size_there (Some bytes) = little_number 8 bytes

abbrev pub size_told : List ℕ → Reply → ℕ
size_told memory (replies.Done (pos number)) = size_there (bytes_at memory (first_address + 48) 8)
size_told memory (replies.Done (negsuc number)) = 0
size_told memory (replies.Sleep wake) = 0

-- What a file that is too large comes to, by a reply that tells whether there is a free descriptor: ENOENT is that of the empty path, and comes
-- where there is one.

abbrev pub is_no_entry : Reply → Bool
is_no_entry (replies.Done (pos number)) = false
is_no_entry (replies.Done (negsuc number)) = number == 1
is_no_entry (replies.Sleep wake) = false

abbrev pub outcome_of_large : CallWords → Reply → Outcome
outcome_of_large words reply = if is_no_entry reply then outcomes.Error EOVERFLOW else outcome_of words reply

-- whatever host memory is afterwards
abbrev pub told_large : CallWords → List ℕ → Reply → Outcome
told_large words memory reply = outcome_of_large words reply
