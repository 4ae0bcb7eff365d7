-- The calls on mappings and the program break: brk(2), mmap(2), mmap2(2), munmap(2), mprotect(2), msync(2), mremap(2), madvise(2).
-- Memory is the emulator's own: a file is asked for its bytes when it is mapped, and never again. (The places of mappings, the limit on
-- their pages, and that pages past a file's end are zeros, are this project's own.)
use Rattle.std.specs.Prelude.{ℕ, ◌*◌, ◌%◌, ◌==◌, Bool, not, ◌&&◌, ◌||◌, List, [], ◌∷◌, Option, Some, None, Ok, Err, option_and_then, nat_lt, if◌then◌else◌}
use Rattle.guest_space.specs.Break.{with_break}
use Rattle.guest_space.specs.Bytes.{copied_out}
use Rattle.guest_space.specs.Mapping.{mapped_run, with_protection}
use Rattle.guest_space.specs.Memory.{Memory, Pages}
use Rattle.guest_space.specs.Remapping.{without}
use Rattle.kernel_core.specs.Bits.{has}
use Rattle.kernel_core.specs.FileContent.{FileContent}
use Rattle.kernel_core.specs.Nodes.{file_at}
use Rattle.kernel_core.specs.declared.error.Errno.TheVariants.{EACCES, EBADF, EFAULT, EINVAL, ENODEV, ENOMEM, EPERM}
use Rattle.kernel_core.specs.declared.map_flags.MapFlags.{MapFlags}
use Rattle.kernel_core.specs.declared.map_flags.MapKind.{MapKind}
use Rattle.kernel_core.specs.declared.map_flags.MapKind.TheVariants.{Shared, Private}
use Rattle.kernel_model.specs.Came.{Came, Done, Refused, Did, Given, done, refused_if, with_given, with_some, told_as, widened}
use Rattle.kernel_model.specs.Descriptions.{opened, reads, node_of}
use Rattle.kernel_model.specs.Pipes.{nothing}
use Rattle.kernel_model.specs.State.{Kernel, Files}
use Rattle.kernel_model.specs.Transfers.{file_bytes}
use Rattle.kernel_model.specs.declared.descriptor.Description.{Description}
use Rattle.number_tables.specs.MapNumbers.{map_flags_in}
use Rattle.o32_calls.specs.Numbers.{map_number}
use Rattle.o32_calls.specs.declared.mappings.MapCall.TheVariants.{Brk, Mmap, Munmap, Mprotect, Msync, Mremap, Mmap2, Madvise}
use Rattle.o32_model.specs.Ranges.{page_size, is_aligned, page_of, page_count, is_beyond, is_mapped, with_new_pages, takes_hint, greatest_place, resized}
use Rattle.o32_model.specs.Step.{Guest, O32Step, O32Row, value, outcome_of}
use Rattle.o32_model.specs.Words.{argument, stack_word}

-- A row over memory, as a call: the kernel stays, and the row's number is the result.
abbrev pub maps : Kernel → Guest → Did Memory ℕ → List ℕ → O32Step
maps kernel guest did left = record {
  kernel = kernel;
  left = left;
  memory = did.state;
  processor = guest.processor;
  sent = nothing;
  outcome = outcome_of value guest.words did.came;
}

-- The break

-- brk(2) of Linux answers the break, whether it became the wish or not
unfoldable pub brk : Memory → ℕ → Did Memory ℕ
brk memory wish = done (with_break memory wish) (with_break memory wish).program_break

-- What a mapping shows of a file

-- a private mapping of a regular file; one that is shared has no device to be kept on (this project's own)
abbrev pub mappable : MapKind → Option FileContent → Given FileContent
mappable kind None = Err ENODEV
mappable Shared (Some content) = Err ENODEV
mappable Private (Some content) = Ok content

-- EBADF where the descriptor isn't open, EACCES where it isn't open for reading
abbrev pub content_of : Files → MapKind → Option Description → Given FileContent
content_of files kind None = Err EBADF
content_of files kind (Some description) =
    if reads description.flags.access
    then mappable kind (option_and_then (file_at files.nodes) (node_of description.object))
    else Err EACCES

-- the bytes from an offset on that so many pages hold, as far as the file goes
abbrev pub shown : ℕ → ℕ → Given FileContent → Given (List ℕ)
shown offset count (Err error) = Err error
shown offset count (Ok content) = Ok (file_bytes content offset (count * page_size))

-- the bytes that a mapping begins with; the rest of it is zeros
abbrev pub first_bytes : Files → MapFlags → ℕ → ℕ → ℕ → Given (List ℕ)
first_bytes files flags fd offset count =
    if flags.anonymous then Ok [] else shown offset count (content_of files flags.kind (opened files fd))

-- Where a mapping goes

-- a fixed place lies in user space, and not at its first page (that the two are ENOMEM and EPERM, also for a superuser, is this project's
-- own)
abbrev pub fixed_place : ℕ → ℕ → Given ℕ
fixed_place address count =
    if is_beyond (page_of address) count then Err ENOMEM
    else (if page_of address == 0 then Err EPERM
    else Ok (page_of address))

abbrev pub found : Option ℕ → Given ℕ
found None = Err ENOMEM
found (Some first) = Ok first

-- the hint, or else the greatest free place
abbrev pub free_place : Pages → ℕ → ℕ → Given ℕ
free_place pages address count =
    if takes_hint pages (page_count address) count then Ok (page_count address) else found (greatest_place pages count)

abbrev pub place_for : Pages → MapFlags → ℕ → ℕ → Given ℕ
place_for pages flags address count = if flags.fixed then fixed_place address count else free_place pages address count

-- mmap(2)

-- what a mapping is asked to be: the offset is in bytes, and of the protection the low three bits count
pub record Wish : Type 0 where
  pub address : ℕ
  pub length : ℕ
  pub protection : ℕ
  pub fd : ℕ
  pub offset : ℕ

abbrev pub three_bits : ℕ → ℕ
three_bits protection = protection % 8

-- new pages at a place, which begin with these bytes; the limit comes last
abbrev pub mapped : Memory → ℕ → ℕ → ℕ → List ℕ → Did Memory ℕ
mapped memory first count protection bytes =
    with_some memory ENOMEM (with_new_pages memory.pages first count protection) (λ pages.
    done (copied_out (record memory { pages = pages }) (first * page_size) bytes) (first * page_size))

abbrev pub is_unmappable : MapFlags → Wish → Bool
is_unmappable flags wish = wish.length == 0 || not (is_aligned wish.offset) || flags.fixed && not (is_aligned wish.address)

abbrev pub mapped_as : Files → Memory → Wish → MapFlags → Did Memory ℕ
mapped_as files memory wish flags =
    refused_if (is_unmappable flags wish) EINVAL memory (
    let count = page_count wish.length in
    with_given memory (first_bytes files flags wish.fd wish.offset count) (λ bytes.
    with_given memory (place_for memory.pages flags wish.address count) (λ first.
    mapped memory first count (three_bits wish.protection) bytes)))

unfoldable pub mmap : Files → Memory → Wish → ℕ → Did Memory ℕ
mmap files memory wish flags = with_some memory EINVAL (map_flags_in flags) (mapped_as files memory wish)

-- The descriptor and the offset, a number without a sign, stand on the stack. Where one of them can't be read, that is EFAULT before all
-- else (this project's own). `unit` is how many bytes one of the offset stands for.
abbrev pub mmap_in : ℕ → Kernel → Guest → Did Memory ℕ
mmap_in unit kernel guest =
    with_some guest.memory EFAULT (stack_word guest.words 0) (λ fd.
    with_some guest.memory EFAULT (stack_word guest.words 1) (λ offset.
    mmap kernel.files guest.memory
    (record { address = argument guest.words 0; length = argument guest.words 1; protection = argument guest.words 2; fd = fd; offset = offset * unit })
    (argument guest.words 3)))

-- Ranges that are mapped

-- munmap(2)
unfoldable pub munmap : Memory → ℕ → ℕ → Did Memory ℕ
munmap memory address length =
    refused_if (not (is_aligned address) || length == 0 || is_beyond (page_of address) (page_count length)) EINVAL memory (
    done (record memory { pages = without memory.pages (page_of address) (page_count length) }) 0)

-- mprotect(2): the pages up to the first absent one change, also where there is one

abbrev pub all_or_absent : Bool → Came ℕ
all_or_absent all = if all then Done 0 else Refused ENOMEM

abbrev pub protected : Memory → ℕ → ℕ → ℕ → Did Memory ℕ
protected memory first count protection = record {
  state = record memory { pages = with_protection memory.pages first (mapped_run memory.pages first count) protection };
  came = all_or_absent (is_mapped memory.pages first count);
}

unfoldable pub mprotect : Memory → ℕ → ℕ → ℕ → Did Memory ℕ
mprotect memory address length protection =
    refused_if (not (is_aligned address)) EINVAL memory (
    protected memory (page_of address) (page_count length) (three_bits protection))

-- msync(2): MS_ASYNC 1, MS_INVALIDATE 2, MS_SYNC 4 (Linux include/uapi/asm-generic/mman-common.h); nothing is kept of a mapping in a file

abbrev pub are_sync_flags : ℕ → Bool
are_sync_flags flags = not (nat_lt 7 flags) && not (has flags 1 && has flags 4)

unfoldable pub msync : Memory → ℕ → ℕ → ℕ → Did Memory ℕ
msync memory address length flags =
    refused_if (not (is_aligned address) || not (are_sync_flags flags)) EINVAL memory (
    refused_if (not (is_mapped memory.pages (page_of address) (page_count length))) ENOMEM memory (
    done memory 0))

-- madvise(2): MADV_NORMAL 0, MADV_RANDOM 1, MADV_SEQUENTIAL 2, MADV_WILLNEED 3 (Linux include/uapi/asm-generic/mman-common.h) are taken and
-- change nothing; any other advice is EINVAL (this project's own)

abbrev pub most_advice : ℕ
most_advice = 3

unfoldable pub madvise : Memory → ℕ → ℕ → Did Memory ℕ
madvise memory address advice = refused_if (not (is_aligned address) || nat_lt most_advice advice) EINVAL memory (done memory 0)

-- mremap(2): MREMAP_MAYMOVE 1 is the one flag. (An old size of 0 is EINVAL: this project's own, which has no shared mapping of a file.)

abbrev pub at_page : Memory → Did Pages ℕ → Did Memory ℕ
at_page memory did = told_as (λ first. first * page_size) (widened (λ pages. record memory { pages = pages }) did)

unfoldable pub mremap : Memory → ℕ → ℕ → ℕ → ℕ → Did Memory ℕ
mremap memory address old new flags =
    refused_if (not (is_aligned address) || old == 0 || new == 0 || nat_lt 1 flags) EINVAL memory (
    refused_if (not (is_mapped memory.pages (page_of address) (page_count old))) EFAULT memory (
    at_page memory (resized memory.pages (page_of address) (page_count old) (page_count new) (flags == 1))))

-- The numbers (Linux arch/mips/include/uapi/asm/unistd.h, the o32 table). mmap2 counts its offset in pages.
abbrev pub map_calls : List O32Row
map_calls =
    record { number = map_number Brk; step = λ kernel guest. maps kernel guest (brk guest.memory (argument guest.words 0)) }
    ∷ record { number = map_number Mmap; step = λ kernel guest. maps kernel guest (mmap_in 1 kernel guest) }
    ∷ record { number = map_number Munmap; step = λ kernel guest. maps kernel guest (munmap guest.memory (argument guest.words 0) (argument guest.words 1)) }
    ∷ record { number = map_number Mprotect; step = λ kernel guest. maps kernel guest (mprotect guest.memory (argument guest.words 0) (argument guest.words 1) (argument guest.words 2)) }
    ∷ record { number = map_number Msync; step = λ kernel guest. maps kernel guest (msync guest.memory (argument guest.words 0) (argument guest.words 1) (argument guest.words 2)) }
    ∷ record { number = map_number Mremap; step = λ kernel guest. maps kernel guest (mremap guest.memory (argument guest.words 0) (argument guest.words 1) (argument guest.words 2) (argument guest.words 3)) }
    ∷ record { number = map_number Mmap2; step = λ kernel guest. maps kernel guest (mmap_in page_size kernel guest) }
    ∷ record { number = map_number Madvise; step = λ kernel guest. maps kernel guest (madvise guest.memory (argument guest.words 0) (argument guest.words 2)) }
    ∷ []
