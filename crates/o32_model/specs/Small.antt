-- The small calls: _exit(2), exit_group(2), getpid(2), gettid(2), getppid(2), getuid(2), getgid(2), set_tid_address(2), set_thread_area(2),
-- get_robust_list(2), sched_yield(2), cacheflush(2), uname(2), getrlimit(2), prlimit(2), getrandom(2).
use Rattle.std.specs.Prelude.{ℕ, ◌%◌, ◌^◌, ◌==◌, min, ℤ, pos, nat_abs, not, List, [], ◌∷◌, map, slice_index, Option, None, if◌then◌else◌}
use Rattle.std.specs.List.{flat_map}
use Rattle.guest_space.specs.Bytes.{copied_out}
use Rattle.guest_space.specs.Memory.{Memory}
use Rattle.kernel_core.specs.declared.error.Errno.TheVariants.{EINVAL}
use Rattle.kernel_model.specs.Came.{Did, Given, done, refused_if, told_as}
use Rattle.kernel_model.specs.SignalRows.{own_id, parent_id}
use Rattle.kernel_model.specs.State.{Kernel}
use Rattle.kernel_model.specs.System.{set_limit, random_bytes, system_names, user_id}
use Rattle.kernel_model.specs.declared.limit.Limit.{Limit}
use Rattle.layouts.specs.O32.{rlimit, rlimit64}
use Rattle.layouts.specs.Shape.{record_bytes, record_values}
use Rattle.layouts.specs.Utsname.{padded}
use Rattle.number_tables.specs.Resources.{resource_of_o32}
use Rattle.o32_calls.specs.Numbers.{plain_number, system_number}
use Rattle.o32_calls.specs.declared.process.PlainCall.TheVariants.{Exit, Getpid, Getuid, Getgid, Geteuid, Getegid, Getppid, Cacheflush, SchedYield, Gettid, ExitGroup, SetTidAddress, SetThreadArea, SetRobustList}
use Rattle.o32_calls.specs.declared.process.SystemCall.TheVariants.{Getrlimit, Uname, Prlimit64, Getrandom}
use Rattle.o32_model.specs.GuestBytes.{structure, read_as, unless_null, accessible}
use Rattle.o32_model.specs.Step.{Guest, O32Step, O32Row, comes_to, gives, stores, fills}
use Rattle.o32_model.specs.Words.{argument, signed_argument}
use Rattle.o32_model.specs.declared.outcome.Outcome.TheVariants.{Exit}

-- a call that gives a number and does nothing else
abbrev pub number_row : ℕ → Kernel → Guest → List ℕ → O32Step
number_row number kernel guest left = gives guest (done kernel number) left

-- the status is the low 8 bits (_exit(2))
unfoldable pub exit_row : Kernel → Guest → ℕ → List ℕ → O32Step
exit_row kernel guest status left = comes_to Exit guest (done kernel (status % 2 ^ 8)) left

-- the thread pointer, which RDHWR reads (Linux arch/mips/kernel/syscall.c)
unfoldable pub set_thread_area_row : Kernel → Guest → ℕ → List ℕ → O32Step
set_thread_area_row kernel guest address left =
    gives (record guest { processor = record guest.processor { thread_pointer = address } }) (done kernel 0) left

-- the size of the head of a list, and nothing is kept of it (struct robust_list_head of Linux include/uapi/linux/futex.h, with words of 32
-- bits)
abbrev pub robust_list_size : ℕ
robust_list_size = 12

unfoldable pub set_robust_list_row : Kernel → Guest → ℕ → List ℕ → O32Step
set_robust_list_row kernel guest size left =
    gives guest (refused_if (not (size == robust_list_size)) EINVAL kernel (done kernel 0)) left

-- six texts of 65 bytes (struct new_utsname of Linux include/uapi/linux/utsname.h)

abbrev pub names_bytes : List ℕ
names_bytes = flat_map padded system_names

unfoldable pub uname_row : Kernel → Guest → ℕ → List ℕ → O32Step
uname_row kernel guest address left = stores guest address (done kernel names_bytes) left

-- Limits

-- getrlimit(2) shows more than this as this, which stands for no limit (RLIM_INFINITY of Linux arch/mips/include/uapi/asm/resource.h)
abbrev pub most_shown : ℕ
most_shown = 0x7FFF_FFFF

abbrev pub shown_bytes : Limit → List ℕ
shown_bytes limit = record_bytes rlimit (pos (min limit.soft most_shown) ∷ pos (min limit.hard most_shown) ∷ [])

unfoldable pub getrlimit_row : Kernel → Guest → ℕ → ℕ → List ℕ → O32Step
getrlimit_row kernel guest resource address left =
    stores guest address (told_as shown_bytes (set_limit kernel (pos 0) (resource_of_o32 resource) None)) left

abbrev pub limit_bytes : Limit → List ℕ
limit_bytes limit = record_bytes rlimit64 (pos limit.soft ∷ pos limit.hard ∷ [])

abbrev pub limit_of : List ℕ → Limit
limit_of fields = record { soft = slice_index fields 0; hard = slice_index fields 1 }

abbrev pub limit_in : List ℕ → Limit
limit_in bytes = limit_of (map nat_abs (record_values rlimit64 bytes))

-- the new limit; none where the pointer is null
abbrev pub limit_at : Memory → ℕ → Option (Given Limit)
limit_at memory address = unless_null address (read_as limit_in (structure memory address rlimit64.size))

-- the old value is stored unless the pointer is null
abbrev pub stores_unless_null : Guest → ℕ → Did Kernel (List ℕ) → List ℕ → O32Step
stores_unless_null guest address did left =
    if address == 0 then gives guest (told_as (λ _. 0) did) left else stores guest address did left

unfoldable pub prlimit_row : Kernel → Guest → ℤ → ℕ → ℕ → ℕ → List ℕ → O32Step
prlimit_row kernel guest pid resource new old left =
    stores_unless_null guest old
    (told_as limit_bytes (set_limit kernel pid (resource_of_o32 resource) (limit_at guest.memory new))) left

-- Chance

unfoldable pub getrandom_row : Kernel → Guest → ℕ → ℕ → ℕ → List ℕ → O32Step
getrandom_row kernel guest buffer count flags left =
    fills (copied_out guest.memory buffer) guest (random_bytes kernel count (accessible guest.memory buffer count) flags) left

-- The numbers (Linux arch/mips/include/uapi/asm/unistd.h, the o32 table)
abbrev pub small_calls : List O32Row
small_calls =
    record { number = plain_number Exit; step = λ kernel guest. exit_row kernel guest (argument guest.words 0) }
    ∷ record { number = plain_number Getpid; step = number_row own_id }
    ∷ record { number = plain_number Getuid; step = number_row user_id }
    ∷ record { number = plain_number Getgid; step = number_row user_id }
    ∷ record { number = plain_number Geteuid; step = number_row user_id }
    ∷ record { number = plain_number Getegid; step = number_row user_id }
    ∷ record { number = plain_number Getppid; step = number_row parent_id }
    ∷ record { number = system_number Getrlimit; step = λ kernel guest. getrlimit_row kernel guest (argument guest.words 0) (argument guest.words 1) }
    ∷ record { number = system_number Uname; step = λ kernel guest. uname_row kernel guest (argument guest.words 0) }
    ∷ record { number = plain_number Cacheflush; step = number_row 0 }
    ∷ record { number = plain_number SchedYield; step = number_row 0 }
    ∷ record { number = plain_number Gettid; step = number_row own_id }
    ∷ record { number = plain_number ExitGroup; step = λ kernel guest. exit_row kernel guest (argument guest.words 0) }
    ∷ record { number = plain_number SetTidAddress; step = number_row own_id }
    ∷ record { number = plain_number SetThreadArea; step = λ kernel guest. set_thread_area_row kernel guest (argument guest.words 0) }
    ∷ record { number = plain_number SetRobustList; step = λ kernel guest. set_robust_list_row kernel guest (argument guest.words 1) }
    ∷ record { number = system_number Prlimit64; step = λ kernel guest. prlimit_row kernel guest (signed_argument guest.words 0) (argument guest.words 1) (argument guest.words 2) (argument guest.words 3) }
    ∷ record { number = system_number Getrandom; step = λ kernel guest. getrandom_row kernel guest (argument guest.words 0) (argument guest.words 1) (argument guest.words 2) }
    ∷ []
