-- The calls on descriptors: close(2), dup(2), dup2(2), dup3(2), pipe(2), pipe2(2), fcntl(2).
use Rattle.std.specs.Prelude.{ℕ, ◌+◌, ◌*◌, Bool, true, false, List, [], ◌∷◌, ◌++◌, Option, Some, None, if◌then◌else◌}
use Rattle.kernel_core.specs.Bits.{one_if, has}
use Rattle.kernel_model.specs.Came.{Came, Done, Refused, Waits, Did, told_as, told_zero}
use Rattle.kernel_model.specs.DescriptorRows.{PipeFlags, Ends, close, after_close, duplicate, duplicate_onto, duplicate_onto_with, make_pipe, close_on_exec, set_close_on_exec, status_flags, set_status_flags, unlisted_command}
use Rattle.kernel_model.specs.State.{Kernel}
use Rattle.kernel_model.specs.Whole.{with_files, on_files}
use Rattle.layouts.specs.Number.{bytes_of}
use Rattle.number_tables.specs.Flags.{stands_for}
use Rattle.number_tables.specs.Numbered.{numbered}
use Rattle.number_tables.specs.OpenNumbers.{o32_open}
use Rattle.o32_calls.specs.Numbers.{io_number}
use Rattle.o32_calls.specs.declared.descriptors.IoCall.TheVariants.{Close, Dup, Pipe, Fcntl, Dup2, Fcntl64, Dup3, Pipe2}
use Rattle.o32_model.specs.GuestBytes.{is_storable}
use Rattle.o32_model.specs.Step.{Guest, O32Step, O32Row, comes_to, gives, stores}
use Rattle.o32_model.specs.Words.{argument}
use Rattle.o32_model.specs.declared.outcome.Outcome.{Outcome}
use Rattle.o32_model.specs.declared.outcome.Outcome.TheVariants.{Pair}

-- The flags of open(2) that other calls take too (O_APPEND and O_NONBLOCK of Linux arch/mips/include/uapi/asm/fcntl.h, O_CLOEXEC of
-- include/uapi/asm-generic/fcntl.h)

abbrev pub append_flag : ℕ
append_flag = 0x8

abbrev pub nonblock_flag : ℕ
nonblock_flag = 0x80

abbrev pub cloexec_flag : ℕ
cloexec_flag = 0x80000

-- Closing and duplicating

unfoldable pub close_row : Kernel → Guest → ℕ → List ℕ → O32Step
close_row kernel guest fd left = gives guest (told_zero (on_files kernel (close kernel.files fd))) left

unfoldable pub dup_row : Kernel → Guest → ℕ → List ℕ → O32Step
dup_row kernel guest fd left = gives guest (on_files kernel (duplicate kernel.files fd (Some 0) false)) left

unfoldable pub dup2_row : Kernel → Guest → ℕ → ℕ → List ℕ → O32Step
dup2_row kernel guest fd onto left = gives guest (on_files kernel (duplicate_onto kernel.files fd onto)) left

-- O_CLOEXEC alone; none where there are other flags
abbrev pub cloexec_of : ℕ → Option Bool
cloexec_of flags = stands_for (λ cloexec. cloexec_flag * one_if cloexec) (λ _. true) (λ number. has number cloexec_flag) flags

unfoldable pub dup3_row : Kernel → Guest → ℕ → ℕ → ℕ → List ℕ → O32Step
dup3_row kernel guest fd onto flags left =
    gives guest (on_files kernel (duplicate_onto_with kernel.files fd onto (cloexec_of flags))) left

-- Pipes

-- pipe(2) returns both descriptors in registers and takes no pointer (Linux arch/mips/kernel/syscall.c)

abbrev pub no_pipe_flags : PipeFlags
no_pipe_flags = record { cloexec = false; nonblock = false }

abbrev pub both_ends : Ends → Outcome
both_ends ends = Pair ends.read ends.write

unfoldable pub pipe_row : Kernel → Guest → List ℕ → O32Step
pipe_row kernel guest left = comes_to both_ends guest (on_files kernel (make_pipe kernel.files (Some no_pipe_flags))) left

-- O_CLOEXEC and O_NONBLOCK; none where there are other flags

abbrev pub pipe_number : PipeFlags → ℕ
pipe_number flags = cloexec_flag * one_if flags.cloexec + nonblock_flag * one_if flags.nonblock

abbrev pub pipe_flags_in : ℕ → PipeFlags
pipe_flags_in number = record { cloexec = has number cloexec_flag; nonblock = has number nonblock_flag }

abbrev pub pipe_flags : ℕ → Option PipeFlags
pipe_flags flags = stands_for pipe_number (λ _. true) pipe_flags_in flags

-- two descriptors, each an int
abbrev pub pair_size : ℕ
pair_size = 8

abbrev pub pair_bytes : Ends → List ℕ
pair_bytes ends = bytes_of true 4 ends.read ++ bytes_of true 4 ends.write

-- Where the pair can't be stored, both descriptors are closed again.

abbrev pub without_pair : Kernel → Ends → Kernel
without_pair kernel ends = with_files kernel (after_close (after_close kernel.files ends.read) ends.write)

abbrev pub kept_if : Bool → Kernel → Came Ends → Kernel
kept_if room kernel (Done ends) = if room then kernel else without_pair kernel ends
kept_if room kernel (Refused error) = kernel
kept_if room kernel (Waits wake) = kernel

abbrev pub given_pair : Bool → Did Kernel Ends → Did Kernel Ends
given_pair room did = record did { state = kept_if room did.state did.came }

unfoldable pub pipe2_row : Kernel → Guest → ℕ → ℕ → List ℕ → O32Step
pipe2_row kernel guest address flags left =
    stores guest address
    (told_as pair_bytes
    (given_pair (is_storable guest.memory address pair_size) (on_files kernel (make_pipe kernel.files (pipe_flags flags))))) left

-- fcntl(2)

-- FD_CLOEXEC of fcntl(2)
abbrev pub close_on_exec_flag : ℕ
close_on_exec_flag = 1

-- a command: its number, and its row by the descriptor and the argument
pub record Command : Type 0 where
  pub number : ℕ
  pub row : Kernel → ℕ → ℕ → Did Kernel ℕ

-- F_DUPFD and F_DUPFD_CLOEXEC; an int below 0 is then one from 2^31 on, which is no descriptor
abbrev pub duplicate_from : Bool → Kernel → ℕ → ℕ → Did Kernel ℕ
duplicate_from cloexec kernel fd least = on_files kernel (duplicate kernel.files fd (Some least) cloexec)

-- F_GETFD
abbrev pub get_descriptor_flags : Kernel → ℕ → ℕ → Did Kernel ℕ
get_descriptor_flags kernel fd _ =
    told_as (λ cloexec. close_on_exec_flag * one_if cloexec) (on_files kernel (close_on_exec kernel.files fd))

-- F_SETFD
abbrev pub set_descriptor_flags : Kernel → ℕ → ℕ → Did Kernel ℕ
set_descriptor_flags kernel fd flags =
    told_zero (on_files kernel (set_close_on_exec kernel.files fd (has flags close_on_exec_flag)))

-- F_GETFL
abbrev pub get_status_flags : Kernel → ℕ → ℕ → Did Kernel ℕ
get_status_flags kernel fd _ = told_as o32_open (on_files kernel (status_flags kernel.files fd))

-- F_SETFL, which leaves all flags but these two as they are
abbrev pub set_status_flags_to : Kernel → ℕ → ℕ → Did Kernel ℕ
set_status_flags_to kernel fd flags =
    told_zero (on_files kernel (set_status_flags kernel.files fd (has flags append_flag) (has flags nonblock_flag)))

-- The commands (Linux include/uapi/asm-generic/fcntl.h and include/uapi/linux/fcntl.h; those of MIPS have the same numbers)
abbrev pub commands : List Command
commands =
    record { number = 0; row = duplicate_from false }
    ∷ record { number = 1; row = get_descriptor_flags }
    ∷ record { number = 2; row = set_descriptor_flags }
    ∷ record { number = 3; row = get_status_flags }
    ∷ record { number = 4; row = set_status_flags_to }
    ∷ record { number = 1030; row = duplicate_from true }
    ∷ []

abbrev pub commanded : Kernel → ℕ → ℕ → Option Command → Did Kernel ℕ
commanded kernel fd argument None = told_zero (on_files kernel (unlisted_command kernel.files fd))
commanded kernel fd argument (Some command) = command.row kernel fd argument

unfoldable pub fcntl_row : Kernel → Guest → ℕ → ℕ → ℕ → List ℕ → O32Step
fcntl_row kernel guest fd command argument left =
    gives guest (commanded kernel fd argument (numbered (λ (command : Command). command.number) commands command)) left

-- The numbers (Linux arch/mips/include/uapi/asm/unistd.h, the o32 table). fcntl64 is fcntl: the commands on locks are not listed.
abbrev pub descriptor_calls : List O32Row
descriptor_calls =
    record { number = io_number Close; step = λ kernel guest. close_row kernel guest (argument guest.words 0) }
    ∷ record { number = io_number Dup; step = λ kernel guest. dup_row kernel guest (argument guest.words 0) }
    ∷ record { number = io_number Pipe; step = λ kernel guest. pipe_row kernel guest }
    ∷ record { number = io_number Fcntl; step = λ kernel guest. fcntl_row kernel guest (argument guest.words 0) (argument guest.words 1) (argument guest.words 2) }
    ∷ record { number = io_number Dup2; step = λ kernel guest. dup2_row kernel guest (argument guest.words 0) (argument guest.words 1) }
    ∷ record { number = io_number Fcntl64; step = λ kernel guest. fcntl_row kernel guest (argument guest.words 0) (argument guest.words 1) (argument guest.words 2) }
    ∷ record { number = io_number Dup3; step = λ kernel guest. dup3_row kernel guest (argument guest.words 0) (argument guest.words 1) (argument guest.words 2) }
    ∷ record { number = io_number Pipe2; step = λ kernel guest. pipe2_row kernel guest (argument guest.words 0) (argument guest.words 1) }
    ∷ []
