-- The calls that move bytes: read(2), write(2), readv(2), writev(2), pread(2), pwrite(2).
use Rattle.std.specs.Prelude.{ℕ, ◌-◌, ◌^◌, ℤ, List, [], ◌∷◌, Option, Some, Ok}
use Rattle.std.specs.Int.{w64, cast_signed}
use Rattle.guest_space.specs.Bytes.{copied_out}
use Rattle.guest_space.specs.Memory.{Memory}
use Rattle.kernel_core.specs.declared.error.Errno.TheVariants.{EFAULT}
use Rattle.kernel_model.specs.Came.{Did, Given, with_some, widened}
use Rattle.kernel_model.specs.Clock.{now}
use Rattle.kernel_model.specs.State.{Kernel}
use Rattle.kernel_model.specs.Transfers.{read_at, write_at}
use Rattle.kernel_model.specs.Whole.{KernelReading, KernelWriting, on_files, kernel_read, kernel_write}
use Rattle.o32_calls.specs.Numbers.{io_number}
use Rattle.o32_calls.specs.declared.descriptors.IoCall.TheVariants.{Read, Write, Readv, Writev, Pread64, Pwrite64}
use Rattle.o32_model.specs.GuestBytes.{Range, accessible, loadable, vector, asked, buffers, all_accessible, all_loadable, all_copied_out}
use Rattle.o32_model.specs.Step.{Guest, O32Step, O32Row, value, outcome_of, gives, fills}
use Rattle.o32_model.specs.Words.{argument, stack_pair}

-- Reading

abbrev pub after_read : (List ℕ → Memory) → Guest → Did KernelReading (List ℕ) → O32Step
after_read with_bytes guest did = fills with_bytes guest (widened (λ reading. reading.kernel) did) did.state.left

unfoldable pub read_row : Kernel → Guest → ℕ → ℕ → ℕ → List ℕ → O32Step
read_row kernel guest fd buffer count left =
    after_read (copied_out guest.memory buffer) guest (kernel_read kernel left fd (Ok count) (accessible guest.memory buffer count))

abbrev pub read_into : Kernel → Guest → ℕ → Given (List Range) → List ℕ → O32Step
read_into kernel guest fd ranges left =
    after_read (all_copied_out guest.memory (buffers ranges)) guest
    (kernel_read kernel left fd (asked ranges) (all_accessible guest.memory (buffers ranges)))

unfoldable pub readv_row : Kernel → Guest → ℕ → ℕ → ℕ → List ℕ → O32Step
readv_row kernel guest fd address count left = read_into kernel guest fd (vector guest.memory address count) left

-- The place of a transfer is a signed number of 64 bits (loff_t) in two words on the stack. Where one of them can't be read, that is EFAULT
-- before all else.

abbrev pub with_place : {V : Type 0} → Kernel → Option ℕ → (ℤ → Did Kernel V) → Did Kernel V
with_place kernel place row = with_some kernel EFAULT place (λ number. row (cast_signed w64 number))

unfoldable pub pread_row : Kernel → Guest → ℕ → ℕ → ℕ → Option ℕ → List ℕ → O32Step
pread_row kernel guest fd buffer count place left =
    fills (copied_out guest.memory buffer) guest
    (with_place kernel place (λ at.
    on_files kernel (read_at kernel.files fd at (Ok count) (accessible guest.memory buffer count)))) left

-- Writing

-- the greatest size that a file without O_LARGEFILE is written to (open(2): what an off_t of 32 bits holds)
abbrev pub small_file_limit : ℕ
small_file_limit = 2 ^ 31 - 1

abbrev pub after_write : Guest → Did KernelWriting ℕ → List ℕ → O32Step
after_write guest did left = record {
  kernel = did.state.kernel;
  left = left;
  memory = guest.memory;
  processor = guest.processor;
  sent = did.state.sent;
  outcome = outcome_of value guest.words did.came;
}

unfoldable pub write_row : Kernel → Guest → ℕ → ℕ → ℕ → List ℕ → O32Step
write_row kernel guest fd buffer count left =
    after_write guest (kernel_write kernel (Some small_file_limit) fd (Ok count) (loadable guest.memory buffer count)) left

abbrev pub write_from : Kernel → Guest → ℕ → Given (List Range) → List ℕ → O32Step
write_from kernel guest fd ranges left =
    after_write guest (kernel_write kernel (Some small_file_limit) fd (asked ranges) (all_loadable guest.memory (buffers ranges))) left

unfoldable pub writev_row : Kernel → Guest → ℕ → ℕ → ℕ → List ℕ → O32Step
writev_row kernel guest fd address count left = write_from kernel guest fd (vector guest.memory address count) left

unfoldable pub pwrite_row : Kernel → Guest → ℕ → ℕ → ℕ → Option ℕ → List ℕ → O32Step
pwrite_row kernel guest fd buffer count place left =
    gives guest
    (with_place kernel place (λ at.
    on_files kernel
    (write_at kernel.files (Some small_file_limit) (now kernel) fd at (Ok count) (loadable guest.memory buffer count)))) left

-- The numbers (Linux arch/mips/include/uapi/asm/unistd.h, the o32 table). The fourth argument of pread64 and pwrite64 is not used, so that
-- the place has an even place among them.
abbrev pub transfer_calls : List O32Row
transfer_calls =
    record { number = io_number Read; step = λ kernel guest. read_row kernel guest (argument guest.words 0) (argument guest.words 1) (argument guest.words 2) }
    ∷ record { number = io_number Write; step = λ kernel guest. write_row kernel guest (argument guest.words 0) (argument guest.words 1) (argument guest.words 2) }
    ∷ record { number = io_number Readv; step = λ kernel guest. readv_row kernel guest (argument guest.words 0) (argument guest.words 1) (argument guest.words 2) }
    ∷ record { number = io_number Writev; step = λ kernel guest. writev_row kernel guest (argument guest.words 0) (argument guest.words 1) (argument guest.words 2) }
    ∷ record { number = io_number Pread64; step = λ kernel guest. pread_row kernel guest (argument guest.words 0) (argument guest.words 1) (argument guest.words 2) (stack_pair guest.words) }
    ∷ record { number = io_number Pwrite64; step = λ kernel guest. pwrite_row kernel guest (argument guest.words 0) (argument guest.words 1) (argument guest.words 2) (stack_pair guest.words) }
    ∷ []
