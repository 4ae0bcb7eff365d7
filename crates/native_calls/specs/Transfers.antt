-- The calls that move bytes: read(2), write(2), readv(2), writev(2), pread(2), pwrite(2). No size limits what is written (O_LARGEFILE of
-- open(2) is kept and has no effect).
use Rattle.std.specs.Prelude.{ℕ, ℤ, List, [], ◌∷◌, None, Ok}
use Rattle.host_mem.specs.Memory.{written}
use Rattle.kernel_model.specs.Came.{Did, Given, widened}
use Rattle.kernel_model.specs.Clock.{now}
use Rattle.kernel_model.specs.State.{Kernel}
use Rattle.kernel_model.specs.Transfers.{read_at, write_at}
use Rattle.kernel_model.specs.Whole.{KernelReading, KernelWriting, on_files, kernel_read, kernel_write}
use Rattle.native_calls.specs.Arguments.{argument, word, offset}
use Rattle.native_calls.specs.HostBytes.{accessible, loadable, vector, asked, buffers, all_accessible, all_loadable, all_written}
use Rattle.native_calls.specs.Step.{NativeStep, NativeCall, value, reply_to, gives, fills}
use Rattle.native_calls.specs.declared.range.Range.{Range}

-- Reading

abbrev pub after_read : (List ℕ → List ℕ) → List ℕ → Did KernelReading (List ℕ) → NativeStep
after_read with_bytes memory did = fills with_bytes memory (widened (λ reading. reading.kernel) did) did.state.left

unfoldable pub read_row : Kernel → List ℕ → ℕ → ℕ → ℕ → List ℕ → NativeStep
read_row kernel memory fd buffer count left =
    after_read (written memory buffer) memory (kernel_read kernel left fd (Ok count) (accessible memory buffer count))

abbrev pub read_into : Kernel → List ℕ → ℕ → Given (List Range) → List ℕ → NativeStep
read_into kernel memory fd ranges left =
    after_read (all_written memory (buffers ranges)) memory
    (kernel_read kernel left fd (asked ranges) (all_accessible memory (buffers ranges)))

unfoldable pub readv_row : Kernel → List ℕ → ℕ → ℕ → ℕ → List ℕ → NativeStep
readv_row kernel memory fd address count left = read_into kernel memory fd (vector memory address count) left

unfoldable pub pread_row : Kernel → List ℕ → ℕ → ℕ → ℕ → ℤ → List ℕ → NativeStep
pread_row kernel memory fd buffer count place left =
    fills (written memory buffer) memory
    (on_files kernel (read_at kernel.files fd place (Ok count) (accessible memory buffer count))) left

-- Writing

abbrev pub after_write : List ℕ → Did KernelWriting ℕ → List ℕ → NativeStep
after_write memory did left = record {
  kernel = did.state.kernel;
  left = left;
  memory = memory;
  sent = did.state.sent;
  reply = reply_to value did.came;
}

unfoldable pub write_row : Kernel → List ℕ → ℕ → ℕ → ℕ → List ℕ → NativeStep
write_row kernel memory fd buffer count left =
    after_write memory (kernel_write kernel None fd (Ok count) (loadable memory buffer count)) left

abbrev pub write_from : Kernel → List ℕ → ℕ → Given (List Range) → List ℕ → NativeStep
write_from kernel memory fd ranges left =
    after_write memory (kernel_write kernel None fd (asked ranges) (all_loadable memory (buffers ranges))) left

unfoldable pub writev_row : Kernel → List ℕ → ℕ → ℕ → ℕ → List ℕ → NativeStep
writev_row kernel memory fd address count left = write_from kernel memory fd (vector memory address count) left

unfoldable pub pwrite_row : Kernel → List ℕ → ℕ → ℕ → ℕ → ℤ → List ℕ → NativeStep
pwrite_row kernel memory fd buffer count place left =
    gives memory
    (on_files kernel (write_at kernel.files None (now kernel) fd place (Ok count) (loadable memory buffer count))) left

-- The numbers (Linux include/uapi/asm-generic/unistd.h)
abbrev pub transfer_calls : List NativeCall
transfer_calls =
    record { number = 63; step = λ args kernel memory. read_row kernel memory (word args 0) (argument args 1) (argument args 2) }
    ∷ record { number = 64; step = λ args kernel memory. write_row kernel memory (word args 0) (argument args 1) (argument args 2) }
    ∷ record { number = 65; step = λ args kernel memory. readv_row kernel memory (word args 0) (argument args 1) (argument args 2) }
    ∷ record { number = 66; step = λ args kernel memory. writev_row kernel memory (word args 0) (argument args 1) (argument args 2) }
    ∷ record { number = 67; step = λ args kernel memory. pread_row kernel memory (word args 0) (argument args 1) (argument args 2) (offset args 3) }
    ∷ record { number = 68; step = λ args kernel memory. pwrite_row kernel memory (word args 0) (argument args 1) (argument args 2) (offset args 3) }
    ∷ []
