-- The rows on files as rows of the whole kernel: they mark nodes with the real time, and a write to a pipe that nobody reads posts
-- SIGPIPE.
use Rattle.std.specs.Prelude.{ℕ, ℤ, Bool, true, false, List, Option, if◌then◌else◌}
use Rattle.kernel_core.specs.declared.error.Errno.{Errno}
use Rattle.kernel_core.specs.declared.error.Errno.TheVariants as errors
use Rattle.kernel_core.specs.declared.signal.Sig.TheVariants as sigs
use Rattle.kernel_model.specs.Came.{Came, Done, Refused, Waits, Did, Given, widened}
use Rattle.kernel_model.specs.Clock.{now}
use Rattle.kernel_model.specs.Pipes.{Sent}
use Rattle.kernel_model.specs.SignalRows.{post, kill_info}
use Rattle.kernel_model.specs.State.{Kernel, Files}
use Rattle.kernel_model.specs.Transfers.{Reading, Writing, read, write}

abbrev pub with_files : Kernel → Files → Kernel
with_files kernel files = record kernel { files = files }

-- a row on files, as a row of the kernel
abbrev pub on_files : {V : Type 0} → Kernel → Did Files V → Did Kernel V
on_files kernel did = widened (with_files kernel) did

-- A row on files that marks nodes with the time, as a row of the kernel: every row with an argument `now` but those that write. For
-- instance mkdir(2) is `marked kernel (λ files now. make_directory files now base path mode)`.
abbrev pub marked : {V : Type 0} → Kernel → (Files → ℤ → Did Files V) → Did Kernel V
marked kernel row = on_files kernel (row kernel.files (now kernel))

-- a row of the kernel that may read the input, and one that may write to an output
pub record KernelReading : Type 0 where
  pub kernel : Kernel
  pub left : List ℕ

pub record KernelWriting : Type 0 where
  pub kernel : Kernel
  pub sent : Sent

abbrev pub with_reading : Kernel → Reading → KernelReading
with_reading kernel reading = record { kernel = with_files kernel reading.files; left = reading.left }

unfoldable pub kernel_read : Kernel → List ℕ → ℕ → Given ℕ → ℕ → Did KernelReading (List ℕ)
kernel_read kernel left fd asked room = widened (with_reading kernel) (read kernel.files left fd asked room)

-- EPIPE comes from a pipe alone, and with SIGPIPE
abbrev pub is_broken_pipe : Errno → Bool
is_broken_pipe errors.EPIPE = true
is_broken_pipe _ = false

abbrev pub with_sigpipe : Kernel → Came ℕ → Kernel
with_sigpipe kernel (Done count) = kernel
with_sigpipe kernel (Refused error) =
    if is_broken_pipe error then record kernel { signals = (post kernel.signals (kill_info sigs.Pipe) false).signals } else kernel
with_sigpipe kernel (Waits wake) = kernel

abbrev pub with_writing : Kernel → Did Writing ℕ → Did KernelWriting ℕ
with_writing kernel did = record {
  state = record { kernel = with_sigpipe (with_files kernel did.state.files) did.came; sent = did.state.sent };
  came = did.came;
}

unfoldable pub kernel_write : Kernel → Option ℕ → ℕ → Given ℕ → List ℕ → Did KernelWriting ℕ
kernel_write kernel limit fd asked bytes = with_writing kernel (write kernel.files limit (now kernel) fd asked bytes)
