-- Vectors of buffers in code. (The forms are this project's own.)
use Rattle.std.specs.Prelude.{◌≡◌, ℕ, ⊤, min, List, length, take, Option, Some, Result, Ok, Err}
use Rattle.kernel_core.specs.declared.core_error.CoreError.{CoreError}
use Rattle.kernel_core.specs.declared.core_error.CoreError.TheVariants as errors
use Rattle.kernel_core.specs.declared.core_error.Stop.{Stop}
use Rattle.kernel_core.specs.declared.core_error.Stop.TheVariants as stops
use Rattle.kernel_core.specs.declared.reply.Reply.{Reply}
use Rattle.kernel_model.specs.Came.{Given}
use Rattle.kernel_model.specs.State.{Kernel}
use Rattle.kernel_model.specs.Whole.{kernel_read}
use Rattle.native_calls.specs.HostBytes.{all_accessible, all_written}
use Rattle.native_calls.specs.Transfers.{after_read}
use Rattle.native_calls.specs.declared.range.Range.{Range}
use Rattle.native_files.specs.declared.progress.Progress.{Progress}
use Rattle.native_files.specs.declared.progress.Progress.TheVariants as progress
use Rattle.native_kernel.specs.inside.Moving.{Takes}

-- what the reading of a vector gave; memory alone may run out
abbrev pub GivesVector : Given (List Range) → Result (List Range) CoreError → Type 0
GivesVector given (Ok ranges) = given ≡ Ok ranges
GivesVector given (Err (errors.Refused error)) = given ≡ Err error
GivesVector given (Err (errors.Stop stops.NoMemory)) = ⊤
GivesVector given (Err (errors.Stop stops.ReadFault)) = ⊥
GivesVector given (Err (errors.Stop stops.WriteFault)) = ⊥

-- memory once what was read is put into the buffers
abbrev pub scattered : Result Progress CoreError → List ℕ → List Range → List ℕ → List ℕ
scattered (Ok (progress.Done count)) memory ranges bytes = all_written memory ranges (take (min (length bytes) count) bytes)
scattered (Ok (progress.Waits wake)) memory ranges bytes = memory
scattered (Err error) memory ranges bytes = memory

-- a read into buffers
abbrev pub ReadsRanges : Kernel → List ℕ → ℕ → Given ℕ → List Range → Result Reply Stop → Kernel → List ℕ → Option (List ℕ) → Option (List ℕ) → Type 0
ReadsRanges kernel memory fd asked ranges result after new before left_after =
    (left : List ℕ) → before ≡ Some left
    → Takes (after_read (all_written memory ranges) memory (kernel_read kernel left fd asked (all_accessible memory ranges))) result after new before left_after
