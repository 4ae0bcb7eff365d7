-- The calls that open files and that move the position: open(2), openat(2), creat(2), lseek(2), _llseek(2).
use Rattle.std.specs.Prelude.{ℕ, ℤ, true, Bool, List, [], ◌∷◌, Option, Some, nat_lt}
use Rattle.std.specs.Int.{w64, cast_signed}
use Rattle.kernel_core.specs.OpenSet.{OpenSet}
use Rattle.kernel_core.specs.declared.error.Errno.TheVariants.{EFAULT}
use Rattle.kernel_core.specs.declared.open_flags.Access.TheVariants.{Write}
use Rattle.kernel_model.specs.Came.{with_some, told_as}
use Rattle.kernel_model.specs.ContentRows.{seek}
use Rattle.kernel_model.specs.Descriptions.{no_flags}
use Rattle.kernel_model.specs.Opening.{open_file}
use Rattle.kernel_model.specs.Paths.{Base, Working}
use Rattle.kernel_model.specs.State.{Kernel}
use Rattle.kernel_model.specs.Whole.{on_files, marked}
use Rattle.layouts.specs.Number.{bytes_of}
use Rattle.number_tables.specs.OpenNumbers.{open_of_o32}
use Rattle.o32_calls.specs.Numbers.{open_number, place_number}
use Rattle.o32_calls.specs.declared.files.OpenCall.TheVariants.{Open, Creat, Openat}
use Rattle.o32_calls.specs.declared.names.PlaceCall.TheVariants.{Lseek, Llseek}
use Rattle.o32_model.specs.Narrow.{narrowed}
use Rattle.o32_model.specs.PathArguments.{base}
use Rattle.o32_model.specs.Paths.{path_at}
use Rattle.o32_model.specs.Step.{Guest, O32Step, O32Row, gives, stores}
use Rattle.o32_model.specs.Transfers.{small_file_limit}
use Rattle.o32_model.specs.Words.{argument, signed_argument, stack_word, pair}

-- Opening

-- `flags` is none where they have no access mode or a flag that is not listed, which is EINVAL (this project's own: open(2) of Linux takes
-- no notice of such flags). A file above `small_file_limit` is opened with O_LARGEFILE alone.
unfoldable pub open_row : Kernel → Guest → Base → ℕ → Option OpenSet → ℕ → List ℕ → O32Step
open_row kernel guest from address flags mode left =
    gives guest
    (marked kernel (λ files now. open_file files (Some small_file_limit) now from (path_at guest.memory address) flags mode)) left

-- creat(2) is open(2) with O_CREAT, O_WRONLY and O_TRUNC
abbrev pub creat_flags : OpenSet
creat_flags = record (no_flags Write) { creat = true; trunc = true }

-- Seeking

-- the greatest place that an off_t of 32 bits holds
abbrev pub is_far : ℕ → Bool
is_far place = nat_lt small_file_limit place

-- the position has moved, also where the place is too wide for the result
unfoldable pub lseek_row : Kernel → Guest → ℕ → ℤ → ℕ → List ℕ → O32Step
lseek_row kernel guest fd offset origin left = gives guest (narrowed is_far (on_files kernel (seek kernel.files fd offset origin))) left

-- a place of 64 bits (loff_t)
abbrev pub place_bytes : ℕ → List ℕ
place_bytes place = bytes_of true 8 place

-- _llseek(2): an offset of 64 bits as two words, the high one first, and the place is stored. The origin is on the stack, and where it can't
-- be read, that is EFAULT before all else (this project's own).
unfoldable pub llseek_row : Kernel → Guest → ℕ → ℕ → ℕ → Option ℕ → List ℕ → O32Step
llseek_row kernel guest fd offset address origin left =
    stores guest address
    (with_some kernel EFAULT origin (λ origin.
    told_as place_bytes (on_files kernel (seek kernel.files fd (cast_signed w64 offset) origin)))) left

-- The numbers (Linux arch/mips/include/uapi/asm/unistd.h, the o32 table)
abbrev pub opening_calls : List O32Row
opening_calls =
    record { number = open_number Open; step = λ kernel guest. open_row kernel guest Working (argument guest.words 0) (open_of_o32 (argument guest.words 1)) (argument guest.words 2) }
    ∷ record { number = open_number Creat; step = λ kernel guest. open_row kernel guest Working (argument guest.words 0) (Some creat_flags) (argument guest.words 1) }
    ∷ record { number = place_number Lseek; step = λ kernel guest. lseek_row kernel guest (argument guest.words 0) (signed_argument guest.words 1) (argument guest.words 2) }
    ∷ record { number = place_number Llseek; step = λ kernel guest. llseek_row kernel guest (argument guest.words 0) (pair (argument guest.words 1) (argument guest.words 2)) (argument guest.words 3) (stack_word guest.words 0) }
    ∷ record { number = open_number Openat; step = λ kernel guest. open_row kernel guest (base (argument guest.words 0)) (argument guest.words 1) (open_of_o32 (argument guest.words 2)) (argument guest.words 3) }
    ∷ []
