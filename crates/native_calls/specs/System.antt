-- Names, limits and chance: uname(2), prlimit(2), getrandom(2).
use Rattle.std.specs.Prelude.{ℕ, ℤ, pos, nat_abs, List, [], ◌∷◌, slice_index_or}
use Rattle.std.specs.List.{flat_map}
use Rattle.host_mem.specs.Memory.{written}
use Rattle.kernel_model.specs.Came.{Given, done, told_as}
use Rattle.kernel_model.specs.State.{Kernel}
use Rattle.kernel_model.specs.System.{set_limit, random_bytes, system_names}
use Rattle.kernel_model.specs.declared.limit.Limit.{Limit}
use Rattle.layouts.specs.Native.{rlimit}
use Rattle.layouts.specs.Shape.{record_bytes, record_values}
use Rattle.layouts.specs.Utsname.{padded}
use Rattle.native_calls.specs.Arguments.{argument, word, signed_word}
use Rattle.native_calls.specs.HostBytes.{accessible, structure, read_as, unless_null}
use Rattle.native_calls.specs.Step.{NativeStep, NativeCall, stores, stores_unless_null, fills}
use Rattle.number_tables.specs.Resources.{resource_of_native}

-- Names: six texts, each with NULs behind it up to 65 bytes

abbrev pub name_bytes : List ℕ
name_bytes = flat_map padded system_names

unfoldable pub uname_row : Kernel → List ℕ → ℕ → List ℕ → NativeStep
uname_row kernel memory address left = stores memory address (done kernel name_bytes) left

-- Limits

abbrev pub limit_of : List ℤ → Limit
limit_of values = record {
  soft = nat_abs (slice_index_or values 0 (pos 0));
  hard = nat_abs (slice_index_or values 1 (pos 0));
}

abbrev pub limit_in : List ℕ → Limit
limit_in bytes = limit_of (record_values rlimit bytes)

abbrev pub limit_at : List ℕ → ℕ → Given Limit
limit_at memory address = read_as limit_in (structure memory address rlimit.size)

abbrev pub limit_bytes : Limit → List ℕ
limit_bytes limit = record_bytes rlimit (pos limit.soft ∷ pos limit.hard ∷ [])

unfoldable pub prlimit_row : Kernel → List ℕ → ℤ → ℕ → ℕ → ℕ → List ℕ → NativeStep
prlimit_row kernel memory pid resource limit old left =
    stores_unless_null memory old
    (told_as limit_bytes (set_limit kernel pid (resource_of_native resource) (unless_null limit (limit_at memory limit)))) left

-- Chance

unfoldable pub getrandom_row : Kernel → List ℕ → ℕ → ℕ → ℕ → List ℕ → NativeStep
getrandom_row kernel memory buffer count flags left =
    fills (written memory buffer) memory (random_bytes kernel count (accessible memory buffer count) flags) left

-- The numbers (Linux include/uapi/asm-generic/unistd.h)
abbrev pub system_calls : List NativeCall
system_calls =
    record { number = 160; step = λ args kernel memory. uname_row kernel memory (argument args 0) }
    ∷ record {
      number = 261;
      step = λ args kernel memory. prlimit_row kernel memory (signed_word args 0) (word args 1) (argument args 2) (argument args 3);
    }
    ∷ record { number = 278; step = λ args kernel memory. getrandom_row kernel memory (argument args 0) (argument args 1) (word args 2) }
    ∷ []
