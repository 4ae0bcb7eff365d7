-- Resources by their numbers in both worlds, and a limit in host memory. (The form is this project's own.)
use Rattle.std.specs.Prelude.{ℕ, List, Option, Some, None, option_map, unwrap_or}
use Rattle.host_mem.specs.Memory.{bytes_at, first_address}
use Rattle.kernel_model.specs.declared.limit.Limit.{Limit}
use Rattle.native_calls.specs.System as native
use Rattle.number_tables.specs.Resources.{native_resource, resource_of_o32}

-- the native number, and one that no resource has where the o32 number is none
abbrev pub native_number : ℕ → ℕ
native_number number = unwrap_or (option_map native_resource (resource_of_o32 number)) 16

-- the limit that stands in host memory, which is 0 where none does
abbrev pub limit_or_zero : Option (List ℕ) → Limit
limit_or_zero None = record { soft = 0; hard = 0 }
limit_or_zero (Some bytes) = native.limit_in bytes

abbrev pub limit_there : List ℕ → Limit
limit_there memory = limit_or_zero (bytes_at memory first_address 16)
