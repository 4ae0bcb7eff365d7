-- What a structure or a register of 32 bits can't hold (stat(2), lseek(2), clock_gettime(2)).
use Rattle.std.specs.Prelude.{ℤ, Bool, true, if◌then◌else◌}
use Rattle.kernel_core.specs.declared.error.Errno.TheVariants.{EOVERFLOW}
use Rattle.kernel_model.specs.Came.{Came, Done, Refused, Waits, Did}
use Rattle.layouts.specs.Number.{value_of, low_number}

-- A row whose value may be too wide: the call is EOVERFLOW then, and what the row did stands.

abbrev pub unless_wide : {V : Type 0} → (V → Bool) → Came V → Came V
unless_wide is_wide (Done found) = if is_wide found then Refused EOVERFLOW else Done found
unless_wide is_wide (Refused error) = Refused error
unless_wide is_wide (Waits wake) = Waits wake

abbrev pub narrowed : {S V : Type 0} → (V → Bool) → Did S V → Did S V
narrowed is_wide did = record did { came = unless_wide is_wide did.came }

-- the low 32 bits of a number, as a signed one
abbrev pub low_word : ℤ → ℤ
low_word number = value_of true 4 (low_number 4 number)
