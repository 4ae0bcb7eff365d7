-- Sets of signals in both worlds. A set holds bit s - 1 for the signal of number s: in four words of 32 bits by the numbers for an o32
-- program (Linux arch/mips/include/uapi/asm/signal.h), in two words of 64 bits by those for the native kernel
-- (include/uapi/asm-generic/signal.h). That both have 128 signals is this project's own.
use Rattle.std.specs.Prelude.{◌≡◌, ℕ, zero, suc, ◌+◌, ◌-◌, ◌*◌, ◌/◌, ◌%◌, ◌^◌, ◌<◌, ◌==◌, Bool, false, List, [], ◌∷◌, All, length, slice_index, Option, None, Some, if◌then◌else◌}
use Rattle.kernel_core.specs.declared.signal.Sig.{Sig}
use Rattle.kernel_model.specs.SignalSets.{SignalSet, has, words}
use Rattle.number_tables.specs.Signals.{o32_signal, native_signal, signal_of_o32, signal_of_native}

-- two words of 64 bits
abbrev pub NativeSet : Type 0
NativeSet = List ℕ

-- whether a word of so many bits has the bit of a number
abbrev pub has_number : ℕ → List ℕ → ℕ → Bool
has_number width set number = slice_index set ((number - 1) / width) / 2 ^ ((number - 1) % width) % 2 == 1

-- whether a signal is in a set of an o32 program, and in one of the native kernel
abbrev pub has_in_o32 : SignalSet → Sig → Bool
has_in_o32 set signal = has_number 32 set (o32_signal signal)

abbrev pub has_natively : NativeSet → Sig → Bool
has_natively set signal = has_number 64 set (native_signal signal)

-- the same signals are in both
abbrev pub AreSame : SignalSet → NativeSet → Type 0
AreSame set native = (signal : Sig) → has set signal ≡ has_natively native signal

-- the words of a native set
pub record IsNativeSet (set : NativeSet) : Type 0 where
  pub count : length set ≡ 2
  pub words : All (λ word. word < 2 ^ 64) set

-- the number whose bits, from the lowest on, say of so many numbers from one on whether a test holds
unfoldable pub bits_where : (ℕ → Bool) → ℕ → ℕ → ℕ
bits_where test from zero = 0
bits_where test from (suc count) = (if test from then 1 else 0) + 2 * bits_where test (from + 1) count

-- whether the signal of a number, if it has one, is a member
abbrev pub is_member : (Sig → Bool) → Option Sig → Bool
is_member member None = false
is_member member (Some signal) = member signal

-- whether the signal of a native number is in a set, and that of an o32 number in a native set
abbrev pub has_native_number : SignalSet → ℕ → Bool
has_native_number set number = is_member (has set) (signal_of_native number)

abbrev pub has_o32_number : NativeSet → ℕ → Bool
has_o32_number native number = is_member (has_natively native) (signal_of_o32 number)

-- the native set with the signals of a set, and the set with those of a native one
unfoldable pub native_of : SignalSet → NativeSet
native_of set = bits_where (has_native_number set) 1 64 ∷ bits_where (has_native_number set) 65 64 ∷ []

unfoldable pub set_of_native : NativeSet → SignalSet
set_of_native native = words (λ k. bits_where (has_o32_number native) (32 * k + 1) 32)
