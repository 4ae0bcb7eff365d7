-- The numbers of the signals in both worlds.
use Rattle.std.specs.Prelude.{◌≡◌, ℕ, Bool, true, false, Option, Some, None, List, [], ◌∷◌, refl}
use Rattle.number_tables.specs.Numbered.{numbered_or}
use Rattle.kernel_core.specs.RealTime.{is_real_time}
use Rattle.kernel_core.specs.declared.signal.Sig.{Sig}
use Rattle.kernel_core.specs.declared.signal.Sig.TheVariants.{Hup, Int, Quit, Ill, Trap, Abrt, Emt, Fpe, Kill, Bus, Segv, Sys, Pipe, Alrm, Term, Usr1, Usr2, Chld, Pwr, Winch, Urg, Io, Stop, Tstp, Cont, Ttin, Ttou, Vtalrm, Prof, Xcpu, Xfsz, RealTime}

-- the number of a signal for an o32 program (Linux arch/mips/include/uapi/asm/signal.h)
abbrev pub o32_signal : Sig → ℕ
o32_signal Hup = 1
o32_signal Int = 2
o32_signal Quit = 3
o32_signal Ill = 4
o32_signal Trap = 5
o32_signal Abrt = 6
o32_signal Emt = 7
o32_signal Fpe = 8
o32_signal Kill = 9
o32_signal Bus = 10
o32_signal Segv = 11
o32_signal Sys = 12
o32_signal Pipe = 13
o32_signal Alrm = 14
o32_signal Term = 15
o32_signal Usr1 = 16
o32_signal Usr2 = 17
o32_signal Chld = 18
o32_signal Pwr = 19
o32_signal Winch = 20
o32_signal Urg = 21
o32_signal Io = 22
o32_signal Stop = 23
o32_signal Tstp = 24
o32_signal Cont = 25
o32_signal Ttin = 26
o32_signal Ttou = 27
o32_signal Vtalrm = 28
o32_signal Prof = 29
o32_signal Xcpu = 30
o32_signal Xfsz = 31
o32_signal (RealTime signal) = signal.number

-- the number of a signal for the native kernel (Linux include/uapi/asm-generic/signal.h), where
-- SIGEMT stands in the place of SIGSTKFLT
abbrev pub native_signal : Sig → ℕ
native_signal Hup = 1
native_signal Int = 2
native_signal Quit = 3
native_signal Ill = 4
native_signal Trap = 5
native_signal Abrt = 6
native_signal Bus = 7
native_signal Fpe = 8
native_signal Kill = 9
native_signal Usr1 = 10
native_signal Segv = 11
native_signal Usr2 = 12
native_signal Pipe = 13
native_signal Alrm = 14
native_signal Term = 15
native_signal Emt = 16
native_signal Chld = 17
native_signal Cont = 18
native_signal Stop = 19
native_signal Tstp = 20
native_signal Ttin = 21
native_signal Ttou = 22
native_signal Urg = 23
native_signal Xcpu = 24
native_signal Xfsz = 25
native_signal Vtalrm = 26
native_signal Prof = 27
native_signal Winch = 28
native_signal Io = 29
native_signal Pwr = 30
native_signal Sys = 31
native_signal (RealTime signal) = signal.number

-- the signals that have a name
abbrev pub named_signals : List Sig
named_signals = Hup ∷ Int ∷ Quit ∷ Ill ∷ Trap ∷ Abrt ∷ Emt ∷ Fpe ∷ Kill ∷ Bus ∷ Segv ∷ Sys ∷ Pipe ∷ Alrm ∷ Term ∷ Usr1 ∷ Usr2 ∷ Chld ∷ Pwr ∷ Winch ∷ Urg ∷ Io ∷ Stop ∷ Tstp ∷ Cont ∷ Ttin ∷ Ttou ∷ Vtalrm ∷ Prof ∷ Xcpu ∷ Xfsz ∷ []

-- the real-time signal of a number, once it is known whether the number is one's
unfoldable pub real_time_if : (number : ℕ) (b : Bool) → is_real_time number ≡ b → Option Sig
real_time_if number true is = Some (RealTime (record { number = number; in_range = is }))
real_time_if number false is = None

-- the real-time signal of a number
unfoldable pub real_time : ℕ → Option Sig
real_time number = real_time_if number (is_real_time number) refl

-- the signal of a number, for an o32 program and for the native kernel
abbrev pub signal_of_o32 : ℕ → Option Sig
signal_of_o32 number = numbered_or o32_signal named_signals (real_time number) number

abbrev pub signal_of_native : ℕ → Option Sig
signal_of_native number = numbered_or native_signal named_signals (real_time number) number
