-- Sets of signals (sigsetops(3)): four words of 32 bits, with a bit for each signal in the order in which `kernel_core` names them.
use Rattle.std.specs.Prelude.{ℕ, ◌-◌, ◌/◌, ◌%◌, ◌^◌, Bool, ◌==◌, List, [], ◌∷◌, map, zip, slice_index, if◌then◌else◌, bit_and, bit_or}
use Rattle.kernel_core.specs.declared.signal.Sig.{Sig}
use Rattle.kernel_core.specs.declared.signal.Sig.TheVariants as sigs

-- the place of a signal in the order of the names, from 0 to 127
abbrev pub place : Sig → ℕ
place sigs.Hup = 0
place sigs.Int = 1
place sigs.Quit = 2
place sigs.Ill = 3
place sigs.Trap = 4
place sigs.Abrt = 5
place sigs.Emt = 6
place sigs.Fpe = 7
place sigs.Kill = 8
place sigs.Bus = 9
place sigs.Segv = 10
place sigs.Sys = 11
place sigs.Pipe = 12
place sigs.Alrm = 13
place sigs.Term = 14
place sigs.Usr1 = 15
place sigs.Usr2 = 16
place sigs.Chld = 17
place sigs.Pwr = 18
place sigs.Winch = 19
place sigs.Urg = 20
place sigs.Io = 21
place sigs.Stop = 22
place sigs.Tstp = 23
place sigs.Cont = 24
place sigs.Ttin = 25
place sigs.Ttou = 26
place sigs.Vtalrm = 27
place sigs.Prof = 28
place sigs.Xcpu = 29
place sigs.Xfsz = 30
place (sigs.RealTime signal) = signal.number - 1

-- there are 128 signals, of which the first 31 are the standard ones
abbrev pub signal_count : ℕ
signal_count = 128

abbrev pub standard_count : ℕ
standard_count = 31

abbrev pub SignalSet : Type 0
SignalSet = List ℕ

abbrev pub words : (ℕ → ℕ) → SignalSet
words word = word 0 ∷ word 1 ∷ word 2 ∷ word 3 ∷ []

abbrev pub no_signals : SignalSet
no_signals = words (λ _. 0)

-- whether a signal is in a set
abbrev pub has : SignalSet → Sig → Bool
has set signal = slice_index set (place signal / 32) / 2 ^ (place signal % 32) % 2 == 1

-- the set of one signal
abbrev pub only : Sig → SignalSet
only signal = words (λ k. if k == place signal / 32 then 2 ^ (place signal % 32) else 0)

abbrev pub union : SignalSet → SignalSet → SignalSet
union left right = map (λ p. bit_or p.0 p.1) (zip left right)

-- the signals of the first set that are not in the second
abbrev pub without : SignalSet → SignalSet → SignalSet
without left right = map (λ p. p.0 - bit_and p.0 p.1) (zip left right)

-- KILL and STOP, which no mask holds (signal(7))
abbrev pub unblockable : SignalSet
unblockable = union (only sigs.Kill) (only sigs.Stop)

abbrev pub blockable : SignalSet → SignalSet
blockable set = without set unblockable
