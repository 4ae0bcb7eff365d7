use Rattle.std.proofs.Common.{◌≡◌, ◌&&◌, find}
use Rattle.kernel_core.specs.declared.signal.Sig.{Sig}
use Rattle.kernel_model.specs.SignalSets.{blockable, has}
use Rattle.o32_model.specs.Suspending.{all_signals}
use Rattle.signal_choice.proofs.Lookup.{found_from}
use Rattle.signal_choice.proofs.accepting.accepted.Given as goal

-- of the numbers so far none has such a signal
abbrev pub invariant-loop-number : goal.invariant-loop-number
invariant-loop-number l =
    find (λ (signal : Sig). has (blockable l.set) signal && has l.pending signal) all_signals
    ≡ found_from (λ (signal : Sig). has (blockable l.set) signal && has l.pending signal) l.number
