-- The numbers of signals are few.
use Rattle.std.proofs.Common.{◌≤◌, arith}
use Rattle.kernel_core.specs.declared.signal.Sig.{Sig}
use Rattle.kernel_model.proofs.Posting.{place_below}
use Rattle.native_signal.proofs.PlaceNumbers.{number_of_place}
use Rattle.number_tables.specs.Signals.{o32_signal}

pub few : (signal : Sig) → o32_signal signal ≤ 128
few signal = omega (arith, number_of_place signal, place_below signal)
