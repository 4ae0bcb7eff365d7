-- Numbers of sets of events.
use Rattle.std.proofs.Common.{◌<◌, ◌≤◌, Bool, true, false, arith, lit≤}
use Rattle.kernel_core.specs.Bits.{one_if}
use Rattle.kernel_model.specs.Shared.{PollSet}
use Rattle.number_tables.specs.PollNumbers.{native_poll}

one_if_small : (b : Bool) → one_if b ≤ 1
one_if_small true = lit≤ tt
one_if_small false = lit≤ tt

-- ten bits
pub number_is_small : (events : PollSet) → native_poll events < 65536
number_is_small events =
    omega (
      arith,
      one_if_small events.input,
      one_if_small events.pri,
      one_if_small events.output,
      one_if_small events.err,
      one_if_small events.hup,
      one_if_small events.nval,
      one_if_small events.rdnorm,
      one_if_small events.rdband,
      one_if_small events.wrnorm,
      one_if_small events.wrband,
    )
