use Rattle.std.proofs.Common.{◌∙◌, ap, List, ℕ}
use Rattle.kernel_model.specs.Clock.{length_of}
use Rattle.native_calls.specs.Times.{time_in}
use Rattle.bridge_limits.proofs.HostRooms.{wait_back}
use Rattle.bridge_limits.proofs.rooms.time_bytes.Goals as goal

pub returns-clause-value : goal.returns-clause-value
returns-clause-value c = ap (λ (bytes : List ℕ). length_of (time_in bytes)) c.two_numbers.ensures ∙ wait_back c.args.wait c.ranges.wait.fits
