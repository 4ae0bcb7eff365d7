use Rattle.std.proofs.Common.{◌≡◌, take}
use Rattle.kernel_model.specs.System.{round}
use Rattle.session_files.proofs.settings.fill_round.Given as goal

-- the bytes so far
abbrev pub invariant-loop-i : goal.invariant-loop-i
invariant-loop-i l = take l.i l.buffer ≡ round l.bytes 0 l.i
