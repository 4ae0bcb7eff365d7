-- The part that is read has the status' length.
use Rattle.std.proofs.Common.{ℕ, List, Bor, ap, ◌∙◌}
use Rattle.host_mem.specs.Memory.{bytes_at, first_address}
use Rattle.bridge_status.proofs.TellMirrors.{status_long}
use Rattle.bridge_status.specs.inside.Tells.{status_there}
use Rattle.bridge_status.proofs.telling.status_there.Goals as goal

pub returns-clause-there : goal.returns-clause-there
unfolding status_there
returns-clause-there c = c.read.ensures.bytes ∙ ap (λ (size : ℕ). bytes_at c.args.mem.now first_address size) c.from.ensures

pub returns-clause-long : goal.returns-clause-long
unfolding status_there
returns-clause-long c =
    status_long c.args.mem.now (λ (status : Bor (List ℕ)). status.now) c.read.result (c.read.ensures.bytes ∙ ap (λ (size : ℕ). bytes_at c.args.mem.now first_address size) c.from.ensures)
