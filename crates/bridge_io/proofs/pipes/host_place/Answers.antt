-- Where a byte can't be stored, there is no place.
use Rattle.std.proofs.Common.{sym, ap, if◌then◌else◌}
use Rattle.std.specs.Prelude.{Bool}
use Rattle.bridge_io.proofs.PipeMirrors.{nowhere}
use Rattle.bridge_io.proofs.pipes.host_place.Goals as goal

pub returns-else-writable-size : goal.returns-else-writable-size
returns-else-writable-size c =
    sym (ap (λ (b : Bool). if b then 65536 else 0) (nowhere c.args.space.now.pages c.args.address c.args.size c.writable.result c.writable.ensures.value c.if-writable-size.false))
