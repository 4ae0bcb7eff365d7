-- A signed number of 32 bits is the same of 64.
use Rattle.std.proofs.Common.{rules}
use Rattle.std.specs.Int.{w32, w64}
use Rattle.std.specs.Prelude.{FitsSigned}
use Rattle.bridge_file.proofs.TimeRows.{signed_same}
use Rattle.bridge_file.proofs.times.signed_in.Goals as goal

pub returns : goal.returns
returns c =
    let short : FitsSigned w32 c.cast_signed.result = search rules in
    let long : FitsSigned w64 c.from.result = search rules in
    signed_same _ c.read_u32.result c.cast_signed.result c.from.result c.read_u32.ensures c.read_u32.type_inv c.cast_signed.ensures c.from.ensures short long
