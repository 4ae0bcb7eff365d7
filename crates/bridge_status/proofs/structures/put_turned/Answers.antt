-- A number of so many bytes fits them.
use Rattle.std.proofs.Common.{ℕ, ◌<◌, ◌^◌, sym, subst, arith}
use Rattle.byteorder.specs.Numbers.{little_from-lt}
use Rattle.bridge_status.proofs.structures.put_turned.Goals as goal

pub write_uint-requires-clause-fits : goal.write_uint-requires-clause-fits
write_uint-requires-clause-fits c =
    subst (λ (n : ℕ). n < 256 ^ c.from-width.result) (sym c.read_uint-low.ensures) (little_from-lt 0 c.from-width.result c.args.number.now (λ k. let byte = c.type_inv.number k in omega (arith, byte)))
