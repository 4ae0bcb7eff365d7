use Rattle.std.proofs.Common.{arith, sym}
use Rattle.native_fd.proofs.TableLemmas.{number-small}
use Rattle.native_files.proofs.opening.set_key.Goals as goal

pub bounds-node_keys-number : goal.bounds-node_keys-number
bounds-node_keys-number c =
    let small = number-small c.args.table.now c.in-Some.ensures.valid c.args.fd c.in-Some.number (sym c.in-Some.ensures.number) in
    omega (arith, c.requires.sized, small)
