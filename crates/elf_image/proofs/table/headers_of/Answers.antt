use Rattle.std.proofs.Common.{◌+◌, ◌-◌, arith}
use Rattle.elf_image.proofs.Headers.{headers-step}
use Rattle.elf_image.proofs.table.headers_of.Goals as goal

pub loop-preserved : goal.loop-preserved
loop-preserved c =
    let step = headers-step c.args.bytes.now c.loop.place (c.args.count - c.loop.counter) (c.args.count - (c.loop.counter + 1)) _ _ c.header_of.result (omega arith) c.header_of.ensures c.loop.invariant.all in
    record { fits = λ more. omega arith; all = rw c.in_ok-push.ensures.items step }
