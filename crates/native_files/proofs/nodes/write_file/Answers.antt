use Rattle.std.proofs.Common.{arith, length}
use Rattle.native_files.proofs.NodeFacts.{write-end, write-within}
use Rattle.native_files.proofs.nodes.write_file.Goals as goal
use Rattle.native_vfs.specs.Keyed.{number_at}

pub overflow_add-result : goal.overflow_add-result
overflow_add-result c =
    omega (
      arith,
      write-end c.args.vfs.now.nodes c.requires.valid (number_at c.args.vfs.now c.args.key) c.in-File.ensures c.write_begin-begin.result c.in-Ok.count (length c.args.bytes.now)
          c.write_begin-begin.type_inv c.in-Ok.ensures.answer c.in-Ok.ensures.count,
    )

pub returns-in-Ok-clause-within : goal.returns-in-Ok-clause-within
returns-in-Ok-clause-within c =
    write-within c.args.vfs.now.nodes c.requires.valid (number_at c.args.vfs.now c.args.key) c.in-File.ensures c.write_begin-begin.result c.in-Ok.count (length c.args.bytes.now) c.in-Ok.ensures.count
