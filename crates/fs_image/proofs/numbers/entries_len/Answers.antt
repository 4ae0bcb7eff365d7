use Rattle.std.proofs.Common.{arith}
use Rattle.fs_image.proofs.Lengths.{entries_length}
use Rattle.fs_image.proofs.numbers.entries_len.Goals as goal

pub overflow_mul-result : goal.overflow_mul-result
overflow_mul-result c = omega (arith, entries_length c.args.entries.now, c.requires)

pub names_len-requires : goal.names_len-requires
names_len-requires c = omega (arith, entries_length c.args.entries.now, c.requires)

pub overflow_add-result : goal.overflow_add-result
overflow_add-result c = omega (arith, entries_length c.args.entries.now, c.requires, c.names_len.ensures)

pub returns : goal.returns
returns c = omega (arith, entries_length c.args.entries.now, c.names_len.ensures)
