-- The native call mirrors the row.
use Rattle.std.proofs.Common.{arith}
use Rattle.o32_model.specs.Names.{follow_flag, linked}
use Rattle.o32_model.specs.PathArguments.{base, one_flag}
use Rattle.o32_model.specs.Step.{gives}
use Rattle.bridge_file.proofs.Rows.{link_mirrors}
use Rattle.bridge_file.proofs.names.link.Goals as goal

pub returns-clause-row : goal.returns-clause-row
returns-clause-row g c = λ guest same memory.
    c.paths_call.ensures.row guest (λ left. gives guest (linked c.args.below.now.kernel.now guest (base c.args.old.directory) c.args.old.address (base c.args.new.directory) c.args.new.address (one_flag follow_flag c.args.flags)) left) same memory
    (link_mirrors guest c.args.below.now.kernel.now c.args.old.address c.args.new.address _ _ _ c.args.old.directory c.args.new.directory c.args.flags c.from.ensures c.from-2.ensures c.from-3.ensures (omega arith) (omega arith) c.ranges.flags.fits)

pub returns-clause-kept : goal.returns-clause-kept
returns-clause-kept g c = λ guest same memory.
    c.paths_call.ensures.kept guest (λ left. gives guest (linked c.args.below.now.kernel.now guest (base c.args.old.directory) c.args.old.address (base c.args.new.directory) c.args.new.address (one_flag follow_flag c.args.flags)) left) same memory
    (link_mirrors guest c.args.below.now.kernel.now c.args.old.address c.args.new.address _ _ _ c.args.old.directory c.args.new.directory c.args.flags c.from.ensures c.from-2.ensures c.from-3.ensures (omega arith) (omega arith) c.ranges.flags.fits)
