use Rattle.std.proofs.Common.{ap, refl, ◌+◌, ◌∙◌}
use Rattle.kernel_model.specs.State.{Files}
use Rattle.kernel_model.specs.Table.{slot}
use Rattle.native_files.proofs.PipePlaces.{lowest-free, still-free}
use Rattle.native_files.proofs.files.Files.open_pipe.Goals as goal

pub insert-requires-clause-free : goal.insert-requires-clause-free
insert-requires-clause-free c = lowest-free c.args.self.now.table c.requires.valid 0 c.args.read c.requires.read

pub insert-requires-2-clause-free : goal.insert-requires-2-clause-free
insert-requires-2-clause-free c =
    ap (λ (f : Files). slot f.table.fds c.args.write) c.in_ok-insert.ensures
    ∙ still-free c.args.self.now.table c.requires.valid (c.args.read + 1) c.args.write c.requires.write c.args.read c.end_description-reading.result c.args.flags.cloexec refl
