use Rattle.std.specs.Option.{option_copied}
use Rattle.stored_files.specs.Stored.{stored_of}
use Rattle.o32_runner.proofs.Files.{third_unmade}
use Rattle.o32_runner.proofs.told.make_all.Goals as goal

pub returns-clause-unmade : goal.returns-clause-unmade
returns-clause-unmade g c =
    third_unmade c.make.result (option_copied c.args.names.trace) (option_copied c.args.names.native) (option_copied c.args.names.journal)
    (stored_of g.F.Store.files g.F.Store.created g.F.Store.loads g.F.Store.turned_away g.F.Store.write_faults c.args.files.now)
    (stored_of g.F.Store.files g.F.Store.created g.F.Store.loads g.F.Store.turned_away g.F.Store.write_faults c.make_both.new.files)
    (stored_of g.F.Store.files g.F.Store.created g.F.Store.loads g.F.Store.turned_away g.F.Store.write_faults c.make.new.files) c.in_ok-make_both.ensures.made c.make.ensures.unmade
