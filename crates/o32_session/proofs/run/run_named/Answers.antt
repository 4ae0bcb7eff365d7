use Rattle.std.proofs.Common.{ap}
use Rattle.std.specs.Option.{option_copied}
use Rattle.outside.specs.Streams.{contents}
use Rattle.stored_files.specs.Stored.{stored_of}
use Rattle.o32_runner.proofs.Journals.{behind_none}
use Rattle.o32_session.proofs.Naming.{nothing_written}
use Rattle.o32_session.proofs.run.run_named.Goals as goal

pub returns-in-None-None-None-clause-texts : goal.returns-in-None-None-None-clause-texts
returns-in-None-None-None-clause-texts g c =
    nothing_written c.args.texts.front.now c.args.emulator.now.quantum c.args.emulator.now.machine c.args.budget c.run.result.turns c.run.result.end (contents g.I.Source.left g.O.Sink.written g.E.Sink.written c.args.dev.now) (contents g.I.Source.left g.O.Sink.written g.E.Sink.written c.run.new.dev)
    (stored_of g.F.Store.files g.F.Store.created g.F.Store.loads g.F.Store.turned_away g.F.Store.write_faults c.args.files.now)
    (option_copied c.args.texts.names.trace) (option_copied c.args.texts.names.native) (option_copied c.args.texts.names.journal)
    (ap option_copied c.in-None-None-None.is-0) (ap option_copied c.in-None-None-None.is-1) (ap option_copied c.in-None-None-None.is-2)

pub returns-in-None-None-None-clause-behind : goal.returns-in-None-None-None-clause-behind
returns-in-None-None-None-clause-behind g c =
    behind_none c.run.result.end c.run.result.turns c.args.budget (g.F.Store.write_faults c.args.files.now) (g.F.Store.write_faults c.args.files.now) c.run.ensures.within
