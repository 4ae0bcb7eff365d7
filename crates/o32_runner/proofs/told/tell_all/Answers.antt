use Rattle.std.proofs.Common.{refl}
use Rattle.std.specs.Option.{option_copied}
use Rattle.stored_files.specs.Stored.{stored_of}
use Rattle.o32_runner.specs.inside.Told.{journal_of, native_of, trace_of}
use Rattle.o32_runner.proofs.Files.{lines_in_part, records_in_part}
use Rattle.o32_runner.proofs.told.tell_all.Goals as goal

pub returns-in_err-tell-clause-part : goal.returns-in_err-tell-clause-part
returns-in_err-tell-clause-part g c =
    lines_in_part c.from_residual.result (option_copied c.args.names.trace) (option_copied c.args.names.native) (option_copied c.args.names.journal)
    (trace_of c.args.emulator.now c.args.turn) (native_of c.args.emulator.now c.args.turn) (journal_of c.args.front.now c.args.emulator.now c.args.turn)
    (stored_of g.F.Store.files g.F.Store.created g.F.Store.loads g.F.Store.turned_away g.F.Store.write_faults c.args.files.now)
    (stored_of g.F.Store.files g.F.Store.created g.F.Store.loads g.F.Store.turned_away g.F.Store.write_faults c.tell.new.files) c.in_err-tell.ensures.part

pub returns-clause-part : goal.returns-clause-part
returns-clause-part g c =
    records_in_part c.tell_records.result (option_copied c.args.names.trace) (option_copied c.args.names.native) (option_copied c.args.names.journal)
    (trace_of c.args.emulator.now c.args.turn) (native_of c.args.emulator.now c.args.turn) (journal_of c.args.front.now c.args.emulator.now c.args.turn) (journal_of c.args.front.now c.args.emulator.now c.args.turn)
    (stored_of g.F.Store.files g.F.Store.created g.F.Store.loads g.F.Store.turned_away g.F.Store.write_faults c.args.files.now)
    (stored_of g.F.Store.files g.F.Store.created g.F.Store.loads g.F.Store.turned_away g.F.Store.write_faults c.tell.new.files)
    (stored_of g.F.Store.files g.F.Store.created g.F.Store.loads g.F.Store.turned_away g.F.Store.write_faults c.tell_records.new.files) refl c.in_ok-tell.ensures.added c.tell_records.ensures.part
