use Rattle.std.proofs.Common.{◌≤◌, arith, inr, subst, sym}
use Rattle.std.specs.Option.{option_copied}
use Rattle.outside.specs.Streams.{contents}
use Rattle.stored_files.specs.Stored.{stored_of}
use Rattle.o32_runner.proofs.RunLemmas.{at_start}
use Rattle.o32_runner.proofs.Telling.{cut_here}
use Rattle.kernel_core.specs.declared.core_error.Stop.{Stop}
use Rattle.o32_runner.specs.Making.{IsByStore}
use Rattle.o32_runner.proofs.Journals.{all_unmade, behind_made, by_store}
use Rattle.o32_runner.proofs.told.run_told.Goals as goal

pub returns-in-Err-clause-run : goal.returns-in-Err-clause-run
returns-in-Err-clause-run g c = λ left told.
    let at = (contents g.I.Source.left g.O.Sink.written g.E.Sink.written c.args.dev.now) in
    let within : 0 ≤ c.args.budget = omega arith in
    cut_here c.args.emulator.now.quantum c.args.emulator.now.machine left 0 c.args.budget at at c.args.emulator.now.machine within (at_start c.args.emulator.now.quantum c.args.emulator.now.machine left at told)

pub returns-in-Err-clause-texts : goal.returns-in-Err-clause-texts
returns-in-Err-clause-texts g c =
    inr (all_unmade (option_copied c.args.names.trace) (option_copied c.args.names.native) (option_copied c.args.names.journal) c.in-Err.error c.stop_of.result
    (contents g.I.Source.left g.O.Sink.written g.E.Sink.written c.args.dev.now)
    (stored_of g.F.Store.files g.F.Store.created g.F.Store.loads g.F.Store.turned_away g.F.Store.write_faults c.args.files.now)
    (stored_of g.F.Store.files g.F.Store.created g.F.Store.loads g.F.Store.turned_away g.F.Store.write_faults c.make_all.new.files) c.stop_of.ensures c.in-Err.ensures.unmade c.in-Err.ensures.cause)

pub returns-in-Err-clause-early : goal.returns-in-Err-clause-early
returns-in-Err-clause-early g c = λ none unkept some. some

pub returns-in-Err-clause-behind : goal.returns-in-Err-clause-behind
returns-in-Err-clause-behind g c = λ done.
    subst (λ (s : Stop). IsByStore s (g.F.Store.write_faults c.args.files.now) (g.F.Store.write_faults c.make_all.new.files)) (sym c.stop_of.ensures)
    (by_store c.in-Err.error (g.F.Store.write_faults c.args.files.now) (g.F.Store.write_faults c.make_all.new.files) c.in-Err.ensures.cause)

pub returns-in-Ok-clause-behind : goal.returns-in-Ok-clause-behind
returns-in-Ok-clause-behind g c =
    behind_made c.run_made.result.end c.run_made.result.turns c.args.budget (g.F.Store.write_faults c.args.files.now) (g.F.Store.write_faults c.make_all.new.files) (g.F.Store.write_faults c.run_made.new.files)
    c.in-Ok.ensures.cause c.run_made.ensures.behind
