use Rattle.std.proofs.Common.{◌≡◌, ◌≤◌, ◌-◌, ℕ, List, Some, false}
use Rattle.std.specs.Option.{option_copied}
use Rattle.outside.specs.Streams.{NoCountFell, NoCountRose, contents}
use Rattle.o32_runner.specs.Runs.{GoesSo, KeepsTexts}
use Rattle.stored_files.specs.Stored.{Stored, stored_of}
use Rattle.o32_runner.specs.Making.{MakesAll}
use Rattle.o32_runner.specs.inside.Told.{IsMade}
use Rattle.o32_runner.proofs.Journals.{AllSo}
use Rattle.o32_runner.proofs.told.run_made.Given as goal

abbrev pub invariant-loop-emulator : goal.invariant-loop-emulator
invariant-loop-emulator g l = record {
  most : l.emulator.turns ≤ l.budget;
  on : l.emulator.over ≡ false;
  long : l.emulator.quantum ≡ l.fn.emulator.quantum;
  so : GoesSo l.fn.emulator.quantum l.fn.emulator.machine l.emulator.turns (contents g.I.Source.left g.O.Sink.written g.E.Sink.written l.fn.dev) (contents g.I.Source.left g.O.Sink.written g.E.Sink.written l.dev) l.emulator.machine;
  texts : (start : Stored) → MakesAll (option_copied l.names.trace) (option_copied l.names.native) (option_copied l.names.journal) start (stored_of g.F.Store.files g.F.Store.created g.F.Store.loads g.F.Store.turned_away g.F.Store.write_faults l.fn.files)
      → AllSo (option_copied l.names.trace) (option_copied l.names.native) (option_copied l.names.journal) l.front l.fn.emulator.quantum l.fn.emulator.machine l.emulator.turns (g.I.Source.left l.fn.dev.input) l.emulator start
      (stored_of g.F.Store.files g.F.Store.created g.F.Store.loads g.F.Store.turned_away g.F.Store.write_faults l.files);
  keeps : (left : List ℕ) → g.I.Source.left l.fn.dev.input ≡ Some left → KeepsTexts l.fn.emulator l.emulator;
  trace : IsMade (g.F.Store.created l.files) (option_copied l.names.trace);
  native : IsMade (g.F.Store.created l.files) (option_copied l.names.native);
  journal : IsMade (g.F.Store.created l.files) (option_copied l.names.journal);
  later : NoCountFell g.I.Source.faults g.O.Sink.faults g.E.Sink.faults l.fn.dev l.dev;
  stays : NoCountRose g.I.Source.faults g.O.Sink.faults g.E.Sink.faults l.fn.dev l.dev;
  writes : g.F.Store.write_faults l.files ≡ g.F.Store.write_faults l.fn.files;
  loads : g.F.Store.load_faults l.files ≡ g.F.Store.load_faults l.fn.files;
}

abbrev pub decreases-loop-emulator : goal.decreases-loop-emulator
decreases-loop-emulator g l = l.budget - l.emulator.turns
