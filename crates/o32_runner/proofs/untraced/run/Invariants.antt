use Rattle.std.proofs.Common.{◌≡◌, ◌≤◌, ◌-◌, ℕ, List, Some, false}
use Rattle.outside.specs.Streams.{NoCountFell, NoCountRose, contents}
use Rattle.o32_runner.specs.Runs.{GoesSo, KeepsTexts}
use Rattle.o32_runner.proofs.untraced.run.Given as goal

abbrev pub invariant-loop-emulator : goal.invariant-loop-emulator
invariant-loop-emulator g l = record {
  most : l.emulator.turns ≤ l.budget;
  on : l.emulator.over ≡ false;
  long : l.emulator.quantum ≡ l.fn.emulator.quantum;
  so : GoesSo l.fn.emulator.quantum l.fn.emulator.machine l.emulator.turns (contents g.I.Source.left g.O.Sink.written g.E.Sink.written l.fn.dev) (contents g.I.Source.left g.O.Sink.written g.E.Sink.written l.dev) l.emulator.machine;
  keeps : (left : List ℕ) → g.I.Source.left l.fn.dev.input ≡ Some left → KeepsTexts l.fn.emulator l.emulator;
  later : NoCountFell g.I.Source.faults g.O.Sink.faults g.E.Sink.faults l.fn.dev l.dev;
  stays : NoCountRose g.I.Source.faults g.O.Sink.faults g.E.Sink.faults l.fn.dev l.dev;
}

abbrev pub decreases-loop-emulator : goal.decreases-loop-emulator
decreases-loop-emulator g l = l.budget - l.emulator.turns
