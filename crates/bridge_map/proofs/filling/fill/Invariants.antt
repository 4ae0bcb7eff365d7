-- The pieces so far.
use Rattle.std.proofs.Common.{◌≡◌, ◌*◌, ℕ, List, Some, min}
use Rattle.kernel_core.specs.FileContent.{FileContent}
use Rattle.outside.specs.Streams.{NoCountFell, NoCountRose, contents}
use Rattle.bridge_log.specs.Leading.{LeadsOn}
use Rattle.bridge_map.proofs.Pieces.{SoFar}
use Rattle.bridge_map.specs.Shown.{AreStorable, Shows}
use Rattle.bridge_map.proofs.filling.fill.Given as goal

abbrev pub invariant-loop-piece : goal.invariant-loop-piece
invariant-loop-piece g l = record {
  counts : NoCountFell g.I.Source.faults g.O.Sink.faults g.E.Sink.faults l.fn.dev l.dev;
  no_fault : NoCountRose g.I.Source.faults g.O.Sink.faults g.E.Sink.faults l.fn.dev l.dev;
  clock : l.below.kernel.now.clock ≡ l.fn.below.kernel.now.clock;
  same : LeadsOn l.fn.below l.below;
  so_far :
      (left : List ℕ) → g.I.Source.left l.fn.dev.input ≡ Some left
      → (content : FileContent) → Shows l.fn.below.kernel.now.files l.fn.part.fd content → AreStorable l.fn.space.pages l.fn.part.address l.fn.part.count
      → SoFar content l.fn.below.kernel.now l.below.kernel.now left
      (contents g.I.Source.left g.O.Sink.written g.E.Sink.written l.fn.dev) (contents g.I.Source.left g.O.Sink.written g.E.Sink.written l.dev)
      l.fn.space l.space l.fn.below.log.now l.below.log.now l.fn.part.address l.fn.part.offset (min (l.piece * 65536) l.fn.part.count);
}
