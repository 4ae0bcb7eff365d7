use Rattle.std.proofs.Common.{◌≡◌, ℕ, ◌-◌, List, Some}
use Rattle.bridge_ends.specs.Ends.{Keeps}
use Rattle.bridge_ends.specs.Passed.{LeadsOn}
use Rattle.o32_turns.specs.Closing.{whole_end}
use Rattle.o32_turns.specs.Delivering.{most_rounds, rounds}
use Rattle.o32_turns.specs.Going.{within_of}
use Rattle.outside.specs.Streams.{NoCountFell, NoCountRose, contents}
use Rattle.schedule.specs.declared.events.Due.{Due}
use Rattle.bridge_delivery.specs.inside.Processes.{StaysOn}
use Rattle.bridge_delivery.proofs.delivering.deliver_rounds.Given as goal

-- the rounds from the start are those so far, and the rounds from here
abbrev pub invariant-loop-round : goal.invariant-loop-round
invariant-loop-round g l = record {
  clock : l.below.kernel.now.clock ≡ l.clock;
  carried : (left : List ℕ) → (contents g.I.Source.left g.O.Sink.written g.E.Sink.written l.fn.dev).left ≡ Some left
      → (contents g.I.Source.left g.O.Sink.written g.E.Sink.written l.dev ≡ contents g.I.Source.left g.O.Sink.written g.E.Sink.written l.fn.dev)
      × ((coming : List Due) (idle : ℕ) → rounds whole_end (most_rounds - l._round) (within_of l.process.going.now l.process.cpu.now l.process.space.now l.below.kernel.now coming idle)
      ≡ rounds whole_end most_rounds (within_of l.fn.process.going.now l.fn.process.cpu.now l.fn.process.space.now l.fn.below.kernel.now coming idle));
  kept : (left : List ℕ) → g.I.Source.left l.fn.dev.input ≡ Some left → Keeps l.fn.below.kernel.now l.below.kernel.now l.fn.process.space.now.pages l.process.space.now.pages left l.fn.below.log.now l.below.log.now;
  later : NoCountFell g.I.Source.faults g.O.Sink.faults g.E.Sink.faults l.fn.dev l.dev;
  stays : NoCountRose g.I.Source.faults g.O.Sink.faults g.E.Sink.faults l.fn.dev l.dev;
  same : LeadsOn l.fn.below l.below;
  steady : StaysOn l.fn.process l.process;
}
