-- The log is that of the turns that were taken.
use Rattle.std.proofs.Common.{subst, sym}
use Rattle.o32_machine.specs.Emulator.{Emulated}
use Rattle.o32_machine.specs.Native.{LogsTurns}
use Rattle.outside.specs.Streams.{contents}
use Rattle.o32_machine.specs.Records.{RecordsTurns}
use Rattle.o32_machine.proofs.emulator.Emulator.next_turns.Goals as goal

pub returns-then-not-matches-clause-native : goal.returns-then-not-matches-clause-native
returns-then-not-matches-clause-native g c =
    subst (λ (e : Emulated). LogsTurns c.attempt-result.result c.args.self.now.quantum c.args.self.now.machine c.args.self.now.turns e.turns e.machine.kernel c.args.self.now.native e.native
    (contents g.I.Source.left g.O.Sink.written g.E.Sink.written c.args.dev.now))
    (sym c.self.view_is) c.attempt-result.ensures.native

pub returns-then-not-matches-clause-records : goal.returns-then-not-matches-clause-records
returns-then-not-matches-clause-records g c =
    subst (λ (e : Emulated). RecordsTurns c.attempt-result.result c.args.self.now.quantum c.args.self.now.machine c.args.self.now.turns e.turns c.args.self.now.records e.records
    (contents g.I.Source.left g.O.Sink.written g.E.Sink.written c.args.dev.now)) (sym c.self.view_is) c.attempt-result.ensures.records
