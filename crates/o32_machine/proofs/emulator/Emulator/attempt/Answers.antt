-- One whole turn, or quick ones.
use Rattle.outside.specs.Streams.{contents}
use Rattle.o32_machine.proofs.Logging.{one_logged}
use Rattle.o32_machine.proofs.Quieting.{at_once}
use Rattle.o32_machine.proofs.Recording.{one_recorded}
use Rattle.o32_machine.proofs.emulator.Emulator.attempt.Goals as goal

pub returns-in-None-clause-turns : goal.returns-in-None-clause-turns
returns-in-None-clause-turns g c =
    at_once c.args.self.now.quantum c.args.limit c.args.self.now.machine c.args.self.now.turns c.whole_turn.result c.whole_turn.new.self.machine c.whole_turn.new.self.turns c.whole_turn.new.self.events
    (contents g.I.Source.left g.O.Sink.written g.E.Sink.written c.args.dev.now) (contents g.I.Source.left g.O.Sink.written g.E.Sink.written c.whole_turn.new.dev)
    c.whole_turn.ensures.turn c.whole_turn.ensures.turns c.requires.some

pub returns-in-None-clause-records : goal.returns-in-None-clause-records
returns-in-None-clause-records g c =
    one_recorded c.whole_turn.result c.args.self.now.quantum c.args.self.now.machine c.args.self.now.turns c.whole_turn.new.self.turns c.args.self.now.records c.whole_turn.new.self.records
    (contents g.I.Source.left g.O.Sink.written g.E.Sink.written c.args.dev.now) c.whole_turn.ensures.turns c.whole_turn.ensures.records

pub returns-in-None-clause-native : goal.returns-in-None-clause-native
returns-in-None-clause-native g c =
    one_logged c.whole_turn.result c.args.self.now.quantum c.args.self.now.machine c.args.self.now.turns c.whole_turn.new.self.turns c.whole_turn.new.self.machine.kernel c.args.self.now.native c.whole_turn.new.self.native
    (contents g.I.Source.left g.O.Sink.written g.E.Sink.written c.args.dev.now) c.whole_turn.ensures.turns c.whole_turn.ensures.native
