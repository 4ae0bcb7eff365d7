-- One turn is taken.
use Rattle.outside.specs.Streams.{contents}
use Rattle.o32_machine.proofs.Quieting.{one_counts, one_turn}
use Rattle.o32_machine.proofs.Quieting.{one_log, one_record}
use Rattle.o32_machine.proofs.emulator.Emulator.turn.Goals as goal

pub returns-clause-turn : goal.returns-clause-turn
returns-clause-turn g c =
    one_turn c.args.self.now.quantum c.args.self.now.machine c.args.self.now.turns c.next_turns.result c.next_turns.new.self.machine c.next_turns.new.self.turns c.next_turns.new.self.events
    (contents g.I.Source.left g.O.Sink.written g.E.Sink.written c.args.dev.now) (contents g.I.Source.left g.O.Sink.written g.E.Sink.written c.next_turns.new.dev) c.next_turns.ensures.turns

pub returns-clause-turns : goal.returns-clause-turns
returns-clause-turns g c =
    one_counts c.args.self.now.quantum c.args.self.now.machine c.args.self.now.turns c.next_turns.result c.next_turns.new.self.machine c.next_turns.new.self.turns c.next_turns.new.self.events
    (contents g.I.Source.left g.O.Sink.written g.E.Sink.written c.args.dev.now) (contents g.I.Source.left g.O.Sink.written g.E.Sink.written c.next_turns.new.dev) c.next_turns.ensures.turns

pub returns-clause-records : goal.returns-clause-records
returns-clause-records g c =
    one_record c.next_turns.result c.args.self.now.quantum c.args.self.now.machine c.args.self.now.turns c.next_turns.new.self.machine c.next_turns.new.self.turns c.next_turns.new.self.events
    (contents g.I.Source.left g.O.Sink.written g.E.Sink.written c.args.dev.now) (contents g.I.Source.left g.O.Sink.written g.E.Sink.written c.next_turns.new.dev) c.next_turns.ensures.turns c.args.self.now.records c.next_turns.new.self.records c.next_turns.ensures.records

pub returns-clause-native : goal.returns-clause-native
returns-clause-native g c =
    one_log c.next_turns.result c.args.self.now.quantum c.args.self.now.machine c.args.self.now.turns c.next_turns.new.self.machine c.next_turns.new.self.turns c.next_turns.new.self.events
    (contents g.I.Source.left g.O.Sink.written g.E.Sink.written c.args.dev.now) (contents g.I.Source.left g.O.Sink.written g.E.Sink.written c.next_turns.new.dev) c.next_turns.ensures.turns c.args.self.now.native c.next_turns.new.self.native c.next_turns.ensures.native
