-- A look, and then the end of the wait, or none.
use Rattle.std.proofs.Common.{◌∙◌, ℕ, false, sym, ap}
use Rattle.bridge_delivery.specs.Ended.{ended_wait}
use Rattle.o32_machine.proofs.Waking.{accepted, due, waits, woken_so}
use Rattle.o32_machine.specs.Emulator.{machine_of, within_now}
use Rattle.o32_machine.specs.inside.Steps.{wakes}
use Rattle.o32_model.specs.declared.wait.Cause.TheVariants.{Accepted, Due}
use Rattle.o32_turns.specs.Machine.{Within}
use Rattle.outside.specs.Streams.{contents, Contents}
use Rattle.o32_machine.proofs.Logging.{native_then}
use Rattle.o32_machine.proofs.Recording.{effects_then}
use Rattle.o32_machine.proofs.process.Process.wake.Goals as goal

pub returns-then-accepted-clause-woken : goal.returns-then-accepted-clause-woken
returns-then-accepted-clause-woken g c = λ left told.
    let seen = c.in_ok-accepted.ensures.found left told in
    woken_so c.end_wait.result c.args.self.now c.accepts.new.self c.end_wait.new.self (λ (within : Within). ended_wait false Accepted within within.machine.wait)
    (contents g.I.Source.left g.O.Sink.written g.E.Sink.written c.args.dev.now) (contents g.I.Source.left g.O.Sink.written g.E.Sink.written c.accepts.new.dev)
    (contents g.I.Source.left g.O.Sink.written g.E.Sink.written c.end_wait.new.dev) seen.0 seen.1
    (accepted (within_now c.args.self.now) (sym seen.2 ∙ c.if-accepted.true)) c.end_wait.ensures.ended left told

pub returns-then-wakes-clause-woken : goal.returns-then-wakes-clause-woken
returns-then-wakes-clause-woken g c = λ left told.
    let seen = c.in_ok-accepted.ensures.found left told in
    woken_so c.end_wait-then-wakes.result c.args.self.now c.accepts.new.self c.end_wait-then-wakes.new.self (λ (within : Within). ended_wait false Due within within.machine.wait)
    (contents g.I.Source.left g.O.Sink.written g.E.Sink.written c.args.dev.now) (contents g.I.Source.left g.O.Sink.written g.E.Sink.written c.accepts.new.dev)
    (contents g.I.Source.left g.O.Sink.written g.E.Sink.written c.end_wait-then-wakes.new.dev) seen.0 seen.1
    (due (within_now c.args.self.now) (sym seen.2 ∙ c.if-accepted.false)
    (ap (λ (n : ℕ). wakes n (machine_of c.args.self.now)) c.requires.clock ∙ ap (λ (w : Within). wakes c.args.clock w.machine) (sym seen.1) ∙ sym c.wakes.ensures ∙ c.if-wakes.true))
    c.end_wait-then-wakes.ensures.ended left told

pub returns-clause-woken : goal.returns-clause-woken
returns-clause-woken g c = λ left told.
    let seen = c.in_ok-accepted.ensures.found left told in (
      seen.0,
      seen.1
          ∙ sym
          (waits (within_now c.args.self.now) (sym seen.2 ∙ c.if-accepted.false)
          (ap (λ (n : ℕ). wakes n (machine_of c.args.self.now)) c.requires.clock ∙ ap (λ (w : Within). wakes c.args.clock w.machine) (sym seen.1) ∙ sym c.wakes.ensures ∙ c.if-wakes.false)),
    )

pub returns-then-accepted-clause-native : goal.returns-then-accepted-clause-native
returns-then-accepted-clause-native g c = λ left told.
    native_then c.accepts.result c.end_wait.result c.args.self.now.kernel c.accepts.new.self.kernel c.end_wait.new.self.kernel _ c.args.log.now.native c.accepts.new.log.native c.end_wait.new.log.native left
    (c.in_ok-accepted.ensures.native left told) (ap (λ (at : Contents). at.left) (c.in_ok-accepted.ensures.found left told).0 ∙ told) c.end_wait.ensures.native

pub returns-then-wakes-clause-native : goal.returns-then-wakes-clause-native
returns-then-wakes-clause-native g c = λ left told.
    native_then c.accepts.result c.end_wait-then-wakes.result c.args.self.now.kernel c.accepts.new.self.kernel c.end_wait-then-wakes.new.self.kernel _ c.args.log.now.native c.accepts.new.log.native c.end_wait-then-wakes.new.log.native left
    (c.in_ok-accepted.ensures.native left told) (ap (λ (at : Contents). at.left) (c.in_ok-accepted.ensures.found left told).0 ∙ told) c.end_wait-then-wakes.ensures.native

pub returns-then-accepted-clause-effects : goal.returns-then-accepted-clause-effects
returns-then-accepted-clause-effects g c = λ left told.
    effects_then c.end_wait.result c.args.self.now.memory.pages c.accepts.new.self.memory.pages c.end_wait.new.self.memory.pages _ c.args.log.now.effects c.accepts.new.log.effects c.end_wait.new.log.effects left
    (c.in_ok-accepted.ensures.effects left told) (ap (λ (at : Contents). at.left) (c.in_ok-accepted.ensures.found left told).0 ∙ told) c.end_wait.ensures.effects

pub returns-then-wakes-clause-effects : goal.returns-then-wakes-clause-effects
returns-then-wakes-clause-effects g c = λ left told.
    effects_then c.end_wait-then-wakes.result c.args.self.now.memory.pages c.accepts.new.self.memory.pages c.end_wait-then-wakes.new.self.memory.pages _ c.args.log.now.effects c.accepts.new.log.effects
    c.end_wait-then-wakes.new.log.effects left (c.in_ok-accepted.ensures.effects left told) (ap (λ (at : Contents). at.left) (c.in_ok-accepted.ensures.found left told).0 ∙ told) c.end_wait-then-wakes.ensures.effects
