-- The kernel is asked for the signals that the call names.
use Rattle.std.proofs.Common.{◌∙◌, ap, subst}
use Rattle.outside.specs.Streams.{contents}
use Rattle.guest_space.specs.Memory.{Pages}
use Rattle.o32_machine.specs.inside.Logging.{KeepsNative}
use Rattle.o32_machine.specs.inside.Recording.{KeepsEffects}
use Rattle.o32_machine.proofs.Waking.{finds_named}
use Rattle.o32_machine.specs.Emulator.{ProcessState, coming_of}
use Rattle.o32_machine.specs.declared.process.Process.TheInside.{Inside}
use Rattle.kernel_model.specs.State.{Kernel}
use Rattle.o32_machine.proofs.Logging.{looks_native}
use Rattle.o32_machine.proofs.Recording.{looks_effects}
use Rattle.o32_machine.proofs.process.Process.accepts.Goals as goal

abbrev seen_as : Inside → ProcessState
seen_as p = record { processor = p.core.cpu; memory = p.core.space; kernel = p.core.kernel; going = p.going; coming = coming_of p.schedule; idle = p.idle }

pub returns-clause-found : goal.returns-clause-found
returns-clause-found g c =
    finds_named c.accepts.result _ c.args.self.now c.accepts.new.k c.in-Some.wait
    (contents g.I.Source.left g.O.Sink.written g.E.Sink.written c.args.dev.now) (contents g.I.Source.left g.O.Sink.written g.E.Sink.written c.accepts.new.dev)
    c.args.log.now c.accepts.new.log (ap seen_as c.self-inside.view_is ∙ c.self.view_is) c.in-Some.is c.if-self.false c.if-self-2.false c.accepts.ensures.looks

pub returns-clause-native : goal.returns-clause-native
returns-clause-native g c =
    subst (λ (k : Kernel). KeepsNative c.accepts.result (g.I.Source.left c.args.dev.now.input) k c.accepts.new.k c.args.log.now.native c.accepts.new.log.native)
    (ap (λ (p : ProcessState). p.kernel) (ap seen_as c.self-inside.view_is ∙ c.self.view_is))
    (looks_native _ c.accepts.result _ c.accepts.new.k
    (contents g.I.Source.left g.O.Sink.written g.E.Sink.written c.args.dev.now) (contents g.I.Source.left g.O.Sink.written g.E.Sink.written c.accepts.new.dev)
    c.args.log.now c.accepts.new.log c.accepts.ensures.looks)

pub returns-clause-effects : goal.returns-clause-effects
returns-clause-effects g c =
    subst (λ (p : Pages). KeepsEffects c.accepts.result (g.I.Source.left c.args.dev.now.input) p c.self-inside.inside.0.0.space.pages c.args.log.now.effects c.accepts.new.log.effects)
    (ap (λ (p : ProcessState). p.memory.pages) (ap seen_as c.self-inside.view_is ∙ c.self.view_is))
    (looks_effects _ c.accepts.result _ c.accepts.new.k
    (contents g.I.Source.left g.O.Sink.written g.E.Sink.written c.args.dev.now) (contents g.I.Source.left g.O.Sink.written g.E.Sink.written c.accepts.new.dev)
    c.args.log.now c.accepts.new.log c.self-inside.inside.0.0.space.pages c.accepts.ensures.looks)
