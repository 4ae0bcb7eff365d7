-- What a delivery keeps.
use Rattle.std.proofs.Common.{ap, subst}
use Rattle.kernel_model.specs.State.{Kernel}
use Rattle.o32_machine.proofs.Logging.{keeps_native}
use Rattle.o32_machine.specs.Emulator.{ProcessState}
use Rattle.guest_space.specs.Memory.{Pages}
use Rattle.o32_machine.proofs.Recording.{keeps_effects}
use Rattle.o32_machine.specs.inside.Logging.{KeepsNative}
use Rattle.o32_machine.specs.inside.Recording.{KeepsEffects}
use Rattle.o32_machine.proofs.process.Process.deliver.Goals as goal

pub returns-clause-native : goal.returns-clause-native
returns-clause-native g c =
    subst (λ (k : Kernel). KeepsNative c.deliver.result (g.I.Source.left c.args.dev.now.input) k c.deliver.new.k c.args.log.now.native c.deliver.new.log.native)
    (ap (λ (p : ProcessState). p.kernel) c.self.view_is)
    (keeps_native c.deliver.result _ _ c.deliver.new.k _ _ c.args.log.now c.deliver.new.log c.deliver.ensures.kept)

pub returns-clause-effects : goal.returns-clause-effects
returns-clause-effects g c =
    subst (λ (p : Pages). KeepsEffects c.deliver.result (g.I.Source.left c.args.dev.now.input) p c.deliver.new.space.pages c.args.log.now.effects c.deliver.new.log.effects)
    (ap (λ (p : ProcessState). p.memory.pages) c.self.view_is)
    (keeps_effects c.deliver.result _ _ c.deliver.new.k _ _ c.args.log.now c.deliver.new.log c.deliver.ensures.kept)
