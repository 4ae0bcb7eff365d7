-- What the end of a wait keeps.
use Rattle.std.proofs.Common.{ap, subst}
use Rattle.kernel_model.specs.State.{Kernel}
use Rattle.guest_space.specs.Memory.{Pages}
use Rattle.o32_machine.proofs.Recording.{keeps_effects}
use Rattle.o32_machine.specs.inside.Logging.{KeepsNative}
use Rattle.o32_machine.specs.inside.Recording.{KeepsEffects}
use Rattle.o32_machine.proofs.Logging.{keeps_native}
use Rattle.o32_machine.specs.Emulator.{ProcessState}
use Rattle.o32_machine.proofs.process.Process.end_wait.Goals as goal

pub returns-clause-native : goal.returns-clause-native
returns-clause-native g c =
    subst (λ (k : Kernel). KeepsNative c.end_wait.result (g.I.Source.left c.args.dev.now.input) k c.end_wait.new.k c.args.log.now.native c.end_wait.new.log.native)
    (ap (λ (p : ProcessState). p.kernel) c.self.view_is)
    (keeps_native c.end_wait.result _ _ c.end_wait.new.k _ _ c.args.log.now c.end_wait.new.log c.end_wait.ensures.kept)

pub returns-clause-effects : goal.returns-clause-effects
returns-clause-effects g c =
    subst (λ (p : Pages). KeepsEffects c.end_wait.result (g.I.Source.left c.args.dev.now.input) p c.end_wait.new.space.pages c.args.log.now.effects c.end_wait.new.log.effects)
    (ap (λ (p : ProcessState). p.memory.pages) c.self.view_is)
    (keeps_effects c.end_wait.result _ _ c.end_wait.new.k _ _ c.args.log.now c.end_wait.new.log c.end_wait.ensures.kept)
