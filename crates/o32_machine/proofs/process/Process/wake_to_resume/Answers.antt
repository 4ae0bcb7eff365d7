-- One step after the other.
use Rattle.std.proofs.Common.{◌∙◌, ap}
use Rattle.o32_machine.proofs.Logging.{native_then}
use Rattle.o32_machine.proofs.Recording.{effects_then}
use Rattle.outside.specs.Streams.{Contents}
use Rattle.o32_machine.proofs.process.Process.wake_to_resume.Goals as goal

pub returns-clause-native : goal.returns-clause-native
returns-clause-native g c = λ left told.
    native_then c.wake.result c.deliver_and_resume.result c.args.self.now.kernel c.wake.new.self.kernel c.deliver_and_resume.new.self.kernel _ c.args.log.now.native c.wake.new.log.native c.deliver_and_resume.new.log.native left
    (c.in_ok-wake.ensures.native left told) (ap (λ (at : Contents). at.left) (c.in_ok-wake.ensures.woken left told).0 ∙ told) c.deliver_and_resume.ensures.native

pub returns-clause-effects : goal.returns-clause-effects
returns-clause-effects g c = λ left told.
    effects_then c.deliver_and_resume.result c.args.self.now.memory.pages c.wake.new.self.memory.pages c.deliver_and_resume.new.self.memory.pages _ c.args.log.now.effects c.wake.new.log.effects
    c.deliver_and_resume.new.log.effects left
    (c.in_ok-wake.ensures.effects left told) (ap (λ (at : Contents). at.left) (c.in_ok-wake.ensures.woken left told).0 ∙ told) c.deliver_and_resume.ensures.effects
