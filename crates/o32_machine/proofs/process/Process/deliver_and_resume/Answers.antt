-- One step after the other.
use Rattle.std.proofs.Common.{◌∙◌, ap}
use Rattle.o32_machine.proofs.Logging.{native_then}
use Rattle.o32_machine.proofs.Recording.{effects_then}
use Rattle.outside.specs.Streams.{Contents}
use Rattle.o32_machine.proofs.process.Process.deliver_and_resume.Goals as goal

pub returns-clause-native : goal.returns-clause-native
returns-clause-native g c = λ left told.
    native_then c.deliver.result c.resume.result c.args.self.now.kernel c.deliver.new.self.kernel c.resume.new.self.kernel _ c.args.log.now.native c.deliver.new.log.native c.resume.new.log.native left
    (c.in_ok-deliver.ensures.native left told) (ap (λ (at : Contents). at.left) (c.in_ok-deliver.ensures.delivered left told).0 ∙ told) c.resume.ensures.native

pub returns-clause-effects : goal.returns-clause-effects
returns-clause-effects g c = λ left told.
    effects_then c.resume.result c.args.self.now.memory.pages c.deliver.new.self.memory.pages c.resume.new.self.memory.pages _ c.args.log.now.effects c.deliver.new.log.effects c.resume.new.log.effects left
    (c.in_ok-deliver.ensures.effects left told) (ap (λ (at : Contents). at.left) (c.in_ok-deliver.ensures.delivered left told).0 ∙ told) c.resume.ensures.effects
