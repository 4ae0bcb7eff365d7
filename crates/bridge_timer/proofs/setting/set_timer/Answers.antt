-- What was said of the native call.
use Rattle.kernel_model.specs.Clock.{arm_timer}
use Rattle.native_calls.specs.Clocks.{setting_at}
use Rattle.native_calls.specs.HostBytes.{unless_null}
use Rattle.native_calls.specs.Step.{reply_to, value}
use Rattle.native_calls.specs.Table.{native_call}
use Rattle.outside.specs.Streams.{contents}
use Rattle.std.proofs.Common.{[], ◌∷◌}
use Rattle.bridge_timer.proofs.Acting.{acted}
use Rattle.bridge_timer.proofs.TimerRows.{set_act}
use Rattle.bridge_timer.proofs.setting.set_timer.Goals as goal

pub returns-clause-acts : goal.returns-clause-acts
returns-clause-acts g c = λ left told.
    let did = arm_timer c.args.below.now.kernel.now 0 (unless_null c.args.place (setting_at c.args.below.now.memory.now c.args.place)) in
    acted c.args.below.now.kernel.now did.state (reply_to (λ _. value 0) did.came) left (native_call 103 (c.from.result ∷ c.args.place ∷ 0 ∷ 0 ∷ 0 ∷ 0 ∷ []) c.args.below.now.kernel.now c.args.below.now.memory.now left) c.native.result c.native.new.self.kernel.now c.native.new.self.memory.now
    (contents g.I.Source.left g.O.Sink.written g.E.Sink.written c.args.dev.now) (contents g.I.Source.left g.O.Sink.written g.E.Sink.written c.native.new.dev) c.args.below.now.log.now c.native.new.self.log.now
    told (set_act c.args.below.now.kernel.now c.args.below.now.memory.now left c.from.result c.args.place c.from.ensures) (c.native.ensures.row left told) (λ sent. c.native.ensures.kept left told sent) c.native.ensures.effects
