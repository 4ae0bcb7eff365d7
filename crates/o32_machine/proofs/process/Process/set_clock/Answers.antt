-- No timer is due, so the clock alone changes.
use Rattle.std.proofs.Common.{ap, ◌∙◌}
use Rattle.kernel_model.specs.Clock.{gone_off}
use Rattle.kernel_model.specs.State.{Kernel}
use Rattle.o32_machine.proofs.Turning.{not_due}
use Rattle.o32_machine.specs.Emulator.{ProcessState, at_clock, coming_of}
use Rattle.o32_machine.proofs.process.Process.set_clock.Goals as goal

pub returns-clause-moved : goal.returns-clause-moved
returns-clause-moved c =
    let process : ProcessState = record { processor = c.self.inside.core.cpu; memory = c.self.inside.core.space; kernel = c.self.inside.core.kernel; going = c.self.inside.going; coming = coming_of c.self.inside.schedule; idle = c.self.inside.idle } in
    ap (λ (k : Kernel). record process { kernel = k })
    (c.in_ok-advance.ensures.row
    ∙ not_due process.kernel c.args.clock (ap (λ (p : ProcessState). gone_off c.args.clock p.kernel.timer) c.self.view_is ∙ c.requires.timer))
    ∙ ap (λ (p : ProcessState). record p { kernel = at_clock c.args.clock p.kernel }) c.self.view_is
