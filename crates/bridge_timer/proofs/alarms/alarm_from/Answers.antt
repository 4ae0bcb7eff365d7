-- The timer is set, and what was left of it is the row's value.
use Rattle.std.proofs.Common.{◌∙◌, Option, Some, Ok, ap, refl}
use Rattle.kernel_model.specs.Came.{Given}
use Rattle.kernel_model.specs.Clock.{TimerSetting, arm_timer}
use Rattle.o32_model.specs.Sleeps.{alarm_row}
use Rattle.o32_model.specs.Step.{value}
use Rattle.bridge_log.proofs.Journals.{effected_none}
use Rattle.bridge_log.specs.Keeping.{reached}
use Rattle.bridge_timer.proofs.Acting.{ended_called, ended_keeps}
use Rattle.bridge_timer.proofs.AlarmRows.{alarm_ended, once}
use Rattle.bridge_log.specs.Storing.{ending}
use Rattle.bridge_timer.proofs.alarms.alarm_from.Goals as goal

pub returns-clause-row : goal.returns-clause-row
returns-clause-row g c = λ is guest left told.
    let done = c.in_ok-set_timer.ensures.acts left told in
    let outcome = value c.rounded_seconds.result in
    ended_called (arm_timer c.args.below.now.kernel.now 0 (Some (Ok (once c.args.seconds)))).state guest outcome guest.memory (ending outcome guest.memory) (alarm_row c.args.below.now.kernel.now guest c.args.seconds left) done.1 told
    (done.0.1 ∙ ap (λ (s : Option (Given TimerSetting)). (arm_timer c.args.below.now.kernel.now 0 s).state) c.in_ok-place.ensures)
    (alarm_ended c.args.below.now.kernel.now guest c.args.seconds left c.args.before c.rounded_seconds.result is c.rounded_seconds.ensures)
    refl

pub returns-clause-kept : goal.returns-clause-kept
returns-clause-kept g c = λ is guest left told.
    let done = c.in_ok-set_timer.ensures.acts left told in
    let outcome = value c.rounded_seconds.result in
    ended_keeps (arm_timer c.args.below.now.kernel.now 0 (Some (Ok (once c.args.seconds)))).state guest outcome guest.memory guest.memory (ending outcome guest.memory) (alarm_row c.args.below.now.kernel.now guest c.args.seconds left) c.set_timer.new.below.log.now done.1
    (done.0.1 ∙ ap (λ (s : Option (Given TimerSetting)). (arm_timer c.args.below.now.kernel.now 0 s).state) c.in_ok-place.ensures)
    refl
    (alarm_ended c.args.below.now.kernel.now guest c.args.seconds left c.args.before c.rounded_seconds.result is c.rounded_seconds.ensures)
    refl refl (λ processor sent. effected_none _ (reached processor guest.memory.pages sent))
