use Rattle.kernel_laws.proofs.OtherKept.{arm_timer_keeps, alarm_keeps}
use Rattle.kernel_laws.proofs.clocks.setting_the_timer_keeps_the_kernel.Goals as goal

pub returns : goal.returns
returns c = record {
  arm_timer = λ kernel which setting is. (arm_timer_keeps kernel is which setting).kept;
  alarm = λ kernel seconds is. (alarm_keeps kernel is seconds).kept;
}
