use Rattle.kernel_model.proofs.refusals.ClockRefusals.{read_clock_stays, resolution_stays, sleep_stays, arm_timer_stays, read_timer_stays, alarm_stays}
use Rattle.kernel_model.proofs.laws.refusals.a_refused_row_on_time_changes_nothing.Goals as goal

pub returns : goal.returns
returns c = record {
  read_clock = read_clock_stays;
  resolution = resolution_stays;
  sleep = sleep_stays;
  arm_timer = arm_timer_stays;
  read_timer = read_timer_stays;
  alarm = alarm_stays;
}
