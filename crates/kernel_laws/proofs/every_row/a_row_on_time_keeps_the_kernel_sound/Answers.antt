use Rattle.kernel_laws.proofs.OtherKept.{alarm_keeps, arm_timer_keeps, read_clock_keeps, read_timer_keeps, resolution_keeps, sleep_keeps}
use Rattle.kernel_laws.proofs.WholeKept.{advance_ends, alarm_ends, arm_timer_ends, read_clock_ends, read_timer_ends, resolution_ends, sleep_ends}
use Rattle.kernel_model.proofs.Advancing.{advance_kept}
use Rattle.kernel_laws.proofs.every_row.a_row_on_time_keeps_the_kernel_sound.Goals as goal

pub returns : goal.returns
returns c = record {
  read_clock = λ kernel quanta id is. record { always = (read_clock_keeps kernel is.always quanta id).kept; ends = (read_clock_ends kernel is.ends quanta id).kept };
  resolution = λ kernel id is. record { always = (resolution_keeps kernel is.always id).kept; ends = (resolution_ends kernel is.ends id).kept };
  sleep = λ kernel id absolute time is. record { always = (sleep_keeps kernel is.always id absolute time).kept; ends = (sleep_ends kernel is.ends id absolute time).kept };
  arm_timer = λ kernel which setting is. record { always = (arm_timer_keeps kernel is.always which setting).kept; ends = (arm_timer_ends kernel is.ends which setting).kept };
  read_timer = λ kernel which is. record { always = (read_timer_keeps kernel is.always which).kept; ends = (read_timer_ends kernel is.ends which).kept };
  alarm = λ kernel seconds is. record { always = (alarm_keeps kernel is.always seconds).kept; ends = (alarm_ends kernel is.ends seconds).kept };
  advance = λ kernel to kept is. record { always = advance_kept kernel to kept is.always; ends = advance_ends kernel is.ends to kept };
}
