-- What a schedule says to a kernel that begins. (Schedules are this project's own.)
use Rattle.std.specs.Prelude.{option_map}
use Rattle.kernel_model.specs.Begin.{Settings}
use Rattle.kernel_model.specs.declared.terminal.Winsize.{Winsize}
use Rattle.schedule.specs.declared.Schedule.{Schedule}
use Rattle.schedule.specs.declared.events.Winsize as scheduled

abbrev pub size_of : scheduled.Winsize → Winsize
size_of size = record { rows = size.rows; cols = size.cols }

abbrev pub settings_of : Schedule → Settings
settings_of schedule = record {
  epoch_seconds = schedule.epoch_s;
  epoch_nanoseconds = schedule.epoch_n;
  terminal = option_map size_of schedule.tty;
  random = schedule.random;
}
