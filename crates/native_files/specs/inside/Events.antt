-- The events that a descriptor may be ready for, as the set that rows give.
use Rattle.kernel_model.specs.Readiness.{no_events}
use Rattle.kernel_model.specs.Shared.{PollSet}
use Rattle.native_files.specs.declared.events.Events.{Events}

abbrev pub set_of : Events → PollSet
set_of events = record no_events {
  input = events.reading;
  rdnorm = events.reading;
  output = events.writing;
  wrnorm = events.writing;
  err = events.error;
  hup = events.hung_up;
  nval = events.closed;
}
