-- What is said of the end of a wait, passed on for the calls that wait so.
pub use Rattle.bridge_signal_state.specs.Ends.{Closes, Keeps, KeepsEnd}
