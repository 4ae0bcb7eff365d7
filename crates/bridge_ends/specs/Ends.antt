-- What is said of the end of a wait, passed on with the call that ends it.
pub use Rattle.bridge_poll.specs.Passed.{Keeps, KeepsEnd}
