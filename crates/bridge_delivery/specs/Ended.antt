-- How a wait ends within a turn, passed on with the call that ends it.
pub use Rattle.bridge_ends.specs.Ended.{ended_wait}
pub use Rattle.bridge_ends.specs.Ends.{KeepsEnd}
