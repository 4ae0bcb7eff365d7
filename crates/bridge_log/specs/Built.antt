-- Which native calls there are, passed on for the calls that make them.
pub use Rattle.native_kernel.specs.Built.{built_call}
