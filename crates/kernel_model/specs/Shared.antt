-- The names of `kernel_core` that the definitions speak of, passed on from one place.
pub use Rattle.kernel_core.specs.OpenSet.{OpenSet}
pub use Rattle.kernel_core.specs.PollSet.{PollSet}
pub use Rattle.kernel_core.specs.declared.error.Errno.{Errno}
pub use Rattle.kernel_core.specs.declared.info.Info.{Info}
pub use Rattle.kernel_core.specs.declared.open_flags.Access.{Access}
pub use Rattle.kernel_core.specs.declared.reply.Wake.{Wake}
