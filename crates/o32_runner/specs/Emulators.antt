-- What is seen of an emulator, passed on for those who run one.
pub use Rattle.o32_machine.specs.Emulator.{Emulated, coming_of, first_machine}
