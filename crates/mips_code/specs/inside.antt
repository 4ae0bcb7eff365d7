pub mod Assembled
pub mod Mnemonics
