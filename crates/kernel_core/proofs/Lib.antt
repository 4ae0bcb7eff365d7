pub mod FlagBits
