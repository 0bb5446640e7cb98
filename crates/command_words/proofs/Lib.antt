pub mod Flags
pub mod Asked
pub mod Simple
