pub mod Registers
pub mod Arithmetic
pub mod Formats
pub mod Table
pub mod Decoding
pub mod Access
pub mod Effect
pub mod inner
