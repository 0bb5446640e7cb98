pub mod Turns
pub mod Entries
pub mod Tables
pub mod Claims
pub mod Law
pub mod inner
