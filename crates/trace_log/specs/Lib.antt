pub mod Kinds
pub mod Log
pub mod Rows
