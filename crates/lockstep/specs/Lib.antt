pub mod Hardware
pub mod Lockstep
pub mod Solution
pub mod Seen
pub mod Stays
