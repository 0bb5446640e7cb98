mod Filled
mod TwoPorts
mod Refusals
pub mod Own
pub mod Seen
pub mod Rest
pub mod Laws
