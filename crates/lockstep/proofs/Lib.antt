pub mod Steps
pub mod Inputs
pub mod Joined
pub mod Rings
pub mod Seen
pub mod Looking
pub mod Stays
pub mod Laws
