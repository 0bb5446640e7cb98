pub mod Passing
pub mod Ranges
pub mod Kept
pub mod Laws
