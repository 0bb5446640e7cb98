pub mod Seen
pub mod Rule
pub mod Steps
pub mod Hands
