pub mod Calls
pub mod Joined
pub mod Ready
pub mod Stretch
