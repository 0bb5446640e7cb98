pub mod Ports
pub mod State
pub mod Part
pub mod inner
