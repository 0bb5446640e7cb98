pub mod Running
pub mod Answers
pub mod Part
pub mod inner
