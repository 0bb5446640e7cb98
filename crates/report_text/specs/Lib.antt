pub mod Rows
pub mod Alone
pub mod Commands
pub mod State
pub mod Report
pub mod Summary
pub mod inner
