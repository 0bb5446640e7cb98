-- Definitions that only clauses of private functions and of tests cite.
pub mod Loading
pub mod Claims
pub mod Places
pub mod Held
pub mod Shelf
pub mod Rows
pub mod Owned
pub mod Keeping
pub mod Small
