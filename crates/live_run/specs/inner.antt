-- Definitions that only clauses of private functions and of tests cite.
pub mod Hands
pub mod Jobs
pub mod Small
pub mod Workers
