-- Definitions that only clauses of private functions cite.
pub mod Loading
pub mod Naming
pub mod Checking
