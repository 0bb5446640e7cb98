-- Definitions that only clauses of private functions cite.
pub mod Room
pub mod Logs
pub mod Printing
pub mod Made
pub mod Places
pub mod Counts
pub mod Totals
pub mod Shares
