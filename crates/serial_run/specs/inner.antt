-- Definitions that only clauses of private functions cite.
pub mod Carrying
pub mod Going
pub mod Hops
pub mod Rounds
pub mod Sample
