-- Words of clauses between the functions of this crate.
pub mod Inserted
pub mod Loads
