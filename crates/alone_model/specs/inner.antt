-- Words of clauses between the functions of this crate.
pub mod Stretch
pub mod Told
pub mod OnTile
pub mod Exchange
