-- Words of clauses between the functions of a part's bus, and between those of its cycles.
pub mod TilePort
pub mod Acting
