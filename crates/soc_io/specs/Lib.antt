pub mod Counts
pub mod Reading
pub mod Writing
pub mod Printing
pub mod Shelf
pub mod Tape
