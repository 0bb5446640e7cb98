pub mod Packing
pub mod Names
pub mod Flits
pub mod Link
